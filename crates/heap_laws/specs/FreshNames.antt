-- There is room for names: what fits a heap can be made in it.
use Rattle.std.specs.Prelude.{◌≡◌, ◌+◌, ◌≤◌, ℕ, List, None}
use Rattle.jk_model_classes.specs.declared.records.ClassRecord.{ClassRecord}
use Rattle.jk_model_domains.specs.Objects.{NamedObject, Object, object_named, object_words}
use Rattle.jk_model_heaps.specs.Heaps.{MakesOne, heap_words}

-- from some name on a heap has no objects
abbrev pub NamesAreFree : Type 0
NamesAreFree = (heap : List NamedObject) → (first : ℕ) × ((a : ℕ) → first ≤ a → object_named heap a ≡ None)

-- an object that fits can be made
abbrev pub FittingObjectsAreMade : Type 0
FittingObjectsAreMade =
    (classes : List ClassRecord) (quota : ℕ) (heap : List NamedObject) (object : Object)
    → heap_words classes heap + object_words classes object ≤ quota → (a : ℕ) × (new : List NamedObject) × MakesOne classes quota heap a object new
