-- What heaps cost that grow.
use Rattle.std.specs.Prelude.{◌≡◌, ◌+◌, ℕ, List, ◌++◌, Some}
use Rattle.jk_model_classes.specs.declared.records.ClassRecord.{ClassRecord}
use Rattle.jk_model_domains.specs.Objects.{NamedObject, Object, object_named, object_words}
use Rattle.jk_model_heaps.specs.Heaps.{IsAlike, heap_words, with_object}
use Rattle.heap_laws.specs.NamedObjects.{NamesDiffer}

-- two heaps cost together what each costs
abbrev pub HeapsCostTogether : Type 0
HeapsCostTogether =
    (classes : List ClassRecord) (heap made : List NamedObject) → heap_words classes (heap ++ made) ≡ heap_words classes heap + heap_words classes made

-- objects that are alike cost the same, and so do heaps in which one takes another's place
abbrev pub AlikeObjectsCostTheSame : Type 0
AlikeObjectsCostTheSame =
    (classes : List ClassRecord) (old new : Object) → IsAlike old new → object_words classes new ≡ object_words classes old

abbrev pub WritingCostsNothing : Type 0
WritingCostsNothing =
    (classes : List ClassRecord) (heap : List NamedObject) (a : ℕ) (old new : Object) → NamesDiffer heap → object_named heap a ≡ Some old
    → IsAlike old new → heap_words classes (with_object a new heap) ≡ heap_words classes heap
