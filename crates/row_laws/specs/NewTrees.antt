-- Arrays of arrays that fit can be made together.
use Rattle.std.specs.Prelude.{◌≤◌, ◌+◌, ℕ, List, ◌∷◌}
use Rattle.jk_model_classes.specs.declared.records.TypeRef.{TypeRef}
use Rattle.jk_model_domains.specs.Objects.{NamedObject}
use Rattle.jk_model_heaps.specs.Heaps.{heap_words}
use Rattle.jk_model_heaps.specs.Workings.{Setting}
use Rattle.jk_model_heap_rows.specs.ArrayTrees.{MakesTree, tree_words}

abbrev pub FittingTreesAreMade : Type 0
FittingTreesAreMade =
    (x : Setting) (t : TypeRef) (n : ℕ) (counts : List ℕ) (heap : List NamedObject)
    → heap_words x.classes heap + tree_words t (n ∷ counts) ≤ x.quota → (a : ℕ) × (new : List NamedObject) × MakesTree x t (n ∷ counts) a heap new
