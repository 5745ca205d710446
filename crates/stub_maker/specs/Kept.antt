-- Words for the contracts of private functions: the interfaces that a stub keeps of a walk.
use Rattle.std.specs.Prelude.{◌≡◌, ◌⊎◌, List, [], ◌∷◌, IsPermutation}
use Rattle.std.specs.List.Sorted.{IsNonDecreasingBy}
use Rattle.jk_model.specs.declared.identifiers.ClassId.{ClassId}
use Rattle.jk_model_classes.specs.declared.records.ClassRecord.{ClassRecord}
use Rattle.jk_model_classes.specs.Classes.{IsInterface, Implements}

-- the interface is remote or one below it
abbrev pub IsShown : List ClassRecord → ClassId → ClassId → Type 0
IsShown classes remote i = IsInterface classes i × Implements classes i remote

-- those of the classes that are so, in their order
abbrev pub IsKept : (ClassId → Type 0) → List ClassId → List ClassId → Type 0
IsKept P [] kept = kept ≡ []
IsKept P (c ∷ classes) kept =
    (P c × ((others : List ClassId) × (kept ≡ c ∷ others) × IsKept P classes others)) ⊎ ((P c → ⊥) × IsKept P classes kept)

-- those of the classes that are so, in the order of their numbers
pub record IsInOrder (P : ClassId → Type 0) (classes list : List ClassId) : Type 0 where
  pub kept : List ClassId
  pub of_classes : IsKept P classes kept
  pub moved : IsPermutation kept list
  pub in_order : IsNonDecreasingBy (λ (c : ClassId). c.0) list
