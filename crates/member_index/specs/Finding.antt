-- Which member of a class a search finds: the first from a place on that has a name and a type.
use Rattle.std.specs.Prelude.{◌≡◌, ℕ, ◌<◌, ◌≤◌, List, Option, Some, slice_get, MatchOption}
use Rattle.jk_model_classes.specs.Lookups.{FieldSought, MethodSought}
use Rattle.jk_model_classes.specs.declared.records.FieldRecord.{FieldRecord}
use Rattle.jk_model_classes.specs.declared.records.MethodRecord.{MethodRecord}

-- a member that suits stands at this place
abbrev pub SuitsAt : {M : Type 0} → (M → Type 0) → List M → ℕ → Type 0
SuitsAt {M} Suits members i = (member : M) × (slice_get members i ≡ Some member) × Suits member

-- the first such place from a place on
pub record IsFirstAt {M : Type 0} (Suits : M → Type 0) (members : List M) (from i : ℕ) : Type 0 where
  pub suits : SuitsAt Suits members i
  pub not_before : from ≤ i
  pub first : (j : ℕ) → from ≤ j → j < i → SuitsAt Suits members j → ⊥

-- the first such place from a place on; nothing where there is none
abbrev pub FindsAt : {M : Type 0} → (M → Type 0) → List M → ℕ → Option ℕ → Type 0
FindsAt Suits members from found =
    MatchOption found ((j : ℕ) → from ≤ j → SuitsAt Suits members j → ⊥) (λ i. IsFirstAt Suits members from i)

-- the field has this name and this type
abbrev pub FieldSuits : FieldSought → FieldRecord → Type 0
FieldSuits sought field = (field.name ≡ sought.name) × (field.kind ≡ sought.kind)

abbrev pub FindsFieldAt : List FieldRecord → FieldSought → ℕ → Option ℕ → Type 0
FindsFieldAt fields sought from found = FindsAt (FieldSuits sought) fields from found

-- the method has this name and this type
abbrev pub MethodSuits : MethodSought → MethodRecord → Type 0
MethodSuits sought method = (method.name ≡ sought.name) × (method.kind ≡ sought.kind)

abbrev pub FindsMethodAt : List MethodRecord → MethodSought → ℕ → Option ℕ → Type 0
FindsMethodAt methods sought from found = FindsAt (MethodSuits sought) methods from found
