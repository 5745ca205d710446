-- The initialiser of a class among its methods.
use Rattle.std.specs.Prelude.{◌≡◌, ℕ, ◌<◌, List, Some, slice_get}
use Rattle.jk_model_classes.specs.declared.records.MethodRecord.{MethodRecord}
use Rattle.jk_model_classes.specs.Members.{CLINIT}

abbrev pub NoClinit : List MethodRecord → Type 0
NoClinit methods = (k : ℕ) (method : MethodRecord) → slice_get methods k ≡ Some method → method.name ≡ CLINIT → ⊥

-- The first method of that name stands there.
pub record IsFirstClinit (methods : List MethodRecord) (place : ℕ) : Type 0 where
  pub method : MethodRecord
  pub stands : slice_get methods place ≡ Some method
  pub named : method.name ≡ CLINIT
  pub first : (k : ℕ) (other : MethodRecord) → k < place → slice_get methods k ≡ Some other → other.name ≡ CLINIT → ⊥
