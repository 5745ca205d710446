-- What the private functions say of the encoding of a unit that bytes begin with.
use Rattle.std.specs.Prelude.{◌≡◌, ℕ, List, ◌++◌, length}
use Rattle.jk_model.specs.Text.{IsUnit}

-- the bytes begin with an encoding of this unit, and go on with these
abbrev pub BeginsWith : List ℕ → ℕ → List ℕ → Type 0
BeginsWith bytes u after = (encoding : List ℕ) × IsUnit encoding u × (bytes ≡ encoding ++ after)

-- the bytes begin with no encoding of so many bytes
abbrev pub BeginsNoUnitOf : ℕ → List ℕ → Type 0
BeginsNoUnitOf n bytes = (encoding : List ℕ) (u : ℕ) (after : List ℕ) → length encoding ≡ n → IsUnit encoding u → bytes ≡ encoding ++ after → ⊥

-- the bytes begin with no encoding
abbrev pub BeginsNoUnit : List ℕ → Type 0
BeginsNoUnit bytes = (encoding : List ℕ) (u : ℕ) (after : List ℕ) → IsUnit encoding u → bytes ≡ encoding ++ after → ⊥
