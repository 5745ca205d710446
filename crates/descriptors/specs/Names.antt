-- The name of a class by a walk over its units.
use Rattle.std.specs.Prelude.{◌≡◌, ℕ, ◌+◌, ◌<◌, ◌≤◌, Bool, true, false, List, [], ◌∷◌, ◌++◌, take, drop, length, Result, Ok, Err}
use Rattle.jk_model.specs.Descriptors.{IsNameUnit, IsClassName}
use Rattle.descriptors.specs.Stops.{IsStuck}
use Rattle.descriptors.specs.declared.names.Step.{Step}
use Rattle.descriptors.specs.declared.names.Step.TheVariants.{Within, Between, End, Stop}

-- the name of a class and the `;` that ends it
abbrev pub IsNameText : List ℕ → Type 0
IsNameText text = (name : List ℕ) × IsClassName name × (text ≡ name ++ 59 ∷ [])

-- what a unit is, where a name starts or within one
abbrev pub IsStep : Bool → ℕ → Step → Type 0
IsStep at_start u Within = IsNameUnit u
IsStep at_start u Between = (at_start ≡ false) × (u ≡ 47)
IsStep at_start u End = (at_start ≡ false) × (u ≡ 59)
IsStep true u Stop = IsNameUnit u → ⊥
IsStep false u Stop = (IsNameUnit u → ⊥) × (u ≡ 47 → ⊥) × (u ≡ 59 → ⊥)

-- the length of the name in front of the first `;`, or of what begins one
abbrev pub IsNameLength : List ℕ → Result ℕ ℕ → Type 0
IsNameLength units (Ok n) = (n < length units) × IsClassName (take n units) × (units ≡ take n units ++ 59 ∷ drop (n + 1) units)
IsNameLength units (Err n) = (n ≤ length units) × IsStuck IsNameText (take n units) (drop n units)
