-- The least number where a class breaks a rule, and of the classes that do the one whose path comes first.
use Rattle.std.specs.Prelude.{◌≡◌, ℕ, ◌<◌, ◌⊎◌, List, Option, Some, None}
use Rattle.jk_model.specs.declared.identifiers.ClassId.{ClassId}
use Rattle.jk_model_classes.specs.declared.records.ClassRecord.{ClassRecord}
use Rattle.jk_model_classes.specs.SharedRules.{IsFirstToBreak, IsPathBefore, NoneBreaks}

-- the least number that is so, or none where no number is
abbrev pub IsLeast : (ℕ → Type 0) → Option ℕ → Type 0
IsLeast P None = (n : ℕ) → P n → ⊥
IsLeast P (Some m) = P m × ((n : ℕ) → n < m → P n → ⊥)

-- the first class that breaks a rule with its least number, or none where no class does
abbrev pub IsEarliest : List ClassRecord → (ClassId → ℕ → Type 0) → Option (ClassId × ℕ) → Type 0
IsEarliest classes Breaks None = NoneBreaks Breaks
IsEarliest classes Breaks (Some f) = IsFirstToBreak classes Breaks f.0 f.1

-- Of the best so far, and of class c at a number, if there is one, the one whose path comes first.
abbrev pub IsEarlier : List ClassRecord → Option (ClassId × ℕ) → ClassId → Option ℕ → Option (ClassId × ℕ) → Type 0
IsEarlier classes best c None chosen = chosen ≡ best
IsEarlier classes None c (Some n) chosen = chosen ≡ Some (c, n)
IsEarlier classes (Some b) c (Some n) chosen =
    (IsPathBefore classes c b.0 × (chosen ≡ Some (c, n))) ⊎ ((IsPathBefore classes c b.0 → ⊥) × (chosen ≡ Some b))
