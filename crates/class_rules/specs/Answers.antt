-- What the pass for one rule answers: the number of the least spot at fault, or none.
use Rattle.std.specs.Prelude.{◌≡◌, ℕ, Option, Some, None}
use Rattle.jk_model_classes.specs.Items.{Spot, spot_number, IsBefore}

-- the number of the least spot that is so, or none where no spot is
abbrev pub IsLeastSpot : (Spot → Type 0) → Option ℕ → Type 0
IsLeastSpot P None = (spot : Spot) → P spot → ⊥
IsLeastSpot P (Some n) =
    (spot : Spot) × P spot × ((other : Spot) → IsBefore other spot → P other → ⊥) × (n ≡ spot_number spot)
