-- What is known of values whose types meet what an instruction asks.
use Rattle.std.specs.Prelude.{◌≡◌, ⊤, ℤ, List, [], ◌∷◌}
use Rattle.jk_model.specs.declared.values.Value.{Value}
use Rattle.jk_model.specs.declared.values.Value.TheVariants as Held
use Rattle.jk_model_typing.specs.declared.frames.Demand.{Demand}
use Rattle.jk_model_typing.specs.declared.frames.Demand.TheVariants.{Fitting}
use Rattle.jk_model_typing.specs.declared.frames.VType.{VType}
use Rattle.jk_model_typing.specs.declared.frames.VType.TheVariants.{Int, Long}

-- what is known of a value whose type fits this one
abbrev pub IsOf : VType → Value → Type 0
IsOf Int v = (n : ℤ) × (v ≡ Held.Int n)
IsOf Long v = (n : ℤ) × (v ≡ Held.Long n)
IsOf _ v = ⊤

abbrev pub IsMet : Demand → Value → Type 0
IsMet (Fitting t) v = IsOf t v
IsMet _ v = ⊤

-- as many, each of which is known to meet the demand at its place
abbrev pub AreMet : List Demand → List Value → Type 0
AreMet [] [] = ⊤
AreMet (d ∷ ds) (v ∷ vs) = IsMet d v × AreMet ds vs
AreMet _ _ = ⊥
