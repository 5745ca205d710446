-- The name of a hidden text.
use Rattle.std.specs.Prelude.{◌≡◌, ℕ, Option, Some, None}
use Rattle.jk_model.specs.declared.values.Value.{Value}
use Rattle.jk_model.specs.declared.values.Value.TheVariants as Held

-- the value is null, or the object of this name
abbrev pub IsHidden : Value → Option ℕ → Type 0
IsHidden v None = v ≡ Held.Null
IsHidden v (Some a) = v ≡ Held.Obj a
