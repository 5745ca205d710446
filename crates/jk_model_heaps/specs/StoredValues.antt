-- What a store into a field or an element leaves of a value: of an int 8, 16, 16 or 1 low bits where the field or element is a
-- byte, a char, a short or a boolean, byte and short with their sign (the Java Virtual Machine Specification, 6, putfield, bastore,
-- castore, sastore). Arguments and results are passed as they are.
use Rattle.std.specs.Prelude.{ℕ, ◌%◌, ◌==◌, ℤ, pos, if◌then◌else◌}
use Rattle.std.specs.Int.{cast_signed, cast_unsigned, w8, w16, w32}
use Rattle.jk_model.specs.declared.values.Value.{Value}
use Rattle.jk_model.specs.declared.values.Value.TheVariants as Held
use Rattle.jk_model_classes.specs.declared.records.BaseRef.TheVariants as Base
use Rattle.jk_model_classes.specs.declared.records.TypeRef.{TypeRef}

-- the lowest 8 or 16 bits of an int with their sign, and the lowest 16 or 1 without
abbrev pub as_byte : ℤ → ℤ
as_byte n = cast_signed w8 (cast_unsigned w32 n % 256)

abbrev pub as_short : ℤ → ℤ
as_short n = cast_signed w16 (cast_unsigned w32 n % 65536)

abbrev pub as_char : ℤ → ℕ
as_char n = cast_unsigned w32 n % 65536

abbrev pub as_truth : ℤ → ℕ
as_truth n = cast_unsigned w32 n % 2

abbrev pub stored_int : TypeRef → ℤ → ℤ
stored_int t n =
    if t.dims == 0 then
    elim t.base as (λ _. ℤ) [
      | Base.Byte ↦ as_byte n
      | Base.Char ↦ pos (as_char n)
      | Base.Short ↦ as_short n
      | Base.Bool ↦ pos (as_truth n)
      | _ ↦ n
    ]
    else n

abbrev pub stored : TypeRef → Value → Value
stored t (Held.Int n) = Held.Int (stored_int t n)
stored t v = v
