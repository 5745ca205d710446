-- The instructions without cases, read from the bytes after their opcode.
use Rattle.std.specs.Prelude.{ℕ, pos, ◌==◌, Bool, ◌&&◌, ◌||◌, List, Result, Ok, Err, nat_le, if◌then◌else◌}
use Rattle.std.specs.Int.{w8, w16, cast_signed}
use Rattle.byte_fields.specs.Reading.{byte_at, number_at}
use Rattle.jk_model.specs.declared.instructions.Instr.{Instr}
use Rattle.jk_model.specs.declared.opcodes.TheConstants.{SIPUSH, GOTO}
use Rattle.jk_model.specs.Instructions.{WideFormat, plain, target}
use Rattle.jk_opcodes.specs.declared.errors.Stop.{Stop}
use Rattle.jk_opcodes.specs.declared.errors.Stop.TheVariants.{BadOperand, FloatOpcode, Subroutine}
use Rattle.jk_opcodes.specs.Formats.{wide_format_at}
use Rattle.jk_opcodes.specs.Reading.{◌>>=◌, needed, int_at}

abbrev pub Read : Type 0
Read = Result (Instr × List ℕ) Stop

-- operands of one byte and of two
abbrev pub u1_at : List ℕ → Result (ℕ × List ℕ) Stop
u1_at after = needed (byte_at after)

abbrev pub u2_at : List ℕ → Result (ℕ × List ℕ) Stop
u2_at after = needed (number_at w16 after)

unfoldable pub byte_constant_at : ℕ → List ℕ → Read
byte_constant_at at after = u1_at after >>= λ n. Ok (plain at SIPUSH (cast_signed w8 n.0) (pos 0), n.1)

unfoldable pub short_constant_at : ℕ → List ℕ → Read
short_constant_at at after = u2_at after >>= λ n. Ok (plain at SIPUSH (cast_signed w16 n.0) (pos 0), n.1)

unfoldable pub byte_index_at : ℕ → ℕ → List ℕ → Read
byte_index_at at op after = u1_at after >>= λ n. Ok (plain at op (pos n.0) (pos 0), n.1)

unfoldable pub short_index_at : ℕ → ℕ → List ℕ → Read
short_index_at at op after = u2_at after >>= λ n. Ok (plain at op (pos n.0) (pos 0), n.1)

unfoldable pub increment_at : ℕ → ℕ → List ℕ → Read
increment_at at op after =
    u1_at after >>= λ local. u1_at local.1 >>= λ step. Ok (plain at op (pos local.0) (cast_signed w8 step.0), step.1)

unfoldable pub jump_at : ℕ → ℕ → List ℕ → Read
jump_at at op after = u2_at after >>= λ n. Ok (plain at op (target at (cast_signed w16 n.0)) (pos 0), n.1)

unfoldable pub far_jump_at : ℕ → List ℕ → Read
far_jump_at at after = int_at after >>= λ n. Ok (plain at GOTO (target at n.0) (pos 0), n.1)

unfoldable pub interface_call_at : ℕ → ℕ → List ℕ → Read
interface_call_at at op after =
    u2_at after >>= λ index. u1_at index.1 >>= λ count. if count.0 == 0 then Err BadOperand else
    (u1_at count.1 >>= λ last. if last.0 == 0 then Ok (plain at op (pos index.0) (pos 0), last.1) else Err BadOperand)

abbrev pub is_kind : ℕ → Bool
is_kind k = (k == 4) || (k == 5) || (nat_le 8 k && nat_le k 11)

abbrev pub is_float_kind : ℕ → Bool
is_float_kind k = (k == 6) || (k == 7)

unfoldable pub array_of_kind_at : ℕ → ℕ → List ℕ → Read
array_of_kind_at at op after =
    u1_at after >>= λ kind. if is_kind kind.0 then Ok (plain at op (pos kind.0) (pos 0), kind.1) else
    (if is_float_kind kind.0 then Err FloatOpcode else Err BadOperand)

unfoldable pub many_dimensions_at : ℕ → ℕ → List ℕ → Read
many_dimensions_at at op after =
    u2_at after >>= λ index. u1_at index.1 >>= λ dims. if dims.0 == 0 then Err BadOperand else
    Ok (plain at op (pos index.0) (pos dims.0), dims.1)

unfoldable pub wide_increment_at : ℕ → ℕ → List ℕ → Read
wide_increment_at at op after =
    u2_at after >>= λ local. u2_at local.1 >>= λ step. Ok (plain at op (pos local.0) (cast_signed w16 step.0), step.1)

abbrev pub widened_at : WideFormat → ℕ → ℕ → List ℕ → Read
widened_at WideFormat.WideLocal at op after = short_index_at at op after
widened_at WideFormat.WideIncrement at op after = wide_increment_at at op after
widened_at WideFormat.WideFloat at op after = Err FloatOpcode
widened_at WideFormat.WideSubroutine at op after = Err Subroutine
widened_at WideFormat.NotWide at op after = Err BadOperand

unfoldable pub wide_at : ℕ → List ℕ → Read
wide_at at after = u1_at after >>= λ op. widened_at (wide_format_at op.0) at op.0 op.1
