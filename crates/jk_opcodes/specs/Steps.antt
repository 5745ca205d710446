-- One instruction, read from the front of bytes.
use Rattle.std.specs.Prelude.{ℕ, pos, ◌-ℤ◌, List, [], ◌∷◌, Ok, Err}
use Rattle.jk_model.specs.declared.opcodes.TheConstants.{LDC_W}
use Rattle.jk_model.specs.Instructions.{Format, plain}
use Rattle.jk_opcodes.specs.declared.errors.Stop.TheVariants as stops
use Rattle.jk_opcodes.specs.Formats.{format_at}
use Rattle.jk_opcodes.specs.Plain.{Read, byte_constant_at, short_constant_at, byte_index_at, short_index_at, increment_at, jump_at, far_jump_at, interface_call_at, array_of_kind_at, many_dimensions_at, wide_at}
use Rattle.jk_opcodes.specs.Switches.{table_switch_at, lookup_switch_at}

-- the instruction of this format
abbrev pub step_of : Format → ℕ → ℕ → List ℕ → Read
step_of Format.AsIs at op after = Ok (plain at op (pos 0) (pos 0), after)
step_of (Format.Short long first) at op after = Ok (plain at long (pos op -ℤ pos first) (pos 0), after)
step_of Format.ByteConstant at op after = byte_constant_at at after
step_of Format.ShortConstant at op after = short_constant_at at after
step_of Format.LocalIndex at op after = byte_index_at at op after
step_of Format.BytePoolIndex at op after = byte_index_at at LDC_W after
step_of Format.PoolIndex at op after = short_index_at at op after
step_of Format.Increment at op after = increment_at at op after
step_of Format.Jump at op after = jump_at at op after
step_of Format.FarJump at op after = far_jump_at at after
step_of Format.InterfaceCall at op after = interface_call_at at op after
step_of Format.ArrayOfKind at op after = array_of_kind_at at op after
step_of Format.ManyDimensions at op after = many_dimensions_at at op after
step_of Format.TableSwitch at op after = table_switch_at at op after
step_of Format.LookupSwitch at op after = lookup_switch_at at op after
step_of Format.Wide at op after = wide_at at after
step_of Format.FloatFormat at op after = Err stops.FloatOpcode
step_of Format.SubroutineFormat at op after = Err stops.Subroutine
step_of Format.MonitorFormat at op after = Err stops.Monitor
step_of Format.NoOpcode at op after = Err stops.IllegalOpcode

abbrev pub step_at : ℕ → List ℕ → Read
step_at at [] = Err stops.CutInstruction
step_at at (op ∷ after) = step_of (format_at op) at op after
