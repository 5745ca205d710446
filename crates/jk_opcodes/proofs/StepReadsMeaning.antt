-- What a step reads is the instruction that stands in front, and what stands in front is what a step reads.
use Rattle.std.proofs.Common.{◌≡◌, ℕ, suc, List, [], ◌∷◌, ◌++◌, Ok, Err, refl, sym, ap, subst, ◌∙◌}
use Rattle.jk_model.specs.declared.instructions.Instr.{Instr}
use Rattle.jk_model.specs.Instructions as def
use Rattle.jk_model.specs.Instructions.{Format, format_of, Means, Refuses, IsInstr, Shows, BeginsWithInstr}
use Rattle.jk_opcodes.specs.declared.errors.Stop.{Stop}
use Rattle.jk_opcodes.specs.declared.errors.Stop.TheVariants as stops
use Rattle.jk_opcodes.specs.Errors.{stop_of}
use Rattle.jk_opcodes.specs.Plain.{Read}
use Rattle.jk_opcodes.specs.Steps.{step_of, step_at}
use Rattle.byte_fields.specs.Layouts.{IsBytes}
use Rattle.jk_opcodes.proofs.SameFormats.{same_format}
use Rattle.jk_opcodes.proofs.PlainReadsMeaning.{Sound, byte_constant_sound, byte_constant_again, short_constant_sound, short_constant_again, local_index_sound, local_index_again, byte_pool_index_sound, byte_pool_index_again, pool_index_sound, pool_index_again, increment_sound, increment_again, jump_sound, jump_again, far_jump_sound, far_jump_again, interface_call_sound, interface_call_again, interface_call_refused, array_of_kind_sound, array_of_kind_again, array_of_kind_refused, many_dimensions_sound, many_dimensions_again, many_dimensions_refused, wide_sound, wide_again, wide_refused}
use Rattle.jk_opcodes.proofs.SwitchReadsMeaning.{table_switch_sound, table_switch_again, table_switch_refused, lookup_switch_sound, lookup_switch_again, lookup_switch_refused}

-- ---- By the format.

format_sound : (format : Format) (at op : ℕ) (after : List ℕ) → IsBytes after → Sound format at op after (step_of format at op after)
format_sound Format.AsIs at op after fits = ([], refl, refl)
format_sound (Format.Short long first) at op after fits = ([], refl, refl)
format_sound Format.ByteConstant at op after fits = byte_constant_sound at op after
format_sound Format.ShortConstant at op after fits = short_constant_sound at op after
format_sound Format.LocalIndex at op after fits = local_index_sound at op after
format_sound Format.BytePoolIndex at op after fits = byte_pool_index_sound at op after
format_sound Format.PoolIndex at op after fits = pool_index_sound at op after
format_sound Format.Increment at op after fits = increment_sound at op after
format_sound Format.Jump at op after fits = jump_sound at op after
format_sound Format.FarJump at op after fits = far_jump_sound at op after
format_sound Format.InterfaceCall at op after fits = interface_call_sound at op after
format_sound Format.ArrayOfKind at op after fits = array_of_kind_sound at op after
format_sound Format.ManyDimensions at op after fits = many_dimensions_sound at op after
format_sound Format.TableSwitch at op after fits = table_switch_sound at op after fits
format_sound Format.LookupSwitch at op after fits = lookup_switch_sound at op after fits
format_sound Format.Wide at op after fits = wide_sound at op after fits
format_sound Format.FloatFormat at op after fits = refl
format_sound Format.SubroutineFormat at op after fits = refl
format_sound Format.MonitorFormat at op after fits = refl
format_sound Format.NoOpcode at op after fits = refl

format_again : (format : Format) (at op : ℕ) (front rest : List ℕ) (i : Instr) → IsBytes (front ++ rest) → Means format at op front i
    → step_of format at op (front ++ rest) ≡ Ok (i, rest)
format_again Format.AsIs at op [] rest i fits h = rw h refl
format_again Format.AsIs at op (n ∷ more) rest i fits h = absurd h
format_again (Format.Short long first) at op [] rest i fits h = rw h refl
format_again (Format.Short long first) at op (n ∷ more) rest i fits h = absurd h
format_again Format.ByteConstant at op front rest i fits h = byte_constant_again at op front rest i h
format_again Format.ShortConstant at op front rest i fits h = short_constant_again at op front rest i h
format_again Format.LocalIndex at op front rest i fits h = local_index_again at op front rest i h
format_again Format.BytePoolIndex at op front rest i fits h = byte_pool_index_again at op front rest i h
format_again Format.PoolIndex at op front rest i fits h = pool_index_again at op front rest i h
format_again Format.Increment at op front rest i fits h = increment_again at op front rest i h
format_again Format.Jump at op front rest i fits h = jump_again at op front rest i h
format_again Format.FarJump at op front rest i fits h = far_jump_again at op front rest i h
format_again Format.InterfaceCall at op front rest i fits h = interface_call_again at op front rest i h
format_again Format.ArrayOfKind at op front rest i fits h = array_of_kind_again at op front rest i h
format_again Format.ManyDimensions at op front rest i fits h = many_dimensions_again at op front rest i h
format_again Format.TableSwitch at op front rest i fits h = table_switch_again at op front rest i h
format_again Format.LookupSwitch at op front rest i fits h = lookup_switch_again at op front rest i h
format_again Format.Wide at op front rest i fits h = wide_again at op front rest i fits h
format_again Format.FloatFormat at op front rest i fits h = absurd h
format_again Format.SubroutineFormat at op front rest i fits h = absurd h
format_again Format.MonitorFormat at op front rest i fits h = absurd h
format_again Format.NoOpcode at op front rest i fits h = absurd h

format_refused : (format : Format) (at op : ℕ) (after : List ℕ) (f : def.Fault) → IsBytes after → Refuses format at after f
    → step_of format at op after ≡ Err (stop_of f)
format_refused Format.AsIs at op after f fits h = absurd h
format_refused (Format.Short long first) at op after f fits h = absurd h
format_refused Format.ByteConstant at op after f fits h = absurd h
format_refused Format.ShortConstant at op after f fits h = absurd h
format_refused Format.LocalIndex at op after f fits h = absurd h
format_refused Format.BytePoolIndex at op after f fits h = absurd h
format_refused Format.PoolIndex at op after f fits h = absurd h
format_refused Format.Increment at op after f fits h = absurd h
format_refused Format.Jump at op after f fits h = absurd h
format_refused Format.FarJump at op after f fits h = absurd h
format_refused Format.InterfaceCall at op after f fits h = interface_call_refused at op after f h
format_refused Format.ArrayOfKind at op after f fits h = array_of_kind_refused at op after f h
format_refused Format.ManyDimensions at op after f fits h = many_dimensions_refused at op after f h
format_refused Format.TableSwitch at op after f fits h = table_switch_refused at op after f h
format_refused Format.LookupSwitch at op after f fits h = lookup_switch_refused at op after f h
format_refused Format.Wide at op after f fits h = wide_refused at op after f fits h
format_refused Format.FloatFormat at op after f fits h = rw h refl
format_refused Format.SubroutineFormat at op after f fits h = rw h refl
format_refused Format.MonitorFormat at op after f fits h = rw h refl
format_refused Format.NoOpcode at op after f fits h = rw h refl

-- ---- By the opcode.

-- what may stop a step
abbrev pub StepStops : ℕ → List ℕ → Stop → Type 0
StepStops at bytes stops.CutInstruction = Unit {0}
StepStops at bytes stops.IllegalOpcode = Shows at bytes def.Fault.IllegalOpcode
StepStops at bytes stops.BadSwitch = Shows at bytes def.Fault.BadSwitch
StepStops at bytes stops.BadOperand = Shows at bytes def.Fault.BadOperand
StepStops at bytes stops.FloatOpcode = Shows at bytes def.Fault.FloatOpcode
StepStops at bytes stops.Subroutine = Shows at bytes def.Fault.Subroutine
StepStops at bytes stops.Monitor = Shows at bytes def.Fault.Monitor

abbrev pub StepSound : ℕ → List ℕ → Read → Type 0
StepSound at bytes (Ok x) = (front : List ℕ) × IsInstr at front x.0 × (bytes ≡ front ++ x.1)
StepSound at bytes (Err stop) = StepStops at bytes stop

with_opcode : (at op : ℕ) (after : List ℕ) (r : Read) → Sound (format_of op) at op after r → StepSound at (op ∷ after) r
with_opcode at op after (Ok x) (front, means, e) = (op ∷ front, means, ap (λ (xs : List ℕ). op ∷ xs) e)
with_opcode at op after (Err stops.CutInstruction) h = tt
with_opcode at op after (Err stops.IllegalOpcode) h = h
with_opcode at op after (Err stops.BadSwitch) h = h
with_opcode at op after (Err stops.BadOperand) h = h
with_opcode at op after (Err stops.FloatOpcode) h = h
with_opcode at op after (Err stops.Subroutine) h = h
with_opcode at op after (Err stops.Monitor) h = h

pub step_sound : (at : ℕ) (bytes : List ℕ) → IsBytes bytes → StepSound at bytes (step_at at bytes)
step_sound at [] fits = tt
step_sound at (op ∷ after) fits =
    rw (same_format op (fits 0)) (with_opcode at op after (step_of (format_of op) at op after) (format_sound (format_of op) at op after (λ i. fits (suc i))))

pub step_again : (at : ℕ) (front rest : List ℕ) (i : Instr) → IsBytes (front ++ rest) → IsInstr at front i
    → step_at at (front ++ rest) ≡ Ok (i, rest)
step_again at [] rest i fits h = absurd h
step_again at (op ∷ front) rest i fits h = rw (same_format op (fits 0)) (format_again (format_of op) at op front rest i (λ k. fits (suc k)) h)

pub step_refused : (at : ℕ) (bytes : List ℕ) (f : def.Fault) → IsBytes bytes → Shows at bytes f → step_at at bytes ≡ Err (stop_of f)
step_refused at [] f fits h = absurd h
step_refused at (op ∷ after) f fits h = rw (same_format op (fits 0)) (format_refused (format_of op) at op after f (λ k. fits (suc k)) h)

abbrev pub found : Instr → List ℕ → Read
found i rest = Ok (i, rest)

abbrev pub stopped : Stop → Read
stopped stop = Err stop

-- where a step stops, no instruction begins
pub none_begins : (at : ℕ) (bytes : List ℕ) (stop : Stop) → IsBytes bytes → step_at at bytes ≡ Err stop → BeginsWithInstr at bytes → ⊥
none_begins at bytes stop fits h (front, rest, i, is, e) =
    let again = step_again at front rest i (subst IsBytes e fits) is in
    let both : stopped stop ≡ found i rest = sym h ∙ ap (step_at at) e ∙ again in
    absurd cc

cut_of : (at : ℕ) (bytes : List ℕ) (r : Read) → StepSound at bytes r → ((f : def.Fault) → Shows at bytes f → ⊥)
    → (BeginsWithInstr at bytes → ⊥)
    → r ≡ Err stops.CutInstruction
cut_of at bytes (Ok x) (front, is, e) unshown never = absurd (never (front, x.1, x.0, is, e))
cut_of at bytes (Err stops.CutInstruction) h unshown never = refl
cut_of at bytes (Err stops.IllegalOpcode) h unshown never = absurd (unshown def.Fault.IllegalOpcode h)
cut_of at bytes (Err stops.BadSwitch) h unshown never = absurd (unshown def.Fault.BadSwitch h)
cut_of at bytes (Err stops.BadOperand) h unshown never = absurd (unshown def.Fault.BadOperand h)
cut_of at bytes (Err stops.FloatOpcode) h unshown never = absurd (unshown def.Fault.FloatOpcode h)
cut_of at bytes (Err stops.Subroutine) h unshown never = absurd (unshown def.Fault.Subroutine h)
cut_of at bytes (Err stops.Monitor) h unshown never = absurd (unshown def.Fault.Monitor h)

-- where none begins and no fault shows, it is cut
pub cut_there : (at : ℕ) (bytes : List ℕ) → IsBytes bytes → ((f : def.Fault) → Shows at bytes f → ⊥) → (BeginsWithInstr at bytes → ⊥)
    → step_at at bytes ≡ Err stops.CutInstruction
cut_there at bytes fits unshown never = cut_of at bytes (step_at at bytes) (step_sound at bytes fits) unshown never
