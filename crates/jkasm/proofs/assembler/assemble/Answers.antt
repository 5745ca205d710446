-- The text is assembled, or refused at its first faulty line, and not both.
use Rattle.std.proofs.Common.{sym, subst, arith}
use Rattle.asm_reader.specs.Readings.{AreReadings}
use Rattle.asm_reader.specs.Words.{text_lines}
use Rattle.jkasm.proofs.SoundReadings.{sound_readings}
use Rattle.jkasm.proofs.TextsAssembled.{few_readings, only_line}
use Rattle.jkasm.proofs.assembler.assemble.Goals as goal

pub assemble_lines-requires-clause-few : goal.assemble_lines-requires-clause-few
assemble_lines-requires-clause-few c =
    let few = few_readings c.args.text.now c.in_ok-readings.readings c.in_ok-readings.ensures.read in
    rw c.as_slice.ensures (omega arith)

pub assemble_lines-requires-clause-sound : goal.assemble_lines-requires-clause-sound
assemble_lines-requires-clause-sound c =
    let text = c.args.text.now in
    rw c.as_slice.ensures (sound_readings (text_lines text) c.in_ok-readings.readings c.in_ok-readings.ensures.read)

pub returns-clause-only_line : goal.returns-clause-only_line
returns-clause-only_line c =
    let text = c.args.text.now in
    let read = subst (AreReadings (text_lines text)) (sym c.as_slice.ensures) c.in_ok-readings.ensures.read in
    only_line text c.assemble_lines.result (c.assemble_lines.ensures.assembled text read)
    (λ n e. (c.as_slice.result.now, read, c.assemble_lines.ensures.line n e))
