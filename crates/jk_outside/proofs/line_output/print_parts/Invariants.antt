-- The parts up to some place were put.
use Rattle.std.proofs.Common.{[], take}
use Rattle.std.specs.Prelude.{flat_map}
use Rattle.jk_outside.specs.Lines.{part_text}
use Rattle.jk_outside.proofs.SentInOrder.{SoFar}
use Rattle.jk_outside.proofs.line_output.print_parts.Given as goal

abbrev pub invariant-loop-part : goal.invariant-loop-part
invariant-loop-part g l =
    SoFar (g.S.Sink.bytes l.initial.sink) (g.S.Sink.bytes l.sink) (g.S.Sink.pieces l.initial.sink) (g.S.Sink.pieces l.sink)
    (g.S.Sink.faults l.initial.sink) (g.S.Sink.faults l.sink) [] l.buffer (flat_map part_text (take l.part-index l.parts))
