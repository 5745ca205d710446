-- The units up to some place were put.
use Rattle.std.proofs.Common.{take}
use Rattle.jk_model.specs.Text.{shown}
use Rattle.jk_outside.proofs.SentInOrder.{SoFar}
use Rattle.jk_outside.proofs.line_buffer.LineBuffer.put_escaped.Given as goal

abbrev pub invariant-loop-unit : goal.invariant-loop-unit
invariant-loop-unit g l =
    SoFar (g.S.Sink.bytes l.initial.sink) (g.S.Sink.bytes l.sink) (g.S.Sink.pieces l.initial.sink) (g.S.Sink.pieces l.sink)
    (g.S.Sink.faults l.initial.sink) (g.S.Sink.faults l.sink) l.initial.self l.self (shown (take l.unit-index l.units))
