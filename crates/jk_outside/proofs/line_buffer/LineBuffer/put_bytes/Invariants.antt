-- The bytes up to some place were put.
use Rattle.std.proofs.Common.{◌≡◌, ◌++◌, List, ℕ, length}
use Rattle.jk_outside.proofs.SentInOrder.{SoFar}
use Rattle.jk_outside.proofs.line_buffer.LineBuffer.put_bytes.Given as goal

abbrev pub invariant-loop-rest : goal.invariant-loop-rest
invariant-loop-rest g l =
    (put : List ℕ) × (l.bytes ≡ put ++ l.rest) × SoFar (g.S.Sink.bytes l.initial.sink) (g.S.Sink.bytes l.sink) (g.S.Sink.pieces l.initial.sink)
    (g.S.Sink.pieces l.sink) (g.S.Sink.faults l.initial.sink) (g.S.Sink.faults l.sink) l.initial.self l.self put

abbrev pub decreases-loop-rest : goal.decreases-loop-rest
decreases-loop-rest g l = length l.rest
