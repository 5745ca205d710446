-- The characters up to some place were put.
use Rattle.std.proofs.Common.{List, ℕ}
use Rattle.std.specs.Str.Iter.{chars_rest}
use Rattle.jk_outside.proofs.PathCharByChar.{IsPut}
use Rattle.jk_outside.proofs.SentInOrder.{SoFar}
use Rattle.jk_outside.proofs.line_buffer.LineBuffer.put_path.Given as goal

abbrev pub invariant-loop-character : goal.invariant-loop-character
invariant-loop-character g l =
    (put : List ℕ) × IsPut l.path (chars_rest l.character-iterator) put × SoFar (g.S.Sink.bytes l.initial.sink) (g.S.Sink.bytes l.sink)
    (g.S.Sink.pieces l.initial.sink) (g.S.Sink.pieces l.sink) (g.S.Sink.faults l.initial.sink) (g.S.Sink.faults l.sink) l.initial.self l.self put
