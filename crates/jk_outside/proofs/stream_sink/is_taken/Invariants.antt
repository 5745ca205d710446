-- The writer took the piece up to some place.
use Rattle.std.proofs.Common.{◌≡◌, ◌++◌, List, ℕ}
use Rattle.jk_outside.specs.Streams.{Takes}
use Rattle.jk_outside.proofs.stream_sink.is_taken.Given as goal

abbrev pub invariant-loop-try : goal.invariant-loop-try
invariant-loop-try g l =
    (front : List ℕ) × (l.piece ≡ front ++ l.rest) × Takes (g.W.Write.contents l.initial.writer) (g.W.Write.contents l.writer) front
