-- So many rounds were gone and printed.
use Rattle.jk_kernel.proofs.RoundsSoFar.{Gone}
use Rattle.jk_kernel.proofs.kernel.Kernel.rounds.Given as goal

abbrev pub invariant-loop : goal.invariant-loop
invariant-loop g l =
    Gone l.steps l.counter l.fn.self l.self
    (record { bytes = g.S.Sink.bytes l.fn.out; pieces = g.S.Sink.pieces l.fn.out; faults = g.S.Sink.faults l.fn.out })
    (record { bytes = g.S.Sink.bytes l.out; pieces = g.S.Sink.pieces l.out; faults = g.S.Sink.faults l.out })
