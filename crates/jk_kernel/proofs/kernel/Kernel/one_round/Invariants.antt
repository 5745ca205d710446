-- The round up to a thread was gone and printed; where nothing changed so far, nothing does the next time.
use Rattle.std.proofs.Common.{◌≡◌, ◌-◌, ◌^◌, false}
use Rattle.jk_kernel.proofs.OneRound.{RestsSoFar, RoundSoFar}
use Rattle.jk_kernel.proofs.kernel.Kernel.one_round.Given as goal

abbrev pub invariant-loop-thread : goal.invariant-loop-thread
invariant-loop-thread g l =
    RoundSoFar l.steps l.above l.fn.self l.self
    (record { bytes = g.S.Sink.bytes l.fn.out; pieces = g.S.Sink.pieces l.fn.out; faults = g.S.Sink.faults l.fn.out })
    (record { bytes = g.S.Sink.bytes l.out; pieces = g.S.Sink.pieces l.out; faults = g.S.Sink.faults l.out })
    × (l.changed ≡ false → RestsSoFar l.steps l.above l.fn.self l.self)

abbrev pub decreases-loop-thread : goal.decreases-loop-thread
decreases-loop-thread g l = 2 ^ 32 - l.above
