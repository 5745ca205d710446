-- So many steps were done and printed, and none of a thread that rests.
use Rattle.std.proofs.Common.{◌≡◌, ◌-◌, ◌≤◌}
use Rattle.kernel_turns.specs.RestingThreads.{IsResting}
use Rattle.jk_kernel.proofs.TurnsSoFar.{Went}
use Rattle.jk_kernel.proofs.kernel.Kernel.turns.Given as goal

abbrev pub invariant-loop-done : goal.invariant-loop-done
invariant-loop-done g l =
    Went (record { 0 = l.thread }) l.done l.fn.self l.self
    (record { bytes = g.S.Sink.bytes l.fn.out; pieces = g.S.Sink.pieces l.fn.out; faults = g.S.Sink.faults l.fn.out })
    (record { bytes = g.S.Sink.bytes l.out; pieces = g.S.Sink.pieces l.out; faults = g.S.Sink.faults l.out })
    × (l.done ≤ l.steps)
    × (IsResting l.fn.self (record { 0 = l.thread }) → l.done ≡ 0)

abbrev pub decreases-loop-done : goal.decreases-loop-done
decreases-loop-done g l = l.steps - l.done
