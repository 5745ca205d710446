-- So many values are off.
use Rattle.number_ops.proofs.EntriesTaken.{TakenSoFar}
use Rattle.system_calls.proofs.given.drop_given.Given as goal

abbrev pub invariant-loop-i : goal.invariant-loop-i
invariant-loop-i g l = TakenSoFar (g.F.SegmentFrames.content l.initial.frames) (g.F.SegmentFrames.content l.frames) l.s l._i
