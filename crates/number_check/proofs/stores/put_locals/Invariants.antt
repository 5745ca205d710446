-- The frame is as it began, but for its locals.
use Rattle.number_check.specs.declared.stores.TheConstants.{SEGMENT}
use Rattle.number_check.specs.RunFrames.{IsBegun}
use Rattle.number_check.proofs.stores.put_locals.Given as goal

abbrev pub invariant-loop-i : goal.invariant-loop-i
invariant-loop-i g l = IsBegun (g.F.SegmentFrames.content l.frames) SEGMENT l.fn.head
