-- All locals from this one on fit.
use Rattle.std.proofs.Common.{◌≤◌, length}
use Rattle.type_frames.specs.FrameJoins.{FitOutside}
use Rattle.type_verifier.proofs.narrowing.end_of_rises.Given as goal

abbrev pub invariant-loop-end : goal.invariant-loop-end
invariant-loop-end l = record {
  within : l.end ≤ length l.from;
  outside : FitOutside l.t l.first l.end l.from l.into;
}

abbrev pub decreases-loop-end : goal.decreases-loop-end
decreases-loop-end l = l.end
