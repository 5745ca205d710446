-- All locals in front of this one fit.
use Rattle.std.proofs.Common.{◌-◌}
use Rattle.type_frames.specs.FrameJoins.{FitOutside}
use Rattle.type_verifier.proofs.narrowing.first_rise.Given as goal

abbrev pub invariant-loop-first : goal.invariant-loop-first
invariant-loop-first l = FitOutside l.t l.first l.range.end l.from l.into

abbrev pub decreases-loop-first : goal.decreases-loop-first
decreases-loop-first l = l.range.end - l.first
