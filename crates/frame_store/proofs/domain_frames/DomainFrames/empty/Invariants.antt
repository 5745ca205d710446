-- Some frames are off.
use Rattle.frame_store.specs.DomainMoves.{depth_of}
use Rattle.frame_store.proofs.SegmentIsEmptied.{IsPartly}
use Rattle.frame_store.proofs.domain_frames.DomainFrames.empty.Given as goal

abbrev pub invariant-loop-self : goal.invariant-loop-self
invariant-loop-self l = IsPartly l.initial.self l.self l.slot

abbrev pub decreases-loop-self : goal.decreases-loop-self
decreases-loop-self l = depth_of l.self l.slot
