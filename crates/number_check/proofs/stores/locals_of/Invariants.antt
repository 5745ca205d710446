-- The values so far are those of the first locals.
use Rattle.std.proofs.Common.{◌≡◌, take}
use Rattle.jk_model_frames.specs.Frames.{FrameState}
use Rattle.frame_store.specs.FrameContents.{TopFrame}
use Rattle.number_check.specs.declared.stores.TheConstants.{SEGMENT}
use Rattle.number_check.proofs.stores.locals_of.Given as goal

abbrev pub invariant-loop-i : goal.invariant-loop-i
invariant-loop-i g l = (f : FrameState) → TopFrame (g.F.SegmentFrames.content l.frames) SEGMENT f → l.values ≡ take l.i f.locals
