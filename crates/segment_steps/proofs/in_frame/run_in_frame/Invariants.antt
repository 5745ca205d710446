-- So many steps are done, and the frame stands there.
use Rattle.step_contents.specs.StandingFrames.{place_of}
use Rattle.segment_steps.proofs.TurnsInFrame.{SoFar}
use Rattle.segment_steps.proofs.in_frame.run_in_frame.Given as goal

abbrev pub invariant-loop-done : goal.invariant-loop-done
invariant-loop-done g l =
    SoFar (g.H.ObjectStore.content l.initial.heap) (g.F.SegmentFrames.content l.initial.frames) (g.H.ObjectStore.content l.heap)
    (g.F.SegmentFrames.content l.frames) l.w l.d l.s (place_of l.at) l.done
