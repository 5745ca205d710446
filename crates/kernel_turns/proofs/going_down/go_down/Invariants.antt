-- What has come of the thread so far is a part of what comes of it, and so many segments have been left.
use Rattle.jk_model.specs.declared.descriptors.MethodType.{MethodType}
use Rattle.kernel_turns.specs.GoingDown.{height}
use Rattle.kernel_turns.specs.StepsOfThreads.{content_of}
use Rattle.kernel_turns.proofs.ThreadsGoDown.{IsFarDown, weight}
use Rattle.kernel_turns.proofs.going_down.go_down.Given as goal

abbrev pub invariant-loop-left : goal.invariant-loop-left
invariant-loop-left g l =
    (main : MethodType)
    → IsFarDown
    (content_of l.fn.w l.fn.owns.items l.fn.shared (g.H.ObjectStore.content l.fn.heap) (g.F.SegmentFrames.content l.fn.frames) main) l.fn.t l.fn.left
    (content_of l.fn.w l.owns.items l.shared (g.H.ObjectStore.content l.heap) (g.F.SegmentFrames.content l.frames) main) l.left

abbrev pub decreases-loop-left : goal.decreases-loop-left
decreases-loop-left g l = weight l.left (height l.fn.t l.shared)
