-- So many frames are left, and the others stand as they did.
use Rattle.step_contents.specs.Contents.{contents_of}
use Rattle.exception_unwind.proofs.UnwindingTurns.{SoFar}
use Rattle.exception_unwind.proofs.unwinding.unwind.Given as goal

abbrev pub invariant-loop : goal.invariant-loop
invariant-loop g l =
    SoFar (contents_of (g.H.ObjectStore.content l.initial.heap) (g.F.SegmentFrames.content l.initial.frames) l.initial.own)
    (contents_of (g.H.ObjectStore.content l.heap) (g.F.SegmentFrames.content l.frames) l.own) l.w l.d l.s l.fn.throwable l.counter l.thrown l.tried
