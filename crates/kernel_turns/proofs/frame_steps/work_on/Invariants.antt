-- So many steps led here, the top frame stands there, there are no more than were asked for, and the thread goes on in its segment.
use Rattle.std.proofs.Common.{◌≡◌, ◌-◌, ◌≤◌}
use Rattle.step_contents.specs.Contents.{contents_of, here_at}
use Rattle.step_contents.specs.StandingFrames.{place_of}
use Rattle.step_contents.specs.StandingTops.{StandsThere}
use Rattle.segment_steps.specs.declared.went.Went.TheVariants as Goes
use Rattle.kernel_turns.proofs.StepsOnward.{Onward}
use Rattle.kernel_turns.proofs.frame_steps.work_on.Given as goal

abbrev pub invariant-loop-done : goal.invariant-loop-done
invariant-loop-done g l =
    Onward (contents_of (g.H.ObjectStore.content l.fn.heap) (g.F.SegmentFrames.content l.fn.frames) l.fn.own)
    (here_at l.fn.w l.fn.shared l.fn.r.domain l.fn.r.segment) l.fn.r.thread
    (contents_of (g.H.ObjectStore.content l.heap) (g.F.SegmentFrames.content l.frames) l.own) l.done
    × StandsThere (g.F.SegmentFrames.content l.frames) l.fn.w.classes l.fn.r.segment (place_of l.at) × (l.done ≤ l.fn.most)
    × (l.went ≡ Goes.GoesOn)

abbrev pub decreases-loop-done : goal.decreases-loop-done
decreases-loop-done g l = l.most - l.done
