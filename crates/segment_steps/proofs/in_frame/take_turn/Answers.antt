-- By the opcode.
use Rattle.std.proofs.Common.{inl, refl}
use Rattle.number_ops.proofs.TopFrames.{stays as rests}
use Rattle.step_contents.specs.StandingFrames.{place_of}
use Rattle.segment_steps.proofs.AccessesMade.{no_turn_by_access, no_turn_by_numbers, turn_by_access, turn_by_numbers}
use Rattle.segment_steps.proofs.in_frame.take_turn.Goals as goal

pub returns-then-is_access-clause-none : goal.returns-then-is_access-clause-none
returns-then-is_access-clause-none g c =
    no_turn_by_access (g.H.ObjectStore.content c.args.heap.now) (g.H.ObjectStore.content c.access_in_frame.new.heap) (g.F.SegmentFrames.content
    c.args.frames.now) (g.F.SegmentFrames.content c.access_in_frame.new.frames)
    c.args.s (place_of c.args.here.now) c.access_in_frame.result c.access_in_frame.ensures.none c.access_in_frame.ensures.same

pub returns-then-is_access-clause-some : goal.returns-then-is_access-clause-some
returns-then-is_access-clause-some g c =
    turn_by_access (g.H.ObjectStore.content c.args.heap.now) (g.H.ObjectStore.content c.access_in_frame.new.heap) (g.F.SegmentFrames.content
    c.args.frames.now) (g.F.SegmentFrames.content c.access_in_frame.new.frames)
    c.args.w.now c.args.d c.args.s (place_of c.args.here.now) c.access_in_frame.result c.access_in_frame.ensures.some

pub returns-then-stays_in_frame-clause-none : goal.returns-then-stays_in_frame-clause-none
returns-then-stays_in_frame-clause-none g c =
    no_turn_by_numbers (g.H.ObjectStore.content c.args.heap.now) (g.F.SegmentFrames.content c.args.frames.now) (g.F.SegmentFrames.content
    c.compute_in_frame.new.frames) c.args.s
    (place_of c.args.here.now) c.compute_in_frame.result c.compute_in_frame.ensures.none

pub returns-then-stays_in_frame-clause-some : goal.returns-then-stays_in_frame-clause-some
returns-then-stays_in_frame-clause-some g c =
    turn_by_numbers (g.H.ObjectStore.content c.args.heap.now) (g.F.SegmentFrames.content c.args.frames.now) (g.F.SegmentFrames.content
    c.compute_in_frame.new.frames) c.args.w.now c.args.d c.args.s
    (place_of c.args.here.now) c.compute_in_frame.result c.compute_in_frame.ensures.some

pub returns-else-is_access : goal.returns-else-is_access
returns-else-is_access g c =
    record { none = (refl, inl (λ f on. rests (g.F.SegmentFrames.content c.args.frames.now) c.args.s f on)); some = tt }
