-- By the class that the frame initialises, and by the frames that are there.
use Rattle.std.proofs.Common.{Option, is_some, sym, ap, subst, ◌∙◌}
use Rattle.jk_model.specs.declared.frames.FrameHead.{FrameHead}
use Rattle.jk_model.specs.declared.identifiers.SegmentNo.{SegmentNo}
use Rattle.frame_store.specs.FrameContents.{GivesBack, MayGiveBack, Pops, StoredSegment, TopFrame}
use Rattle.segment_steps.specs.Returning.{PaysFrames}
use Rattle.segment_steps.proofs.GivingBack.{HasDepth, all_ended, below_goes_on, class_ended, has_below, may_give_back, no_callers, top_there}
use Rattle.segment_steps.proofs.returning.give_back.Goals as goal

pub pop-requires : goal.pop-requires
pop-requires g c =
    let frames = g.F.SegmentFrames.content c.args.frames.now in
    let may = c.requires.may in (
      may.3.frame,
      subst (λ (s : SegmentNo). TopFrame frames s may.3.frame) may.4
          (top_there may.0 frames c.args.own.now may.1 may.2 may.3 c.args.v may.6),
    )

pub depth-requires : goal.depth-requires
depth-requires g c =
    let frames = g.F.SegmentFrames.content c.args.frames.now in
    let may = c.requires.may in
    ap (λ (o : Option StoredSegment). is_some o)
    (subst (λ (s : SegmentNo). TopFrame frames s may.3.frame) may.4
    (top_there may.0 frames c.args.own.now may.1 may.2 may.3 c.args.v may.6)).is_there

pub pop-requires-then-depth-eq1 : goal.pop-requires-then-depth-eq1
pop-requires-then-depth-eq1 g c =
    let frames = g.F.SegmentFrames.content c.args.frames.now in
    let may = c.requires.may in (
      may.3.frame,
      subst (λ (s : SegmentNo). TopFrame frames s may.3.frame) may.4
          (top_there may.0 frames c.args.own.now may.1 may.2 may.3 c.args.v may.6),
    )

pub returns-in-Some : goal.returns-in-Some
returns-in-Some g c = λ x heaps here callers w seg head may.
    let frames = g.F.SegmentFrames.content c.args.frames.now in
    let popped = g.F.SegmentFrames.content c.pop.new.self in
    class_ended heaps frames c.args.own.now here callers w c.args.v may
    (subst (PaysFrames frames) (sym seg) c.requires.paid) popped
    (subst (λ (s : SegmentNo). Pops frames popped s) (sym seg) c.pop.ensures) x c.in-Some.c
    (ap (λ (h : FrameHead). h.initialises) head ∙ c.in-Some.is) c.set_state.new.self c.set_state.ensures

pub returns-then-depth-eq1 : goal.returns-then-depth-eq1
returns-then-depth-eq1 g c = λ x heaps here callers w seg head may.
    let frames = g.F.SegmentFrames.content c.args.frames.now in
    let popped = g.F.SegmentFrames.content c.pop-then-depth-eq1.new.self in
    let depth = subst (λ (s : SegmentNo). HasDepth frames s c.depth.result) (sym seg) c.depth.ensures in
    all_ended heaps frames c.args.own.now here callers w c.args.v may
    (subst (PaysFrames frames) (sym seg) c.requires.paid) popped
    (subst (λ (s : SegmentNo). Pops frames popped s) (sym seg) c.pop-then-depth-eq1.ensures) x
    (ap (λ (h : FrameHead). h.initialises) head ∙ c.in_default.is)
    (no_callers heaps frames c.args.own.now here callers w c.args.v may c.depth.result depth c.if-depth-eq1.true)

pub give_back-requires : goal.give_back-requires
give_back-requires g c =
    let frames = g.F.SegmentFrames.content c.args.frames.now in
    let may = c.requires.may in
    let depth = subst (λ (s : SegmentNo). HasDepth frames s c.depth.result) (sym may.4) c.depth.ensures in
    let below = has_below may.0 frames c.args.own.now may.1 may.2 may.3 c.args.v may.6 c.depth.result depth c.if-depth-eq1.false in
    subst (λ (s : SegmentNo). MayGiveBack frames s c.args.v) may.4
    (may_give_back may.0 frames c.args.own.now may.1 may.2 may.3 c.args.v may.6 below.lower below.below
    (ap (λ (h : FrameHead). h.initialises) may.5 ∙ c.in_default.is) below.are)

pub returns : goal.returns
returns g c = λ x heaps here callers w seg head may.
    let frames = g.F.SegmentFrames.content c.args.frames.now in
    let new = g.F.SegmentFrames.content c.give_back.new.self in
    let depth = subst (λ (s : SegmentNo). HasDepth frames s c.depth.result) (sym seg) c.depth.ensures in
    let below = has_below heaps frames c.args.own.now here callers w c.args.v may c.depth.result depth c.if-depth-eq1.false in
    below_goes_on heaps frames c.args.own.now here callers w c.args.v may below.lower below.below
    (ap (λ (h : FrameHead). h.initialises) head ∙ c.in_default.is) below.are
    (subst (PaysFrames frames) (sym seg) c.requires.paid) new
    (subst (λ (s : SegmentNo). GivesBack frames new s c.args.v) (sym seg) c.give_back.ensures) x
