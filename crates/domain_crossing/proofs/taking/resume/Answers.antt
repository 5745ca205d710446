-- By the value.
use Rattle.std.proofs.Common.{length, sym, ap, subst, arith, Option}
use Rattle.jk_model.specs.declared.values.Value.{Value}
use Rattle.jk_model_frames.specs.Frames.{FrameState}
use Rattle.jk_model_heaps.specs.CalledFrames.{as_entries, resumed}
use Rattle.frame_store.specs.FrameContents.{SetsTop}
use Rattle.number_ops.proofs.TopFrames.{top_after}
use Rattle.domain_crossing.proofs.FramesGoOn.{goes_on_with, goes_on_with_none}
use Rattle.domain_crossing.proofs.taking.resume.Goals as goal

pub go_on-requires : goal.go_on-requires
go_on-requires g c = (c.requires.0, c.requires.1, c.requires.2.place)

pub push_value-requires : goal.push_value-requires
push_value-requires g c =
    let f : FrameState = c.requires.0 in
    let many = ap (λ (o : Option Value). length (as_entries o)) c.in-Some.is in (
      _,
      top_after (g.F.SegmentFrames.content c.args.frames.now) (g.F.SegmentFrames.content c.go_on.new.self) c.args.s _ (c.go_on.ensures f c.requires.1),
      omega (arith, c.requires.2.room, many),
    )

pub returns-in-Some : goal.returns-in-Some
returns-in-Some g c = λ f top none.
    let old = g.F.SegmentFrames.content c.args.frames.now in
    let mid = g.F.SegmentFrames.content c.go_on.new.self in
    let new = g.F.SegmentFrames.content c.push_value.new.self in
    subst (λ (o : Option Value). SetsTop old new c.args.s (resumed o f)) (sym c.in-Some.is)
    (goes_on_with old mid c.args.s f none (c.go_on.ensures f top) new c.in-Some.v c.push_value.ensures)

pub returns-in_default : goal.returns-in_default
returns-in_default g c = λ f top none.
    let old = g.F.SegmentFrames.content c.args.frames.now in
    let mid = g.F.SegmentFrames.content c.go_on.new.self in
    subst (λ (o : Option Value). SetsTop old mid c.args.s (resumed o f)) (sym c.in_default.is)
    (goes_on_with_none old mid c.args.s f none (c.go_on.ensures f top))
