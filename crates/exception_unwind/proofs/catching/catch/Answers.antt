-- By the three changes of the top frame.
use Rattle.std.proofs.Common.{◌∷◌, [], List, None, arith}
use Rattle.jk_model.specs.declared.values.Value.{Value}
use Rattle.jk_model.specs.declared.values.Value.TheVariants as Held
use Rattle.jk_model_frames.specs.Frames.{FrameState}
use Rattle.number_ops.proofs.TopFrames.{then_sets, top_after}
use Rattle.exception_unwind.proofs.catching.catch.Goals as goal

abbrev with_stack : FrameState → List Value → FrameState
with_stack f stack = record f { stack = stack }

pub go-requires : goal.go-requires
go-requires g c =
    let f : FrameState = with_stack c.requires.0 [] in (
      f,
      top_after (g.F.SegmentFrames.content c.args.frames.now) (g.F.SegmentFrames.content c.clear_stack.new.frames) c.args.s f
          (c.clear_stack.ensures c.requires.0 c.requires.1),
    )

pub push_value-requires : goal.push_value-requires
push_value-requires g c =
    let f : FrameState = with_stack c.requires.0 [] in
    let k : FrameState = record f { head = record f.head { at = c.args.handler; need = None } } in
    let top = top_after (g.F.SegmentFrames.content c.args.frames.now) (g.F.SegmentFrames.content c.clear_stack.new.frames) c.args.s f
    (c.clear_stack.ensures c.requires.0 c.requires.1) in (
      k,
      top_after (g.F.SegmentFrames.content c.clear_stack.new.frames) (g.F.SegmentFrames.content c.go.new.self) c.args.s k (c.go.ensures f top),
      omega (arith, c.requires.2),
    )

pub returns : goal.returns
returns g c = λ before is_top.
    let f : FrameState = with_stack before [] in
    let k : FrameState = record f { head = record f.head { at = c.args.handler; need = None } } in
    let last : FrameState = with_stack k (Held.Obj c.args.thrown ∷ []) in
    let first = g.F.SegmentFrames.content c.args.frames.now in
    let cleared = g.F.SegmentFrames.content c.clear_stack.new.frames in
    let gone = g.F.SegmentFrames.content c.go.new.self in
    let pushed = g.F.SegmentFrames.content c.push_value.new.self in
    let clears = c.clear_stack.ensures before is_top in
    let goes = c.go.ensures f (top_after first cleared c.args.s f clears) in
    let pushes = c.push_value.ensures k (top_after cleared gone c.args.s k goes) in
    then_sets first cleared pushed c.args.s f last clears (then_sets cleared gone pushed c.args.s k last goes pushes)
