-- The instruction may begin with the frame, so it does.
use Rattle.std.proofs.Common.{subst, sym}
use Rattle.jk_model_typing.specs.declared.frames.FrameType.{FrameType}
use Rattle.jk_model_typing.specs.FrameTypes.{IsFrameOf}
use Rattle.jk_model_typing.specs.Rows.{Row}
use Rattle.type_rows.specs.CodeViews.{scope_of}
use Rattle.type_verifier.proofs.unrolling.left_by.Goals as goal

pub step-requires : goal.step-requires
step-requires c =
    let P : FrameType → Type 0 = λ f. IsFrameOf (scope_of c.args.view.now).code f in
    subst P (sym c.in_ok-after-in-Some.ensures) (c.requires.begins.sized c.in-Some.before c.in-Some.is)

pub unreachable-requires : goal.unreachable-requires
unreachable-requires c =
    let P : FrameType → Type 0 = λ f. (after : FrameType) → Row (scope_of c.args.view.now) c.args.place c.args.i.now f after → ⊥ in
    let none = subst P c.in_ok-after-in-Some.ensures (c.in_ok-step-in-Some.ensures.fails c.if-not-branch.true) in
    let (after, row) = c.requires.begins.steps c.in-Some.before c.in-Some.is in
    none after row
