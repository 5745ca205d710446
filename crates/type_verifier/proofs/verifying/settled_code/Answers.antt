-- What the parts of the verifier give.
use Rattle.std.proofs.Common.{subst, sym, ap}
use Rattle.jk_model_typing.specs.FrameTypes.{IsFrameOf}
use Rattle.jk_model_typing.specs.Typing.{IsStart}
use Rattle.touched_locals.specs.TypingsIn.{IsTypingIn}
use Rattle.type_rows.specs.declared.code_view.CodeView.{CodeView}
use Rattle.type_rows.specs.CodeViews.{scope_of}
use Rattle.type_verifier.proofs.verifying.settled_code.Goals as goal

pub returns-in_default-clause-none : goal.returns-in_default-clause-none
returns-in_default-clause-none c = λ typing types. (rw c.in_default.is at c.in_ok-start.ensures.none) types.start types.start_is

pub settled_frames-requires-clause-start : goal.settled_frames-requires-clause-start
settled_frames-requires-clause-start c =
    let started = rw c.in-Some.is at c.in_ok-start.ensures.some in
    subst (λ (v : CodeView). IsStart (scope_of v) c.in-Some.start) (sym c.in_ok-task.ensures.same) started.0

pub settled_frames-requires-clause-sized : goal.settled_frames-requires-clause-sized
settled_frames-requires-clause-sized c =
    let started = rw c.in-Some.is at c.in_ok-start.ensures.some in
    subst (λ (v : CodeView). IsFrameOf (scope_of v).code c.in-Some.start) (sym c.in_ok-task.ensures.same) started.1

pub returns-in_default-2-clause-none : goal.returns-in_default-2-clause-none
returns-in_default-2-clause-none c = λ typing types.
    let none = rw c.in_default-2.is at c.in_ok-frames.ensures.none in
    none typing (subst (λ (v : CodeView). IsTypingIn (scope_of v) typing) (sym c.in_ok-task.ensures.same) types)

pub returns-clause-some : goal.returns-clause-some
returns-clause-some c =
    let started = rw c.in-Some.is at c.in_ok-start.ensures.some in
    record {
      scope = ap scope_of c.in_ok-task.ensures.same;
      task = c.in_ok-task.ensures.task;
      frames = rw c.in-Some-2.is at c.in_ok-frames.ensures.frames;
      settled = rw c.in-Some-2.is at c.in_ok-frames.ensures.settled;
      start = (
        c.in-Some.start,
        subst (λ (v : CodeView). IsStart (scope_of v) c.in-Some.start) (sym c.in_ok-task.ensures.same) started.0,
        rw c.in-Some-2.is at c.in_ok-frames.ensures.first,
      );
    }
