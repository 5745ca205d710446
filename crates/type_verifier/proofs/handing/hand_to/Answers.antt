-- Handing locals to one handler.
use Rattle.std.proofs.Common.{inl, inr, arith}
use Rattle.type_verifier.specs.Tasks.{scope_in}
use Rattle.type_verifier.proofs.HandlersHaveFrames.{FitsBut-here, no-room}
use Rattle.type_verifier.proofs.handing.hand_to.Goals as goal
use Rattle.type_verifier.proofs.handing.hand_to.Goals.{then-code-eq0-via-then-code-eq0, then-code-eq0-via-else-code-eq0+then-len-place}

pub returns-then-code-eq0-clause-none : goal.returns-then-code-eq0-clause-none
returns-then-code-eq0-clause-none c = λ fails typing types.
    no-room c.args.task.now c.requires.task typing c.args.h.now c.args.at.locals.now c.args.at.fresh types (c.requires.below typing types)
    (elim c.then-code-eq0.branch [
      | then-code-eq0-via-then-code-eq0 w ↦ inl w.if-code-eq0.true
      | then-code-eq0-via-else-code-eq0+then-len-place w ↦ inr (omega (arith, w.len.ensures, w.if-len-place.true))
    ])

pub raise_at-requires-clause-outside : goal.raise_at-requires-clause-outside
raise_at-requires-clause-outside c = λ f at.
    FitsBut-here (scope_in c.args.task.now) c.requires.ordered c.args.progress.now.frames.items c.args.h.now.handler c.args.at.first c.args.at.end
    c.args.at.locals.now f c.requires.outside at

pub raise_at-requires-clause-below : goal.raise_at-requires-clause-below
raise_at-requires-clause-below c = λ typing types. rw c.caught_value.ensures (c.requires.below typing types)
