-- What the parts of the verifier give, of the method's own code.
use Rattle.std.proofs.Common.{subst}
use Rattle.jk_model_typing.specs.Scopes.{CodeScope}
use Rattle.touched_locals.specs.TypingsIn.{IsLeastTypingIn}
use Rattle.type_rows.specs.CodeViews.{scope_of}
use Rattle.type_verifier.proofs.MethodsTypings.{in-scope, least-of_method}
use Rattle.type_verifier.proofs.verifying.verify.Goals as goal

pub settled_code-requires : goal.settled_code-requires
settled_code-requires c = record { short = c.requires.short (scope_of c.in-Some.view) c.in-Some.ensures.some }

pub returns-in_default-2-clause-none : goal.returns-in_default-2-clause-none
returns-in_default-2-clause-none c = λ typing types.
    (rw c.in_default-2.is at c.in_ok-code.ensures.none) typing
    (in-scope c.args.t.now c.args.method (scope_of c.in-Some.view) c.in-Some.ensures.some typing types)

pub unroll-requires-clause-task : goal.unroll-requires-clause-task
unroll-requires-clause-task c = let told = rw c.in-Some-2.is at c.in_ok-code.ensures.some in told.task

pub unroll-requires-clause-frames : goal.unroll-requires-clause-frames
unroll-requires-clause-frames c =
    let told = rw c.in-Some-2.is at c.in_ok-code.ensures.some in
    rw c.as_slice.ensures.value told.frames

pub unroll-requires-clause-settled : goal.unroll-requires-clause-settled
unroll-requires-clause-settled c =
    let told = rw c.in-Some-2.is at c.in_ok-code.ensures.some in
    rw c.as_slice.ensures.value told.settled

pub unroll-requires-clause-start : goal.unroll-requires-clause-start
unroll-requires-clause-start c =
    let told = rw c.in-Some-2.is at c.in_ok-code.ensures.some in
    rw c.as_slice.ensures.value told.start

pub returns-clause-typing : goal.returns-clause-typing
returns-clause-typing c =
    let told = rw c.in-Some-2.is at c.in_ok-code.ensures.some in
    least-of_method c.args.t.now c.args.method (scope_of c.in-Some.view) c.in-Some.ensures.some c.in_ok-typing.typing.frames
    (subst (λ (s : CodeScope). IsLeastTypingIn s c.in_ok-typing.typing.frames) told.scope c.in_ok-typing.ensures)
