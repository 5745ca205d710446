-- A settled code has a least typing.
use Rattle.std.proofs.Common.{List, subst, sym, ap}
use Rattle.jk_model_classes.specs.declared.records.ClassRecord.{ClassRecord}
use Rattle.jk_model_classes.specs.Classes.{AreOrdered}
use Rattle.jk_model_typing.specs.Scopes.{CodeScope}
use Rattle.touched_locals.specs.TypingsIn.{IsLeastTypingIn}
use Rattle.type_verifier.proofs.TypingsThere.{least_there}
use Rattle.type_verifier.proofs.verifying.is_typed.Goals as goal

pub returns-in_default-clause-none : goal.returns-in_default-clause-none
returns-in_default-clause-none c = λ no. rw c.in_default.is at c.in_ok-_code.ensures.none

pub returns-clause-typed : goal.returns-clause-typed
returns-clause-typed c = λ yes.
    let told = rw c.in-Some.is at c.in_ok-_code.ensures.some in
    let ordered = subst (λ (cs : List ClassRecord). AreOrdered cs) (ap (λ (s : CodeScope). s.classes) (sym told.scope)) c.ordered.ensures.ordered in
    let (typed, least) = least_there c.in-Some._code.task c.in-Some._code.frames.items told.task told.frames told.settled ordered told.start in
    (typed, subst (λ (s : CodeScope). IsLeastTypingIn s typed) told.scope least)
