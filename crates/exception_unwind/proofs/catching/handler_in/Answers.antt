-- By the need, the place that was tried, and the handlers.
use Rattle.std.proofs.Common.{sym, subst}
use Rattle.exception_unwind.specs.declared.catching.CodePlace.{CodePlace}
use Rattle.exception_unwind.specs.Trials.{IsTried}
use Rattle.exception_unwind.proofs.PlacesTried.{need_stands, told_nowhere, tried_nowhere}
use Rattle.exception_unwind.proofs.catching.handler_in.Goals as goal

pub returns-then-is_some-clause-none : goal.returns-then-is_some-clause-none
returns-then-is_some-clause-none g c =
    need_stands c.args.w.now.classes ((g.H.ObjectStore.content c.args.heap.now).heap c.args.d) c.args.head.now c.args.thrown c.is_some.result
    c.is_some.ensures c.if-is_some.true

pub returns-then-is_same-clause-none : goal.returns-then-is_same-clause-none
returns-then-is_same-clause-none g c =
    let heap = (g.H.ObjectStore.content c.args.heap.now).heap c.args.d in
    tried_nowhere c.args.w.now.classes heap c.args.head.now c.args.thrown
    (subst (λ (p : CodePlace). IsTried c.args.w.now.classes heap p c.args.thrown) (sym (c.is_same.ensures c.if-is_same.true)) c.requires.tried)

pub returns-then-is_same-clause-tried : goal.returns-then-is_same-clause-tried
returns-then-is_same-clause-tried g c = λ none.
    let heap = (g.H.ObjectStore.content c.args.heap.now).heap c.args.d in
    subst (λ (p : CodePlace). IsTried c.args.w.now.classes heap p c.args.thrown) (sym (c.is_same.ensures c.if-is_same.true)) c.requires.tried

pub returns-clause-none : goal.returns-clause-none
returns-clause-none g c =
    told_nowhere c.args.w.now.classes ((g.H.ObjectStore.content c.args.heap.now).heap c.args.d) c.args.head.now c.args.thrown c.handler_at.result
    c.handler_at.ensures.none
