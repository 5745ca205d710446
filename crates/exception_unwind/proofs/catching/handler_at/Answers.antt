-- By the code of the method.
use Rattle.std.proofs.Common.{List, sym, subst}
use Rattle.std.specs.Prelude.{IfNone}
use Rattle.jk_model_classes.specs.declared.records.ClassRecord.{ClassRecord}
use Rattle.jk_model_typing.specs.Scopes.{IsScopeOf}
use Rattle.type_rows.specs.CodeViews.{scope_of}
use Rattle.exception_unwind.specs.Trials.{IsTried}
use Rattle.exception_unwind.proofs.PlacesTried.{no_code, none_told, one_told}
use Rattle.exception_unwind.proofs.catching.handler_at.Goals as goal

pub returns-in_err-view-clause-none : goal.returns-in_err-view-clause-none
returns-in_err-view-clause-none g c =
    let heap = (g.H.ObjectStore.content c.args.heap.now).heap c.args.d in
    let there = no_code c.args.w.now.classes heap c.args.place c.args.thrown c.in_ok-place.field-0 c.in_ok-place.was
    (λ s scope. c.in_err-view.ensures.none s
    (subst (λ (cs : List ClassRecord). IsScopeOf cs c.in_ok-place.field-0 s) (sym c.classes.ensures) scope)) in
    subst (λ o. IfNone o (IsTried c.args.w.now.classes heap c.args.place c.args.thrown)) (sym c.from_residual-in_err-view.ensures) there

pub returns-clause-none : goal.returns-clause-none
returns-clause-none g c =
    none_told c.args.w.now.classes ((g.H.ObjectStore.content c.args.heap.now).heap c.args.d) c.args.place c.args.thrown c.in_ok-place.field-0
    c.in_ok-place.was (scope_of c.in_ok-view.view)
    (subst (λ (cs : List ClassRecord). IsScopeOf cs c.in_ok-place.field-0 (scope_of c.in_ok-view.view)) c.classes.ensures c.in_ok-view.ensures.some)
    c.requires.0 c.requires.1 c.classes-2.result.now c.classes-2.ensures c.as_slice-handlers.result.now c.as_slice-handlers.ensures
    c.first_handler.result (c.first_handler.ensures c.requires.0 (sym (c.shape.ensures c.requires.0 c.requires.1)))

pub returns-clause-some : goal.returns-clause-some
returns-clause-some g c =
    one_told c.args.w.now.classes ((g.H.ObjectStore.content c.args.heap.now).heap c.args.d) c.args.place c.args.thrown c.in_ok-place.field-0
    c.in_ok-place.was (scope_of c.in_ok-view.view)
    (subst (λ (cs : List ClassRecord). IsScopeOf cs c.in_ok-place.field-0 (scope_of c.in_ok-view.view)) c.classes.ensures c.in_ok-view.ensures.some)
    c.requires.0 c.requires.1 c.classes-2.result.now c.classes-2.ensures c.as_slice-handlers.result.now c.as_slice-handlers.ensures
    c.first_handler.result (c.first_handler.ensures c.requires.0 (sym (c.shape.ensures c.requires.0 c.requires.1)))
