-- Each class properly above stands before the class.
use Rattle.std.proofs.Common.{sym, subst, List}
use Rattle.list_lemmas.proofs.ItemsByPlace.{item_lent}
use Rattle.jk_model_classes.specs.declared.records.MethodRecord.{MethodRecord}
use Rattle.jk_model_classes.specs.LinkRules.{OverridesFinal}
use Rattle.link_rules.specs.FinalMethods.{IsFirstPlace, scope_of}
use Rattle.link_rules.proofs.FinalsAbove.{final_from_before}
use Rattle.link_rules.proofs.final_methods.final_fault.Goals as goal

pub first_overriding-place-requires : goal.first_overriding-place-requires
first_overriding-place-requires c =
    (c.in-Some.r.now, item_lent c.args.t.now c.args.class.0 c.in-Some.r c.in-Some.ensures, sym c.as_slice.ensures)

pub number_of-requires-clause-class : goal.number_of-requires-clause-class
number_of-requires-clause-class c = item_lent c.args.t.now c.args.class.0 c.in-Some.r c.in-Some.ensures

pub number_of-requires-clause-first : goal.number_of-requires-clause-first
number_of-requires-clause-first c =
    subst (λ (ms : List MethodRecord). IsFirstPlace (OverridesFinal (scope_of c.args.t.now c.args.class)) ms c.first_overriding-place.result)
    c.as_slice.ensures
    (final_from_before c.args.t.now c.args.class c.ordered.ensures.ordered c.as_slice.result.now c.first_overriding-place.result
    c.first_overriding-place.ensures)
