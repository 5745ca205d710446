-- The classes above stand before the folder's or are of them.
use Rattle.std.proofs.Common.{List, sym, subst}
use Rattle.jk_model_classes.specs.declared.records.MethodRecord.{MethodRecord}
use Rattle.jk_model_classes.specs.LinkRules.{OverridesFinal}
use Rattle.link_rules.specs.FinalMethods.{IsFirstPlace, scope_of}
use Rattle.link_rules.proofs.FinalsAbove.{final_from_both}
use Rattle.link_rules.proofs.folder_finals.number_below.Goals as goal

pub first_overriding-outside-requires : goal.first_overriding-outside-requires
first_overriding-outside-requires c = (c.args.r.now, c.requires.class_is, sym c.as_slice-methods.ensures)

pub first_inside-inside-requires : goal.first_inside-inside-requires
first_inside-inside-requires c = (c.args.r.now, c.requires)

pub number_of-requires-clause-class : goal.number_of-requires-clause-class
number_of-requires-clause-class c = c.requires.class_is

pub number_of-requires-clause-first : goal.number_of-requires-clause-first
number_of-requires-clause-first c =
    let a = c.args.above.now in
    subst (λ (ms : List MethodRecord). IsFirstPlace (OverridesFinal (scope_of a.t.now a.class)) ms c.earlier.result) c.as_slice-methods.ensures
    (final_from_both a.t.now a.class a.first c.as_slice-methods.result.now c.first_overriding-outside.result c.first_inside-inside.result
    c.earlier.result c.first_overriding-outside.ensures c.first_inside-inside.ensures c.earlier.ensures)
