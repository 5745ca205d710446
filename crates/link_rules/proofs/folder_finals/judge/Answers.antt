-- What is needed to judge the class is known of its parent.
use Rattle.std.proofs.Common.{ℕ, List, Some, arith, subst, sym, ◌+◌, ◌≡◌}
use Rattle.std.specs.Prelude.{slice_get}
use Rattle.list_lemmas.proofs.ItemsByPlace.{item_lent}
use Rattle.jk_model_classes.specs.declared.records.MethodRecord.{MethodRecord}
use Rattle.link_rules.specs.MetFinals.{IsPackageNumber}
use Rattle.link_rules.proofs.FinalsMet.{judged_more, met_above, met_less_above}
use Rattle.link_rules.proofs.folder_finals.judge.Goals as goal

pub overflow_add-above : goal.overflow_add-above
overflow_add-above c =
    let ready = c.is_ready.ensures c.if-not-is_ready.false in
    let low = ready.0 in
    omega arith

pub number_below-number-requires : goal.number_below-number-requires
number_below-number-requires c =
    let span = c.in-Some-span_at.span in
    let at = item_lent c.args.t.now c.args.class.0 c.in-Some.r c.in-Some.ensures in
    let ready = c.is_ready.ensures c.if-not-is_ready.false in
    let low = ready.0 in
    record {
      ordered = c.ordered.ensures.ordered;
      class_is = at;
      package_is = subst (λ (n : List ℕ). IsPackageNumber n c.number_of_package-package_number.result) c.as_slice.ensures
          c.number_of_package-package_number.ensures;
      met_above = met_less_above c.args.t.now c.ordered.ensures.ordered c.args.first c.args.spans.now c.args.met.now (span.from + 1) span.until c.args.class
          (omega arith)
          (met_above c.args.t.now c.ordered.ensures.ordered c.args.first c.args.spans.now c.args.met.now c.args.numbers.now c.requires c.args.class
          c.in-Some.r.now span at ready);
    }

pub returns : goal.returns
returns c =
    let span = c.in-Some-span_at.span in
    let r = c.in-Some.r.now in
    let at = item_lent c.args.t.now c.args.class.0 c.in-Some.r c.in-Some.ensures in
    let (place, stands, of_class) = c.in-Some-span_at.ensures in
    judged_more c.args.t.now c.ordered.ensures.ordered c.args.first c.args.spans.now c.args.met.now c.keep_finals.new.met c.args.numbers.now
    c.set_number.new.numbers c.args.class r span c.number_below-number.result
    c.number_of_package-package_number.result place c.requires at stands of_class
    (met_above c.args.t.now c.ordered.ensures.ordered c.args.first c.args.spans.now c.args.met.now c.args.numbers.now c.requires c.args.class r span at
    (c.is_ready.ensures c.if-not-is_ready.false))
    c.number_below-number.ensures
    (subst (λ (n : List ℕ). IsPackageNumber n c.number_of_package-package_number.result) c.as_slice.ensures
    c.number_of_package-package_number.ensures)
    c.in_ok-keep_finals.ensures.grows
    (λ i method there. c.in_ok-keep_finals.ensures.kept i method
    (subst (λ (ms : List MethodRecord). slice_get ms i ≡ Some method) (sym c.as_slice-2.ensures) there))
    c.set_number.ensures
