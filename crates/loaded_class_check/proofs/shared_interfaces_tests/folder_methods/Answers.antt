-- The next class has few methods, and all are counted in the end.
use Rattle.std.proofs.Common.{◌≡◌, ◌+◌, ◌≤◌, ℕ, Some, length, slice_get, sym, ◌∙◌, ap₂, arith}
use Rattle.jk_model.specs.declared.identifiers.ClassId.{ClassId}
use Rattle.jk_model_classes.specs.SharedRules.{methods_before}
use Rattle.list_lemmas.proofs.ItemsByPlace.{item_lent}
use Rattle.shared_interfaces.proofs.MethodsCounted.{counted_on, all_counted, none_counted}
use Rattle.loaded_class_check.proofs.shared_interfaces_tests.folder_methods.Goals as goal

pub loop-number-init : goal.loop-number-init
loop-number-init c = (sym (none_counted c.args.classes.now c.args.first), omega arith)

pub overflow_add-passed : goal.overflow_add-passed
overflow_add-passed c =
    let here : ClassId = record { 0 = c.loop-number.number } in
    let at : slice_get c.args.classes.now c.loop-number.number ≡ Some c.in-Some.class.now =
    item_lent c.args.classes.now c.loop-number.number c.in-Some.class c.in-Some.ensures in
    let few : length c.in-Some.class.now.methods ≤ 65535 = (c.ordered.ensures.members here c.in-Some.class.now at).1 in
    omega arith

pub loop-number-preserved : goal.loop-number-preserved
loop-number-preserved c =
    let here : ClassId = record { 0 = c.loop-number.number } in
    let at : slice_get c.args.classes.now c.loop-number.number ≡ Some c.in-Some.class.now =
    item_lent c.args.classes.now c.loop-number.number c.in-Some.class c.in-Some.ensures in
    let few : length c.in-Some.class.now.methods ≤ 65535 = (c.ordered.ensures.members here c.in-Some.class.now at).1 in (
      ap₂ (λ (a b : ℕ). a + b) c.loop-number.invariant.0 c.len-passed.ensures
          ∙ sym (counted_on c.args.classes.now c.args.first here c.in-Some.class.now at c.loop-number.auto.number),
      omega arith,
    )

pub returns : goal.returns
returns c =
    c.loop-number.invariant.0 ∙ all_counted c.args.classes.now c.args.first c.loop-number.number (omega (arith, c.len-number-end.ensures.count))
