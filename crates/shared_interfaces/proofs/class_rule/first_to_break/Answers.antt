-- The next class is asked, and the better of two is kept.
use Rattle.std.proofs.Common.{◌≡◌, ◌+◌, ◌<◌, ◌≤◌, ℕ, Some, length, slice_get, sym, ◌∙◌, ap₂, arith}
use Rattle.jk_model.specs.declared.identifiers.ClassId.{ClassId}
use Rattle.jk_model_classes.specs.SharedRules.{methods_before}
use Rattle.shared_interfaces.proofs.FirstClass.{next_class, one_more}
use Rattle.list_lemmas.proofs.ItemsByPlace.{item_lent}
use Rattle.shared_interfaces.proofs.MethodsCounted.{counted_on}
use Rattle.shared_interfaces.proofs.class_rule.first_to_break.Goals as goal

pub overflow_add-passed : goal.overflow_add-passed
overflow_add-passed g c =
    let at : slice_get c.args.classes.now c.loop-number.number ≡ Some c.in-Some.class.now =
    item_lent c.args.classes.now c.loop-number.number c.in-Some.class c.in-Some.ensures in
    let few : length c.in-Some.class.now.methods ≤ 65535 = (c.ordered.ensures.members (record { 0 = c.loop-number.number }) c.in-Some.class.now at).1 in
    omega arith

pub loop-number-preserved : goal.loop-number-preserved
loop-number-preserved g c =
    let number : ℕ = c.loop-number.number in
    let here : ClassId = record { 0 = number } in
    let at : slice_get c.args.classes.now number ≡ Some c.in-Some.class.now =
    item_lent c.args.classes.now number c.in-Some.class c.in-Some.ensures in
    let few : length c.in-Some.class.now.methods ≤ 65535 = (c.ordered.ensures.members here c.in-Some.class.now at).1 in
    let breaks : ClassId → ℕ → Type 0 = g.R.ClassRule.breaks c.args.rule.now in
    let counted : c.loop-number.passed + c.len-passed.result ≡ methods_before c.args.classes.now c.args.first number + length c.in-Some.class.now.methods =
    ap₂ (λ (a b : ℕ). a + b) c.loop-number.invariant.1 c.len-passed.ensures in (
      one_more c.args.classes.now (λ d n. (d.0 < number) × breaks d n) here (breaks here) (λ d n. (d.0 < number + 1) × breaks d n)
          (next_class c.args.classes.now breaks number) c.loop-number.best c.least_number.result c.earlier-best.result c.loop-number.invariant.0
          c.least_number.ensures c.earlier-best.ensures,
      counted ∙ sym (counted_on c.args.classes.now c.args.first here c.in-Some.class.now at c.loop-number.auto.number),
      omega arith,
    )
