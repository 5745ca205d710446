-- The first method whose code has no typing has the least number.
use Rattle.std.proofs.Common.{◌≡◌, ◌+◌, ℕ, List, None, Some, length, slice_get, sym, subst, ap, ◌∙◌, arith}
use Rattle.std.proofs.lemmas.Option.{same_Some}
use Rattle.jk_model_classes.specs.declared.records.ClassRecord.{ClassRecord}
use Rattle.jk_model_classes.specs.declared.records.MethodRecord.{MethodRecord}
use Rattle.jk_model_typing.specs.Typing.{BreaksC23}
use Rattle.link_rules.specs.LinkFaults.{IsLeastNumber}
use Rattle.list_lemmas.proofs.ItemsByPlace.{item_lent}
use Rattle.placed_rules.specs.Codes.{AreTypedBefore, AtMember, IsFirstUntyped}
use Rattle.placed_rules.proofs.MethodsOfClass.{method_untyped, no_method_untyped, short_number}
use Rattle.placed_rules.proofs.typings.untyped.Goals as goal

pub first_untyped-requires-clause-few : goal.first_untyped-requires-clause-few
first_untyped-requires-clause-few c =
    let t = c.args.t.now in
    let r = c.in-Some.r.now in
    let known : slice_get t c.args.class.0 ≡ Some r = item_lent t c.args.class.0 c.in-Some.r c.in-Some.ensures in
    let few = c.ordered.ensures.members c.args.class r known in
    omega (arith, few.1, ap (λ (xs : List MethodRecord). length xs) c.as_slice.ensures)

pub overflow_add-result : goal.overflow_add-result
overflow_add-result c =
    let t = c.args.t.now in
    let r = c.in-Some.r.now in
    let known : slice_get t c.args.class.0 ≡ Some r = item_lent t c.args.class.0 c.in-Some.r c.in-Some.ensures in
    let here : IsFirstUntyped t c.args.class r.methods (Some c.in-Some-2.i) = rw c.as_slice.ensures at (rw c.in-Some-2.is at c.in_ok-i.ensures) in
    let short = short_number r c.in-Some-2.i here.0.0 (c.ordered.ensures.members c.args.class r known) here.0.1 in
    omega (arith, short, c.len.ensures)

pub overflow_add-result-in-Some-2 : goal.overflow_add-result-in-Some-2
overflow_add-result-in-Some-2 c =
    let t = c.args.t.now in
    let r = c.in-Some.r.now in
    let known : slice_get t c.args.class.0 ≡ Some r = item_lent t c.args.class.0 c.in-Some.r c.in-Some.ensures in
    let here : IsFirstUntyped t c.args.class r.methods (Some c.in-Some-2.i) = rw c.as_slice.ensures at (rw c.in-Some-2.is at c.in_ok-i.ensures) in
    let short = short_number r c.in-Some-2.i here.0.0 (c.ordered.ensures.members c.args.class r known) here.0.1 in
    omega (arith, short, c.len.ensures)

pub overflow_cast-result : goal.overflow_cast-result
overflow_cast-result c =
    let t = c.args.t.now in
    let r = c.in-Some.r.now in
    let known : slice_get t c.args.class.0 ≡ Some r = item_lent t c.args.class.0 c.in-Some.r c.in-Some.ensures in
    let here : IsFirstUntyped t c.args.class r.methods (Some c.in-Some-2.i) = rw c.as_slice.ensures at (rw c.in-Some-2.is at c.in_ok-i.ensures) in
    let short = short_number r c.in-Some-2.i here.0.0 (c.ordered.ensures.members c.args.class r known) here.0.1 in
    omega (arith, short, c.len.ensures)

pub returns-in-Some-2-clause-number : goal.returns-in-Some-2-clause-number
returns-in-Some-2-clause-number c =
    let t = c.args.t.now in
    let r = c.in-Some.r.now in
    let known : slice_get t c.args.class.0 ≡ Some r = item_lent t c.args.class.0 c.in-Some.r c.in-Some.ensures in
    let here : IsFirstUntyped t c.args.class r.methods (Some c.in-Some-2.i) = rw c.as_slice.ensures at (rw c.in-Some-2.is at c.in_ok-i.ensures) in
    subst (λ (n : ℕ). IsLeastNumber (AtMember (BreaksC23 t c.args.class)) (Some (n + c.in-Some-2.i + 1))) (sym c.len.ensures)
    (method_untyped t c.args.class r known c.in-Some-2.i here)

pub returns-in-None-clause-number : goal.returns-in-None-clause-number
returns-in-None-clause-number c =
    let t = c.args.t.now in
    let r = c.in-Some.r.now in
    let known : slice_get t c.args.class.0 ≡ Some r = item_lent t c.args.class.0 c.in-Some.r c.in-Some.ensures in
    let typed : IsFirstUntyped t c.args.class r.methods None = rw c.as_slice.ensures at (rw c.in-None.is at c.in_ok-i.ensures) in
    no_method_untyped t c.args.class r known typed

pub returns-in-None-clause-typed : goal.returns-in-None-clause-typed
returns-in-None-clause-typed c = λ other at.
    let t = c.args.t.now in
    let r = c.in-Some.r.now in
    let known : slice_get t c.args.class.0 ≡ Some r = item_lent t c.args.class.0 c.in-Some.r c.in-Some.ensures in
    let typed : IsFirstUntyped t c.args.class r.methods None = rw c.as_slice.ensures at (rw c.in-None.is at c.in_ok-i.ensures) in
    let same : r ≡ other = same_Some r other (sym known ∙ at) in
    subst (λ (x : ClassRecord). AreTypedBefore t c.args.class (length x.methods)) same typed
