-- The first method whose typing would be too large has the least number.
use Rattle.std.proofs.Common.{◌≡◌, ◌+◌, ℕ, Some, slice_get, sym, subst, arith}
use Rattle.jk_model_typing.specs.Typing.{BreaksC24}
use Rattle.link_rules.specs.FinalMethods.{IsFirstPlace}
use Rattle.link_rules.specs.LinkFaults.{IsLeastNumber}
use Rattle.list_lemmas.proofs.ItemsByPlace.{item_lent}
use Rattle.placed_rules.specs.Codes.{AtMember, IsOver}
use Rattle.placed_rules.specs.PlacedFaults.{class_at}
use Rattle.placed_rules.proofs.MethodsOfClass.{method_over, short_number}
use Rattle.placed_rules.proofs.sizes.CodeSizesClassRule.least_number.Goals as goal

pub overflow_add-result : goal.overflow_add-result
overflow_add-result c =
    let t = c.args.self.now.t.now in
    let class = class_at c.args.self.now.first c.args.place in
    let r = c.in_ok-class.class.now in
    let known : slice_get t class.0 ≡ Some r = item_lent t class.0 c.in_ok-class.class c.in_ok-class.ensures in
    let over : IsFirstPlace IsOver r.methods (Some c.in_ok-i.i) = rw c.as_slice.ensures at c.in_ok-i.ensures in
    let short = short_number r c.in_ok-i.i over.0.0 (c.ordered.ensures.members class r known) over.0.1 in
    omega (arith, short, c.len.ensures)

pub overflow_add-result-2 : goal.overflow_add-result-2
overflow_add-result-2 c =
    let t = c.args.self.now.t.now in
    let class = class_at c.args.self.now.first c.args.place in
    let r = c.in_ok-class.class.now in
    let known : slice_get t class.0 ≡ Some r = item_lent t class.0 c.in_ok-class.class c.in_ok-class.ensures in
    let over : IsFirstPlace IsOver r.methods (Some c.in_ok-i.i) = rw c.as_slice.ensures at c.in_ok-i.ensures in
    let short = short_number r c.in_ok-i.i over.0.0 (c.ordered.ensures.members class r known) over.0.1 in
    omega (arith, short, c.len.ensures)

pub overflow_cast-result : goal.overflow_cast-result
overflow_cast-result c =
    let t = c.args.self.now.t.now in
    let class = class_at c.args.self.now.first c.args.place in
    let r = c.in_ok-class.class.now in
    let known : slice_get t class.0 ≡ Some r = item_lent t class.0 c.in_ok-class.class c.in_ok-class.ensures in
    let over : IsFirstPlace IsOver r.methods (Some c.in_ok-i.i) = rw c.as_slice.ensures at c.in_ok-i.ensures in
    let short = short_number r c.in_ok-i.i over.0.0 (c.ordered.ensures.members class r known) over.0.1 in
    omega (arith, short, c.len.ensures)

pub returns : goal.returns
returns c =
    let t = c.args.self.now.t.now in
    let class = class_at c.args.self.now.first c.args.place in
    let r = c.in_ok-class.class.now in
    let known : slice_get t class.0 ≡ Some r = item_lent t class.0 c.in_ok-class.class c.in_ok-class.ensures in
    let over : IsFirstPlace IsOver r.methods (Some c.in_ok-i.i) = rw c.as_slice.ensures at c.in_ok-i.ensures in
    subst (λ (n : ℕ). IsLeastNumber (AtMember (BreaksC24 t class)) (Some (n + c.in_ok-i.i + 1))) (sym c.len.ensures)
    (method_over t class r known c.in_ok-i.i over)
