-- What is kept of the walk is put in the order of its numbers.
use Rattle.std.proofs.Common.{◌≡◌, rules, subst, sym, ◌∙◌, ℕ, List}
use Rattle.std.specs.List.Sorted.{IsNonDecreasingBy}
use Rattle.std.proofs.lemmas.List.Sorted.{IsNonDecreasingBy-from_sort_by_key}
use Rattle.std.proofs.lemmas.Result.{IfOk-weaker}
use Rattle.jk_model.specs.declared.identifiers.ClassId.{ClassId}
use Rattle.stub_maker.specs.Kept.{IsInOrder, IsShown}
use Rattle.stub_maker.proofs.stubs.shown_in_order.Goals as goal

pub returns : goal.returns
returns c =
    let number : ClassId → ℕ = λ d. d.0 in
    let made : List ClassId → Type 0 = IsInOrder (IsShown c.args.t.now c.args.remote) c.args.walk.now in
    let in_order : IsNonDecreasingBy number c.sort_unstable_by_key.new.self.items =
    IsNonDecreasingBy-from_sort_by_key number _ c.sort_unstable_by_key.ensures.sorted (λ a r q k. search rules) in
    let sorted : made c.sort_unstable_by_key.new.self.items =
    record {
      kept = c.in_ok-shown.shown.items;
      of_classes = c.in_ok-shown.ensures;
      moved = c.sort_unstable_by_key.ensures.permutation;
      in_order = in_order;
    } in
    IfOk-weaker c.from_slice.result (λ (list : List ClassId). list ≡ c.as_slice.result.now) made
    (λ list e. subst made (sym (e ∙ c.as_slice.ensures.value)) sorted) c.from_slice.ensures
