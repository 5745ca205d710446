-- The images are sorted, and one after the other goes to the end of the list.
use Rattle.std.proofs.Common.{◌≡◌, ◌∙◌, ◌++◌, ◌∷◌, [], sym, refl, append_assoc, append-nil, arith, length, rules}
use Rattle.std.specs.Ordering.{nat_cmp, is_lt}
use Rattle.std.specs.Cmp.Lexicographic.{slice_cmp}
use Rattle.std.proofs.lemmas.List.{nil_from_length}
use Rattle.std.proofs.lemmas.List.Sorted.{answers_always}
use Rattle.jk_model_domains.specs.declared.states.LiteralImage.{LiteralImage}
use Rattle.class_init.proofs.ListedInOrder.{texts_rank}
use Rattle.class_init.proofs.in_order.literals_in_order.Goals as goal

pub loop-image-init : goal.loop-image-init
loop-image-init c = rw c.new-list.ensures refl

pub loop-image-preserved : goal.loop-image-preserved
loop-image-preserved c =
    rw c.in_ok-push.ensures.ok
    (append_assoc c.loop-image.list (c.in-Some.image ∷ []) c.next.new.self.rest.items ∙ (rw c.in-Some.ensures.steps.0 at c.loop-image.invariant))

pub returns-clause-same : goal.returns-clause-same
returns-clause-same c =
    let rest = c.loop-image.image-iterator.rest in
    let none : length rest.items ≡ 0 = omega (arith, rest.ok, c.in-None.ensures.steps.0) in
    let done : c.loop-image.list ++ [] ≡ c.into_iter-image-iterator.result.rest.items = rw (nil_from_length rest.items none) at c.loop-image.invariant in
    let is : c.loop-image.list ≡ c.sort_unstable_by.new.self.items =
    sym (append-nil c.loop-image.list) ∙ done ∙ c.into_iter-image-iterator.ensures.into_iter_gives.0 in
    rw is c.sort_unstable_by.ensures.permutation

pub returns-clause-sorted : goal.returns-clause-sorted
returns-clause-sorted c =
    let rest = c.loop-image.image-iterator.rest in
    let none : length rest.items ≡ 0 = omega (arith, rest.ok, c.in-None.ensures.steps.0) in
    let done : c.loop-image.list ++ [] ≡ c.into_iter-image-iterator.result.rest.items = rw (nil_from_length rest.items none) at c.loop-image.invariant in
    let is : c.loop-image.list ≡ c.sort_unstable_by.new.self.items =
    sym (append-nil c.loop-image.list) ∙ done ∙ c.into_iter-image-iterator.ensures.into_iter_gives.0 in
    let sorted = c.sort_unstable_by.ensures.sorted (λ (x y : LiteralImage). is_lt (slice_cmp nat_cmp x.text y.text)) texts_rank
    (answers_always _ _ _ (λ f a r g h. search rules)) in
    rw is sorted
