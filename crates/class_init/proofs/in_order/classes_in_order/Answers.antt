-- The parts are sorted by the names that they have beside them.
use Rattle.std.proofs.Common.{◌≡◌, List, map, rules}
use Rattle.std.specs.Prelude.{IsPermutation}
use Rattle.std.specs.Ordering.{nat_cmp, is_lt}
use Rattle.std.specs.Cmp.Lexicographic.{slice_cmp}
use Rattle.std.proofs.lemmas.List.Sorted.{answers_always, IsPermutation-map}
use Rattle.jk_model_domains.specs.OwnStates.{own_class}
use Rattle.jk_model_domains.specs.declared.states.OwnClass.{OwnClass}
use Rattle.class_init.specs.declared.in_order.NamedPart.{NamedPart}
use Rattle.class_init.specs.InOrder.{AreByName, part_of_named}
use Rattle.class_init.specs.Parts.{class_part}
use Rattle.class_init.proofs.ListedInOrder.{by_name_sorted, named_permuted, names_rank, ok_then}
use Rattle.class_init.proofs.in_order.classes_in_order.Goals as goal

pub returns-clause-same : goal.returns-clause-same
returns-clause-same c =
    let xs = c.in_ok-named.named.items in
    let ys = c.sort_unstable_by.new.self.items in
    let moved = IsPermutation-map part_of_named xs ys c.sort_unstable_by.ensures.permutation in
    ok_then c.without_names.result (λ (list : List OwnClass). list ≡ map part_of_named ys)
    (λ (list : List OwnClass). IsPermutation (map own_class (map class_part c.args.parts.now)) list) c.without_names.ensures
    (λ list is. rw (is, ← c.in_ok-named.ensures.parts) moved)

pub returns-clause-sorted : goal.returns-clause-sorted
returns-clause-sorted c =
    let xs = c.in_ok-named.named.items in
    let ys = c.sort_unstable_by.new.self.items in
    let sorted = c.sort_unstable_by.ensures.sorted (λ (x y : NamedPart). is_lt (slice_cmp nat_cmp x.name y.name)) names_rank
    (answers_always _ _ _ (λ f a r g h. search rules)) in
    let named = named_permuted c.args.t.now xs ys c.sort_unstable_by.ensures.permutation c.in_ok-named.ensures.names in
    ok_then c.without_names.result (λ (list : List OwnClass). list ≡ map part_of_named ys) (λ (list : List OwnClass). AreByName c.args.t.now list)
    c.without_names.ensures (λ list is. rw is (by_name_sorted c.args.t.now ys named sorted))
