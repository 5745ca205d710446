-- One part after the other goes to the end of the list.
use Rattle.std.proofs.Common.{◌≡◌, ◌∙◌, ◌++◌, ◌∷◌, [], map, sym, refl, append_assoc, append-nil, arith, length}
use Rattle.std.proofs.lemmas.List.{nil_from_length}
use Rattle.class_init.specs.InOrder.{part_of_named}
use Rattle.class_init.proofs.in_order.without_names.Goals as goal

pub loop-entry-init : goal.loop-entry-init
loop-entry-init c = rw (c.new-list.ensures, c.into_iter-entry-iterator.ensures.into_iter_gives.0) refl

pub loop-entry-preserved : goal.loop-entry-preserved
loop-entry-preserved c =
    let rest = map part_of_named c.next.new.self.rest.items in
    rw c.in_ok-push.ensures.ok
    (append_assoc c.loop-entry.list (c.in-Some.entry.part ∷ []) rest ∙ (rw c.in-Some.ensures.steps.0 at c.loop-entry.invariant))

pub returns : goal.returns
returns c =
    let rest = c.loop-entry.entry-iterator.rest in
    let none : length rest.items ≡ 0 = omega (arith, rest.ok, c.in-None.ensures.steps.0) in
    let done : c.loop-entry.list ++ [] ≡ map part_of_named c.args.named.items = rw (nil_from_length rest.items none) at c.loop-entry.invariant in
    sym (append-nil c.loop-entry.list) ∙ done
