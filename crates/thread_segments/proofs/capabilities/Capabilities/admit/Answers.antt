-- One more range, and a class for each of its numbers.
use Rattle.std.proofs.Common.{◌≡◌, ◌+◌, ◌≤◌, None, find, inl, inr, subst, sym}
use Rattle.std.proofs.lemmas.Bool.{cases_lt}
use Rattle.std.specs.Prelude.{◌==◌, List}
use Rattle.jk_model.specs.Capabilities.{last_number, numbers}
use Rattle.jk_model_heaps.specs.Capabilities.{CapRange}
use Rattle.thread_segments.proofs.RangesWithClasses.{classed_admitted, none_of, ranges_with-admitted}
use Rattle.thread_segments.proofs.capabilities.Capabilities.admit.Goals as goal

pub admit-requires : goal.admit-requires
admit-requires c =
    let s = c.self.inside in
    let P : List CapRange → Type 0 = λ rs. find (λ (r : CapRange). r.owner.0 == c.args.owner.0) rs ≡ None in
    none_of s.classes.items c.args.owner s.table (subst P (sym c.self.view_is) c.requires.new)

pub invariant_of-self-2 : goal.invariant_of-self-2
invariant_of-self-2 c =
    let s = c.self.inside in
    let P : List CapRange → Type 0 = λ rs. find (λ (r : CapRange). r.owner.0 == c.args.owner.0) rs ≡ None in
    let few : numbers s.table + c.args.count ≤ last_number =
    elim (cases_lt last_number (numbers s.table + c.args.count)) [
      | inl more ↦ absurd (let never = c.in_ok-admit.ensures.only_numbers more in cc)
      | inr within ↦ within
    ] in
    rw (c.fill.ensures, c.in_ok-reserve.ensures.same, c.in_ok-admit.ensures.ok)
    (classed_admitted s.classes.items s.table c.args.owner c.args.count c.self.invariant few
    (none_of s.classes.items c.args.owner s.table (subst P (sym c.self.view_is) c.requires.new)))

pub returns-clause-ok : goal.returns-clause-ok
returns-clause-ok c =
    let s = c.self.inside in
    rw (← c.self.view_is, c.fill.ensures, c.in_ok-reserve.ensures.same, c.in_ok-admit.ensures.ok)
    (ranges_with-admitted s.classes.items s.table c.args.owner c.args.count c.self.invariant)
