-- Each slot on the way is there, before the last one, and there is room for the thread of each; then all of the domain were looked at, and the
-- numbers are put in order.
use Rattle.std.proofs.Common.{◌<◌, Option, List, ℕ, sym, subst, ◌∙◌, arith}
use Rattle.std.proofs.lemmas.List.Sorted.{IsNonDecreasingBy-from_sort}
use Rattle.std.proofs.lemmas.Option.{slice_get_within}
use Rattle.jk_model.specs.declared.identifiers.SegmentNo.{SegmentNo}
use Rattle.thread_stacks.proofs.EndingsListed.{IsListing, StandsBefore, all_listed, found_before, listing_adds, listing_begins, listing_falls, listing_room, listing_skips, next_alone, not_before, place_within, stands_before_it}
use Rattle.thread_stacks.proofs.StacksWalked.{to_walk}
use Rattle.thread_stacks.proofs.endings.list_endings.Goals as goal

pub loop-next-init : goal.loop-next-init
loop-next-init c = record {
  listing =
      listing_begins c.args.entries.now c.args.slots.now c.args.d c.args.newest c.clear.new.self.items c.requires.newest c.clear.ensures.items;
  capacity = c.clear.ensures.capacity;
  within = omega arith;
  before = λ i x at is. slice_get_within c.args.slots.now i x at;
}

pub unreachable-requires : goal.unreachable-requires
unreachable-requires c =
    let P : Option SegmentNo → Type 0 = λ o. IsListing c.args.entries.now c.args.slots.now c.args.d o c.loop-next.listed.items in
    let l = subst P c.in-Some.is c.loop-next.invariant.listing in
    let B : Option SegmentNo → Type 0 = λ o. StandsBefore c.args.slots.now c.loop-next.end o in
    not_before c.args.entries.now c.args.slots.now c.args.d c.in-Some.s c.requires.segments c.loop-next.listed.items l c.loop-next.end
    (subst B c.in-Some.is c.loop-next.invariant.before) c.in-None.ensures

pub slot_at-slot-requires : goal.slot_at-slot-requires
slot_at-slot-requires c =
    place_within c.args.slots.now c.in-Some.s c.loop-next.end c.in-Some-place_before.place c.in-Some-place_before.ensures

pub is_lowest_of_ending-requires-clause-alone : goal.is_lowest_of_ending-requires-clause-alone
is_lowest_of_ending-requires-clause-alone c =
    let P : Option SegmentNo → Type 0 = λ o. IsListing c.args.entries.now c.args.slots.now c.args.d o c.loop-next.listed.items in
    let l = subst P c.in-Some.is c.loop-next.invariant.listing in
    let f = found_before c.args.slots.now c.in-Some.s c.requires.segments c.loop-next.end c.in-Some-place_before.place c.slot_at-slot.result
    c.in-Some-place_before.ensures c.slot_at-slot.ensures in
    next_alone c.args.entries.now c.args.slots.now c.args.d c.in-Some.s c.requires.segments c.loop-next.listed.items l c.slot_at-slot.result f.found
    c.requires.threads c.requires.links c.requires.homes

pub push_reserved-requires : goal.push_reserved-requires
push_reserved-requires c =
    let P : Option SegmentNo → Type 0 = λ o. IsListing c.args.entries.now c.args.slots.now c.args.d o c.loop-next.listed.items in
    let l = subst P c.in-Some.is c.loop-next.invariant.listing in
    let room = listing_room c.args.entries.now c.args.slots.now c.args.d c.in-Some.s c.requires.segments c.loop-next.listed.items l in
    omega (arith, room, c.requires.room, c.loop-next.invariant.capacity, c.loop-next.listed.ok.0)

pub loop-next-smaller-then-is_lowest_of_ending : goal.loop-next-smaller-then-is_lowest_of_ending
loop-next-smaller-then-is_lowest_of_ending c =
    let P : Option SegmentNo → Type 0 = λ o. IsListing c.args.entries.now c.args.slots.now c.args.d o c.loop-next.listed.items in
    let l = subst P c.in-Some.is c.loop-next.invariant.listing in
    let s = c.slot_at-slot.result in
    let f = found_before c.args.slots.now c.in-Some.s c.requires.segments c.loop-next.end c.in-Some-place_before.place s
    c.in-Some-place_before.ensures c.slot_at-slot.ensures in
    let Q : Option SegmentNo → Type 0 = λ o. to_walk s.older < to_walk o in
    subst Q (sym c.in-Some.is)
    (listing_falls c.args.entries.now c.args.slots.now c.args.d c.in-Some.s c.requires.segments c.loop-next.listed.items l s f.found
    c.args.newest c.requires.newest)

pub loop-next-preserved-then-is_lowest_of_ending : goal.loop-next-preserved-then-is_lowest_of_ending
loop-next-preserved-then-is_lowest_of_ending c =
    let P : Option SegmentNo → Type 0 = λ o. IsListing c.args.entries.now c.args.slots.now c.args.d o c.loop-next.listed.items in
    let l = subst P c.in-Some.is c.loop-next.invariant.listing in
    let s = c.slot_at-slot.result in
    let f = found_before c.args.slots.now c.in-Some.s c.requires.segments c.loop-next.end c.in-Some-place_before.place s
    c.in-Some-place_before.ensures c.slot_at-slot.ensures in
    let R : List ℕ → Type 0 = λ ns. IsListing c.args.entries.now c.args.slots.now c.args.d s.older ns in
    record {
      listing =
          subst R (sym c.push_reserved.ensures.items)
          (listing_adds c.args.entries.now c.args.slots.now c.args.d c.in-Some.s c.requires.segments c.loop-next.listed.items l s f.found
          c.args.newest c.requires.newest (sym c.is_lowest_of_ending.ensures ∙ c.if-is_lowest_of_ending.true));
      capacity = c.push_reserved.ensures.capacity ∙ c.loop-next.invariant.capacity;
      within =
          omega (
            arith,
            place_within c.args.slots.now c.in-Some.s c.loop-next.end c.in-Some-place_before.place c.in-Some-place_before.ensures,
          );
      before =
          stands_before_it c.args.slots.now c.in-Some.s c.requires.segments c.in-Some-place_before.place s c.slot_at-slot.ensures f.number
          (listing_falls c.args.entries.now c.args.slots.now c.args.d c.in-Some.s c.requires.segments c.loop-next.listed.items l s f.found
          c.args.newest c.requires.newest);
    }

pub loop-next-smaller : goal.loop-next-smaller
loop-next-smaller c =
    let P : Option SegmentNo → Type 0 = λ o. IsListing c.args.entries.now c.args.slots.now c.args.d o c.loop-next.listed.items in
    let l = subst P c.in-Some.is c.loop-next.invariant.listing in
    let s = c.slot_at-slot.result in
    let f = found_before c.args.slots.now c.in-Some.s c.requires.segments c.loop-next.end c.in-Some-place_before.place s
    c.in-Some-place_before.ensures c.slot_at-slot.ensures in
    let Q : Option SegmentNo → Type 0 = λ o. to_walk s.older < to_walk o in
    subst Q (sym c.in-Some.is)
    (listing_falls c.args.entries.now c.args.slots.now c.args.d c.in-Some.s c.requires.segments c.loop-next.listed.items l s f.found
    c.args.newest c.requires.newest)

pub loop-next-preserved : goal.loop-next-preserved
loop-next-preserved c =
    let P : Option SegmentNo → Type 0 = λ o. IsListing c.args.entries.now c.args.slots.now c.args.d o c.loop-next.listed.items in
    let l = subst P c.in-Some.is c.loop-next.invariant.listing in
    let s = c.slot_at-slot.result in
    let f = found_before c.args.slots.now c.in-Some.s c.requires.segments c.loop-next.end c.in-Some-place_before.place s
    c.in-Some-place_before.ensures c.slot_at-slot.ensures in
    record {
      listing =
          listing_skips c.args.entries.now c.args.slots.now c.args.d c.in-Some.s c.requires.segments c.loop-next.listed.items l s f.found
          c.args.newest c.requires.newest (sym c.is_lowest_of_ending.ensures ∙ c.if-is_lowest_of_ending.false);
      capacity = c.loop-next.invariant.capacity;
      within =
          omega (
            arith,
            place_within c.args.slots.now c.in-Some.s c.loop-next.end c.in-Some-place_before.place c.in-Some-place_before.ensures,
          );
      before =
          stands_before_it c.args.slots.now c.in-Some.s c.requires.segments c.in-Some-place_before.place s c.slot_at-slot.ensures f.number
          (listing_falls c.args.entries.now c.args.slots.now c.args.d c.in-Some.s c.requires.segments c.loop-next.listed.items l s f.found
          c.args.newest c.requires.newest);
    }

pub returns-clause-endings : goal.returns-clause-endings
returns-clause-endings c =
    let P : Option SegmentNo → Type 0 = λ o. IsListing c.args.entries.now c.args.slots.now c.args.d o c.loop-next.listed.items in
    let l = subst P c.in_default.is c.loop-next.invariant.listing in
    all_listed c.args.entries.now c.args.slots.now c.args.d c.requires.threads c.requires.links c.loop-next.listed.items c.sort_unstable.new.self.items l
    c.sort_unstable.ensures.permutation (IsNonDecreasingBy-from_sort (λ x. x) c.sort_unstable.new.self.items c.sort_unstable.ensures.sorted)
