-- The segment below is named by the slot.
use Rattle.std.proofs.Common.{◌≡◌, ◌∙◌, List, None, arith, find, subst, sym}
use Rattle.list_lemmas.proofs.ItemsByPlace.{item_read}
use Rattle.thread_stacks.specs.declared.slots.Slot.{Slot}
use Rattle.thread_stacks.specs.Places.{AreRisingBy, IsOnlyAt, has_key}
use Rattle.thread_stacks.specs.Stacks.{slot_key}
use Rattle.thread_stacks.proofs.FoundInStacks.{only_found, only_within}
use Rattle.thread_stacks.proofs.ToldOfSegments.{below_says, below_unknown}
use Rattle.thread_stacks.proofs.threads.Threads.below.Goals as goal

pub place_of_segment-requires : goal.place_of_segment-requires
place_of_segment-requires c =
    let P : List Slot → Type 0 = λ xs. AreRisingBy slot_key xs in
    subst P (sym c.as_slice.ensures.value) c.self.invariant.0.segments

pub index-requires : goal.index-requires
index-requires c =
    let P : List Slot → Type 0 = λ xs. IsOnlyAt (has_key slot_key c.args.s.0) xs c.in-Some.place in
    let only = subst P c.as_slice.ensures.value c.in-Some.ensures in
    omega (arith, only_within (has_key slot_key c.args.s.0) c.self.inside.slots.items c.in-Some.place only, c.self.inside.slots.ok.0)

pub returns-in-Some : goal.returns-in-Some
returns-in-Some c =
    let t = c.self.inside in
    let P : List Slot → Type 0 = λ xs. IsOnlyAt (has_key slot_key c.args.s.0) xs c.in-Some.place in
    let only = subst P c.as_slice.ensures.value c.in-Some.ensures in
    let s = c.index.result.now in
    let at =
    item_read t.slots.items c.in-Some.place s (only_within (has_key slot_key c.args.s.0) t.slots.items c.in-Some.place only) c.index.ensures in
    let found = only_found (has_key slot_key c.args.s.0) t.slots.items c.in-Some.place s only at in
    rw (← c.self.view_is)
    (c.below_of.ensures
    ∙ below_says t.slots.items t.entries.items t.next_thread t.next_segment c.self.invariant.0 c.self.invariant.1 c.args.s s found)

pub returns-in-None : goal.returns-in-None
returns-in-None c =
    let t = c.self.inside in
    let P : List Slot → Type 0 = λ xs. find (has_key slot_key c.args.s.0) xs ≡ None in
    let none = subst P c.as_slice.ensures.value c.in-None.ensures in
    rw (← c.self.view_is)
    (below_unknown t.slots.items t.entries.items t.next_thread t.next_segment c.self.invariant.0 c.self.invariant.1 c.args.s none)
