-- There is memory for as many as segments live.
use Rattle.std.proofs.Common.{◌≤◌, List, length, subst, sym, vec_capacity}
use Rattle.thread_stacks.specs.declared.entries.ThreadEntry.{ThreadEntry}
use Rattle.thread_stacks.specs.declared.slots.Slot.{Slot}
use Rattle.thread_stacks.specs.ListedEndings.{HaveEntries}
use Rattle.thread_stacks.specs.Stacks.{NameBelows, owned_by}
use Rattle.thread_stacks.proofs.EndingsListed.{owned_room}
use Rattle.thread_stacks.proofs.KeptLinks.{belows_by}
use Rattle.thread_stacks.proofs.threads.Threads.list_endings.Goals as goal

pub list_endings-requires-clause-belows : goal.list_endings-requires-clause-belows
list_endings-requires-clause-belows c =
    let P : List Slot → Type 0 = λ xs. NameBelows xs in
    subst P (sym c.as_slice-3.ensures.value) (belows_by c.self.inside.slots.items c.self.invariant.1.stacks)

pub list_endings-requires-clause-room : goal.list_endings-requires-clause-room
list_endings-requires-clause-room c =
    let t = c.self.inside in
    let P : List Slot → Type 0 = λ xs. length (owned_by c.args.d.0 xs) ≤ vec_capacity t.listed in
    subst P (sym c.as_slice-3.ensures.value)
    (owned_room c.args.d.0 t.slots.items t.live_segments t.most_segments _ _ c.self.invariant.3 c.self.invariant.5.room)

pub list_endings-requires-clause-homes : goal.list_endings-requires-clause-homes
list_endings-requires-clause-homes c =
    let P : List Slot → Type 0 = λ xs. HaveEntries xs c.as_slice-2.result.now in
    let Q : List ThreadEntry → Type 0 = λ es. HaveEntries c.self.inside.slots.items es in
    subst P (sym c.as_slice-3.ensures.value) (subst Q (sym c.as_slice-2.ensures.value) c.self.invariant.0.homes)
