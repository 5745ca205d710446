-- The top segment is that of the thread's entry.
use Rattle.std.proofs.Common.{◌≡◌, List, None, Some, find, subst, sym}
use Rattle.std.proofs.lemmas.Bool.{eqb-true}
use Rattle.thread_stacks.specs.declared.entries.ThreadEntry.{ThreadEntry}
use Rattle.thread_stacks.specs.Places.{AreRisingBy, has_key}
use Rattle.thread_stacks.specs.Stacks.{thread_key}
use Rattle.thread_stacks.proofs.FoundInStacks.{found_at, top_missing, top_told}
use Rattle.thread_stacks.proofs.threads.Threads.top.Goals as goal

pub entry_of-requires : goal.entry_of-requires
entry_of-requires c =
    let P : List ThreadEntry → Type 0 = λ xs. AreRisingBy thread_key xs in
    subst P (sym c.as_slice.ensures.value) c.self.invariant.0.threads

pub returns-in-Some : goal.returns-in-Some
returns-in-Some c =
    let es = c.self.inside.entries.items in
    let P : List ThreadEntry → Type 0 = λ xs. Some c.in-Some.entry ≡ find (has_key thread_key c.args.t.0) xs in
    let found = subst P c.as_slice.ensures.value c.in-Some.ensures in
    let f = found_at (has_key thread_key c.args.t.0) es c.in-Some.entry (sym found) in
    rw (← c.self.view_is)
    (sym (top_told c.self.inside.slots.items es c.args.t f.place c.in-Some.entry c.self.invariant.0.threads c.self.invariant.1.tops f.there
    (eqb-true c.in-Some.entry.number c.args.t.0 f.passes)))

pub returns-in-None : goal.returns-in-None
returns-in-None c =
    let es = c.self.inside.entries.items in
    let P : List ThreadEntry → Type 0 = λ xs. None ≡ find (has_key thread_key c.args.t.0) xs in
    let none = subst P c.as_slice.ensures.value c.in-None.ensures in
    rw (← c.self.view_is) (sym (top_missing c.self.inside.slots.items es c.args.t (sym none)))
