-- The one entry of the thread's number is replaced.
use Rattle.std.proofs.Common.{◌≡◌, List, None, find, arith, refl, subst, sym}
use Rattle.std.proofs.lemmas.Bool.{eq-eqb, eqb-true}
use Rattle.list_lemmas.proofs.ItemsByPlace.{item_read}
use Rattle.thread_stacks.specs.declared.entries.ThreadEntry.{ThreadEntry}
use Rattle.thread_stacks.specs.Places.{AreRisingBy, IsOnlyAt, has_key}
use Rattle.thread_stacks.specs.Stacks.{thread_key}
use Rattle.thread_stacks.proofs.FoundInStacks.{none_fits, only_passes, only_within}
use Rattle.thread_stacks.proofs.entries.set_top.Goals as goal

pub place_of_thread-requires : goal.place_of_thread-requires
place_of_thread-requires c =
    let P : List ThreadEntry → Type 0 = λ es. AreRisingBy thread_key es in
    subst P (sym c.as_slice.ensures.value) c.requires.order

pub unreachable-requires : goal.unreachable-requires
unreachable-requires c =
    let P : List ThreadEntry → Type 0 = λ es. find (has_key thread_key c.args.t.0) es ≡ None in
    let none = subst P c.as_slice.ensures.value c.in-None.ensures in
    let e = c.requires.entered in
    let miss = none_fits (has_key thread_key c.args.t.0) c.args.entries.now.items e.place e.entry none e.there in
    let hit = eq-eqb e.entry.number c.args.t.0 e.number in cc

pub index_mut-entry-requires : goal.index_mut-entry-requires
index_mut-entry-requires c =
    let P : List ThreadEntry → Type 0 = λ es. IsOnlyAt (has_key thread_key c.args.t.0) es c.in-Some.place in
    let only = subst P c.as_slice.ensures.value c.in-Some.ensures in
    omega (arith, only_within (has_key thread_key c.args.t.0) c.args.entries.now.items c.in-Some.place only, c.args.entries.now.ok.0)

pub returns-clause-set : goal.returns-clause-set
returns-clause-set c =
    let P : List ThreadEntry → Type 0 = λ es. IsOnlyAt (has_key thread_key c.args.t.0) es c.in-Some.place in
    let es = c.args.entries.now.items in
    let only = subst P c.as_slice.ensures.value c.in-Some.ensures in
    let e = c.index_mut-entry.result.now in
    let at =
    item_read es c.in-Some.place e (only_within (has_key thread_key c.args.t.0) es c.in-Some.place only) c.index_mut-entry.ensures.value in
    record {
      number = eqb-true e.number c.args.t.0 (only_passes (has_key thread_key c.args.t.0) es c.in-Some.place e only at);
      sets = record { place = c.in-Some.place; there = at; becomes = refl };
    }
