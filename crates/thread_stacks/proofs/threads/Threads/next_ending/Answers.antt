-- The next thread that ends is that of the next entry that does.
use Rattle.std.proofs.Common.{◌≡◌, ℕ, Contains, List, None, Some, Option, slice_get, subst, sym}
use Rattle.jk_model.specs.declared.identifiers.SegmentNo.{SegmentNo}
use Rattle.thread_stacks.specs.StackAnswers.{EndsWith, IsLeastAbove}
use Rattle.thread_stacks.specs.declared.entries.ThreadEntry.{ThreadEntry}
use Rattle.thread_stacks.specs.declared.slots.Slot.{Slot}
use Rattle.thread_stacks.specs.Stacks.{IsEntryWith, ThreadList, runs_only_in, NameBelows}
use Rattle.thread_stacks.proofs.EndingThreads.{least_ending, none_ends}
use Rattle.thread_stacks.proofs.EndingsListed.{least_listed}
use Rattle.thread_stacks.proofs.KeptLinks.{belows_by}
use Rattle.thread_stacks.proofs.OneFewerOfADomain.{nothing_of}
use Rattle.thread_stacks.proofs.threads.Threads.next_ending.Goals as goal

pub next_ending-requires-clause-belows : goal.next_ending-requires-clause-belows
next_ending-requires-clause-belows c =
    let P : List Slot → Type 0 = λ xs. NameBelows xs in
    subst P (sym c.as_slice-3.ensures.value) (belows_by c.self.inside.slots.items c.self.invariant.1.stacks)

pub returns-then-has_nothing : goal.returns-then-has_nothing
returns-then-has_nothing c =
    let t = c.self.inside in
    let N : List (Option SegmentNo) → Type 0 = λ xs. slice_get xs c.args.d.0 ≡ Some None in
    let nothing = subst N c.as_slice.ensures.value (c.has_nothing.ensures c.if-has_nothing.true) in
    let R : ThreadList → Type 0 = λ x. IsLeastAbove (EndsWith x.threads c.args.d) c.args.above None in
    subst R c.self.view_is
    (λ n ends.
    absurd (none_ends t.slots.items t.entries.items c.args.d c.self.invariant.1.tops
    (nothing_of t.slots.items t.newest.items c.args.d c.self.invariant.4 nothing) n ends))

-- where the threads were listed

pub returns-in-Some : goal.returns-in-Some
returns-in-Some c =
    let t = c.self.inside in
    let P : List ℕ → Type 0 = λ ns. IsLeastAbove (Contains ns) c.args.above (Some c.in-Some.number) in
    let R : ThreadList → Type 0 = λ x. IsLeastAbove (EndsWith x.threads c.args.d) c.args.above (Some c.in-Some.number) in
    subst R c.self.view_is
    (least_listed t.entries.items t.slots.items c.args.d t.listed.items c.args.above (Some c.in-Some.number) c.self.invariant.1.tops
    (c.self.invariant.5.endings c.args.d (c.is_for.ensures c.if-is_for.true)) (subst P c.as_slice-then-is_for.ensures.value c.in-Some.ensures))

pub returns-in-None : goal.returns-in-None
returns-in-None c =
    let t = c.self.inside in
    let P : List ℕ → Type 0 = λ ns. IsLeastAbove (Contains ns) c.args.above None in
    let R : ThreadList → Type 0 = λ x. IsLeastAbove (EndsWith x.threads c.args.d) c.args.above None in
    subst R c.self.view_is
    (least_listed t.entries.items t.slots.items c.args.d t.listed.items c.args.above None c.self.invariant.1.tops
    (c.self.invariant.5.endings c.args.d (c.is_for.ensures c.if-is_for.true)) (subst P c.as_slice-then-is_for.ensures.value c.in-None.ensures))

-- where they weren't

pub returns-in-Some-next_ending : goal.returns-in-Some-next_ending
returns-in-Some-next_ending c =
    let t = c.self.inside in
    let P : List ThreadEntry → Type 0 = λ xs. IsLeastAbove (IsEntryWith (runs_only_in c.as_slice-3.result.now c.args.d) xs) c.args.above
    (Some c.in-Some-next_ending.number) in
    let Q : List Slot → Type 0 = λ ys. IsLeastAbove (IsEntryWith (runs_only_in ys c.args.d) t.entries.items) c.args.above (Some c.in-Some-next_ending.number) in
    let R : ThreadList → Type 0 = λ x. IsLeastAbove (EndsWith x.threads c.args.d) c.args.above (Some c.in-Some-next_ending.number) in
    subst R c.self.view_is
    (least_ending t.slots.items t.entries.items c.args.d c.self.invariant.1.tops c.args.above (Some c.in-Some-next_ending.number)
    (subst Q c.as_slice-3.ensures.value (subst P c.as_slice-2.ensures.value c.in-Some-next_ending.ensures)))

pub returns-in-None-next_ending : goal.returns-in-None-next_ending
returns-in-None-next_ending c =
    let t = c.self.inside in
    let P : List ThreadEntry → Type 0 = λ xs. IsLeastAbove (IsEntryWith (runs_only_in c.as_slice-3.result.now c.args.d) xs) c.args.above None in
    let Q : List Slot → Type 0 = λ ys. IsLeastAbove (IsEntryWith (runs_only_in ys c.args.d) t.entries.items) c.args.above None in
    let R : ThreadList → Type 0 = λ x. IsLeastAbove (EndsWith x.threads c.args.d) c.args.above None in
    subst R c.self.view_is
    (least_ending t.slots.items t.entries.items c.args.d c.self.invariant.1.tops c.args.above None
    (subst Q c.as_slice-3.ensures.value (subst P c.as_slice-2.ensures.value c.in-None-next_ending.ensures)))
