-- Each live segment names the one below it, and each thread its top one: also after a segment is pushed or taken off, after a flag is changed,
-- and after marks are dropped.
use Rattle.std.proofs.Common.{◌≡◌, ◌≢◌, ℕ, suc, ◌<◌, ◌⊎◌, inl, inr, true, false, List, [], ◌∷◌, ◌++◌, length, set, take, drop, filter, refl, sym, ◌∙◌, ap, arith, Some, slice_get, subst, None}
use Rattle.std.proofs.lemmas.Bool.{cases_Bool}
use Rattle.std.proofs.lemmas.Option.{slice_get_within}
use Rattle.list_lemmas.proofs.ItemsByPlace.{old_or_last}
use Rattle.thread_stacks.specs.declared.entries.ThreadEntry.{ThreadEntry}
use Rattle.thread_stacks.specs.declared.slots.Slot.{Slot}
use Rattle.thread_stacks.specs.Places.{AreRisingBy}
use Rattle.thread_stacks.specs.Stacks.{AreChained, AreInOrder, NameBelows, NameTops, above_in, below_in, last_or, thread_in, is_running, slots_on, stands_on, thread_key, top_on}
use Rattle.thread_stacks.proofs.Chains.{last_or_top, names_before}
use Rattle.thread_stacks.proofs.KeptChains.{Chains}
use Rattle.thread_stacks.proofs.Filtered.{filter_hit, filter_parted, all_fail, stood_at}
use Rattle.thread_stacks.proofs.StandsOnThreads.{rising_differ, stands_after, stands_elsewhere, stands_from, stands_nowhere, stands_parts}

-- ---- The segments below.

-- each names the one below it, whatever stands above
pub belows_by : (slots : List Slot) → Chains stands_on thread_in below_in above_in stands_parts stands_from slots → NameBelows slots
belows_by slots h i s at live =
    let parted : slots_on s.thread slots ≡ slots_on s.thread (take i slots) ++ s ∷ slots_on s.thread (drop (suc i) slots) =
    filter_parted (stands_on s.thread) slots i s at
    ∙ ap (λ (ws : List Slot). slots_on s.thread (take i slots) ++ ws)
    (filter_hit (stands_on s.thread) s (drop (suc i) slots) (stands_from s.thread s live refl)) in
    let whole = subst (λ (ws : List Slot). AreChained below_in above_in None ws None) parted (h s.thread) in
    (names_before below_in above_in (slots_on s.thread (take i slots)) s (slots_on s.thread (drop (suc i) slots)) whole).0
    ∙ last_or_top (slots_on s.thread (take i slots))

pub top_is : (u : ℕ) (slots : List Slot) → top_on u slots ≡ last_or None (slots_on u slots)
top_is u slots = sym (last_or_top (slots_on u slots))

-- ---- The top segments.

-- Another segment is on top of a thread, and nothing changes on others.
pub tops_set : (slots more : List Slot) (es : List ThreadEntry) (i : ℕ) (e new : ThreadEntry) → AreRisingBy thread_key es → NameTops slots es
    → slice_get es i ≡ Some e → new.number ≡ e.number → new.top ≡ top_on e.number more
    → ((t : ℕ) → t ≢ e.number → top_on t more ≡ top_on t slots) → NameTops more (set es i new)
tops_set slots more es i e new rising h at number top others j a there =
    by_place (stands_after es i j new a there (slice_get_within es i e at))
  where
    by_place : ((i ≡ j) × (new ≡ a)) ⊎ ((i ≢ j) × (slice_get es j ≡ Some a)) → a.top ≡ top_on a.number more
    by_place (inl here) =
        ap (λ (x : ThreadEntry). x.top) (sym here.1) ∙ top
        ∙ ap (λ (t : ℕ). top_on t more) (sym number ∙ ap thread_key here.1)
    by_place (inr old) =
        h j a old.1 ∙ sym (others a.number (λ same. rising_differ thread_key es i j e a rising at old.1 old.0 (sym same)))

-- One more thread, and nothing changes on others.
pub tops_more : (slots more : List Slot) (es : List ThreadEntry) (new : ThreadEntry) → NameTops slots es → new.top ≡ top_on new.number more
    → ((i : ℕ) (e : ThreadEntry) → slice_get es i ≡ Some e → top_on e.number more ≡ top_on e.number slots) → NameTops more (es ++ new ∷ [])
tops_more slots more es new h top others j a there = by_place (old_or_last es new j a there)
  where
    by_place : ((j < length es) × (slice_get es j ≡ Some a)) ⊎ ((j ≡ length es) × (a ≡ new)) → a.top ≡ top_on a.number more
    by_place (inl old) = h j a old.1 ∙ sym (others j a old.1)
    by_place (inr last) =
        ap (λ (x : ThreadEntry). x.top) last.1 ∙ top ∙ ap (λ (x : ThreadEntry). top_on x.number more) (sym last.1)

-- Nothing changes on any thread.
pub tops_same : (slots more : List Slot) (es : List ThreadEntry) → NameTops slots es → ((t : ℕ) → top_on t more ≡ top_on t slots) → NameTops more es
tops_same slots more es h same i e at = h i e at ∙ sym (same e.number)

pub tops_left : (slots : List Slot) (es : List ThreadEntry) → NameTops slots es → NameTops slots (filter is_running es)
tops_left slots es h i e at = let stood = stood_at is_running es i e at in h stood.place e stood.there

-- ---- Threads of which nothing is there.

-- a number that no thread has yet
pub nothing_on : (slots : List Slot) (es : List ThreadEntry) (thread segment : ℕ) → AreInOrder slots es thread segment → slots_on thread slots ≡ []
nothing_on slots es thread segment h = all_fail (stands_on thread) slots (λ k s at. by_life k s at (cases_Bool s.live))
  where
    by_life : (k : ℕ) (s : Slot) → slice_get slots k ≡ Some s → (s.live ≡ true) ⊎ (s.live ≡ false) → stands_on thread s ≡ false
    by_life k s at (inl live) =
        let home = h.homes k s at live in
        let before = h.threads_before home.place home.entry home.there in
        stands_elsewhere thread s (λ same. omega (arith, before, home.number, same))
    by_life k s at (inr dead) = stands_nowhere thread s dead
