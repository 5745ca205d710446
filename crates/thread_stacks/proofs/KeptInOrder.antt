-- Entries and slots stay in order: after one is replaced but for its number and thread, with one more of the next number, and after marks are
-- dropped.
use Rattle.std.proofs.Common.{◌≡◌, ℕ, zero, suc, ◌+◌, ◌<◌, ◌⊎◌, inl, inr, Bool, true, List, [], ◌∷◌, ◌++◌, length, set, filter, refl, sym, ◌∙◌, ap, subst, arith, Some, slice_get, map}
use Rattle.std.proofs.lemmas.Bool.{cases_Bool, cases_eq}
use Rattle.std.proofs.lemmas.Option.{same_Some, slice_get_within}
use Rattle.list_lemmas.proofs.ItemsByPlace.{old_or_last, slice_get-last, slice_get-longer, slice_get-set_cases, slice_get-set_other, slice_get-set_same, comes_from}
use Rattle.thread_stacks.specs.declared.entries.ThreadEntry.{ThreadEntry}
use Rattle.thread_stacks.specs.declared.slots.Slot.{Slot}
use Rattle.thread_stacks.specs.Places.{AreRisingBy}
use Rattle.thread_stacks.specs.Stacks.{AreInOrder, IsEntered, is_live, slot_key, thread_key}
use Rattle.thread_stacks.proofs.Filtered.{stood_at}
use Rattle.thread_stacks.proofs.ItemsByKey.{rising_push, rising_set}

-- ---- One key.

module _ {X : Type 0} (key : X → ℕ) where
  abbrev pub AreBefore : List X → ℕ → Type 0
  AreBefore xs n = (i : ℕ) (x : X) → slice_get xs i ≡ Some x → key x < n

  before_set : (n : ℕ) (xs : List X) (i : ℕ) (x new : X) → AreBefore xs n → slice_get xs i ≡ Some x → key new ≡ key x → AreBefore (set xs i new) n
  before_set n xs i x new h at same j y there = elim (slice_get-set_cases xs i j new y there) [
    | inl here ↦ omega (arith, h i x at, same, ap key here.1)
    | inr old ↦ h j y old
  ]

  before_push : (n m : ℕ) (xs : List X) (new : X) → AreBefore xs n → key new ≡ n → m ≡ n + 1 → AreBefore (xs ++ new ∷ []) m
  before_push n m xs new h next more j y at = elim (old_or_last xs new j y at) [
    | inl old ↦ omega (arith, h j y old.1, more)
    | inr last ↦ omega (arith, ap key last.1, next, more)
  ]

  -- an item in front of others that rise, and that are above it
  rising_front : (x : X) (xs : List X) → AreRisingBy key xs → ((j : ℕ) (b : X) → slice_get xs j ≡ Some b → key x < key b)
      → AreRisingBy key (x ∷ xs)
  rising_front x xs rest first i zero a b at_i at_j low = absurd (omega arith)
  rising_front x xs rest first zero (suc j) a b at_i at_j low =
      let here : key x ≡ key a = ap key (same_Some x a at_i) in omega (arith, first j b at_j, here)
  rising_front x xs rest first (suc i) (suc j) a b at_i at_j low = rest i j a b at_i at_j (omega arith)

  pub rising_filter : (p : X → Bool) (xs : List X) → AreRisingBy key xs → AreRisingBy key (filter p xs)
  rising_filter p [] h = h
  rising_filter p (x ∷ xs) h =
      let rest : AreRisingBy key (filter p xs) =
      rising_filter p xs (λ i j a b at_i at_j low. h (suc i) (suc j) a b at_i at_j (omega arith)) in
      let first : (j : ℕ) (b : X) → slice_get (filter p xs) j ≡ Some b → key x < key b =
      λ j b at. let stood = stood_at p xs j b at in h zero (suc stood.place) x b refl stood.there (omega arith) in
      elim (cases_Bool (p x)) [
        | inl hit ↦ rw hit (rising_front x (filter p xs) rest first)
        | inr miss ↦ rw miss rest
      ]

  before_filter : (p : X → Bool) (n : ℕ) (xs : List X) → AreBefore xs n → AreBefore (filter p xs) n
  before_filter p n xs h j y at = let stood = stood_at p xs j y at in h stood.place y stood.there

-- ---- Entries.

pub entered_set : (es : List ThreadEntry) (t i : ℕ) (e new : ThreadEntry) → IsEntered es t → slice_get es i ≡ Some e → new.number ≡ e.number
    → IsEntered (set es i new) t
entered_set es t i e new h at same = elim (cases_eq i h.place) [
  | inl here ↦
      let is : e ≡ h.entry = same_Some e h.entry (sym at ∙ ap (slice_get es) here ∙ h.there) in
      record {
        place = i;
        entry = new;
        there = slice_get-set_same es i new (slice_get_within es i e at);
        number = same ∙ ap thread_key is ∙ h.number;
      }
  | inr other ↦
      record { place = h.place; entry = h.entry; there = slice_get-set_other es i h.place new other ∙ h.there; number = h.number }
]

pub entered_more : (es : List ThreadEntry) (t : ℕ) (new : ThreadEntry) → IsEntered es t → IsEntered (es ++ new ∷ []) t
entered_more es t new h =
    record { place = h.place; entry = h.entry; there = slice_get-longer es (new ∷ []) h.place h.entry h.there; number = h.number }

pub entered_last : (es : List ThreadEntry) (new : ThreadEntry) → IsEntered (es ++ new ∷ []) new.number
entered_last es new = record { place = length es; entry = new; there = slice_get-last es new; number = refl }

-- ---- All.

module _ (slots : List Slot) (es : List ThreadEntry) (thread segment : ℕ) (h : AreInOrder slots es thread segment) where
  -- a slot is replaced
  pub order_slot : (k : ℕ) (x new : Slot) → slice_get slots k ≡ Some x → new.number ≡ x.number → new.thread ≡ x.thread
      → (new.live ≡ true → x.live ≡ true) → AreInOrder (set slots k new) es thread segment
  order_slot k x new at number home live = record {
    threads = h.threads;
    threads_before = h.threads_before;
    segments = rising_set slot_key slots k x new h.segments at number;
    segments_before = before_set slot_key segment slots k x new h.segments_before at number;
    homes = λ j s there is. home_at j s is (slice_get-set_cases slots k j new s there);
  }
    where
      home_at : (j : ℕ) (s : Slot) → s.live ≡ true → ((k ≡ j) × (new ≡ s)) ⊎ (slice_get slots j ≡ Some s) → IsEntered es s.thread
      home_at j s is (inl here) =
          let same : x.thread ≡ s.thread = sym home ∙ ap (λ (y : Slot). y.thread) here.1 in
          subst (λ (t : ℕ). IsEntered es t) same (h.homes k x at (live (ap (λ (y : Slot). y.live) here.1 ∙ is)))
      home_at j s is (inr old) = h.homes j s old is

  -- an entry is replaced
  pub order_entry : (i : ℕ) (e new : ThreadEntry) → slice_get es i ≡ Some e → new.number ≡ e.number → AreInOrder slots (set es i new) thread segment
  order_entry i e new at number = record {
    threads = rising_set thread_key es i e new h.threads at number;
    threads_before = before_set thread_key thread es i e new h.threads_before at number;
    segments = h.segments;
    segments_before = h.segments_before;
    homes = λ j s there live. entered_set es s.thread i e new (h.homes j s there live) at number;
  }

  -- one more slot
  pub order_slot_more : (new : Slot) (m : ℕ) → new.number ≡ segment → m ≡ segment + 1 → IsEntered es new.thread
      → AreInOrder (slots ++ new ∷ []) es thread m
  order_slot_more new m number more home = record {
    threads = h.threads;
    threads_before = h.threads_before;
    segments = rising_push slot_key slots new h.segments (λ i x at. omega (arith, h.segments_before i x at, number));
    segments_before = before_push slot_key segment m slots new h.segments_before number more;
    homes = λ j s there live. home_at j s live (old_or_last slots new j s there);
  }
    where
      home_at : (j : ℕ) (s : Slot) → s.live ≡ true → ((j < length slots) × (slice_get slots j ≡ Some s)) ⊎ ((j ≡ length slots) × (s ≡ new))
          → IsEntered es s.thread
      home_at j s live (inl old) = h.homes j s old.1 live
      home_at j s live (inr last) = subst (λ (y : Slot). IsEntered es y.thread) (sym last.1) home

  -- one more entry
  pub order_entry_more : (new : ThreadEntry) (m : ℕ) → new.number ≡ thread → m ≡ thread + 1 → AreInOrder slots (es ++ new ∷ []) m segment
  order_entry_more new m number more = record {
    threads = rising_push thread_key es new h.threads (λ i x at. omega (arith, h.threads_before i x at, number));
    threads_before = before_push thread_key thread m es new h.threads_before number more;
    segments = h.segments;
    segments_before = h.segments_before;
    homes = λ j s there live. entered_more es s.thread new (h.homes j s there live);
  }

  -- marks of segments are dropped
  pub order_slots_left : AreInOrder (filter is_live slots) es thread segment
  order_slots_left = record {
    threads = h.threads;
    threads_before = h.threads_before;
    segments = rising_filter slot_key is_live slots h.segments;
    segments_before = before_filter slot_key is_live segment slots h.segments_before;
    homes = λ j s there live. let stood = stood_at is_live slots j s there in h.homes stood.place s stood.there live;
  }

  -- marks of threads are dropped, where each live segment's thread stays
  pub order_entries_left : (p : ThreadEntry → Bool)
      → ((j : ℕ) (s : Slot) → slice_get slots j ≡ Some s → s.live ≡ true → IsEntered (filter p es) s.thread)
      → AreInOrder slots (filter p es) thread segment
  order_entries_left p homes = record {
    threads = rising_filter thread_key p es h.threads;
    threads_before = before_filter thread_key p thread es h.threads_before;
    segments = h.segments;
    segments_before = h.segments_before;
    homes = homes;
  }

pub rising_mapped : (g : Slot → Slot) → ((x : Slot) → (g x).number ≡ x.number) → (slots : List Slot) → AreRisingBy slot_key slots
    → AreRisingBy slot_key (map g slots)
rising_mapped g same slots h i j a b at_i at_j low =
    let c = comes_from g slots i a at_i in
    let e = comes_from g slots j b at_j in
    omega (arith, h i j c.from e.from c.there e.there low, same c.from, same e.from, ap slot_key c.gives, ap slot_key e.gives)

-- slots are changed, but for their numbers and threads, and whether they are live
pub order_mapped : (g : Slot → Slot) → ((x : Slot) → ((g x).number ≡ x.number) × ((g x).thread ≡ x.thread) × ((g x).live ≡ x.live)) → (slots : List Slot)
    (es : List ThreadEntry) (thread segment : ℕ) → AreInOrder slots es thread segment → AreInOrder (map g slots) es thread segment
order_mapped g same slots es thread segment h = record {
  threads = h.threads;
  threads_before = h.threads_before;
  segments = rising_mapped g (λ x. (same x).0) slots h.segments;
  segments_before =
      λ i s at.
      let c = comes_from g slots i s at in
      omega (arith, h.segments_before i c.from c.there, (same c.from).0, ap slot_key c.gives);
  homes =
      λ i s at live.
      let c = comes_from g slots i s at in
      let was : c.from.live ≡ true = sym (same c.from).2 ∙ ap is_live c.gives ∙ live in
      let home : c.from.thread ≡ s.thread = sym (same c.from).1 ∙ ap (λ (x : Slot). x.thread) c.gives in
      subst (λ (t : ℕ). IsEntered es t) home (h.homes i c.from c.there was);
}
