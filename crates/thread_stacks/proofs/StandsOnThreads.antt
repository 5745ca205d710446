-- What stands on each thread after a slot was added or replaced, and after marks were dropped.
use Rattle.std.proofs.Common.{◌≡◌, ◌≢◌, ℕ, suc, ◌<◌, ◌⊎◌, inl, inr, true, false, List, [], ◌∷◌, ◌++◌, length, set, take, drop, map, filter, sym, ◌∙◌, ap, arith, Some, slice_get}
use Rattle.std.specs.Prelude.{◌==◌}
use Rattle.std.proofs.lemmas.Bool.{and_from, and_left, and_parts, and_right, cases_eq, cases_lt, eq-eqb, eqb-true, ne_eqb}
use Rattle.std.proofs.lemmas.List.{append-nil, map_push}
use Rattle.std.proofs.lemmas.List.Elements.{filter-append}
use Rattle.std.proofs.lemmas.Option.{same_Some}
use Rattle.jk_model.specs.declared.identifiers.SegmentNo.{SegmentNo}
use Rattle.jk_model_sharing.specs.Segments.{SharedSegment, top_of, without_top}
use Rattle.list_lemmas.proofs.ItemsByPlace.{slice_get-set_other, slice_get-set_same}
use Rattle.thread_stacks.specs.declared.slots.Slot.{Slot}
use Rattle.thread_stacks.specs.Places.{AreRisingBy}
use Rattle.thread_stacks.specs.Stacks.{is_live, segment_of, slot_number, slots_on, stack_of, stands_on, top_on}
use Rattle.thread_stacks.proofs.Filtered.{filter_hit, filter_miss, filter_twice, last_gone, mapped_put, top_of-push, without_top-push}

-- ---- Places.

-- after an item is replaced, what stands at a place is the new one there, or what stood elsewhere
pub stands_after : {X : Type 0} (xs : List X) (i j : ℕ) (new x : X) → slice_get (set xs i new) j ≡ Some x → i < length xs
    → ((i ≡ j) × (new ≡ x)) ⊎ ((i ≢ j) × (slice_get xs j ≡ Some x))
stands_after xs i j new x at low = elim (cases_eq i j) [
  | inl same ↦
      let here : slice_get (set xs i new) j ≡ Some new = ap (slice_get (set xs i new)) (sym same) ∙ slice_get-set_same xs i new low in
      inl (same, same_Some new x (sym here ∙ at))
  | inr other ↦ inr (other, sym (slice_get-set_other xs i j new other) ∙ at)
]

-- items of numbers that rise have different ones
pub rising_differ : {X : Type 0} (key : X → ℕ) (xs : List X) (i j : ℕ) (x y : X) → AreRisingBy key xs → slice_get xs i ≡ Some x
    → slice_get xs j ≡ Some y → i ≢ j → key x ≢ key y
rising_differ key xs i j x y h at_i at_j ne same = elim (cases_lt i j) [
  | inl low ↦ omega (arith, h i j x y at_i at_j low, same)
  | inr high ↦ elim (cases_lt j i) [
    | inl low ↦ omega (arith, h j i y x at_j at_i low, same)
    | inr both ↦ ne (omega (arith, high, both))
  ]
]

-- ---- Slots and threads.

pub stands_parts : (t : ℕ) (s : Slot) → stands_on t s ≡ true → (s.live ≡ true) × (s.thread ≡ t)
stands_parts t s h =
    let both = and_parts s.live (s.thread == t) h in
    (both.0, eqb-true s.thread t both.1)

pub stands_from : (t : ℕ) (s : Slot) → s.live ≡ true → s.thread ≡ t → stands_on t s ≡ true
stands_from t s live home = and_from s.live (s.thread == t) live (eq-eqb s.thread t home)

pub stands_elsewhere : (t : ℕ) (s : Slot) → s.thread ≢ t → stands_on t s ≡ false
stands_elsewhere t s other = and_right s.live (s.thread == t) (ne_eqb s.thread t other)

pub stands_nowhere : (t : ℕ) (s : Slot) → s.live ≡ false → stands_on t s ≡ false
stands_nowhere t s dead = and_left s.live (s.thread == t) dead

-- ---- One more.

module _ (t : ℕ) (slots : List Slot) (new : Slot) where
  slots_pushed : stands_on t new ≡ true → slots_on t (slots ++ new ∷ []) ≡ slots_on t slots ++ new ∷ []
  slots_pushed on =
      filter-append (stands_on t) slots (new ∷ []) ∙ ap (λ (ws : List Slot). slots_on t slots ++ ws) (filter_hit (stands_on t) new [] on)

  slots_same : stands_on t new ≡ false → slots_on t (slots ++ new ∷ []) ≡ slots_on t slots
  slots_same off =
      filter-append (stands_on t) slots (new ∷ []) ∙ ap (λ (ws : List Slot). slots_on t slots ++ ws) (filter_miss (stands_on t) new [] off)
      ∙ append-nil (slots_on t slots)

  pub stack_pushed : stands_on t new ≡ true → stack_of t (slots ++ new ∷ []) ≡ stack_of t slots ++ segment_of new ∷ []
  stack_pushed on = ap (λ (ws : List Slot). map segment_of ws) (slots_pushed on) ∙ map_push segment_of (slots_on t slots) new

  pub stack_beside : stands_on t new ≡ false → stack_of t (slots ++ new ∷ []) ≡ stack_of t slots
  stack_beside off = ap (λ (ws : List Slot). map segment_of ws) (slots_same off)

  pub top_pushed : stands_on t new ≡ true → top_on t (slots ++ new ∷ []) ≡ Some (slot_number new)
  top_pushed on =
      ap (λ (ws : List Slot). top_of (map slot_number ws)) (slots_pushed on)
      ∙ ap (λ (ws : List SegmentNo). top_of ws) (map_push slot_number (slots_on t slots) new)
      ∙ top_of-push (map slot_number (slots_on t slots)) (slot_number new)

  pub top_beside : stands_on t new ≡ false → top_on t (slots ++ new ∷ []) ≡ top_on t slots
  top_beside off = ap (λ (ws : List Slot). top_of (map slot_number ws)) (slots_same off)

-- ---- One replaced.

-- by one of the same number that stands on the thread as the old one did
pub top_put : (t : ℕ) (slots : List Slot) (k : ℕ) (x y : Slot) → slice_get slots k ≡ Some x → stands_on t y ≡ stands_on t x
    → (stands_on t x ≡ true → y.number ≡ x.number) → top_on t (set slots k y) ≡ top_on t slots
top_put t slots k x y at same number =
    ap (λ (ws : List SegmentNo). top_of ws) (mapped_put (stands_on t) slot_number slots k x y at same (λ on. numbered (number on)))
  where
    numbered : y.number ≡ x.number → slot_number y ≡ slot_number x
    numbered e = ap (λ (n : ℕ). let m : SegmentNo = record { 0 = n } in m) e

-- where neither stands on the thread
pub stack_put : (t : ℕ) (slots : List Slot) (k : ℕ) (x y : Slot) → slice_get slots k ≡ Some x → stands_on t x ≡ false → stands_on t y ≡ false
    → stack_of t (set slots k y) ≡ stack_of t slots
stack_put t slots k x y at off off_too =
    mapped_put (stands_on t) segment_of slots k x y at (off_too ∙ sym off) (λ on. let never : true ≡ false = sym on ∙ off in absurd cc)

-- ---- The top one gone.

module _ (t : ℕ) (slots : List Slot) (k : ℕ) (x y : Slot) (at : slice_get slots k ≡ Some x) (on : stands_on t x ≡ true) (off : stands_on t y ≡ false)
    (no_more : slots_on t (drop (suc k) slots) ≡ []) where
  pub stack_gone : stack_of t (set slots k y) ≡ without_top (stack_of t slots)
  stack_gone =
      let both = last_gone (stands_on t) slots k x y at on off no_more in
      let was : stack_of t slots ≡ stack_of t (take k slots) ++ segment_of x ∷ [] =
      ap (λ (ws : List Slot). map segment_of ws) both.0 ∙ map_push segment_of (slots_on t (take k slots)) x in
      ap (λ (ws : List Slot). map segment_of ws) both.1
      ∙ sym (ap (λ (ws : List SharedSegment). without_top ws) was ∙ without_top-push (stack_of t (take k slots)) (segment_of x))

  pub top_gone : top_on t (set slots k y) ≡ top_on t (take k slots)
  top_gone = ap (λ (ws : List Slot). top_of (map slot_number ws)) (last_gone (stands_on t) slots k x y at on off no_more).1

-- ---- Marks dropped.

pub slots_left : (t : ℕ) (slots : List Slot) → slots_on t (filter is_live slots) ≡ slots_on t slots
slots_left t slots = filter_twice (stands_on t) is_live (λ s on. (stands_parts t s on).0) slots

pub stack_left : (t : ℕ) (slots : List Slot) → stack_of t (filter is_live slots) ≡ stack_of t slots
stack_left t slots = ap (λ (ws : List Slot). map segment_of ws) (slots_left t slots)

pub top_left : (t : ℕ) (slots : List Slot) → top_on t (filter is_live slots) ≡ top_on t slots
top_left t slots = ap (λ (ws : List Slot). top_of (map slot_number ws)) (slots_left t slots)
