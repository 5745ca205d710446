-- What a search in the live threads finds: the thread of a number, the one in which a segment stands, and the segment below another.
use Rattle.std.proofs.Common.{◌≡◌, ◌≢◌, ℕ, zero, suc, ◌+◌, ◌<◌, inl, inr, Bool, true, false, List, [], ◌∷◌, ◌++◌, length, take, drop, map, filter, find, Option, None, is_some, refl, sym, ◌∙◌, ap, subst, arith, Some, slice_get}
use Rattle.std.specs.Prelude.{◌==◌, if◌then◌else◌, option_map}
use Rattle.std.specs.List.{list_any}
use Rattle.std.proofs.lemmas.Bool.{cases_Bool, cases_eq, eq-eqb, ne_eqb}
use Rattle.std.proofs.lemmas.List.{map-append}
use Rattle.std.proofs.lemmas.Option.{same_Some, slice_get_within}
use Rattle.jk_model.specs.declared.identifiers.SegmentNo.{SegmentNo}
use Rattle.jk_model.specs.declared.identifiers.ThreadNo.{ThreadNo}
use Rattle.jk_model_sharing.specs.Segments.{SharedSegment, SharedThread, has_segments, is_numbered, segment_below, segment_numbered, shared_form, standing_below, thread_numbered, thread_with, top_of, top_segment}
use Rattle.list_lemmas.proofs.ItemsByPlace.{length_take, slice_get-from_take}
use Rattle.thread_stacks.specs.declared.entries.ThreadEntry.{ThreadEntry}
use Rattle.thread_stacks.specs.declared.slots.Slot.{Slot}
use Rattle.thread_stacks.specs.Places.{AreRisingBy, IsOnlyAt, has_key}
use Rattle.thread_stacks.specs.StackAnswers.{info_of, number_of}
use Rattle.thread_stacks.specs.Stacks.{NameBelows, NameTops, segment_of, slot_info, slot_key, slot_number, slots_on, stack_of, stands_on, thread_key, thread_of, threads_of}
use Rattle.thread_stacks.proofs.Filtered.{filter_hit, filter_miss, filter_parted, slice_get-drop}
use Rattle.thread_stacks.proofs.ItemsByKey.{only_at}
use Rattle.thread_stacks.proofs.StandsOnThreads.{rising_differ, stands_from, stands_parts}
use Rattle.thread_stacks.proofs.ThreadsAfter.{runs}

-- ---- Searches in lists.

-- where nothing passes, the first item doesn't, nor does one of the others
pub head_fails : {X : Type 0} (test : X → Bool) (x : X) (xs : List X) → find test (x ∷ xs) ≡ None → (test x ≡ false) × (find test xs ≡ None)
head_fails test x xs e = by_test (test x) refl
  where
    by_test : (b : Bool) → test x ≡ b → (test x ≡ false) × (find test xs ≡ None)
    by_test true t = let s : Some x ≡ None = rw t at e in absurd cc
    by_test false t = (t, rw t at e)

pub find_hit : {X : Type 0} (test : X → Bool) (x : X) (xs : List X) → test x ≡ true → find test (x ∷ xs) ≡ Some x
find_hit test x xs hit = rw hit refl

pub find_miss : {X : Type 0} (test : X → Bool) (x : X) (xs : List X) → test x ≡ false → find test (x ∷ xs) ≡ find test xs
find_miss test x xs miss = rw miss refl

pub only_passes : {X : Type 0} (test : X → Bool) (xs : List X) (i : ℕ) (x : X) → IsOnlyAt test xs i → slice_get xs i ≡ Some x → test x ≡ true
only_passes test [] i x h at = absurd h
only_passes test (y ∷ xs) zero x h at = ap test (sym (same_Some y x at)) ∙ h.0
only_passes test (y ∷ xs) (suc i) x h at = only_passes test xs i x h.1 at

pub only_within : {X : Type 0} (test : X → Bool) (xs : List X) (i : ℕ) → IsOnlyAt test xs i → i < length xs
only_within test [] i h = absurd h
only_within test (y ∷ xs) zero h = omega arith
only_within test (y ∷ xs) (suc i) h = omega (arith, only_within test xs i h.1)

pub only_found : {X : Type 0} (test : X → Bool) (xs : List X) (i : ℕ) (x : X) → IsOnlyAt test xs i → slice_get xs i ≡ Some x → find test xs ≡ Some x
only_found test [] i x h at = absurd h
only_found test (y ∷ xs) zero x h at = find_hit test y xs h.0 ∙ at
only_found test (y ∷ xs) (suc i) x h at = find_miss test y xs h.0 ∙ only_found test xs i x h.1 at

-- what is found stands somewhere
pub record FoundAt {X : Type 0} (test : X → Bool) (xs : List X) (x : X) : Type 0 where
  pub place : ℕ
  pub there : slice_get xs place ≡ Some x
  pub passes : test x ≡ true

found_step : {X : Type 0} (test : X → Bool) (y : X) (xs : List X) (x : X) → (find test xs ≡ Some x → FoundAt test xs x) → find test (y ∷ xs) ≡ Some x
    → FoundAt test (y ∷ xs) x
found_step test y xs x rest h =
    elim (cases_Bool (test y)) [
      | inl hit ↦
          let here : Some y ≡ Some x = sym (find_hit test y xs hit) ∙ h in
          record { place = zero; there = here; passes = ap test (sym (same_Some y x here)) ∙ hit }
      | inr miss ↦
          let r = rest (sym (find_miss test y xs miss) ∙ h) in record { place = suc r.place; there = r.there; passes = r.passes }
    ]

pub found_at : {X : Type 0} (test : X → Bool) (xs : List X) (x : X) → find test xs ≡ Some x → FoundAt test xs x
found_at test [] x h = absurd cc
found_at test (y ∷ xs) x h = found_step test y xs x (found_at test xs x) h

pub none_fits : {X : Type 0} (test : X → Bool) (xs : List X) (k : ℕ) (x : X) → find test xs ≡ None → slice_get xs k ≡ Some x → test x ≡ false
none_fits test [] k x h at = absurd cc
none_fits test (y ∷ xs) zero x h at = ap test (sym (same_Some y x at)) ∙ (head_fails test y xs h).0
none_fits test (y ∷ xs) (suc k) x h at = none_fits test xs k x (head_fails test y xs h).1 at

same_find : {X : Type 0} (p q : X → Bool) → ((x : X) → p x ≡ q x) → (xs : List X) → find p xs ≡ find q xs
same_find p q h [] = refl
same_find p q h (x ∷ xs) =
    elim (cases_Bool (q x)) [
      | inl hit ↦ find_hit p x xs (h x ∙ hit) ∙ sym (find_hit q x xs hit)
      | inr miss ↦ find_miss p x xs (h x ∙ miss) ∙ same_find p q h xs ∙ sym (find_miss q x xs miss)
    ]

pub same_only : {X : Type 0} (p q : X → Bool) → ((x : X) → p x ≡ q x) → (xs : List X) (i : ℕ) → IsOnlyAt q xs i → IsOnlyAt p xs i
same_only p q h [] i only = absurd only
same_only p q h (x ∷ xs) zero only = (h x ∙ only.0, same_find p q h xs ∙ only.1)
same_only p q h (x ∷ xs) (suc i) only = (h x ∙ only.0, same_only p q h xs i only.1)

-- ---- Around a seam.

module _ {X : Type 0} (test : X → Bool) (x : X) (hit : test x ≡ true) where
  pub find_seam : (front back : List X) → find test front ≡ None → find test (front ++ x ∷ back) ≡ Some x
  find_seam [] back none = find_hit test x back hit
  find_seam (y ∷ front) back none =
      let head = head_fails test y front none in find_miss test y (front ++ x ∷ back) head.0 ∙ find_seam front back head.1

  pub any_seam : (front back : List X) → list_any test (front ++ x ∷ back) ≡ true
  any_seam [] back = rw hit refl
  any_seam (y ∷ front) back =
      elim (cases_Bool (test y)) [
        | inl early ↦ rw early refl
        | inr miss ↦ rw miss (any_seam front back)
      ]

  lowest : (y : X) (back : List X) → find test back ≡ None → standing_below test (y ∷ back) ≡ None
  lowest y [] none = refl
  lowest y (z ∷ back) none =
      let head = head_fails test z back none in
      let rest : standing_below test (z ∷ back) ≡ None = lowest z back head.1 in rw head.0 rest

  pub below_seam : (front back : List X) → find test front ≡ None → find test back ≡ None
      → standing_below test (front ++ x ∷ back) ≡ top_of front
  below_seam [] back none none_behind = lowest x back none_behind
  below_seam (y ∷ []) back none none_behind = rw hit refl
  below_seam (y ∷ z ∷ front) back none none_behind =
      let head = head_fails test y (z ∷ front) none in
      let next = head_fails test z front head.1 in
      let rest : standing_below test ((z ∷ front) ++ x ∷ back) ≡ top_of (z ∷ front) = below_seam (z ∷ front) back head.1 none_behind in
      rw next.0 rest

pub any_none : {X : Type 0} (test : X → Bool) (xs : List X) → find test xs ≡ None → list_any test xs ≡ false
any_none test [] none = refl
any_none test (x ∷ xs) none =
    let head = head_fails test x xs none in
    let rest : list_any test xs ≡ false = any_none test xs head.1 in rw head.0 rest

-- ---- Searches in what a filter leaves of a mapped list.

module _ {X Z : Type 0} (p q : Z → Bool) (f : X → Z) where
  pub found_nowhere : (xs : List X) → find (λ (y : X). p (f y)) xs ≡ None → find p (filter q (map f xs)) ≡ None
  found_nowhere [] none = refl
  found_nowhere (x ∷ xs) none =
      let head = head_fails (λ (y : X). p (f y)) x xs none in
      elim (cases_Bool (q (f x))) [
        | inl kept ↦
            ap (λ (ws : List Z). find p ws) (filter_hit q (f x) (map f xs) kept) ∙ find_miss p (f x) (filter q (map f xs)) head.0
            ∙ found_nowhere xs head.1
        | inr out ↦ ap (λ (ws : List Z). find p ws) (filter_miss q (f x) (map f xs) out) ∙ found_nowhere xs head.1
      ]

  abbrev if_kept : X → Option Z
  if_kept x = if q (f x) then Some (f x) else None

  found_here : (x : X) (xs : List X) → p (f x) ≡ true → find (λ (y : X). p (f y)) xs ≡ None → find p (filter q (map f (x ∷ xs))) ≡ if_kept x
  found_here x xs hit none =
      elim (cases_Bool (q (f x))) [
        | inl kept ↦ rw (kept, hit) refl
        | inr out ↦ rw out (found_nowhere xs none)
      ]

  pub found_where : (xs : List X) (i : ℕ) (x : X) → IsOnlyAt (λ (y : X). p (f y)) xs i → slice_get xs i ≡ Some x
      → find p (filter q (map f xs)) ≡ (if q (f x) then Some (f x) else None)
  found_where [] i x only at = absurd only
  found_where (y ∷ xs) zero x only at = found_here y xs only.0 only.1 ∙ ap if_kept (same_Some y x at)
  found_where (y ∷ xs) (suc i) x only at =
      elim (cases_Bool (q (f y))) [
        | inl kept ↦
            ap (λ (ws : List Z). find p ws) (filter_hit q (f y) (map f xs) kept) ∙ find_miss p (f y) (filter q (map f xs)) only.0
            ∙ found_where xs i x only.1 at
        | inr out ↦ ap (λ (ws : List Z). find p ws) (filter_miss q (f y) (map f xs) out) ∙ found_where xs i x only.1 at
      ]

-- ---- The thread of a number.

pub thread_none : (slots : List Slot) (es : List ThreadEntry) (t : ThreadNo) → find (has_key thread_key t.0) es ≡ None
    → thread_numbered (threads_of slots es) t ≡ None
thread_none slots es t none = found_nowhere (λ (x : SharedThread). x.number.0 == t.0) has_segments (thread_of slots) es none

pub thread_some : (slots : List Slot) (es : List ThreadEntry) (t : ThreadNo) (i : ℕ) (e : ThreadEntry) → AreRisingBy thread_key es
    → slice_get es i ≡ Some e → e.number ≡ t.0
    → thread_numbered (threads_of slots es) t ≡ (if has_segments (thread_of slots e) then Some (thread_of slots e) else None)
thread_some slots es t i e rising at is =
    found_where (λ (x : SharedThread). x.number.0 == t.0) has_segments (thread_of slots) es i e (only_at thread_key es i t.0 e rising at is) at

-- ---- The segment of a number.

number_top : (xs : List Slot) → option_map number_of (top_of (map segment_of xs)) ≡ top_of (map slot_number xs)
number_top [] = refl
number_top (x ∷ []) = refl
number_top (x ∷ y ∷ ys) = number_top (y ∷ ys)

-- where no slot on a thread has the number, no segment of it has
none_on : (n : SegmentNo) (t : ℕ) (slots : List Slot)
    → ((k : ℕ) (s : Slot) → slice_get slots k ≡ Some s → stands_on t s ≡ true → s.number ≢ n.0)
    → find (is_numbered shared_form n) (stack_of t slots) ≡ None
none_on n t [] h = refl
none_on n t (s ∷ slots) h =
    let rest : find (is_numbered shared_form n) (stack_of t slots) ≡ None = none_on n t slots (λ k x at. h (suc k) x at) in
    elim (cases_Bool (stands_on t s)) [
      | inl on ↦
          ap (λ (ws : List Slot). find (is_numbered shared_form n) (map segment_of ws)) (filter_hit (stands_on t) s slots on)
          ∙ find_miss (is_numbered shared_form n) (segment_of s) (stack_of t slots) (ne_eqb s.number n.0 (h zero s refl on))
          ∙ rest
      | inr off ↦
          ap (λ (ws : List Slot). find (is_numbered shared_form n) (map segment_of ws)) (filter_miss (stands_on t) s slots off) ∙ rest
    ]

module _ (slots : List Slot) (n : SegmentNo) (k : ℕ) (s : Slot) (rising : AreRisingBy slot_key slots) (at : slice_get slots k ≡ Some s)
    (is : s.number ≡ n.0) (live : s.live ≡ true) where
  abbrev stack_below : List SharedSegment
  stack_below = stack_of s.thread (take k slots)

  abbrev stack_above : List SharedSegment
  stack_above = stack_of s.thread (drop (suc k) slots)

  parted : stack_of s.thread slots ≡ stack_below ++ segment_of s ∷ stack_above
  parted =
      ap (λ (ws : List Slot). map segment_of ws)
      (filter_parted (stands_on s.thread) slots k s at
      ∙ ap (λ (ws : List Slot). slots_on s.thread (take k slots) ++ ws)
      (filter_hit (stands_on s.thread) s (drop (suc k) slots) (stands_from s.thread s live refl)))
      ∙ map-append segment_of (slots_on s.thread (take k slots)) (s ∷ slots_on s.thread (drop (suc k) slots))

  is_it : is_numbered shared_form n (segment_of s) ≡ true
  is_it = eq-eqb s.number n.0 is

  none_before : find (is_numbered shared_form n) stack_below ≡ None
  none_before = none_on n s.thread (take k slots) (λ j x there on. before j x there)
    where
      before : (j : ℕ) (x : Slot) → slice_get (take k slots) j ≡ Some x → x.number ≢ n.0
      before j x there same =
          let low : j < k = within_take j x there in
          omega (arith, rising j k x s (slice_get-from_take slots k j x there) at low, is, same)
        where
          within_take : (j : ℕ) (x : Slot) → slice_get (take k slots) j ≡ Some x → j < k
          within_take j x there = omega (arith, slice_get_within (take k slots) j x there, length_take slots k)

  none_behind : find (is_numbered shared_form n) stack_above ≡ None
  none_behind = none_on n s.thread (drop (suc k) slots) (λ j x there on. behind j x there)
    where
      behind : (j : ℕ) (x : Slot) → slice_get (drop (suc k) slots) j ≡ Some x → x.number ≢ n.0
      behind j x there same =
          let place : slice_get slots (suc k + j) ≡ Some x = sym (slice_get-drop slots (suc k) j (suc k + j) refl) ∙ there in
          omega (arith, rising k (suc k + j) s x at place (omega arith), is, same)

  pub segment_in : find (is_numbered shared_form n) (stack_of s.thread slots) ≡ Some (segment_of s)
  segment_in =
      ap (λ (ws : List SharedSegment). find (is_numbered shared_form n) ws) parted
      ∙ find_seam (is_numbered shared_form n) (segment_of s) is_it stack_below stack_above none_before

  pub below_in : standing_below (is_numbered shared_form n) (stack_of s.thread slots) ≡ top_of stack_below
  below_in =
      ap (λ (ws : List SharedSegment). standing_below (is_numbered shared_form n) ws) parted
      ∙ below_seam (is_numbered shared_form n) (segment_of s) is_it stack_below stack_above none_before none_behind

  -- it stands on no other thread
  any_on : (t : ℕ) → list_any (is_numbered shared_form n) (stack_of t slots) ≡ (t == s.thread)
  any_on t = elim (cases_eq t s.thread) [
    | inl same ↦
        subst (λ (u : ℕ). list_any (is_numbered shared_form n) (stack_of u slots) ≡ (u == s.thread)) (sym same)
        (ap (λ (ws : List SharedSegment). list_any (is_numbered shared_form n) ws) parted
        ∙ any_seam (is_numbered shared_form n) (segment_of s) is_it stack_below stack_above
        ∙ sym (eq-eqb s.thread s.thread refl))
    | inr other ↦
        any_none (is_numbered shared_form n) (stack_of t slots) (none_on n t slots (λ j x there on. elsewhere j x there on other))
        ∙ sym (ne_eqb t s.thread other)
  ]
    where
      elsewhere : (j : ℕ) (x : Slot) → slice_get slots j ≡ Some x → stands_on t x ≡ true → t ≢ s.thread → x.number ≢ n.0
      elsewhere j x there on other same = elim (cases_eq k j) [
        | inl here ↦
            let one : s ≡ x = same_Some s x (sym at ∙ ap (slice_get slots) here ∙ there) in
            other (sym (stands_parts t x on).1 ∙ ap (λ (y : Slot). y.thread) (sym one))
        | inr apart ↦ rising_differ slot_key slots k j s x rising at there apart (is ∙ sym same)
      ]

  module _ (es : List ThreadEntry) (i : ℕ) (e : ThreadEntry) (entries_rise : AreRisingBy thread_key es) (entry_at : slice_get es i ≡ Some e)
      (home : e.number ≡ s.thread) where
    pub thread_of_segment : thread_with (threads_of slots es) n ≡ Some (thread_of slots e)
    thread_of_segment =
        found_where (λ (x : SharedThread). list_any (is_numbered shared_form n) x.segments) has_segments (thread_of slots) es i e
        (same_only (λ (x : ThreadEntry). list_any (is_numbered shared_form n) (stack_of x.number slots)) (has_key thread_key s.thread)
        (λ x. any_on x.number) es i (only_at thread_key es i s.thread e entries_rise entry_at home)) entry_at
        ∙ kept
      where
        has_by : (ss : List SharedSegment) → stack_of e.number slots ≡ ss → has_segments (thread_of slots e) ≡ true
        has_by [] none =
            let found : find (is_numbered shared_form n) [] ≡ Some (segment_of s) =
            sym (ap (λ (ws : List SharedSegment). find (is_numbered shared_form n) ws) (ap (λ (t : ℕ). stack_of t slots) (sym home) ∙ none))
            ∙ segment_in in
            absurd cc
        has_by (x ∷ ss) some = rw some refl

        kept : (if has_segments (thread_of slots e) then Some (thread_of slots e) else None) ≡ Some (thread_of slots e)
        kept = rw (has_by (stack_of e.number slots) refl) refl

    pub segment_told : option_map info_of (segment_numbered (threads_of slots es) n) ≡ Some (slot_info s)
    segment_told =
        let found : find (is_numbered shared_form n) (stack_of e.number slots) ≡ Some (segment_of s) =
        ap (λ (t : ℕ). find (is_numbered shared_form n) (stack_of t slots)) home ∙ segment_in in
        rw (thread_of_segment, found, home) refl

    pub below_told : NameBelows slots → option_map number_of (segment_below (threads_of slots es) n) ≡ s.below
    below_told h =
        let under : standing_below (is_numbered shared_form n) (stack_of e.number slots) ≡ top_of stack_below =
        ap (λ (t : ℕ). standing_below (is_numbered shared_form n) (stack_of t slots)) home ∙ below_in in
        rw (thread_of_segment, under) (number_top (slots_on s.thread (take k slots)) ∙ sym (h k s at live))

-- no live slot has the number
module _ (slots : List Slot) (n : SegmentNo) (h : (k : ℕ) (s : Slot) → slice_get slots k ≡ Some s → s.live ≡ true → s.number ≢ n.0)
    (es : List ThreadEntry) where
  thread_missing : thread_with (threads_of slots es) n ≡ None
  thread_missing =
      found_nowhere (λ (x : SharedThread). list_any (is_numbered shared_form n) x.segments) has_segments (thread_of slots) es (missing es)
    where
      missing : (xs : List ThreadEntry) → find (λ (e : ThreadEntry). list_any (is_numbered shared_form n) (stack_of e.number slots)) xs ≡ None
      missing [] = refl
      missing (e ∷ xs) =
          find_miss (λ (x : ThreadEntry). list_any (is_numbered shared_form n) (stack_of x.number slots)) e xs
          (any_none (is_numbered shared_form n) (stack_of e.number slots)
          (none_on n e.number slots (λ k s at on. h k s at (stands_parts e.number s on).0)))
          ∙ missing xs

  pub segment_missing : segment_numbered (threads_of slots es) n ≡ None
  segment_missing = rw thread_missing refl

  pub below_missing : segment_below (threads_of slots es) n ≡ None
  below_missing = rw thread_missing refl

-- ---- The top of a thread.

pub top_told : (slots : List Slot) (es : List ThreadEntry) (t : ThreadNo) (i : ℕ) (e : ThreadEntry) → AreRisingBy thread_key es → NameTops slots es
    → slice_get es i ≡ Some e → e.number ≡ t.0 → option_map number_of (top_segment (threads_of slots es) t) ≡ e.top
top_told slots es t i e rising tops at is =
    elim (cases_Bool (has_segments (thread_of slots e))) [
      | inl some ↦
          rw (thread_some slots es t i e rising at is, some) (number_top (slots_on e.number slots) ∙ sym (tops i e at))
      | inr none ↦
          rw (thread_some slots es t i e rising at is, none) (sym (no_top e.top (sym (runs slots e (tops i e at)) ∙ none)))
    ]
  where
    no_top : (o : Option SegmentNo) → is_some o ≡ false → o ≡ None
    no_top None h = refl
    no_top (Some x) h = let never : true ≡ false = h in absurd cc

pub top_missing : (slots : List Slot) (es : List ThreadEntry) (t : ThreadNo) → find (has_key thread_key t.0) es ≡ None
    → option_map number_of (top_segment (threads_of slots es) t) ≡ None
top_missing slots es t none = rw (thread_none slots es t none) refl
