-- The first entry that passes a test, behind those of numbers up to one, is that of the least number above it.
use Rattle.std.proofs.Common.{◌≡◌, ℕ, zero, suc, ◌+◌, ◌-◌, ◌<◌, ◌≤◌, inl, inr, Bool, true, false, List, [], ◌∷◌, length, drop, find, take, Option, Some, None, slice_get, get_or, option_map, nat_le, refl, sym, ap, ◌∙◌, arith}
use Rattle.std.specs.List.{AllWithin}
use Rattle.std.proofs.lemmas.Bool.{cases_Bool, cases_lt, leb-false, leb-true}
use Rattle.std.proofs.lemmas.Option.{same_Some, slice_get_within, get_or_from_slice_get}
use Rattle.list_lemmas.proofs.ItemsOfLists.{Contains-at, place_of}
use Rattle.thread_stacks.specs.declared.entries.ThreadEntry.{ThreadEntry}
use Rattle.thread_stacks.specs.Places.{AreRisingBy}
use Rattle.thread_stacks.specs.StackAnswers.{IsLeastAbove}
use Rattle.thread_stacks.specs.Stacks.{IsEntryWith, IsStart, thread_key}
use Rattle.thread_stacks.proofs.Filtered.{slice_get-drop}
use Rattle.thread_stacks.proofs.FoundInStacks.{find_hit, find_miss, head_fails}

-- ---- Where the greater numbers begin.

pub starts : (es : List ThreadEntry) (above start : ℕ) → start ≤ length es → AllWithin (λ (e : ThreadEntry). nat_le e.number above ≡ true) es 0 start
    → AllWithin (λ (e : ThreadEntry). nat_le e.number above ≡ false) es start (length es) → IsStart es above start
starts es above start within low high = record { within = within; low = low_at; high = high_at }
  where
    low_at : (k : ℕ) (e : ThreadEntry) → slice_get es k ≡ Some e → k < start → e.number ≤ above
    low_at k e at lt =
        let here : get_or es k e ≡ e = get_or_from_slice_get es k e e at in
        let test : nat_le e.number above ≡ true = ap (λ (x : ThreadEntry). nat_le x.number above) (sym here) ∙ low k e (omega arith) lt in
        leb-true e.number above test

    high_at : (k : ℕ) (e : ThreadEntry) → slice_get es k ≡ Some e → start ≤ k → above < e.number
    high_at k e at le =
        let here : get_or es k e ≡ e = get_or_from_slice_get es k e e at in
        let test : nat_le e.number above ≡ false =
        ap (λ (x : ThreadEntry). nat_le x.number above) (sym here) ∙ high k e le (slice_get_within es k e at) in
        leb-false e.number above test

-- ---- The first that passes.

-- it passes, and no other one is before it
record IsFirst (test : ThreadEntry → Bool) (es : List ThreadEntry) (e : ThreadEntry) : Type 0 where
  place : ℕ
  there : slice_get es place ≡ Some e
  passes : test e ≡ true
  first : (k : ℕ) (x : ThreadEntry) → slice_get es k ≡ Some x → test x ≡ true → place ≤ k

module _ (test : ThreadEntry → Bool) where
  -- where none is found, none passes
  none_pass : (es : List ThreadEntry) → find test es ≡ None → (k : ℕ) (x : ThreadEntry) → slice_get es k ≡ Some x → test x ≡ true → ⊥
  none_pass [] h k x at hit = cc
  none_pass (e ∷ es) h zero x at hit =
      let head = head_fails test e es h in
      let same : test e ≡ test x = ap test (same_Some e x at) in
      let never : true ≡ false = sym hit ∙ sym same ∙ head.0 in cc
  none_pass (e ∷ es) h (suc k) x at hit = none_pass es (head_fails test e es h).1 k x at hit

  not_head : (x : ThreadEntry) (es : List ThreadEntry) (n : ℕ) → test x ≡ false
      → ((k : ℕ) (y : ThreadEntry) → slice_get es k ≡ Some y → test y ≡ true → n ≤ k)
      → (k : ℕ) (y : ThreadEntry) → slice_get (x ∷ es) k ≡ Some y → test y ≡ true → suc n ≤ k
  not_head x es n miss h zero y at hit =
      let same : test x ≡ test y = ap test (same_Some x y at) in
      let never : true ≡ false = sym hit ∙ sym same ∙ miss in absurd cc
  not_head x es n miss h (suc k) y at hit = omega (arith, h k y at hit)

  first_of : (es : List ThreadEntry) (e : ThreadEntry) → find test es ≡ Some e → IsFirst test es e
  first_of [] e h = absurd cc
  first_of (x ∷ es) e h = elim (cases_Bool (test x)) [
    | inl hit ↦
        let here : Some x ≡ Some e = sym (find_hit test x es hit) ∙ h in
        let same : x ≡ e = same_Some x e here in
        record { place = zero; there = here; passes = ap test (sym same) ∙ hit; first = λ k y at passes. omega arith }
    | inr miss ↦
        let later : find test es ≡ Some e = sym (find_miss test x es miss) ∙ h in
        let f = first_of es e later in
        record { place = suc f.place; there = f.there; passes = f.passes; first = λ k y at passes. not_head x es f.place miss f.first k y at passes }
  ]

  module _ (es : List ThreadEntry) (above start : ℕ) (rising : AreRisingBy thread_key es) (s : IsStart es above start) where
    behind : (k : ℕ) (e : ThreadEntry) → slice_get es k ≡ Some e → start ≤ k → slice_get (drop start es) (k - start) ≡ Some e
    behind k e at le = slice_get-drop es start (k - start) k (omega (arith, le)) ∙ at

    next_none : find test (drop start es) ≡ None → IsLeastAbove (IsEntryWith test es) above None
    next_none none t (x, among, is, passes) =
        let at = place_of es x among in
        elim (cases_lt at.0 start) [
          | inl before ↦ omega (arith, s.low at.0 x at.1 before, is)
          | inr after ↦ absurd (none_pass (drop start es) none (at.0 - start) x (behind at.0 x at.1 after) passes)
        ]

    later_or_same : (i j : ℕ) (a b : ThreadEntry) → slice_get es i ≡ Some a → slice_get es j ≡ Some b → i ≤ j → a.number ≤ b.number
    later_or_same i j a b at_i at_j le = elim (cases_lt i j) [
      | inl lt ↦ omega (arith, rising i j a b at_i at_j lt)
      | inr ge ↦
          let place : i ≡ j = omega (arith, le, ge) in
          let same : a ≡ b = same_Some a b (sym at_i ∙ ap (slice_get es) place ∙ at_j) in
          omega (arith, ap thread_key same)
    ]

    next_some : (e : ThreadEntry) → find test (drop start es) ≡ Some e → IsLeastAbove (IsEntryWith test es) above (Some e.number)
    next_some e found =
        let f = first_of (drop start es) e found in
        let at : slice_get es (start + f.place) ≡ Some e = sym (slice_get-drop es start f.place (start + f.place) refl) ∙ f.there in (
          (e, Contains-at es (start + f.place) e at, refl, f.passes),
          s.high (start + f.place) e at (omega arith),
          λ other (x, among, is, passes) more.
              let there = place_of es x among in
              let least : e.number ≤ x.number =
              elim (cases_lt there.0 start) [
                | inl before ↦ absurd (omega (arith, s.low there.0 x there.1 before, is, more))
                | inr after ↦
                    let first = f.first (there.0 - start) x (behind there.0 x there.1 after) passes in
                    later_or_same (start + f.place) there.0 e x at there.1 (omega (arith, first, after))
              ] in
              omega (arith, least, is),
        )

    pub next_is : IsLeastAbove (IsEntryWith test es) above (option_map thread_key (find test (drop start es)))
    next_is = by_found (find test (drop start es)) refl
      where
        by_found : (o : Option ThreadEntry) → find test (drop start es) ≡ o → IsLeastAbove (IsEntryWith test es) above (option_map thread_key o)
        by_found None e = next_none e
        by_found (Some x) e = next_some x e

  -- ---- A search entry by entry.

  pub found_here : (es : List ThreadEntry) (i : ℕ) (e : ThreadEntry) → find test (take i es) ≡ None → slice_get es i ≡ Some e → test e ≡ true
      → find test es ≡ Some e
  found_here [] i e none at hit = absurd cc
  found_here (x ∷ es) zero e none at hit = find_hit test x es (ap test (same_Some x e at) ∙ hit) ∙ at
  found_here (x ∷ es) (suc i) e none at hit =
      let head = head_fails test x (take i es) none in
      find_miss test x es head.0 ∙ found_here es i e head.1 at hit

  pub not_here : (es : List ThreadEntry) (i : ℕ) (e : ThreadEntry) → find test (take i es) ≡ None → slice_get es i ≡ Some e → test e ≡ false
      → find test (take (suc i) es) ≡ None
  not_here [] i e none at miss = absurd cc
  not_here (x ∷ es) zero e none at miss = find_miss test x [] (ap test (same_Some x e at) ∙ miss)
  not_here (x ∷ es) (suc i) e none at miss =
      let head = head_fails test x (take i es) none in
      find_miss test x (take (suc i) es) head.0 ∙ not_here es i e head.1 at miss
