-- What is told of the segment of a number: by its slot, where that is live, and nothing where there is none or a mark.
use Rattle.std.proofs.Common.{◌≡◌, ◌≢◌, ℕ, ◌⊎◌, inl, inr, true, false, List, find, None, Some, sym, ◌∙◌, ap, slice_get}
use Rattle.std.specs.Prelude.{if◌then◌else◌, option_map}
use Rattle.std.proofs.lemmas.Bool.{cases_Bool, cases_eq, eqb-false, eqb-true}
use Rattle.std.proofs.lemmas.Option.{same_Some}
use Rattle.jk_model.specs.declared.identifiers.SegmentNo.{SegmentNo}
use Rattle.jk_model_sharing.specs.Segments.{segment_below, segment_numbered}
use Rattle.thread_stacks.specs.declared.entries.ThreadEntry.{ThreadEntry}
use Rattle.thread_stacks.specs.declared.slots.Slot.{Slot}
use Rattle.thread_stacks.specs.Places.{has_key}
use Rattle.thread_stacks.specs.StackAnswers.{info_of, number_of}
use Rattle.thread_stacks.specs.Stacks.{AreInOrder, AreLinked, is_live, slot_info, slot_key, threads_of}
use Rattle.thread_stacks.proofs.FoundInStacks.{below_missing, below_told, found_at, none_fits, segment_missing, segment_told}
use Rattle.thread_stacks.proofs.KeptLinks.{belows_by}
use Rattle.thread_stacks.proofs.StandsOnThreads.{rising_differ}

module _ (slots : List Slot) (es : List ThreadEntry) (thread segment : ℕ) (h : AreInOrder slots es thread segment) (l : AreLinked slots es)
    (n : SegmentNo) where
  -- a mark has the number, so no live slot has
  dead_alone : (k : ℕ) (s : Slot) → slice_get slots k ≡ Some s → s.number ≡ n.0 → s.live ≡ false → (j : ℕ) (x : Slot) → slice_get slots j ≡ Some x
      → x.live ≡ true → x.number ≢ n.0
  dead_alone k s at is dead j x there live same = elim (cases_eq k j) [
    | inl here ↦
        let one : s ≡ x = same_Some s x (sym at ∙ ap (slice_get slots) here ∙ there) in
        let never : true ≡ false = sym live ∙ sym (ap is_live one) ∙ dead in cc
    | inr apart ↦ rising_differ slot_key slots k j s x h.segments at there apart (is ∙ sym same)
  ]

  none_alone : find (has_key slot_key n.0) slots ≡ None → (j : ℕ) (x : Slot) → slice_get slots j ≡ Some x → x.live ≡ true → x.number ≢ n.0
  none_alone none j x there live same = eqb-false x.number n.0 (none_fits (has_key slot_key n.0) slots j x none there) same

  pub segment_says : (s : Slot) → find (has_key slot_key n.0) slots ≡ Some s
      → (if s.live then Some (slot_info s) else None) ≡ option_map info_of (segment_numbered (threads_of slots es) n)
  segment_says s found = by_life (cases_Bool s.live)
    where
      by_life : (s.live ≡ true) ⊎ (s.live ≡ false) → (if s.live then Some (slot_info s) else None) ≡ option_map info_of
          (segment_numbered (threads_of slots es) n)
      by_life (inl live) =
          let f = found_at (has_key slot_key n.0) slots s found in
          let is : s.number ≡ n.0 = eqb-true s.number n.0 f.passes in
          let home = h.homes f.place s f.there live in
          ap (λ b. if b then Some (slot_info s) else None) live
          ∙ sym (segment_told slots n f.place s h.segments f.there is live es home.place home.entry h.threads home.there home.number)
      by_life (inr dead) =
          let f = found_at (has_key slot_key n.0) slots s found in
          let is : s.number ≡ n.0 = eqb-true s.number n.0 f.passes in
          ap (λ b. if b then Some (slot_info s) else None) dead
          ∙ sym (ap (option_map info_of) (segment_missing slots n (dead_alone f.place s f.there is dead) es))

  pub segment_unknown : find (has_key slot_key n.0) slots ≡ None → None ≡ option_map info_of (segment_numbered (threads_of slots es) n)
  segment_unknown none = sym (ap (option_map info_of) (segment_missing slots n (none_alone none) es))

  pub below_says : (s : Slot) → find (has_key slot_key n.0) slots ≡ Some s
      → (if s.live then s.below else None) ≡ option_map number_of (segment_below (threads_of slots es) n)
  below_says s found = by_life (cases_Bool s.live)
    where
      by_life : (s.live ≡ true) ⊎ (s.live ≡ false) → (if s.live then s.below else None) ≡ option_map number_of (segment_below (threads_of slots es) n)
      by_life (inl live) =
          let f = found_at (has_key slot_key n.0) slots s found in
          let is : s.number ≡ n.0 = eqb-true s.number n.0 f.passes in
          let home = h.homes f.place s f.there live in
          ap (λ b. if b then s.below else None) live
          ∙ sym (below_told slots n f.place s h.segments f.there is live es home.place home.entry h.threads home.there home.number (belows_by slots l.stacks))
      by_life (inr dead) =
          let f = found_at (has_key slot_key n.0) slots s found in
          let is : s.number ≡ n.0 = eqb-true s.number n.0 f.passes in
          ap (λ b. if b then s.below else None) dead
          ∙ sym (ap (option_map number_of) (below_missing slots n (dead_alone f.place s f.there is dead) es))

  pub below_unknown : find (has_key slot_key n.0) slots ≡ None → None ≡ option_map number_of (segment_below (threads_of slots es) n)
  below_unknown none = sym (ap (option_map number_of) (below_missing slots n (none_alone none) es))
