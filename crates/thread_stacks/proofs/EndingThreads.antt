-- The end of a domain leaves nothing of the threads that have segments of it alone, and of no others.
use Rattle.std.proofs.Common.{◌≡◌, ℕ, inl, inr, Bool, true, false, List, [], ◌∷◌, map, Contains, Option, Some, None, refl, sym, ap, ◌∙◌}
use Rattle.std.specs.Prelude.{◌&&◌, if◌then◌else◌}
use Rattle.std.specs.List.{list_all}
use Rattle.std.proofs.lemmas.Bool.{and_from, and_parts, cases_Bool}
use Rattle.jk_model.specs.declared.identifiers.DomainId.{DomainId}
use Rattle.jk_model_sharing.specs.Segments.{SharedSegment, SharedThread, as_orphan, changed, is_of, left_above, segments_left, shared_form, top_is_of, has_segments, with_revoked, with_top}
use Rattle.list_lemmas.proofs.ItemsOfLists.{place_of}
use Rattle.thread_stacks.specs.declared.entries.ThreadEntry.{ThreadEntry}
use Rattle.thread_stacks.specs.declared.slots.Slot.{Slot}
use Rattle.thread_stacks.specs.StackAnswers.{EndsWith, IsLeastAbove}
use Rattle.thread_stacks.specs.Stacks.{IsEntryWith, NameTops, is_in, is_running, runs_only_in, segment_of, slots_on, stack_of, thread_of, threads_of}
use Rattle.thread_stacks.proofs.LeftTheSame.{all_left}
use Rattle.thread_stacks.proofs.NextRunning.{entered, is_among}
use Rattle.thread_stacks.proofs.ThreadsAfter.{runs}

-- ---- Stacks.

module _ (d : DomainId) where
  all_go : (gap : Bool) (ss : List SharedSegment) → list_all (is_of shared_form d) ss ≡ true → left_above shared_form d gap ss ≡ []
  all_go gap [] h = refl
  all_go gap (s ∷ ss) h =
      let both = and_parts (is_of shared_form d s) (list_all (is_of shared_form d) ss) h in
      rw both.0 (all_go true ss both.1)

  none_stays : (gap : Bool) (ss : List SharedSegment) → left_above shared_form d gap ss ≡ [] → list_all (is_of shared_form d) ss ≡ true
  none_stays gap [] h = refl
  none_stays gap (s ∷ ss) h = elim (cases_Bool (is_of shared_form d s)) [
    | inl hit ↦
        let rest : left_above shared_form d true ss ≡ [] = rw hit at h in
        and_from (is_of shared_form d s) (list_all (is_of shared_form d) ss) hit (none_stays true ss rest)
    | inr miss ↦
        let never : (if gap then as_orphan s else s) ∷ left_above shared_form d false ss ≡ [] = rw miss at h in absurd cc
  ]

  no_top : (f : SharedSegment → SharedSegment) (ss : List SharedSegment) → with_top f ss ≡ [] → ss ≡ []
  no_top f [] h = refl
  no_top f (s ∷ []) h = absurd cc
  no_top f (s ∷ r ∷ ss) h = absurd cc

  pub ends_where_all : (ss : List SharedSegment) → list_all (is_of shared_form d) ss ≡ true → segments_left shared_form d ss ≡ []
  ends_where_all ss h = elim (cases_Bool (top_is_of shared_form d ss)) [
    | inl hit ↦ rw hit (ap (λ (xs : List SharedSegment). with_top (changed shared_form (with_revoked true)) xs) (all_go false ss h))
    | inr miss ↦ rw miss (all_go false ss h)
  ]

  pub all_where_ends : (ss : List SharedSegment) → segments_left shared_form d ss ≡ [] → list_all (is_of shared_form d) ss ≡ true
  all_where_ends ss h = elim (cases_Bool (top_is_of shared_form d ss)) [
    | inl hit ↦
        let none : with_top (changed shared_form (with_revoked true)) (left_above shared_form d false ss) ≡ [] = rw hit at h in
        none_stays false ss (no_top (changed shared_form (with_revoked true)) (left_above shared_form d false ss) none)
    | inr miss ↦
        let none : left_above shared_form d false ss ≡ [] = rw miss at h in
        none_stays false ss none
  ]

  -- asked of slots
  mapped_all : (xs : List Slot) → list_all (is_of shared_form d) (map segment_of xs) ≡ list_all (is_in d) xs
  mapped_all [] = refl
  mapped_all (x ∷ xs) = ap (λ (b : Bool). is_in d x && b) (mapped_all xs)

-- ---- Threads.

module _ (slots : List Slot) (es : List ThreadEntry) (d : DomainId) (tops : NameTops slots es) where
  -- a thread that ends has an entry that does
  pub ending_entry : (t : ℕ) → EndsWith (threads_of slots es) d t → IsEntryWith (runs_only_in slots d) es t
  ending_entry t (thread, among, is, ends) =
      let e = entered slots es thread tops among in
      let left : segments_left shared_form d (stack_of e.0.number slots) ≡ [] =
      ap (λ (x : SharedThread). segments_left shared_form d x.segments) e.3 ∙ ends in
      let all : list_all (is_in d) (slots_on e.0.number slots) ≡ true =
      sym (mapped_all d (slots_on e.0.number slots)) ∙ all_where_ends d (stack_of e.0.number slots) left in (
        e.0,
        e.1,
        ap (λ (x : SharedThread). x.number.0) e.3 ∙ is,
        and_from (is_running e.0) (list_all (is_in d) (slots_on e.0.number slots)) e.2 all,
      )

  pub entry_ending : (t : ℕ) → IsEntryWith (runs_only_in slots d) es t → EndsWith (threads_of slots es) d t
  entry_ending t (x, among, is, both) =
      let at = place_of es x among in
      let parts = and_parts (is_running x) (list_all (is_in d) (slots_on x.number slots)) both in (
        thread_of slots x,
        is_among slots es at.0 x tops at.1 parts.0,
        is,
        ends_where_all d (stack_of x.number slots) (mapped_all d (slots_on x.number slots) ∙ parts.1),
      )

  -- none ends where no segment is of the domain
  pub none_ends : ((u : ℕ) (s : SharedSegment) → Contains (stack_of u slots) s → is_of shared_form d s ≡ false) → (t : ℕ)
      → EndsWith (threads_of slots es) d t → ⊥
  none_ends none t (thread, among, is, ends) =
      let e = entered slots es thread tops among in
      let left : segments_left shared_form d (stack_of e.0.number slots) ≡ [] =
      ap (λ (x : SharedThread). segments_left shared_form d x.segments) e.3 ∙ ends in
      let bare : stack_of e.0.number slots ≡ [] = sym (all_left d (stack_of e.0.number slots) (none e.0.number)) ∙ left in
      let at = place_of es e.0 e.1 in
      let has : has_segments (thread_of slots e.0) ≡ true = runs slots e.0 (tops at.0 e.0 at.1) ∙ e.2 in
      let never : false ≡ true =
      sym (ap (λ (ss : List SharedSegment). has_segments (record { number = record { 0 = e.0.number }; domain = e.0.domain; segments = ss })) bare) ∙ has in
      absurd cc

  pub least_ending : (above : ℕ) (o : Option ℕ) → IsLeastAbove (IsEntryWith (runs_only_in slots d) es) above o
      → IsLeastAbove (EndsWith (threads_of slots es) d) above o
  least_ending above None h = λ t ends. h t (ending_entry t ends)
  least_ending above (Some n) h = (entry_ending n h.0, h.1, λ other ends more. h.2 other (ending_entry other ends) more)
