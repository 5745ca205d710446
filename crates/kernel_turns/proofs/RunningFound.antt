-- The segment of the number of a thread's top segment is that one.
use Rattle.std.proofs.Common.{◌≡◌, ℕ, ◌==◌, Bool, true, false, List, find, slice_get, Option, Some, None, option_map, refl, sym, ap, ◌∙◌, eq-eqb}
use Rattle.std.specs.Prelude.{option_and_then}
use Rattle.std.specs.List.{list_any}
use Rattle.std.proofs.lemmas.Bool.{eqb-true}
use Rattle.jk_model.specs.declared.identifiers.SegmentNo.{SegmentNo}
use Rattle.jk_model.specs.declared.identifiers.ThreadNo.{ThreadNo}
use Rattle.jk_model_sharing.specs.Segments.{SharedSegment, SharedThread, is_numbered, placed_in, segment_numbered, shared_form, thread_numbered, thread_with, top_of, top_segment}
use Rattle.list_lemmas.proofs.FoundItems.{Finds, finds}
use Rattle.list_lemmas.proofs.ItemsOfLists.{place_of}
use Rattle.list_lemmas.proofs.TestsAndOrders.{mapped_option}
use Rattle.domain_crossing.proofs.SegmentsFound.{any_is, any_there}
use Rattle.kernel_turns.specs.LiveThreads.{AreApart}
use Rattle.kernel_turns.proofs.PlacedThreads.{top_is_there}

-- ---- By number.

module _ (threads : List SharedThread) (apart : AreApart threads) where
  -- a segment of a thread
  module _ (e : SharedThread) (i k : ℕ) (s : SharedSegment) (at : slice_get threads i ≡ Some e) (in_it : slice_get e.segments k ≡ Some s) where
    abbrev test : SharedSegment → Bool
    test = is_numbered shared_form s.number

    abbrev has : SharedThread → Bool
    has x = list_any test x.segments

    passes : test s ≡ true
    passes = eq-eqb s.number.0 s.number.0 refl

    same_number : (x : SharedSegment) → test x ≡ true → x.number ≡ s.number
    same_number x h = λ j. record { 0 = eqb-true x.number.0 s.number.0 h j }

    of_thread : thread_with threads s.number ≡ Some e
    of_thread = by (find has threads) (finds has threads)
      where
        by : (o : Option SharedThread) → Finds has threads o → o ≡ Some e
        by None h =
            let never : true ≡ false = sym (any_is test e.segments k s in_it passes) ∙ h i e at in
            absurd cc
        by (Some x) h =
            let one = any_there test x.segments h.2 in
            let both = apart.segments h.0 i one.0 k x e one.1 s h.1 at one.2 in_it (same_number one.1 one.3) in
            sym h.1 ∙ ap (slice_get threads) both.0 ∙ at

    in_thread : placed_in s.number e ≡ Some (record { thread = e; segment = s })
    in_thread = ap (option_map (λ (x : SharedSegment). record { thread = e; segment = x })) (by (find test e.segments) (finds test e.segments))
      where
        by : (o : Option SharedSegment) → Finds test e.segments o → o ≡ Some s
        by None h = (let never : true ≡ false = sym passes ∙ h k s in_it in absurd cc)
        by (Some x) h =
            let both = apart.segments i i h.0 k e e x s at at h.1 in_it (same_number x h.2) in
            sym h.1 ∙ ap (slice_get e.segments) both.1 ∙ in_it

    pub numbered : segment_numbered threads s.number ≡ Some (record { thread = e; segment = s })
    numbered = ap (option_and_then (placed_in s.number)) of_thread ∙ in_thread

  -- the thread of a number, and its top segment
  pub top_numbered : (t : ThreadNo) (s : SharedSegment) → top_segment threads t ≡ Some s
      → (e : SharedThread) × (segment_numbered threads s.number ≡ Some (record { thread = e; segment = s }))
  top_numbered t s top = by (thread_numbered threads t) (finds (λ (e : SharedThread). e.number.0 == t.0) threads) top
    where
      by : (o : Option SharedThread) → Finds (λ (e : SharedThread). e.number.0 == t.0) threads o
          → option_and_then (λ (e : SharedThread). top_of e.segments) o ≡ Some s
          → (e : SharedThread) × (segment_numbered threads s.number ≡ Some (record { thread = e; segment = s }))
      by None h is = absurd cc
      by (Some e) h is =
          let place = place_of e.segments s (top_is_there e.segments s is) in
          (e, numbered e h.0 place.0 s h.1 place.1)

  pub running_found : (t : ThreadNo) (n : SegmentNo) → option_map (λ (s : SharedSegment). s.number) (top_segment threads t) ≡ Some n
      → (s : SharedSegment) × (top_segment threads t ≡ Some s) × (s.number ≡ n)
      × ((e : SharedThread) × (segment_numbered threads n ≡ Some (record { thread = e; segment = s })))
  running_found t n is =
      let top = mapped_option (λ (s : SharedSegment). s.number) (top_segment threads t) n is in
      let placed = top_numbered t top.0 top.1 in
      (top.0, top.1, top.2, (placed.0, ap (segment_numbered threads) (sym top.2) ∙ placed.1))
