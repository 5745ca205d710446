-- The segment of the number of a thread's top segment is that one, and the one below it is the next lower one.
use Rattle.std.proofs.Common.{◌≡◌, ℕ, zero, suc, ◌==◌, Bool, true, false, cond, List, [], ◌∷◌, ◌++◌, find, length, slice_get, Option, Some, None, option_map, refl, sym, ap, ◌∙◌, arith, eq-eqb}
use Rattle.std.specs.Prelude.{option_and_then, ◌||◌}
use Rattle.std.specs.List.{list_any}
use Rattle.std.proofs.lemmas.Bool.{eqb-true}
use Rattle.std.proofs.lemmas.Option.{same_Some, slice_get_within}
use Rattle.jk_model.specs.declared.identifiers.SegmentNo.{SegmentNo}
use Rattle.jk_model.specs.declared.identifiers.ThreadNo.{ThreadNo}
use Rattle.jk_model_sharing.specs.Segments.{SharedSegment, SharedThread, is_numbered, placed_in, segment_below, segment_numbered, shared_form, standing_below, thread_with, top_of, top_segment, without_top}
use Rattle.list_lemmas.proofs.FoundItems.{Finds, finds, maps_nothing}
use Rattle.list_lemmas.proofs.ItemsByPlace.{slice_get-last, slice_get-longer}
use Rattle.list_lemmas.proofs.TestsAndOrders.{mapped_option}
use Rattle.machine_parts.proofs.TopsOfThreads.{split_top}
use Rattle.thread_segments.specs.Answers.{number_of}
use Rattle.domain_crossing.specs.TakenSegments.{AreApart, TopStands}

-- ---- One of a list passes a test.

pub any_there : {X : Type 0} (test : X → Bool) (xs : List X) → list_any test xs ≡ true
    → (k : ℕ) × (x : X) × (slice_get xs k ≡ Some x) × (test x ≡ true)
any_there test [] h = absurd cc
any_there test (x ∷ xs) h = by (test x) refl h (any_there test xs)
  where
    by : (b : Bool) → test x ≡ b → b || list_any test xs ≡ true
        → (list_any test xs ≡ true → (k : ℕ) × (y : _) × (slice_get xs k ≡ Some y) × (test y ≡ true))
        → (k : ℕ) × (y : _) × (slice_get (x ∷ xs) k ≡ Some y) × (test y ≡ true)
    by true is h rest = (0, x, refl, is)
    by false is h rest = (let later = rest h in (suc later.0, later.1, later.2, later.3))

pub any_is : {X : Type 0} (test : X → Bool) (xs : List X) (k : ℕ) (x : X) → slice_get xs k ≡ Some x → test x ≡ true → list_any test xs ≡ true
any_is test [] k x at is = absurd cc
any_is test (y ∷ xs) zero x at is = ap (λ (b : Bool). b || list_any test xs) (ap test (same_Some y x at) ∙ is)
any_is test (y ∷ xs) (suc k) x at is = by (test y) (any_is test xs k x at is)
  where
    by : (b : Bool) → list_any test xs ≡ true → b || list_any test xs ≡ true
    by true h = refl
    by false h = h

-- ---- Tops of stacks.

pub top_of-last : (segments : List SharedSegment) (s : SharedSegment) → top_of (segments ++ s ∷ []) ≡ Some s
top_of-last [] s = refl
top_of-last (a ∷ []) s = refl
top_of-last (a ∷ b ∷ segments) s = top_of-last (b ∷ segments) s

pub none_on_top : (segments : List SharedSegment) → top_of segments ≡ None → segments ≡ []
none_on_top [] is = refl
none_on_top (x ∷ []) is = absurd cc
none_on_top (x ∷ above ∷ more) is = (let never = none_on_top (above ∷ more) is in absurd cc)

-- what stands below the last, which alone passes the test
below_last : (test : SharedSegment → Bool) (lower : List SharedSegment) (s : SharedSegment) → test s ≡ true
    → ((k : ℕ) (x : SharedSegment) → slice_get lower k ≡ Some x → test x ≡ false) → standing_below test (lower ++ s ∷ []) ≡ top_of lower
below_last test [] s is others = refl
below_last test (a ∷ []) s is others = ap (λ (b : Bool). cond b (Some a) (standing_below test (s ∷ []))) is
below_last test (a ∷ b ∷ lower) s is others =
    ap (λ (x : Bool). cond x (Some a) (standing_below test (b ∷ lower ++ s ∷ []))) (others 1 b refl)
    ∙ below_last test (b ∷ lower) s is (λ k x at. others (suc k) x at)

-- ---- By number.

not_both : (b : Bool) → (b ≡ true → ⊥) → b ≡ false
not_both true h = absurd (h refl)
not_both false h = refl

module _ (threads : List SharedThread) (apart : AreApart threads) where
  -- a segment of a thread
  module _ (e : SharedThread) (i k : ℕ) (s : SharedSegment) (at : slice_get threads i ≡ Some e) (in_it : slice_get e.segments k ≡ Some s) where
    abbrev test : SharedSegment → Bool
    test = is_numbered shared_form s.number

    abbrev has : SharedThread → Bool
    has x = list_any test x.segments

    passes : test s ≡ true
    passes = eq-eqb s.number.0 s.number.0 refl

    same_number : (x : SharedSegment) → test x ≡ true → x.number ≡ s.number
    same_number x h = λ j. record { 0 = eqb-true x.number.0 s.number.0 h j }

    of_thread : thread_with threads s.number ≡ Some e
    of_thread = by (find has threads) (finds has threads)
      where
        by : (o : Option SharedThread) → Finds has threads o → o ≡ Some e
        by None h =
            let never : true ≡ false = sym (any_is test e.segments k s in_it passes) ∙ h i e at in
            absurd cc
        by (Some x) h =
            let one = any_there test x.segments h.2 in
            let both = apart.segments h.0 i one.0 k x e one.1 s h.1 at one.2 in_it (same_number one.1 one.3) in
            sym h.1 ∙ ap (slice_get threads) both.0 ∙ at

    in_thread : placed_in s.number e ≡ Some (record { thread = e; segment = s })
    in_thread = ap (option_map (λ (x : SharedSegment). record { thread = e; segment = x })) (by (find test e.segments) (finds test e.segments))
      where
        by : (o : Option SharedSegment) → Finds test e.segments o → o ≡ Some s
        by None h = (let never : true ≡ false = sym passes ∙ h k s in_it in absurd cc)
        by (Some x) h =
            let both = apart.segments i i h.0 k e e x s at at h.1 in_it (same_number x h.2) in
            sym h.1 ∙ ap (slice_get e.segments) both.1 ∙ in_it

    pub numbered : segment_numbered threads s.number ≡ Some (record { thread = e; segment = s })
    numbered = ap (option_and_then (placed_in s.number)) of_thread ∙ in_thread

    -- where it stands above these
    pub below_is : (lower : List SharedSegment) → e.segments ≡ lower ++ s ∷ [] → k ≡ length lower → segment_below threads s.number ≡ top_of lower
    below_is lower are last =
        ap (option_and_then (λ (x : SharedThread). standing_below test x.segments)) of_thread ∙ ap (standing_below test) are
        ∙ below_last test lower s passes others
      where
        others : (j : ℕ) (x : SharedSegment) → slice_get lower j ≡ Some x → test x ≡ false
        others j x at_j =
            not_both (test x)
            (λ same.
            let stands : slice_get e.segments j ≡ Some x = ap (λ (xs : List SharedSegment). slice_get xs j) are
            ∙ slice_get-longer lower (s ∷ []) j x at_j in
            let both = apart.segments i i j k e e x s at at stands in_it (same_number x same) in
            let low = slice_get_within lower j x at_j in
            omega (arith, both.1, low, last))

  -- ---- The top of a thread.

  module _ (t : ThreadNo) (top : TopStands threads t) where
    pub place : (i : ℕ) × (slice_get threads i ≡ Some top.thread) × (top.thread.number.0 ≡ t.0)
    place = by (find with_number threads) (finds with_number threads) top.is_thread
      where
        with_number : SharedThread → Bool
        with_number e = e.number.0 == t.0

        by : (o : Option SharedThread) → Finds with_number threads o → o ≡ Some top.thread
            → (i : ℕ) × (slice_get threads i ≡ Some top.thread) × (top.thread.number.0 ≡ t.0)
        by None h is = absurd cc
        by (Some e) h is =
            let same : e ≡ top.thread = same_Some e top.thread is in (
              h.0,
              h.1 ∙ ap (λ (x : SharedThread). Some x) same,
              ap (λ (x : SharedThread). x.number.0) (sym same) ∙ eqb-true e.number.0 t.0 h.2,
            )

    pub on_top : top_segment threads t ≡ Some top.segment
    on_top =
        ap (option_and_then (λ (e : SharedThread). top_of e.segments)) top.is_thread ∙ ap top_of top.are_segments
        ∙ top_of-last top.lower top.segment

    stands : slice_get top.thread.segments (length top.lower) ≡ Some top.segment
    stands = ap (λ (xs : List SharedSegment). slice_get xs (length top.lower)) top.are_segments ∙ slice_get-last top.lower top.segment

    pub top_numbered : segment_numbered threads top.segment.number ≡ Some (record { thread = top.thread; segment = top.segment })
    top_numbered = numbered top.thread place.0 (length top.lower) top.segment place.1 stands

    pub next_lower : segment_below threads top.segment.number ≡ top_of top.lower
    next_lower = below_is top.thread place.0 (length top.lower) top.segment place.1 stands top.lower top.are_segments refl

    pub lower_numbered : (s : SharedSegment) → top_of top.lower ≡ Some s
        → segment_numbered threads s.number ≡ Some (record { thread = top.thread; segment = s })
    lower_numbered s is =
        let front : List SharedSegment = without_top top.lower in
        let at : slice_get top.lower (length front) ≡ Some s =
        ap (λ (xs : List SharedSegment). slice_get xs (length front)) (split_top top.lower s is) ∙ slice_get-last front s in
        numbered top.thread place.0 (length front) s place.1
        (ap (λ (xs : List SharedSegment). slice_get xs (length front)) top.are_segments
        ∙ slice_get-longer top.lower (top.segment ∷ []) (length front) s at)

-- tops of one thread are one
pub one_top : (threads : List SharedThread) (t : ThreadNo) (a b : TopStands threads t) → a.segment ≡ b.segment
one_top threads t a b =
    let lists : a.lower ++ a.segment ∷ [] ≡ b.lower ++ b.segment ∷ [] =
    sym a.are_segments ∙ ap (λ (e : SharedThread). e.segments) (same_Some a.thread b.thread (sym a.is_thread ∙ b.is_thread)) ∙ b.are_segments in
    same_Some a.segment b.segment (sym (top_of-last a.lower a.segment) ∙ ap top_of lists ∙ top_of-last b.lower b.segment)

-- ---- What code is told.

pub number_is : (threads : List SharedThread) (apart : AreApart threads) (t : ThreadNo) (top : TopStands threads t) (n : SegmentNo)
    → option_map number_of (top_segment threads t) ≡ Some n → top.segment.number ≡ n
number_is threads apart t top n is =
    same_Some top.segment.number n (sym (ap (option_map number_of) (on_top threads apart t top)) ∙ is)

pub record ToldBelow (threads : List SharedThread) (t : ThreadNo) (top : TopStands threads t) (n : SegmentNo) : Type 0 where
  pub segment : SharedSegment
  pub is_below : top_of top.lower ≡ Some segment
  pub number : segment.number ≡ n
  pub is_numbered : segment_numbered threads n ≡ Some (record { thread = top.thread; segment = segment })

pub told_below : (threads : List SharedThread) (apart : AreApart threads) (t : ThreadNo) (top : TopStands threads t) (n : SegmentNo)
    → option_map number_of (segment_below threads top.segment.number) ≡ Some n → ToldBelow threads t top n
told_below threads apart t top n is =
    let found = mapped_option number_of (top_of top.lower) n (sym (ap (option_map number_of) (next_lower threads apart t top)) ∙ is) in
    record {
      segment = found.0;
      is_below = found.1;
      number = found.2;
      is_numbered = ap (segment_numbered threads) (sym found.2) ∙ lower_numbered threads apart t top found.0 found.1;
    }

pub none_below : (threads : List SharedThread) (apart : AreApart threads) (t : ThreadNo) (top : TopStands threads t)
    → option_map number_of (segment_below threads top.segment.number) ≡ None → top_of top.lower ≡ None
none_below threads apart t top is =
    maps_nothing number_of (top_of top.lower) (sym is ∙ ap (option_map number_of) (next_lower threads apart t top))
