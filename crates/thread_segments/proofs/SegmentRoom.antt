-- There is room for all segments that domains may have: all of them are of domains that were admitted, and of each domain there are no more than
-- it has chunks. And what is counted of domains stays right where a segment is pushed, or taken off a thread that goes on.
use Rattle.std.proofs.Common.{length-append, ◌≡◌, ℕ, zero, suc, ◌+◌, ◌<◌, ◌^◌, ◌≤◌, inl, inr, Bool, true, false, List, [], ◌∷◌, ◌++◌, length, set, filter, sum_by, Contains, Some, slice_get, refl, sym, ap, subst, ◌∙◌, arith}
use Rattle.std.specs.Prelude.{◌==◌}
use Rattle.std.proofs.lemmas.Bool.{cases_Bool, cases_eq, cases_lt, eq-eqb, ne_eqb}
use Rattle.std.proofs.lemmas.List.{length-map, length-set}
use Rattle.std.proofs.lemmas.List.Sums.{sum_by-append, sum_by-cons}
use Rattle.std.proofs.lemmas.Option.{same_Some, slice_get_within}
use Rattle.jk_model.specs.declared.identifiers.DomainId.{DomainId}
use Rattle.jk_model.specs.declared.identifiers.ThreadNo.{ThreadNo}
use Rattle.jk_model_classes.specs.declared.sharing.Stub.{Stub}
use Rattle.jk_model_heaps.specs.Capabilities.{CapRange}
use Rattle.jk_model_sharing.specs.Segments.{SharedSegment, SharedThread, count_started_in, is_of, shared_form, with_stack}
use Rattle.jk_model_sharing.specs.SharedStates.{SharedDomain, SharedState}
use Rattle.list_lemmas.proofs.ItemsByPlace.{item_there}
use Rattle.list_lemmas.proofs.ItemsOfLists.{Contains-here, Contains-there}
use Rattle.thread_segments.specs.declared.domains.DomainEntry.{DomainEntry}
use Rattle.thread_segments.specs.Asked.{HasRoomForSegment, IsLiveDomain}
use Rattle.thread_segments.specs.DomainEntries.{AreCounted, HasSegmentRoom, chunks_of, domain_with, domains_with, state_of}
use Rattle.thread_segments.specs.NameEntries.{NameList}
use Rattle.thread_segments.specs.SoundStates.{AreSound}
use Rattle.thread_segments.proofs.CountsAreKept.{AreBelow, part_set}
use Rattle.thread_segments.proofs.SoundThreads.{counted_in}
use Rattle.thread_segments.proofs.StatesByPart.{admitted_at, lives_of, low_of}
use Rattle.thread_stacks.specs.StackAnswers.{segments_in}
use Rattle.thread_stacks.specs.Stacks.{ThreadList}
use Rattle.thread_stacks.proofs.Filtered.{length_first, one_if}

-- ---- Room that stays.

pub chunks_live : (e : DomainEntry) → e.live ≡ true → chunks_of e ≡ e.quotas.chunks
chunks_live e lives = rw lives refl

pub room_entry : (es : List DomainEntry) (t new : ThreadList) (i : ℕ) (e other : DomainEntry) → HasSegmentRoom es t → slice_get es i ≡ Some e
    → other.quotas ≡ e.quotas → other.live ≡ e.live → new.most_segments ≡ t.most_segments → new.domains ≡ t.domains
    → HasSegmentRoom (set es i other) new
room_entry es t new i e other h at quotas live most domains =
    let same : chunks_of other ≡ chunks_of e = rw (quotas, live) refl in
    record {
      room = omega (arith, h.room, part_set chunks_of es i e other at, same, most);
      homes = omega (arith, h.homes, length-set es i other, domains);
      few = omega (arith, h.few, length-set es i other);
    }

chunks_few : (e : DomainEntry) → chunks_of e ≤ e.quotas.chunks
chunks_few e = elim (cases_Bool e.live) [
  | inl lives ↦ let all = chunks_live e lives in omega (arith, all)
  | inr ended ↦ let none : chunks_of e ≡ 0 = rw ended refl in omega (arith, none)
]

-- a domain ends, and there is room for as many segments fewer as it had chunks
pub room_ended : (es : List DomainEntry) (t new : ThreadList) (i : ℕ) (e : DomainEntry) → HasSegmentRoom es t → slice_get es i ≡ Some e
    → new.most_segments + chunks_of e ≡ t.most_segments → new.domains ≡ t.domains → HasSegmentRoom (set es i (record e { live = false; names = 0 })) new
room_ended es t new i e h at most domains =
    let none : chunks_of (record e { live = false; names = 0 }) ≡ 0 = refl in
    record {
      room = omega (arith, h.room, part_set chunks_of es i e (record e { live = false; names = 0 }) at, none, most);
      homes = omega (arith, h.homes, length-set es i (record e { live = false; names = 0 }), domains);
      few = omega (arith, h.few, length-set es i (record e { live = false; names = 0 }));
    }

pub room_admitted : (es : List DomainEntry) (t new : ThreadList) (e : DomainEntry) → HasSegmentRoom es t → length es < 2 ^ 32
    → new.most_segments ≡ t.most_segments + e.quotas.chunks → new.domains ≡ suc t.domains → HasSegmentRoom (es ++ e ∷ []) new
room_admitted es t new e h low most domains =
    record {
      room = omega (arith, h.room, sum_by-append chunks_of es (e ∷ []), sum_by-cons chunks_of e [], chunks_few e, most);
      homes = omega (arith, h.homes, length-append es (e ∷ []), domains);
      few = omega (arith, low, length-append es (e ∷ []));
    }

-- ---- Segments by their domains.

none_pass : {X : Type 0} (test : X → Bool) (xs : List X) → ((x : X) → Contains xs x → test x ≡ false) → length (filter test xs) ≡ 0
none_pass test [] h = refl
none_pass test (x ∷ xs) h =
    omega (
      arith,
      length_first test x xs,
      ap one_if (h x (Contains-here x xs)),
      none_pass test xs (λ y there. h y (Contains-there y x xs there)),
    )

-- how many are of the domains of these numbers
abbrev counts_from : List SharedSegment → ℕ → List DomainEntry → ℕ
counts_from segments n [] = 0
counts_from segments n (e ∷ es) = length (filter (is_of shared_form (record { 0 = n })) segments) + counts_from segments (suc n) es

-- no segment is of a domain
counts_none : (n : ℕ) (es : List DomainEntry) → counts_from [] n es ≡ 0
counts_none n [] = refl
counts_none n (e ∷ es) = omega (arith, counts_none (suc n) es)

-- a segment of another domain counts for nothing
counts_other : (s : SharedSegment) (segments : List SharedSegment) (n : ℕ) (es : List DomainEntry) → s.domain.0 < n
    → counts_from (s ∷ segments) n es ≡ counts_from segments n es
counts_other s segments n [] low = refl
counts_other s segments n (e ∷ es) low =
    let miss : is_of shared_form (record { 0 = n }) s ≡ false = ne_eqb s.domain.0 n (λ same. omega (arith, low, same)) in
    omega (
      arith,
      length_first (is_of shared_form (record { 0 = n })) s segments,
      ap one_if miss,
      counts_other s segments (suc n) es (omega (arith, low)),
    )

counts_first : (s : SharedSegment) (segments : List SharedSegment) (n : ℕ) (es : List DomainEntry) → n ≤ s.domain.0 → s.domain.0 < n + length es
    → counts_from (s ∷ segments) n es ≡ counts_from segments n es + 1
counts_first s segments n [] low high = absurd (omega (arith, low, high))
counts_first s segments n (e ∷ es) low high = elim (cases_eq s.domain.0 n) [
  | inl same ↦
      let hit : is_of shared_form (record { 0 = n }) s ≡ true = eq-eqb s.domain.0 n same in
      omega (
        arith,
        length_first (is_of shared_form (record { 0 = n })) s segments,
        ap one_if hit,
        counts_other s segments (suc n) es (omega (arith, same)),
      )
  | inr other ↦
      let miss : is_of shared_form (record { 0 = n }) s ≡ false = ne_eqb s.domain.0 n other in
      let more : n < s.domain.0 =
      elim (cases_lt n s.domain.0) [ inl lt ↦ lt | inr ge ↦ absurd (other (omega (arith, low, ge))) ] in
      omega (
        arith,
        length_first (is_of shared_form (record { 0 = n })) s segments,
        ap one_if miss,
        counts_first s segments (suc n) es (omega (arith, more)) (omega (arith, high)),
      )
]

-- each is of one of them
counts_all : (segments : List SharedSegment) (es : List DomainEntry) → ((s : SharedSegment) → Contains segments s → s.domain.0 < length es)
    → counts_from segments 0 es ≡ length segments
counts_all [] es homes = counts_none 0 es
counts_all (s ∷ segments) es homes =
    omega (
      arith,
      counts_first s segments 0 es (omega arith) (omega (arith, homes s (Contains-here s segments))),
      counts_all segments es (λ x there. homes x (Contains-there x s segments there)),
    )

counts_le : (segments : List SharedSegment) (n : ℕ) (es : List DomainEntry)
    → ((i : ℕ) (e : DomainEntry) → slice_get es i ≡ Some e → length (filter (is_of shared_form (record { 0 = n + i })) segments) ≤ chunks_of e)
    → counts_from segments n es ≤ sum_by chunks_of es
counts_le segments n [] h = omega arith
counts_le segments n (e ∷ es) h =
    let here : length (filter (is_of shared_form (record { 0 = n })) segments) ≤ chunks_of e =
    subst (λ (k : ℕ). length (filter (is_of shared_form (record { 0 = k })) segments) ≤ chunks_of e) (let z : n + 0 ≡ n = omega arith in z)
    (h zero e refl) in
    omega (arith, sum_by-cons chunks_of e es, here, counts_le segments (suc n) es (λ i x at. later i x at))
  where
    later : (i : ℕ) (x : DomainEntry) → slice_get es i ≡ Some x → length (filter (is_of shared_form (record { 0 = suc n + i })) segments) ≤ chunks_of x
    later i x at =
        subst (λ (k : ℕ). length (filter (is_of shared_form (record { 0 = k })) segments) ≤ chunks_of x)
        (let z : n + suc i ≡ suc n + i = omega arith in z) (h (suc i) x at)

counts_less : (segments : List SharedSegment) (n : ℕ) (es : List DomainEntry) (k : ℕ) (some : DomainEntry)
    → ((i : ℕ) (e : DomainEntry) → slice_get es i ≡ Some e → length (filter (is_of shared_form (record { 0 = n + i })) segments) ≤ chunks_of e)
    → slice_get es k ≡ Some some → length (filter (is_of shared_form (record { 0 = n + k })) segments) < chunks_of some
    → counts_from segments n es < sum_by chunks_of es
counts_less segments n [] k some h at low = absurd cc
counts_less segments n (e ∷ es) zero some h at low =
    let same : chunks_of e ≡ chunks_of some = ap chunks_of (same_Some e some at) in
    let here : length (filter (is_of shared_form (record { 0 = n })) segments) < chunks_of some =
    subst (λ (k : ℕ). length (filter (is_of shared_form (record { 0 = k })) segments) < chunks_of some) (let z : n + 0 ≡ n = omega arith in z) low in
    omega (arith, sum_by-cons chunks_of e es, here, same, counts_le segments (suc n) es (λ i x there. later i x there))
  where
    later : (i : ℕ) (x : DomainEntry) → slice_get es i ≡ Some x → length (filter (is_of shared_form (record { 0 = suc n + i })) segments) ≤ chunks_of x
    later i x there =
        subst (λ (k : ℕ). length (filter (is_of shared_form (record { 0 = k })) segments) ≤ chunks_of x)
        (let z : n + suc i ≡ suc n + i = omega arith in z) (h (suc i) x there)
counts_less segments n (e ∷ es) (suc k) some h at low =
    let here : length (filter (is_of shared_form (record { 0 = n })) segments) ≤ chunks_of e =
    subst (λ (j : ℕ). length (filter (is_of shared_form (record { 0 = j })) segments) ≤ chunks_of e) (let z : n + 0 ≡ n = omega arith in z)
    (h zero e refl) in
    let rest : counts_from segments (suc n) es < sum_by chunks_of es =
    counts_less segments (suc n) es k some (λ i x there. later i x there) at
    (subst (λ (j : ℕ). length (filter (is_of shared_form (record { 0 = j })) segments) < chunks_of some)
    (let z : n + suc k ≡ suc n + k = omega arith in z) low) in
    omega (arith, sum_by-cons chunks_of e es, here, rest)
  where
    later : (i : ℕ) (x : DomainEntry) → slice_get es i ≡ Some x → length (filter (is_of shared_form (record { 0 = suc n + i })) segments) ≤ chunks_of x
    later i x there =
        subst (λ (j : ℕ). length (filter (is_of shared_form (record { 0 = j })) segments) ≤ chunks_of x)
        (let z : n + suc i ≡ suc n + i = omega arith in z) (h (suc i) x there)

-- ---- What domains share.

module _ (es : List DomainEntry) (rs : List CapRange) (stubs : List Stub) (ns : NameList) (t : ThreadList) (counted : AreCounted es rs t)
    (sound : AreSound (state_of es rs stubs ns t)) where
  abbrev here : SharedState
  here = state_of es rs stubs ns t

  -- the domain at a place is among the domains
  pub domain_there : (n : ℕ) (xs : List DomainEntry) (ys : List CapRange) (i : ℕ) (e : DomainEntry) (r : CapRange) → slice_get xs i ≡ Some e
      → slice_get ys i ≡ Some r → Contains (domains_with n xs ys) (domain_with (n + i) e r)
  domain_there n [] ys i e r at at_r = absurd cc
  domain_there n (x ∷ xs) [] i e r at at_r = absurd cc
  domain_there n (x ∷ xs) (y ∷ ys) zero e r at at_r =
      let same : domain_with n x y ≡ domain_with (n + 0) e r =
      rw (same_Some x e at, same_Some y r at_r, (let z : n + 0 ≡ n = omega arith in z)) refl in
      subst (λ (d : SharedDomain). Contains (domains_with n (x ∷ xs) (y ∷ ys)) d) same (Contains-here (domain_with n x y) (domains_with (suc n) xs ys))
  domain_there n (x ∷ xs) (y ∷ ys) (suc i) e r at at_r =
      let rest = domain_there (suc n) xs ys i e r at at_r in
      let moved : domain_with (suc n + i) e r ≡ domain_with (n + suc i) e r =
      ap (λ (k : ℕ). domain_with k e r) (let z : suc n + i ≡ n + suc i = omega arith in z) in
      Contains-there (domain_with (n + suc i) e r) (domain_with n x y) (domains_with (suc n) xs ys)
      (subst (λ (d : SharedDomain). Contains (domains_with (suc n) xs ys) d) moved rest)

  -- no segment is of a domain that has ended
  none_ended : (i : ℕ) (e : DomainEntry) → slice_get es i ≡ Some e → e.live ≡ false → (s : SharedSegment) → Contains (segments_in t.threads) s
      → is_of shared_form (record { 0 = i }) s ≡ false
  none_ended i e at ended s there = elim (cases_eq s.domain.0 i) [
    | inl same ↦
        let lives = sound.segments.homes s there in
        let a = admitted_at es rs stubs ns t counted s.domain (lives.0, lives.1) in
        let stands : slice_get es i ≡ Some a.entry = ap (λ (k : ℕ). slice_get es k) (sym same) ∙ a.there in
        let is : e ≡ a.entry = same_Some e a.entry (sym at ∙ stands) in
        let never : false ≡ true =
        sym ended ∙ ap (λ (x : DomainEntry). x.live) is ∙ lives_of es rs stubs ns t counted s.domain a lives in
        absurd cc
    | inr other ↦ ne_eqb s.domain.0 i other
  ]

  no_more : (i : ℕ) (e : DomainEntry) → slice_get es i ≡ Some e
      → length (filter (is_of shared_form (record { 0 = 0 + i })) (segments_in t.threads)) ≤ chunks_of e
  no_more i e at = elim (cases_Bool e.live) [
    | inl lives ↦
        let r = range_at i (slice_get_within es i e at) in
        let few = sound.segments.few (domain_with (0 + i) e r.0) (domain_there 0 es rs i e r.0 at r.1) in
        omega (arith, few, counted_in (record { 0 = 0 + i }) t.threads, chunks_live e lives)
    | inr ended ↦
        let none =
        none_pass (is_of shared_form (record { 0 = 0 + i })) (segments_in t.threads)
        (λ s there. none_ended (0 + i) e (ap (λ (k : ℕ). slice_get es k) (let z : 0 + i ≡ i = omega arith in z) ∙ at) ended s there) in
        omega (arith, none)
  ]
    where
      range_at : (i : ℕ) → i < length es → (r : CapRange) × (slice_get rs i ≡ Some r)
      range_at i low = item_there rs i (omega (arith, low, counted.as_many))

  home : (s : SharedSegment) → Contains (segments_in t.threads) s → s.domain.0 < length es
  home s there =
      let lives = sound.segments.homes s there in
      low_of es rs stubs ns t counted s.domain (admitted_at es rs stubs ns t counted s.domain (lives.0, lives.1))

  -- no more segments are there than live domains have chunks
  pub segments_few : length (segments_in t.threads) ≤ sum_by chunks_of es
  segments_few =
      omega (arith, counts_le (segments_in t.threads) 0 es no_more, counts_all (segments_in t.threads) es (λ s there. home s there))

  pub room_for_segment : (d : DomainId) → IsLiveDomain here d → HasRoomForSegment here d → HasSegmentRoom es t
      → length (segments_in t.threads) < t.most_segments
  room_for_segment d live (e, is, low) h =
      let a = admitted_at es rs stubs ns t counted d (e, is) in
      let same : domain_with d.0 a.entry a.range ≡ e = same_Some (domain_with d.0 a.entry a.range) e (sym a.is ∙ is) in
      let quota : a.entry.quotas.chunks ≡ e.quotas.chunks = ap (λ (x : SharedDomain). x.quotas.chunks) same in
      let few : length (filter (is_of shared_form d) (segments_in t.threads)) < chunks_of a.entry =
      omega (arith, low, quota, counted_in d t.threads, chunks_live a.entry (lives_of es rs stubs ns t counted d a live)) in
      let here_low : length (filter (is_of shared_form (record { 0 = 0 + d.0 })) (segments_in t.threads)) < chunks_of a.entry =
      subst (λ (k : ℕ). length (filter (is_of shared_form (record { 0 = k })) (segments_in t.threads)) < chunks_of a.entry)
      (let z : d.0 ≡ 0 + d.0 = omega arith in z) few in
      let less = counts_less (segments_in t.threads) 0 es d.0 a.entry no_more a.there here_low in
      let all = counts_all (segments_in t.threads) es (λ s there. home s there) in
      omega (arith, less, all, h.room)

-- ---- Counts.

-- As many threads were started in each domain, in domains that are there, and there are no more.
pub counts_moved : (es : List DomainEntry) (rs : List CapRange) (t new : ThreadList) → AreCounted es rs t → AreBelow (length es) new.threads
    → ((d : DomainId) → count_started_in new.threads d ≡ count_started_in t.threads d) → length new.threads ≤ length t.threads → new.most ≡ t.most
    → AreCounted es rs new
counts_moved es rs t new h homes same fewer most = record {
  as_many = h.as_many;
  owners = h.owners;
  started = λ i e at. h.started i e at ∙ sym (same (record { 0 = i }));
  within = h.within;
  small = h.small;
  homes = homes;
  room = omega (arith, h.room, fewer, most);
}

module _ (t : ThreadNo) (change : List SharedSegment → List SharedSegment) where
  started_with_stack : (d : DomainId) (threads : List SharedThread) → count_started_in (with_stack t change threads) d ≡ count_started_in threads d
  started_with_stack d [] = refl
  started_with_stack d (e ∷ threads) =
      elim (cases_Bool (e.number.0 == t.0)) [
        | inl hit ↦ elim (cases_Bool (e.domain.0 == d.0)) [
          | inl on ↦ rw (hit, on) (ap suc (started_with_stack d threads))
          | inr off ↦ rw (hit, off) (started_with_stack d threads)
        ]
        | inr miss ↦ elim (cases_Bool (e.domain.0 == d.0)) [
          | inl on ↦ rw (miss, on) (ap suc (started_with_stack d threads))
          | inr off ↦ rw (miss, off) (started_with_stack d threads)
        ]
      ]

  below_with_one : (n : ℕ) (threads : List SharedThread) → AreBelow n threads → AreBelow n (with_stack t change threads)
  below_with_one n [] h = tt
  below_with_one n (e ∷ threads) h =
      elim (cases_Bool (e.number.0 == t.0)) [
        | inl hit ↦ rw hit (h.0, below_with_one n threads h.1)
        | inr miss ↦ rw miss (h.0, below_with_one n threads h.1)
      ]

pub counts_pushed : (es : List DomainEntry) (rs : List CapRange) (t new : ThreadList) (n : ThreadNo) (change : List SharedSegment → List SharedSegment)
    → AreCounted es rs t → new.threads ≡ with_stack n change t.threads → new.most ≡ t.most → AreCounted es rs new
counts_pushed es rs t new n change h threads most =
    counts_moved es rs t new h (rw threads (below_with_one n change (length es) t.threads h.homes))
    (λ d. ap (λ (xs : List SharedThread). count_started_in xs d) threads ∙ started_with_stack n change d t.threads)
    (let same : length new.threads ≡ length t.threads = ap (λ (xs : List SharedThread). length xs) threads ∙ length-map t.threads _ in
    omega (arith, same)) most
