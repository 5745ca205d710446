-- What the plain lists say of a domain and of threads, the state says too.
use Rattle.std.proofs.Common.{◌≡◌, ◌==◌, ℕ, ◌<◌, Bool, true, false, List, [], ◌∷◌, length, filter, map, sum_by, slice_get, Option, Some, None, refl, sym, ap, ◌∙◌, arith, eq-eqb, inl, inr}
use Rattle.std.proofs.lemmas.Bool.{cases_Bool, eqb-true}
use Rattle.std.proofs.lemmas.List.{length-map}
use Rattle.std.proofs.lemmas.List.Sums.{sum_by-cons}
use Rattle.std.proofs.lemmas.Option.{same_Some}
use Rattle.std.specs.Prelude.{option_and_then, option_map}
use Rattle.jk_model.specs.declared.capabilities.CapStatus.{CapStatus}
use Rattle.jk_model.specs.declared.identifiers.CapId.{CapId}
use Rattle.jk_model.specs.declared.identifiers.DomainId.{DomainId}
use Rattle.jk_model.specs.declared.identifiers.SegmentNo.{SegmentNo}
use Rattle.jk_model.specs.declared.identifiers.ThreadNo.{ThreadNo}
use Rattle.jk_model_heaps.specs.Capabilities.{IsGivenOut, OwnedCapability, capability_numbered}
use Rattle.jk_model_sharing.specs.CapabilityCalls.{status_of}
use Rattle.jk_model_sharing.specs.Segments.{PlacedSegment, SharedSegment, SharedThread, count_segments_of, segment_numbered, thread_numbered, top_of}
use Rattle.jk_model_sharing.specs.SharedStates.{SharedDomain, SharedState, caps_of, domain_numbered}
use Rattle.list_lemmas.proofs.FoundItems.{Finds, finds}
use Rattle.list_lemmas.proofs.ItemsByPlace.{comes_from}
use Rattle.thread_segments.specs.declared.parts.DomainPart.{DomainPart}
use Rattle.thread_segments.specs.declared.parts.SharedParts.{SharedParts}
use Rattle.thread_segments.specs.Answers.{known_status, segment_info, steps_left_of, top_number}
use Rattle.thread_segments.specs.Asked.{HasRoomForSegment, IsLiveDomain, IsLiveThread, IsNext, IsThere, MaySpend}
use Rattle.thread_segments.specs.SoundStates.{AreNumbered}
use Rattle.thread_segments.specs.StateParts.{ArePartsOf, domain_part}
use Rattle.thread_stacks.specs.declared.parts.SegmentPart.{SegmentPart}
use Rattle.thread_stacks.specs.declared.parts.ThreadPart.{ThreadPart}
use Rattle.thread_stacks.specs.StackParts.{segment_part, thread_part}
use Rattle.thread_stacks.specs.StackAnswers.{info_of, number_of}
use Rattle.thread_stacks.specs.declared.segments.SegmentInfo.{SegmentInfo}
use Rattle.thread_check.specs.AskedOfParts.{HasRoomIn, IsLiveIn, count_in}

-- ---- Domains.

found_at : (s : SharedState) → AreNumbered s.domains → (d : DomainId) (e : SharedDomain) → slice_get s.domains d.0 ≡ Some e
    → domain_numbered s d ≡ Some e
found_at s numbered d e at = by (domain_numbered s d) (finds has_number s.domains)
  where
    has_number : SharedDomain → Bool
    has_number x = x.number.0 == d.0

    by : (o : Option SharedDomain) → Finds has_number s.domains o → o ≡ Some e
    by None h =
        let never : has_number e ≡ false = h d.0 e at in
        let always : has_number e ≡ true = eq-eqb e.number.0 d.0 (numbered d.0 e at) in
        let both : true ≡ false = sym always ∙ never in
        absurd cc
    by (Some x) h =
        let place : h.0 ≡ d.0 = sym (numbered h.0 x h.1) ∙ eqb-true x.number.0 d.0 h.2 in
        sym h.1 ∙ ap (slice_get s.domains) place ∙ at

-- the domain of which a part tells
told : (s : SharedState) (p : SharedParts) → ArePartsOf s p → AreNumbered s.domains → (d : DomainId) (q : DomainPart)
    → slice_get p.domains d.0 ≡ Some q → (e : SharedDomain) × (domain_numbered s d ≡ Some e) × (domain_part e ≡ q)
told s p parts numbered d q at =
    let c = comes_from domain_part s.domains d.0 q (ap (λ (xs : List DomainPart). slice_get xs d.0) (sym parts.domains) ∙ at) in
    (c.from, found_at s numbered d c.from c.there, c.gives)

pub live_told : (s : SharedState) (p : SharedParts) → ArePartsOf s p → AreNumbered s.domains → (d : DomainId) → IsLiveIn p d → IsLiveDomain s d
live_told s p parts numbered d live =
    let t = told s p parts numbered d live.0 live.1 in
    (t.0, t.1, ap (λ (q : DomainPart). q.live) t.2 ∙ live.2)

-- ---- Segments.

same_many : (d : DomainId) (segments : List SharedSegment) → length (filter (λ (x : SegmentPart). x.domain.0 == d.0) (map segment_part segments))
    ≡ length (filter (λ (x : SharedSegment). x.domain.0 == d.0) segments)
same_many d [] = refl
same_many d (x ∷ segments) =
    let rest = same_many d segments in
    elim (cases_Bool (x.domain.0 == d.0)) [ inl hit ↦ rw hit (omega (arith, rest)) | inr miss ↦ rw miss rest ]

same_count : (d : DomainId) (threads : List SharedThread) → count_in (map thread_part threads) d ≡ count_segments_of threads d
same_count d [] = refl
same_count d (t ∷ threads) =
    let more : ThreadPart → ℕ = λ x. length (filter (λ (y : SegmentPart). y.domain.0 == d.0) x.segments) in
    let of : SharedThread → ℕ = λ x. length (filter (λ (y : SharedSegment). y.domain.0 == d.0) x.segments) in
    omega (
      arith,
      sum_by-cons more (thread_part t) (map thread_part threads),
      sum_by-cons of t threads,
      same_many d t.segments,
      same_count d threads,
    )

pub room_told : (s : SharedState) (p : SharedParts) → ArePartsOf s p → AreNumbered s.domains → (d : DomainId) → HasRoomIn p d → HasRoomForSegment s d
room_told s p parts numbered d room =
    let t = told s p parts numbered d room.entry room.there in
    let chunks : t.0.quotas.chunks ≡ room.entry.quotas.chunks = ap (λ (q : DomainPart). q.quotas.chunks) t.2 in
    let many : count_in p.threads d ≡ count_segments_of s.threads d =
    ap (λ (xs : List ThreadPart). count_in xs d) parts.threads ∙ same_count d s.threads in
    (t.0, t.1, omega (arith, room.room, chunks, many))

pub live_with_room : (p : SharedParts) (d : DomainId) → HasRoomIn p d → IsLiveIn p d
live_with_room p d room = (room.entry, room.there, room.live)

pub next_told : (s : SharedState) (p : SharedParts) (d : DomainId) → ArePartsOf s p → length p.domains ≡ d.0 → IsNext s d
next_told s p d parts many =
    sym many ∙ ap (λ (xs : List DomainPart). length xs) parts.domains ∙ length-map s.domains domain_part

-- ---- A thread whose top is told lives, a segment of which something is told is there, and such a capability was given out.

by_thread : (o : Option SharedThread) (n : SegmentNo)
    → option_map number_of (option_and_then (λ (e : SharedThread). top_of e.segments) o) ≡ Some n → (e : SharedThread) × (o ≡ Some e)
by_thread None n is = absurd cc
by_thread (Some e) n is = (e, refl)

pub thread_told : (s : SharedState) (t : ThreadNo) (n : SegmentNo) → top_number s t ≡ Some n → IsLiveThread s t
thread_told s t n is = by_thread (thread_numbered s.threads t) n is

by_segment : (o : Option PlacedSegment) (i : SegmentInfo) → option_map info_of o ≡ Some i → (p : PlacedSegment) × (o ≡ Some p)
by_segment None i is = absurd cc
by_segment (Some p) i is = (p, refl)

pub segment_told : (s : SharedState) (n : SegmentNo) (i : SegmentInfo) → segment_info s n ≡ Some i → IsThere s n
segment_told s n i is = by_segment (segment_numbered s.threads n) i is

by_capability : (o : Option OwnedCapability) (i : CapStatus) → option_map status_of o ≡ Some i → (c : OwnedCapability) × (o ≡ Some c)
by_capability None i is = absurd cc
by_capability (Some c) i is = (c, refl)

pub capability_told : (s : SharedState) (k : CapId) (i : CapStatus) → known_status s k ≡ Some i → IsGivenOut (caps_of s) k
capability_told s k i is = by_capability (capability_numbered (caps_of s) k) i is

-- ---- Steps.

pub steps_told : (s : SharedState) (d : DomainId) (left : ℕ) → Some left ≡ steps_left_of s d → 0 < left → MaySpend s d
steps_told s d left told more = λ e at none_left.
    let is : Some left ≡ Some 0 =
    told ∙ ap (λ (o : Option SharedDomain). option_and_then (λ (x : SharedDomain). x.steps_left) o) at ∙ none_left in
    let same : left ≡ 0 = same_Some left 0 is in
    absurd (omega (arith, more, same))
