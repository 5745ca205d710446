-- What is asked and told of live threads.
use Rattle.std.specs.Prelude.{◌≡◌, ℕ, ◌<◌, ◌≤◌, ◌==◌, List, [], Contains, flat_map, Option, Some, None, if◌then◌else◌}
use Rattle.std.specs.Option.{option_map_or}
use Rattle.jk_model.specs.declared.identifiers.DomainId.{DomainId}
use Rattle.jk_model.specs.declared.identifiers.SegmentNo.{SegmentNo}
use Rattle.jk_model.specs.declared.identifiers.ThreadNo.{ThreadNo}
use Rattle.jk_model_sharing.specs.Segments.{PlacedSegment, SharedSegment, SharedThread, segment_numbered, segments_left, shared_form, thread_numbered}
use Rattle.thread_stacks.specs.declared.segments.SegmentInfo.{SegmentInfo}

abbrev pub number_of : SharedSegment → SegmentNo
number_of s = s.number

abbrev pub info_of : PlacedSegment → SegmentInfo
info_of p = record {
  thread = p.thread.number;
  domain = p.segment.domain;
  suspended = p.segment.suspended;
  stop = p.segment.stop;
  revoked = p.segment.revoked;
  orphan = p.segment.orphan;
}

-- the least number above for which this holds; none where there is no such number
abbrev pub IsLeastAbove : (ℕ → Type 0) → ℕ → Option ℕ → Type 0
IsLeastAbove P above None = (t : ℕ) → P t → t ≤ above
IsLeastAbove P above (Some t) = P t × (above < t) × ((other : ℕ) → P other → above < other → t ≤ other)

-- a live thread has this number
abbrev pub IsLiveNumber : List SharedThread → ℕ → Type 0
IsLiveNumber threads t = (e : SharedThread) × Contains threads e × (e.number.0 ≡ t)

-- a live thread has this number, and the end of the domain leaves nothing of it
abbrev pub EndsWith : List SharedThread → DomainId → ℕ → Type 0
EndsWith threads d t =
    (e : SharedThread) × Contains threads e × (e.number.0 ≡ t) × (segments_left shared_form d e.segments ≡ [])

abbrev pub thread_number : ThreadNo → ℕ
thread_number t = t.0

-- ---- What the calls ask.

abbrev pub IsLive : List SharedThread → ThreadNo → Type 0
IsLive threads t = (e : SharedThread) × (thread_numbered threads t ≡ Some e)

abbrev pub IsThere : List SharedThread → SegmentNo → Type 0
IsThere threads n = (p : PlacedSegment) × (segment_numbered threads n ≡ Some p)

-- the segments of all threads
abbrev pub segments_in : List SharedThread → List SharedSegment
segments_in threads = flat_map (λ (t : SharedThread). t.segments) threads

-- ---- A thread that has ended, by the domain in which it was started.

-- how many have ended
abbrev pub count_ended : Option DomainId → ℕ
count_ended ended = option_map_or (λ (d : DomainId). 1) ended 0

-- how many of them were started in this domain
abbrev pub count_ended_in : Option DomainId → DomainId → ℕ
count_ended_in ended d = option_map_or (λ (home : DomainId). if home.0 == d.0 then 1 else 0) ended 0
