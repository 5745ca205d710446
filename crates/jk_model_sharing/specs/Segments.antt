-- Threads are stacks of segments. A segment is the part of a thread that runs in one domain, from a call into it on. What is said here of
-- stacks of segments is said for segments of any form: those that domains share have no frames, and those of a machine have them.
use Rattle.std.specs.Prelude.{ℕ, ◌==◌, Bool, false, true, List, [], ◌∷◌, length, filter, find, map, sum_by, Option, Some, None, option_and_then, option_map, if◌then◌else◌}
use Rattle.std.specs.List.{list_any}
use Rattle.std.specs.Option.{option_map_or}
use Rattle.jk_model.specs.declared.identifiers.DomainId.{DomainId}
use Rattle.jk_model.specs.declared.identifiers.SegmentNo.{SegmentNo}
use Rattle.jk_model.specs.declared.identifiers.ThreadNo.{ThreadNo}

pub record SharedSegment : Type 0 where
  pub number : SegmentNo
  pub domain : DomainId
  -- it takes no step
  pub suspended : Bool
  -- its next step raises a ThreadDeath, or a RevokedException
  pub stop : Bool
  pub revoked : Bool
  -- the segment that called it is gone
  pub orphan : Bool

-- a segment without flags
abbrev pub new_segment : SegmentNo → DomainId → SharedSegment
new_segment n d = record {
  number = n;
  domain = d;
  suspended = false;
  stop = false;
  revoked = false;
  orphan = false;
}

abbrev pub with_suspended : Bool → SharedSegment → SharedSegment
with_suspended on s = record s { suspended = on }

abbrev pub with_stop : Bool → SharedSegment → SharedSegment
with_stop on s = record s { stop = on }

abbrev pub with_revoked : Bool → SharedSegment → SharedSegment
with_revoked on s = record s { revoked = on }

abbrev pub as_orphan : SharedSegment → SharedSegment
as_orphan s = record s { orphan = true }

-- ---- Segments of any form.

-- Segments of a form have the parts above, and maybe more: those parts, and the segment with others in their place.
pub record SegmentForm (S : Type 0) : Type 0 where
  pub shared : S → SharedSegment
  pub with_shared : SharedSegment → S → S

-- without frames
abbrev pub shared_form : SegmentForm SharedSegment
shared_form = record { shared = λ (s : SharedSegment). s; with_shared = λ (new s : SharedSegment). new }

abbrev pub is_numbered : {S : Type 0} → SegmentForm S → SegmentNo → S → Bool
is_numbered form n s = (form.shared s).number.0 == n.0

abbrev pub is_of : {S : Type 0} → SegmentForm S → DomainId → S → Bool
is_of form d s = (form.shared s).domain.0 == d.0

abbrev pub changed : {S : Type 0} → SegmentForm S → (SharedSegment → SharedSegment) → S → S
changed form change s = form.with_shared (change (form.shared s)) s

-- ---- Stacks of them, lowest first.

abbrev pub top_of : {S : Type 0} → List S → Option S
top_of [] = None
top_of (s ∷ []) = Some s
top_of (s ∷ above ∷ more) = top_of (above ∷ more)

abbrev pub without_top : {S : Type 0} → List S → List S
without_top [] = []
without_top (s ∷ []) = []
without_top (s ∷ above ∷ more) = s ∷ without_top (above ∷ more)

abbrev pub with_top : {S : Type 0} → (S → S) → List S → List S
with_top change [] = []
with_top change (s ∷ []) = change s ∷ []
with_top change (s ∷ above ∷ more) = s ∷ with_top change (above ∷ more)

-- the one directly below the one that passes a test; none below the lowest
abbrev pub standing_below : {S : Type 0} → (S → Bool) → List S → Option S
standing_below test [] = None
standing_below test (s ∷ []) = None
standing_below test (s ∷ above ∷ more) = if test above then Some s else standing_below test (above ∷ more)

-- ---- Flags of the segment of a number, whatever stands above it. Nothing changes once it is gone.

abbrev pub with_segment : {S : Type 0} → SegmentForm S → SegmentNo → (SharedSegment → SharedSegment) → List S → List S
with_segment form n change segments = map (λ s. if is_numbered form n s then changed form change s else s) segments

abbrev pub suspended_in : {S : Type 0} → SegmentForm S → SegmentNo → List S → List S
suspended_in form n segments = with_segment form n (with_suspended true) segments

abbrev pub resumed_in : {S : Type 0} → SegmentForm S → SegmentNo → List S → List S
resumed_in form n segments = with_segment form n (with_suspended false) segments

abbrev pub stopped_in : {S : Type 0} → SegmentForm S → SegmentNo → List S → List S
stopped_in form n segments = with_segment form n (with_stop true) segments

-- ---- The end of a domain: its segments are taken out. What stood directly on one of these is an orphan from now on. Where the top is
-- taken out, the new one has a RevokedException pending, be it an orphan or not.

-- what is left above a segment that is taken out, where the last argument says so, and else above one that stays
abbrev pub left_above : {S : Type 0} → SegmentForm S → DomainId → Bool → List S → List S
left_above form d gap [] = []
left_above form d gap (s ∷ more) =
    if is_of form d s then left_above form d true more
    else (if gap then changed form as_orphan s else s) ∷ left_above form d false more

abbrev pub top_is_of : {S : Type 0} → SegmentForm S → DomainId → List S → Bool
top_is_of form d segments = option_map_or (is_of form d) (top_of segments) false

abbrev pub segments_left : {S : Type 0} → SegmentForm S → DomainId → List S → List S
segments_left form d segments =
    if top_is_of form d segments then with_top (changed form (with_revoked true)) (left_above form d false segments)
    else left_above form d false segments

-- ---- Threads, without frames.

-- a thread, which is live as long as it has a segment
pub record SharedThread : Type 0 where
  pub number : ThreadNo
  -- the domain in which it was started
  pub domain : DomainId
  pub segments : List SharedSegment

abbrev pub has_segments : SharedThread → Bool
has_segments t = elim t.segments as (λ _. Bool) [ [] ↦ false | s ∷ more ↦ true ]

abbrev pub with_segments : (List SharedSegment → List SharedSegment) → SharedThread → SharedThread
with_segments change t = record t { segments = change t.segments }

abbrev pub thread_numbered : List SharedThread → ThreadNo → Option SharedThread
thread_numbered threads t = find (λ (e : SharedThread). e.number.0 == t.0) threads

-- the thread in which a segment stands
abbrev pub thread_with : List SharedThread → SegmentNo → Option SharedThread
thread_with threads n = find (λ (e : SharedThread). list_any (is_numbered shared_form n) e.segments) threads

-- a segment, and its thread
pub record PlacedSegment : Type 0 where
  pub thread : SharedThread
  pub segment : SharedSegment

abbrev pub placed_in : SegmentNo → SharedThread → Option PlacedSegment
placed_in n t =
    option_map (λ (s : SharedSegment). record { thread = t; segment = s }) (find (is_numbered shared_form n) t.segments)

-- nothing where the segment is gone
abbrev pub segment_numbered : List SharedThread → SegmentNo → Option PlacedSegment
segment_numbered threads n = option_and_then (placed_in n) (thread_with threads n)

-- the segment directly below one; none below a lowest one
abbrev pub segment_below : List SharedThread → SegmentNo → Option SharedSegment
segment_below threads n =
    option_and_then (λ (t : SharedThread). standing_below (is_numbered shared_form n) t.segments) (thread_with threads n)

-- the top segment of a thread; none of a thread that isn't live
abbrev pub top_segment : List SharedThread → ThreadNo → Option SharedSegment
top_segment threads t = option_and_then (λ (e : SharedThread). top_of e.segments) (thread_numbered threads t)

-- how many live threads were started in a domain
abbrev pub count_started_in : List SharedThread → DomainId → ℕ
count_started_in threads d = length (filter (λ (t : SharedThread). t.domain.0 == d.0) threads)

-- how many segments a domain has, on all threads
abbrev pub count_segments_of : List SharedThread → DomainId → ℕ
count_segments_of threads d = sum_by (λ (t : SharedThread). length (filter (is_of shared_form d) t.segments)) threads

-- ---- Threads changed.

abbrev pub with_stacks : (List SharedSegment → List SharedSegment) → List SharedThread → List SharedThread
with_stacks change threads = map (with_segments change) threads

-- the stack of one thread changed
abbrev pub with_stack : ThreadNo → (List SharedSegment → List SharedSegment) → List SharedThread → List SharedThread
with_stack t change threads = map (λ (e : SharedThread). if e.number.0 == t.0 then with_segments change e else e) threads

abbrev pub live_threads : List SharedThread → List SharedThread
live_threads threads = filter has_segments threads
