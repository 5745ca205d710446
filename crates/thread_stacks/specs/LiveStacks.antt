-- Threads that may be put together: what holds of all live threads, whatever was done to them.
use Rattle.std.specs.Prelude.{◌≡◌, ◌≢◌, ℕ, ◌+◌, ◌<◌, ◌==◌, ◌++◌, ◌∷◌, Bool, true, filter, List, [], length, map, flat_map, set, slice_get, Contains, Option, Some, None}
use Rattle.jk_model.specs.declared.identifiers.SegmentNo.{SegmentNo}
use Rattle.jk_model_sharing.specs.Segments.{SharedSegment, SharedThread}
use Rattle.thread_stacks.specs.declared.parts.SegmentPart.{SegmentPart}
use Rattle.thread_stacks.specs.declared.parts.ThreadPart.{ThreadPart}
use Rattle.thread_stacks.specs.declared.restoring.PlacedPart.{PlacedPart}
use Rattle.thread_stacks.specs.declared.entries.ThreadEntry.{ThreadEntry}
use Rattle.thread_stacks.specs.declared.slots.Slot.{Slot}
use Rattle.thread_stacks.specs.Places.{AreRisingBy}
use Rattle.thread_stacks.specs.StackAnswers.{segments_in}
use Rattle.thread_stacks.specs.StackChanges.{IsTopSet, raised}
use Rattle.thread_stacks.specs.StackParts.{thread_part}
use Rattle.thread_stacks.specs.Stacks.{AreInOrder, AreLinked, AreOwned, IsEntered, ThreadList, stack_of, thread_key}

abbrev pub live_key : SharedThread → ℕ
live_key t = t.number.0

abbrev pub segment_key : SharedSegment → ℕ
segment_key s = s.number.0

-- Threads rise by number, and so do the segments of each, lowest first, of which there is one at least; all are below the next numbers. No
-- segment is there twice, and each is of one of so many domains.
pub record AreLive (ts : List SharedThread) (domains next_thread next_segment : ℕ) : Type 0 where
  pub threads : AreRisingBy live_key ts
  pub threads_before : (t : SharedThread) → Contains ts t → t.number.0 < next_thread
  pub have_segments : (t : SharedThread) → Contains ts t → t.segments ≢ []
  pub segments : (t : SharedThread) → Contains ts t → AreRisingBy segment_key t.segments
  pub segments_before : (e : SharedSegment) → Contains (segments_in ts) e → e.number.0 < next_segment
  pub differ : (i j : ℕ) (e f : SharedSegment) → slice_get (segments_in ts) i ≡ Some e → slice_get (segments_in ts) j ≡ Some f
      → e.number ≡ f.number → i ≡ j
  pub owners : (e : SharedSegment) → Contains (segments_in ts) e → e.domain.0 < domains

-- These are the parts of threads that may be put together.
pub record AreLiveParts (parts : List ThreadPart) (domains next_thread next_segment : ℕ) : Type 0 where
  pub threads : List SharedThread
  pub are_live : AreLive threads domains next_thread next_segment
  pub told : parts ≡ map thread_part threads

-- The threads of these parts are there, with room for them and for as many more as before.
pub record Restores (old new : ThreadList) (parts : List ThreadPart) (thread segment : ℕ) : Type 0 where
  pub threads : parts ≡ map thread_part new.threads
  pub next_thread : new.next_thread ≡ thread
  pub next_segment : new.next_segment ≡ segment
  pub most : new.most ≡ length parts + old.most
  pub most_segments : new.most_segments ≡ length (segments_in new.threads) + old.most_segments
  pub domains : new.domains ≡ old.domains

-- ---- Segments beside the numbers of their threads.

-- a segment on the thread of a number
abbrev pub placed_at : ℕ → SegmentPart → PlacedPart
placed_at t s = record { thread = t; segment = s }

-- the segments of a thread, lowest first
abbrev pub placed_on : ThreadPart → List PlacedPart
placed_on p = map (placed_at p.number.0) p.segments

abbrev pub placed_parts : List ThreadPart → List PlacedPart
placed_parts parts = flat_map placed_on parts

abbrev pub placed_key : PlacedPart → ℕ
placed_key p = p.segment.number.0

-- a segment with its flags, on top of another or as the lowest, and the newest of its domain
abbrev pub slot_placed : PlacedPart → Option SegmentNo → Option SegmentNo → Slot
slot_placed p below older = record {
  number = p.segment.number.0;
  thread = p.thread;
  domain = p.segment.domain;
  suspended = p.segment.suspended;
  stop = p.segment.stop;
  revoked = p.segment.revoked;
  orphan = p.segment.orphan;
  below = below;
  above = None;
  older = older;
  newer = None;
  live = true;
}

-- a thread that has no segment yet
abbrev pub entry_without : ThreadPart → ThreadEntry
entry_without p = record { number = p.number.0; domain = p.domain; top = None }

-- ---- Segments that are put on top of their threads.

-- A segment is on top of its thread now, and the newest of its domain.
pub record IsPut (entries new_entries : List ThreadEntry) (slots new_slots : List Slot) (newest new_newest : List (Option SegmentNo)) (p : PlacedPart)
    : Type 0 where
  pub was : ThreadEntry
  pub top : IsTopSet entries new_entries p.thread (Some p.segment.number) was
  pub older : Option SegmentNo
  pub had : slice_get newest p.segment.domain.0 ≡ Some older
  pub becomes : new_slots ≡ map (raised p.segment.number was.top older) slots ++ slot_placed p was.top older ∷ []
  pub newest_now : new_newest ≡ set newest p.segment.domain.0 (Some p.segment.number)

-- all of an entry but its top
abbrev pub topless : ThreadEntry → ThreadEntry
topless e = record e { top = None }

-- the segment of a placed part
abbrev pub placed_segment : PlacedPart → SharedSegment
placed_segment p = record {
  number = p.segment.number;
  domain = p.segment.domain;
  suspended = p.segment.suspended;
  stop = p.segment.stop;
  revoked = p.segment.revoked;
  orphan = p.segment.orphan;
}

-- it is of the thread of this number
abbrev pub is_placed_on : ℕ → PlacedPart → Bool
is_placed_on t p = p.thread == t

-- Threads without segments, on which these segments may be put: these rise by number, and their threads and domains are there.
pub record MayPut (entries : List ThreadEntry) (slots : List Slot) (newest : List (Option SegmentNo)) (placed : List PlacedPart) : Type 0 where
  pub threads : AreRisingBy thread_key entries
  pub bound : ℕ
  pub before : (i : ℕ) (e : ThreadEntry) → slice_get entries i ≡ Some e → e.number < bound
  pub no_tops : (i : ℕ) (e : ThreadEntry) → slice_get entries i ≡ Some e → e.top ≡ None
  pub no_slots : slots ≡ []
  pub none_newest : (d : ℕ) (o : Option SegmentNo) → slice_get newest d ≡ Some o → o ≡ None
  pub order : AreRisingBy placed_key placed
  pub entered : (i : ℕ) (p : PlacedPart) → slice_get placed i ≡ Some p → IsEntered entries p.thread
  pub domains : (i : ℕ) (p : PlacedPart) → slice_get placed i ≡ Some p → p.segment.domain.0 < length newest

-- Threads and segments are in order, where the next segment has this number.
pub record AreInSomeOrder (slots : List Slot) (entries : List ThreadEntry) (next_segment : ℕ) : Type 0 where
  pub next_thread : ℕ
  pub order : AreInOrder slots entries next_thread next_segment

-- a number is above all of these
abbrev pub IsAbove : List PlacedPart → ℕ → Type 0
IsAbove placed m = (i : ℕ) (p : PlacedPart) → slice_get placed i ≡ Some p → p.segment.number.0 < m

-- These segments stand on the threads, each in its order, and the threads are the same but for their tops.
pub record ArePut (entries new_entries : List ThreadEntry) (slots : List Slot) (newest new_newest : List (Option SegmentNo)) (placed : List PlacedPart)
    : Type 0 where
  pub same_threads : map topless new_entries ≡ map topless entries
  pub order : (m : ℕ) → IsAbove placed m → AreInSomeOrder slots new_entries m
  pub all_live : (i : ℕ) (s : Slot) → slice_get slots i ≡ Some s → s.live ≡ true
  pub as_many : length slots ≡ length placed
  pub stacks : (t : ℕ) → stack_of t slots ≡ map placed_segment (filter (is_placed_on t) placed)
  pub links : AreLinked slots new_entries
  pub owned : AreOwned slots new_newest
  pub domains : length new_newest ≡ length newest
