-- Threads as entries of a list, and their segments in slots of another, in the order in which they were pushed. What is gone stays in both as
-- a mark for some time. A thread's stack, lowest first, is what is live of its slots.
use Rattle.std.specs.Prelude.{◌≡◌, ℕ, ◌*◌, ◌<◌, ◌≤◌, ◌==◌, ◌&&◌, Bool, true, List, filter, length, map, take, Contains, Option, Some, is_some, slice_get, None, ◌∷◌, []}
use Rattle.std.specs.List.{list_all}
use Rattle.jk_model.specs.declared.identifiers.DomainId.{DomainId}
use Rattle.jk_model.specs.declared.identifiers.SegmentNo.{SegmentNo}
use Rattle.jk_model_sharing.specs.Segments.{SharedSegment, SharedThread, live_threads, top_of}
use Rattle.thread_stacks.specs.declared.entries.ThreadEntry.{ThreadEntry}
use Rattle.thread_stacks.specs.declared.segments.SegmentInfo.{SegmentInfo}
use Rattle.thread_stacks.specs.declared.slots.Slot.{Slot}
use Rattle.thread_stacks.specs.Places.{AreRisingBy}

-- ---- Slots.

abbrev pub segment_of : Slot → SharedSegment
segment_of s = record {
  number = record { 0 = s.number };
  domain = s.domain;
  suspended = s.suspended;
  stop = s.stop;
  revoked = s.revoked;
  orphan = s.orphan;
}

abbrev pub slot_number : Slot → SegmentNo
slot_number s = record { 0 = s.number }

abbrev pub slot_key : Slot → ℕ
slot_key s = s.number

abbrev pub is_live : Slot → Bool
is_live s = s.live

-- the slot has a live segment of the thread of this number
abbrev pub stands_on : ℕ → Slot → Bool
stands_on t s = s.live && (s.thread == t)

-- what is known of its segment
abbrev pub slot_info : Slot → SegmentInfo
slot_info s = record {
  thread = record { 0 = s.thread };
  domain = s.domain;
  suspended = s.suspended;
  stop = s.stop;
  revoked = s.revoked;
  orphan = s.orphan;
}

-- a slot has this number
pub record IsSlotted (slots : List Slot) (n : ℕ) : Type 0 where
  pub place : ℕ
  pub slot : Slot
  pub there : slice_get slots place ≡ Some slot
  pub number : slot.number ≡ n

-- those of a thread, lowest first
abbrev pub slots_on : ℕ → List Slot → List Slot
slots_on t slots = filter (stands_on t) slots

abbrev pub stack_of : ℕ → List Slot → List SharedSegment
stack_of t slots = map segment_of (slots_on t slots)

-- the number of a thread's top segment; none where it has none
abbrev pub top_on : ℕ → List Slot → Option SegmentNo
top_on t slots = top_of (map slot_number (slots_on t slots))

-- the slot has a live segment of the domain of this number
abbrev pub is_own : ℕ → Slot → Bool
is_own d s = s.live && (s.domain.0 == d)

-- those of a domain, oldest first
abbrev pub owned_by : ℕ → List Slot → List Slot
owned_by d slots = filter (is_own d) slots

-- ---- Threads.

abbrev pub thread_key : ThreadEntry → ℕ
thread_key e = e.number

abbrev pub is_running : ThreadEntry → Bool
is_running e = is_some e.top

abbrev pub thread_of : List Slot → ThreadEntry → SharedThread
thread_of slots e = record { number = record { 0 = e.number }; domain = e.domain; segments = stack_of e.number slots }

-- the live threads
abbrev pub threads_of : List Slot → List ThreadEntry → List SharedThread
threads_of slots entries = live_threads (map (thread_of slots) entries)

-- The live threads, the next numbers of threads and of segments, how many threads and segments may live at once, and of how many domains.
pub record ThreadList : Type 0 where
  pub threads : List SharedThread
  pub next_thread : ℕ
  pub next_segment : ℕ
  pub most : ℕ
  pub most_segments : ℕ
  pub domains : ℕ

-- ---- What holds of the lists.

-- an entry has this number
pub record IsEntered (entries : List ThreadEntry) (t : ℕ) : Type 0 where
  pub place : ℕ
  pub entry : ThreadEntry
  pub there : slice_get entries place ≡ Some entry
  pub number : entry.number ≡ t

-- Numbers rise and are below the next ones, and each live segment is of a thread that has an entry.
pub record AreInOrder (slots : List Slot) (entries : List ThreadEntry) (next_thread next_segment : ℕ) : Type 0 where
  pub threads : AreRisingBy thread_key entries
  pub threads_before : (i : ℕ) (e : ThreadEntry) → slice_get entries i ≡ Some e → e.number < next_thread
  pub segments : AreRisingBy slot_key slots
  pub segments_before : (i : ℕ) (s : Slot) → slice_get slots i ≡ Some s → s.number < next_segment
  pub homes : (i : ℕ) (s : Slot) → slice_get slots i ≡ Some s → s.live ≡ true → IsEntered entries s.thread

-- the number of the first of these, or another where there is none
abbrev pub first_or : Option SegmentNo → List Slot → Option SegmentNo
first_or other [] = other
first_or other (s ∷ more) = Some (slot_number s)

-- the number of the last of these, or another where there is none
abbrev pub last_or : Option SegmentNo → List Slot → Option SegmentNo
last_or other [] = other
last_or other (s ∷ more) = last_or (Some (slot_number s)) more

-- each names the one before it and the one behind it, of which the first two arguments tell
abbrev pub AreChained : (Slot → Option SegmentNo) → (Slot → Option SegmentNo) → Option SegmentNo → List Slot → Option SegmentNo → Type 0
AreChained back on before [] behind = Unit {0}
AreChained back on before (s ∷ more) behind =
    (back s ≡ before) × (on s ≡ first_or behind more) × AreChained back on (Some (slot_number s)) more behind

abbrev pub thread_in : Slot → ℕ
thread_in s = s.thread

abbrev pub owner_in : Slot → ℕ
owner_in s = s.domain.0

abbrev pub below_in : Slot → Option SegmentNo
below_in s = s.below

abbrev pub above_in : Slot → Option SegmentNo
above_in s = s.above

abbrev pub older_in : Slot → Option SegmentNo
older_in s = s.older

abbrev pub newer_in : Slot → Option SegmentNo
newer_in s = s.newer

-- each live segment names the one directly below it
abbrev pub NameBelows : List Slot → Type 0
NameBelows slots = (i : ℕ) (s : Slot) → slice_get slots i ≡ Some s → s.live ≡ true → s.below ≡ top_on s.thread (take i slots)

-- each thread names its top segment
abbrev pub NameTops : List Slot → List ThreadEntry → Type 0
NameTops slots entries = (i : ℕ) (e : ThreadEntry) → slice_get entries i ≡ Some e → e.top ≡ top_on e.number slots

-- Each live segment names the ones directly below and above it, and each thread its top one.
pub record AreLinked (slots : List Slot) (entries : List ThreadEntry) : Type 0 where
  pub stacks : (t : ℕ) → AreChained below_in above_in None (slots_on t slots) None
  pub tops : NameTops slots entries

-- Each live segment names the next older and the next newer one of its domain, and each domain its newest one.
pub record AreOwned (slots : List Slot) (newest : List (Option SegmentNo)) : Type 0 where
  pub chains : (d : ℕ) → AreChained older_in newer_in None (owned_by d slots) None
  pub lasts : (d : ℕ) (o : Option SegmentNo) → slice_get newest d ≡ Some o → o ≡ last_or None (owned_by d slots)
  pub owners : (i : ℕ) (s : Slot) → slice_get slots i ≡ Some s → s.live ≡ true → s.domain.0 < length newest

-- So many of a list are live, no more than may. No more are marks, and there is memory for so many more as may live.
pub record HasRoom {X : Type 0} (test : X → Bool) (xs : List X) (live most capacity : ℕ) : Type 0 where
  pub counted : live ≡ length (filter test xs)
  pub within : live ≤ most
  pub marks : length xs ≤ 2 * live
  pub room : 2 * most ≤ capacity

-- an entry of this number passes a test
abbrev pub IsEntryWith : (ThreadEntry → Bool) → List ThreadEntry → ℕ → Type 0
IsEntryWith test entries t = (e : ThreadEntry) × Contains entries e × (e.number ≡ t) × (test e ≡ true)

-- the thread of this number is live
abbrev pub IsRunning : List ThreadEntry → ℕ → Type 0
IsRunning entries t = IsEntryWith is_running entries t

-- the slot's segment is of a domain
abbrev pub is_in : DomainId → Slot → Bool
is_in d s = s.domain.0 == d.0

-- the thread is live, and each of its segments is of a domain
abbrev pub runs_only_in : List Slot → DomainId → ThreadEntry → Bool
runs_only_in slots d e = is_running e && list_all (is_in d) (slots_on e.number slots)

-- The entries from this place on are those with greater numbers.
pub record IsStart (entries : List ThreadEntry) (above start : ℕ) : Type 0 where
  pub within : start ≤ length entries
  pub low : (k : ℕ) (e : ThreadEntry) → slice_get entries k ≡ Some e → k < start → e.number ≤ above
  pub high : (k : ℕ) (e : ThreadEntry) → slice_get entries k ≡ Some e → start ≤ k → above < e.number
