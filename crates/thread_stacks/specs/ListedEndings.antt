-- The threads that have segments of one domain alone, as a list.
use Rattle.std.specs.Prelude.{◌≡◌, ℕ, ◌≤◌, Bool, false, true, find, if◌then◌else◌, is_some, slice_get, List, Contains, Option, None, Some}
use Rattle.std.specs.List.Sorted.{IsNonDecreasing}
use Rattle.std.specs.Option.{option_map_or}
use Rattle.jk_model.specs.declared.identifiers.DomainId.{DomainId}
use Rattle.jk_model.specs.declared.identifiers.SegmentNo.{SegmentNo}
use Rattle.thread_stacks.specs.declared.entries.ThreadEntry.{ThreadEntry}
use Rattle.thread_stacks.specs.declared.slots.Slot.{Slot}
use Rattle.thread_stacks.specs.Places.{has_key}
use Rattle.thread_stacks.specs.Stacks.{AreChained, IsEntered, IsEntryWith, last_or, newer_in, older_in, owned_by, runs_only_in, thread_key}

-- a segment is the lowest of a live thread that has segments of the domain alone
abbrev pub lowest_of_ending : List ThreadEntry → List Slot → DomainId → Slot → Bool
lowest_of_ending entries slots d s =
    if is_some s.below then false else option_map_or (runs_only_in slots d) (find (has_key thread_key s.thread) entries) false

-- A segment that stands on nothing, and on which nothing stands, is that of a thread that ends.
abbrev pub EndsAlone : List ThreadEntry → List Slot → DomainId → Slot → Type 0
EndsAlone entries slots d s = s.below ≡ None → s.above ≡ None → lowest_of_ending entries slots d s ≡ true

-- The thread of each live segment has an entry.
abbrev pub HaveEntries : List Slot → List ThreadEntry → Type 0
HaveEntries slots entries = (i : ℕ) (s : Slot) → slice_get slots i ≡ Some s → s.live ≡ true → IsEntered entries s.thread

-- Each segment of the domain names the next older one, and this is the newest of them.
pub record AreNewestFirst (slots : List Slot) (d : DomainId) (newest : Option SegmentNo) : Type 0 where
  pub chain : AreChained older_in newer_in None (owned_by d.0 slots) None
  pub last : newest ≡ last_or None (owned_by d.0 slots)

-- These are the numbers of the live threads that have segments of the domain alone, in order.
pub record AreEndings (entries : List ThreadEntry) (slots : List Slot) (d : DomainId) (listed : List ℕ) : Type 0 where
  pub order : IsNonDecreasing listed
  pub only : (t : ℕ) → Contains listed t → IsEntryWith (runs_only_in slots d) entries t
  pub all : (t : ℕ) → IsEntryWith (runs_only_in slots d) entries t → Contains listed t

-- Where threads were listed for a domain, they are those. There is memory for as many as segments may live.
pub record AreListed (entries : List ThreadEntry) (slots : List Slot) (listed_for : Option DomainId) (listed : List ℕ) (most_segments capacity : ℕ)
    : Type 0 where
  pub endings : (d : DomainId) → listed_for ≡ Some d → AreEndings entries slots d listed
  pub room : most_segments ≤ capacity
