-- What one step does to the list of entries or to that of slots.
use Rattle.std.specs.Prelude.{◌≡◌, ℕ, ◌*◌, ◌≤◌, Bool, false, true, List, filter, find, length, map, set, Option, None, Some, slice_get, if◌then◌else◌, ◌==◌, is_some, ◌<◌, ◌+◌}
use Rattle.jk_model.specs.declared.identifiers.DomainId.{DomainId}
use Rattle.jk_model.specs.declared.identifiers.SegmentNo.{SegmentNo}
use Rattle.jk_model_sharing.specs.Segments.{SharedSegment, with_revoked, with_stop, with_suspended, count_started_in, live_threads, segments_left, shared_form, with_stacks}
use Rattle.thread_stacks.specs.declared.entries.ThreadEntry.{ThreadEntry}
use Rattle.thread_stacks.specs.declared.segments.Flag.{Flag}
use Rattle.thread_stacks.specs.declared.segments.Flag.TheVariants.{Orphan, Revoked, Stop, Suspended}
use Rattle.thread_stacks.specs.declared.slots.Link.{Link}
use Rattle.thread_stacks.specs.declared.slots.Link.TheVariants.{Above, Below, Newer, Older}
use Rattle.thread_stacks.specs.declared.slots.Slot.{Slot}
use Rattle.thread_stacks.specs.Places.{has_key}
use Rattle.thread_stacks.specs.Stacks.{slot_key, ThreadList}
use Rattle.thread_stacks.specs.StackAnswers.{count_ended, count_ended_in, segments_in}

-- The item that was at a place is another now, and all else is as before.
pub record IsSetAt {X : Type 0} (old new : List X) (was other : X) : Type 0 where
  pub place : ℕ
  pub there : slice_get old place ≡ Some was
  pub becomes : new ≡ set old place other

-- a segment that is pushed
abbrev pub slot_new : ℕ → ℕ → DomainId → Option SegmentNo → Option SegmentNo → Slot
slot_new n t d below older = record {
  number = n;
  thread = t;
  domain = d;
  suspended = false;
  stop = false;
  revoked = false;
  orphan = false;
  below = below;
  above = None;
  older = older;
  newer = None;
  live = true;
}

-- The entry of a number has this top now.
pub record IsTopSet (old new : List ThreadEntry) (t : ℕ) (top : Option SegmentNo) (was : ThreadEntry) : Type 0 where
  pub number : was.number ≡ t
  pub sets : IsSetAt old new was (record was { top = top })

-- The slot of a number is a mark now.
pub record IsMarked (old new : List Slot) (n : ℕ) (was : Slot) : Type 0 where
  pub number : was.number ≡ n
  pub sets : IsSetAt old new was (record was { live = false })

-- ---- Links.

-- the slot has this number
abbrev pub hits : Option SegmentNo → Slot → Bool
hits None s = false
hits (Some n) s = s.number == n.0

abbrev pub if_hit : Option SegmentNo → (Slot → Slot) → Slot → Slot
if_hit n change s = if hits n s then change s else s

abbrev pub slot_linked : Link → Option SegmentNo → Slot → Slot
slot_linked Below to s = record s { below = to }
slot_linked Above to s = record s { above = to }
slot_linked Older to s = record s { older = to }
slot_linked Newer to s = record s { newer = to }

-- the neighbours of a slot name one another
abbrev pub relinked : Slot → Slot → Slot
relinked was s =
    if_hit was.newer (slot_linked Older was.older)
    (if_hit was.older (slot_linked Newer was.newer)
    (if_hit was.above (slot_linked Below was.below)
    (if_hit was.below (slot_linked Above was.above) s)))

-- The slot of a number is a mark now, and its neighbours name one another.
pub record IsTakenOff (old new : List Slot) (n : ℕ) (was : Slot) : Type 0 where
  pub marked : List Slot
  pub marks : IsMarked old marked n was
  pub becomes : new ≡ map (relinked was) marked

-- the newest segments of the domains after one is taken off
abbrev pub newest_after : Slot → List (Option SegmentNo) → List (Option SegmentNo)
newest_after was newest = if is_some was.newer then newest else set newest was.domain.0 was.older

-- what has a segment on top of these: the one below and the one before it in its domain name it
abbrev pub raised : SegmentNo → Option SegmentNo → Option SegmentNo → Slot → Slot
raised n below older s = if_hit older (slot_linked Newer (Some n)) (if_hit below (slot_linked Above (Some n)) s)

-- ---- Flags.

-- a segment with a flag set or cleared
abbrev pub flag_changed : Flag → Bool → SharedSegment → SharedSegment
flag_changed Suspended on s = with_suspended on s
flag_changed Stop on s = with_stop on s
flag_changed Revoked on s = with_revoked on s
flag_changed Orphan on s = record s { orphan = on }

abbrev pub slot_flagged : Flag → Bool → Slot → Slot
slot_flagged Suspended on s = record s { suspended = on }
slot_flagged Stop on s = record s { stop = on }
slot_flagged Revoked on s = record s { revoked = on }
slot_flagged Orphan on s = record s { orphan = on }

-- The neighbours of a segment that is taken out: the one above is an orphan then, or, where there is none, a RevokedException is pending in the
-- one below.
abbrev pub warned : Slot → Slot → Slot
warned was s = if is_some was.above then if_hit was.above (slot_flagged Orphan true) s else if_hit was.below (slot_flagged Revoked true) s

-- The flag of the slot of a number is set or cleared. Nothing changes where there is none.
pub data Flags (old new : List Slot) (n : ℕ) (flag : Flag) (on : Bool) : Type 0 where
  flagged_nowhere : find (has_key slot_key n) old ≡ None → new ≡ old → Flags old new n flag on
  flagged_at : (was : Slot) → was.number ≡ n → IsSetAt old new was (slot_flagged flag on was) → Flags old new n flag on

-- Marks are dropped, or are no more than what is live.
pub data IsClosedUp {X : Type 0} (test : X → Bool) (old new : List X) (live : ℕ) : Type 0 where
  few : length old ≤ 2 * live → new ≡ old → IsClosedUp test old new live
  dropped : new ≡ filter test old → IsClosedUp test old new live

-- ---- A segment of a domain is taken out.

pub record TakesOut (old new : ThreadList) (d : DomainId) (ended : Option DomainId) : Type 0 where
  -- what the end of the domain leaves is the same
  pub same_end : live_threads (with_stacks (segments_left shared_form d) new.threads)
      ≡ live_threads (with_stacks (segments_left shared_form d) old.threads)
  pub rest : new ≡ record old { threads = new.threads }
  pub fewer_segments : length (segments_in new.threads) < length (segments_in old.threads)
  -- the thread has ended with its last segment, or goes on
  pub fewer : length new.threads + count_ended ended ≡ length old.threads
  pub counted : (home : DomainId) → count_started_in new.threads home + count_ended_in ended home ≡ count_started_in old.threads home

-- The end of the domain leaves all as it is.
abbrev pub LeavesAll : ThreadList → DomainId → Type 0
LeavesAll t d = live_threads (with_stacks (segments_left shared_form d) t.threads) ≡ t.threads
