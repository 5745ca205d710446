-- What the end of a domain leaves of the threads, and how the domains in which they were started are counted then.
use Rattle.std.specs.Prelude.{◌≡◌, ℕ, ◌-◌, List, false, map, set, Some, slice_get, if◌then◌else◌}
use Rattle.jk_model.specs.declared.identifiers.DomainId.{DomainId}
use Rattle.jk_model_heaps.specs.Capabilities.{CapRange}
use Rattle.jk_model_sharing.specs.Segments.{live_threads, segments_left, shared_form, with_stacks}
use Rattle.thread_segments.specs.declared.domains.DomainEntry.{DomainEntry}
use Rattle.thread_segments.specs.declared.domains.RoomLeft.{RoomLeft}
use Rattle.thread_segments.specs.DomainEntries.{AreCounted}
use Rattle.thread_stacks.specs.Stacks.{ThreadList}

-- the threads that the end of a domain leaves
abbrev pub after_end : DomainId → ThreadList → ThreadList
after_end d t = record t { threads = live_threads (with_stacks (segments_left shared_form d) t.threads) }

-- the same, with room for so many threads
abbrev pub with_most : ℕ → ThreadList → ThreadList
with_most most t = record t { most = most }

-- the room that a thread leaves when it ends: where the domain in which it was started has ended before, no other takes its place
abbrev pub outlived : DomainEntry → ℕ
outlived e = if e.live then 0 else 1

-- A thread of a domain is counted no longer, and leaves so much room.
pub record CountsEnd (old new : List DomainEntry) (home : DomainId) (room : ℕ) : Type 0 where
  pub entry : DomainEntry
  pub there : slice_get old home.0 ≡ Some entry
  pub becomes : new ≡ set old home.0 (record entry { threads = entry.threads - 1 })
  pub leaves : room ≡ outlived entry

-- The entry of a domain is ended, and it leaves the room that its quotas had and nothing takes.
pub record EndsEntry (old new : List DomainEntry) (d : DomainId) (room : RoomLeft) : Type 0 where
  pub entry : DomainEntry
  pub there : slice_get old d.0 ≡ Some entry
  pub becomes : new ≡ set old d.0 (record entry { live = false; names = 0 })
  pub threads : room.threads ≡ entry.quotas.threads - entry.threads
  pub segments : room.segments ≡ entry.quotas.chunks
  pub names : room.names ≡ entry.quotas.names

-- all of an entry but its count of threads
abbrev pub uncounted : DomainEntry → DomainEntry
uncounted e = record e { threads = 0 }

-- Nothing but the counts of threads is changed, and these are right again.
pub record AreRecounted (old new : List DomainEntry) (before now : ThreadList) : Type 0 where
  pub alike : map uncounted new ≡ map uncounted old
  pub counts : (ranges : List CapRange) → AreCounted old ranges before → AreCounted new ranges now
