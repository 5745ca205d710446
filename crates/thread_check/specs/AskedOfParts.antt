-- What is asked before a call, found out of the plain lists.
use Rattle.std.specs.Prelude.{◌≡◌, ℕ, ◌<◌, ◌==◌, true, List, length, filter, Some, slice_get, sum_by}
use Rattle.jk_model.specs.declared.identifiers.DomainId.{DomainId}
use Rattle.thread_segments.specs.declared.parts.DomainPart.{DomainPart}
use Rattle.thread_segments.specs.declared.parts.SharedParts.{SharedParts}
use Rattle.thread_stacks.specs.declared.parts.SegmentPart.{SegmentPart}
use Rattle.thread_stacks.specs.declared.parts.ThreadPart.{ThreadPart}

abbrev pub IsLiveIn : SharedParts → DomainId → Type 0
IsLiveIn p d = (e : DomainPart) × (slice_get p.domains d.0 ≡ Some e) × (e.live ≡ true)

-- how many segments a domain has in these threads
abbrev pub count_in : List ThreadPart → DomainId → ℕ
count_in threads d = sum_by (λ (t : ThreadPart). length (filter (λ (s : SegmentPart). s.domain.0 == d.0) t.segments)) threads

-- the domain lives and has fewer segments than chunks, and the next numbers are small
pub record HasRoomIn (p : SharedParts) (d : DomainId) : Type 0 where
  pub entry : DomainPart
  pub there : slice_get p.domains d.0 ≡ Some entry
  pub live : entry.live ≡ true
  pub room : count_in p.threads d < entry.quotas.chunks
  pub thread : p.next_thread < 1000
  pub segment : p.next_segment < 1000
