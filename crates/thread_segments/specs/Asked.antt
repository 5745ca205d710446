-- What the calls ask of the state that domains share, and of what they are given.
use Rattle.std.specs.Prelude.{◌≡◌, ◌≢◌, ℕ, ◌-◌, ◌<◌, ◌≤◌, ◌^◌, true, length, Some}
use Rattle.jk_model.specs.declared.identifiers.DomainId.{DomainId}
use Rattle.jk_model.specs.declared.identifiers.SegmentNo.{SegmentNo}
use Rattle.jk_model.specs.declared.identifiers.ThreadNo.{ThreadNo}
use Rattle.jk_model.specs.declared.script.Quotas.{Quotas}
use Rattle.jk_model_sharing.specs.Segments.{PlacedSegment, SharedThread, count_segments_of, segment_numbered, thread_numbered}
use Rattle.jk_model_sharing.specs.SharedStates.{SharedDomain, SharedState, domain_numbered}

-- ---- Domains.

-- the domain that is admitted next: numbers are places in the order of admission
abbrev pub IsNext : SharedState → DomainId → Type 0
IsNext s d = d.0 ≡ length s.domains

abbrev pub IsAdmitted : SharedState → DomainId → Type 0
IsAdmitted s d = (e : SharedDomain) × (domain_numbered s d ≡ Some e)

-- admitted, and not dropped
abbrev pub IsLiveDomain : SharedState → DomainId → Type 0
IsLiveDomain s d = (e : SharedDomain) × (domain_numbered s d ≡ Some e) × (e.live ≡ true)

-- no quota is above what a script can say
pub record AreWithin (q : Quotas) : Type 0 where
  pub chunks : q.chunks ≤ 262144
  pub threads : q.threads ≤ 4096
  pub names : q.names ≤ 4096

-- its budget, where it has one, isn't 0
abbrev pub MaySpend : SharedState → DomainId → Type 0
MaySpend s d = (e : SharedDomain) → domain_numbered s d ≡ Some e → e.steps_left ≢ Some 0

-- its budget, where it has one, isn't less than so many steps
abbrev pub MaySpendSteps : SharedState → DomainId → ℕ → Type 0
MaySpendSteps s d n = (e : SharedDomain) (left : ℕ) → domain_numbered s d ≡ Some e → e.steps_left ≡ Some left → n ≤ left

-- ---- Threads and segments.

abbrev pub IsLiveThread : SharedState → ThreadNo → Type 0
IsLiveThread s t = (e : SharedThread) × (thread_numbered s.threads t ≡ Some e)

abbrev pub IsThere : SharedState → SegmentNo → Type 0
IsThere s n = (p : PlacedSegment) × (segment_numbered s.threads n ≡ Some p)

-- The domain has fewer segments than chunks, of which each segment costs one at least. So there is room for one more.
abbrev pub HasRoomForSegment : SharedState → DomainId → Type 0
HasRoomForSegment s d = (e : SharedDomain) × (domain_numbered s d ≡ Some e) × (count_segments_of s.threads d < e.quotas.chunks)

-- the next numbers may be drawn
abbrev pub MayDrawThread : SharedState → Type 0
MayDrawThread s = s.next_thread < 2 ^ 31

abbrev pub MayDrawSegment : SharedState → Type 0
MayDrawSegment s = s.next_segment < 2 ^ 64 - 1
