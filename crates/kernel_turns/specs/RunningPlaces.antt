-- Where a thread runs, by the parts of a kernel, and when its top segment may act there.
use Rattle.std.specs.Prelude.{◌≡◌, ◌≢◌, false, Some, slice_get}
use Rattle.jk_model.specs.declared.identifiers.ClassId.{ClassId}
use Rattle.jk_model.specs.declared.identifiers.DomainId.{DomainId}
use Rattle.jk_model.specs.declared.identifiers.ThreadNo.{ThreadNo}
use Rattle.jk_model_frames.specs.Frames.{FrameState}
use Rattle.jk_model_running.specs.Initialising.{FrameNeeds, IsInProgressElsewhere}
use Rattle.jk_model_sharing.specs.Segments.{SharedSegment, top_segment}
use Rattle.jk_model_sharing.specs.SharedStates.{SharedDomain, domain_numbered, spent}
use Rattle.class_init.specs.KeptStates.{KeptState}
use Rattle.frame_store.specs.FrameContents.{TopFrame}
use Rattle.step_contents.specs.Contents.{Contents, Here, contents_of, here_at}
use Rattle.segment_steps.specs.declared.meeting.Runs.{Runs}
use Rattle.kernel_parts.specs.SoundKernels.{KernelContent}

-- The thread's top segment, and what is kept of the own state of that segment's domain.
pub record RunsAt (k : KernelContent) (t : ThreadNo) : Type 0 where
  pub segment : SharedSegment
  pub is_top : top_segment k.shared.threads t ≡ Some segment
  pub own : KeptState
  pub is_own : slice_get k.owns segment.domain.0 ≡ Some (Some own)

-- that place, as code is told it
abbrev pub runs : ThreadNo → SharedSegment → Runs
runs t s = record { thread = t; domain = s.domain; segment = s.number }

-- what a step of the segment works on, and where
abbrev pub contents_at : {k : KernelContent} {t : ThreadNo} → RunsAt k t → Contents
contents_at {k = k} at = contents_of k.heap k.frames at.own

abbrev pub here_in : KernelContent → SharedSegment → Here
here_in k s = here_at k.world k.shared s.domain s.number

-- the same parts, where a step of a domain is paid
abbrev pub paying : DomainId → KernelContent → KernelContent
paying d k = record k { shared = spent d k.shared }

-- ---- The thread isn't held, and its domain has a step left.

pub record GoesAhead {k : KernelContent} {t : ThreadNo} (at : RunsAt k t) : Type 0 where
  pub awake : at.segment.suspended ≡ false
  -- no other thread initialises the class that its top frame needs
  pub free : (f : FrameState) (c : ClassId) → TopFrame k.frames at.segment.number f → FrameNeeds k.world.classes f c
      → IsInProgressElsewhere at.own.state t c → ⊥
  pub budget : (e : SharedDomain) → domain_numbered k.shared at.segment.domain ≡ Some e → e.steps_left ≢ Some 0

-- nothing is pending for the segment
abbrev pub HasNothingPending : SharedSegment → Type 0
HasNothingPending s = (s.stop ≡ false) × (s.revoked ≡ false)
