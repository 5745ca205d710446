-- The running segment of a thread, by the parts: what domains share has it on top of the thread, and the store has its frames.
use Rattle.std.specs.Prelude.{◌≡◌, map, Some}
use Rattle.jk_model.specs.declared.identifiers.ThreadNo.{ThreadNo}
use Rattle.jk_model_sharing.specs.Segments.{SharedSegment, SharedThread, thread_numbered, top_segment}
use Rattle.jk_model_sharing.specs.Segments.{without_top as without_shared_top}
use Rattle.jk_model_machine_state.specs.Machines.{IsLiveThread}
use Rattle.jk_model_machine_state.specs.Places.{LiveDomain, RunningSegment}
use Rattle.machine_parts.specs.MachineParts.{MachineParts, machine_of, segment_with_frames}

-- the thread, and its segments from the lowest on
pub record StandsOnTop (p : MachineParts) (t : ThreadNo) (r : RunningSegment (machine_of p) t) : Type 0 where
  pub thread : SharedThread
  pub is_thread : thread_numbered p.shared.threads t ≡ Some thread
  pub segment : SharedSegment
  pub is_top : top_segment p.shared.threads t ≡ Some segment
  pub runs : r.segment ≡ segment_with_frames p.frames segment
  pub lower : r.lower ≡ map (segment_with_frames p.frames) (without_shared_top thread.segments)

pub record RunningSegmentsAreOfParts : Type 0 where
  pub stands : (p : MachineParts) (t : ThreadNo) (r : RunningSegment (machine_of p) t) → StandsOnTop p t r
  -- the top segment runs where its domain lives
  pub runs : (p : MachineParts) (t : ThreadNo) (s : SharedSegment) → top_segment p.shared.threads t ≡ Some s → LiveDomain (machine_of p) s.domain
      → RunningSegment (machine_of p) t
  -- threads live in the one exactly where they live in the other
  pub lives : (p : MachineParts) (t : ThreadNo) → IsLiveThread (machine_of p) t
      → (e : SharedThread) × (thread_numbered p.shared.threads t ≡ Some e)
  pub is_live : (p : MachineParts) (t : ThreadNo) (e : SharedThread) → thread_numbered p.shared.threads t ≡ Some e → IsLiveThread (machine_of p) t
