-- Where a thread runs: its top segment, and that segment's domain.
use Rattle.std.specs.Prelude.{◌≡◌, suc, List, [], ◌∷◌, ◌++◌, Some}
use Rattle.jk_model.specs.declared.identifiers.DomainId.{DomainId}
use Rattle.jk_model.specs.declared.identifiers.ThreadNo.{ThreadNo}
use Rattle.jk_model_frames.specs.Frames.{FrameState}
use Rattle.jk_model_heaps.specs.Workings.{Inside, Run, Setting}
use Rattle.jk_model_sharing.specs.Segments.{SharedSegment, new_segment}
use Rattle.jk_model_machine_state.specs.Machines.{DomainState, Machine, Segment, Thread, caps_of, free_chunks, domain_at, thread_numbered, with_inside, with_segments}

-- a live domain
pub record LiveDomain (m : Machine) (d : DomainId) : Type 0 where
  pub domain : DomainState
  pub is_domain : domain_at m d ≡ Some domain
  -- it stands at its number
  pub numbered : domain.number ≡ d
  pub inside : Inside
  pub is_inside : domain.inside ≡ Some inside

-- the top segment of the thread of this number
pub record RunningSegment (m : Machine) (t : ThreadNo) : Type 0 where
  pub thread : Thread
  pub is_thread : thread_numbered m t ≡ Some thread
  pub lower : List Segment
  pub segment : Segment
  pub are_segments : thread.segments ≡ lower ++ segment ∷ []
  pub home : LiveDomain m segment.shared.domain

-- what the segment works on
abbrev pub run_of : {m : Machine} {t : ThreadNo} → RunningSegment m t → Run
run_of p = record { inside = p.home.inside; frames = p.segment.frames }

-- what stays as it is while the segment makes a step
abbrev pub setting_of : {m : Machine} {t : ThreadNo} → RunningSegment m t → Setting
setting_of {m = m} p = record {
  classes = m.classes;
  caps = record { ranges = caps_of m; stand_ins = [] };
  name = p.home.domain.name;
  segment = p.segment.shared.number;
  quota = p.home.domain.quotas.heap;
  chunks = free_chunks m p.home.domain;
}

-- the machine with this segment in the place of the running one, whose domain has this inside
abbrev pub with_running : {m : Machine} {t : ThreadNo} → RunningSegment m t → Segment → Inside → Machine
with_running {m = m} {t = t} p s inside = with_segments t (p.lower ++ s ∷ []) (with_inside p.segment.shared.domain inside m)

-- the machine in which the segment has run so far
abbrev pub with_run : {m : Machine} {t : ThreadNo} → RunningSegment m t → Run → Machine
with_run p run = with_running p (record p.segment { frames = run.frames }) run.inside

-- the machine in which what domains share of the running segment is this
abbrev pub with_flags : {m : Machine} {t : ThreadNo} → RunningSegment m t → SharedSegment → Machine
with_flags p shared = with_running p (record p.segment { shared = shared }) p.home.inside

-- the machine without the running segment
abbrev pub without_top : {m : Machine} {t : ThreadNo} → RunningSegment m t → Machine
without_top {m = m} {t = t} p = with_segments t p.lower m

-- a segment with one frame and without flags, which has the next number
abbrev pub first_segment : Machine → DomainId → FrameState → Segment
first_segment m d frame = record { shared = new_segment (record { 0 = m.next_segment }) d; frames = frame ∷ [] }

abbrev pub with_segment_drawn : Machine → Machine
with_segment_drawn m = record m { next_segment = suc m.next_segment }
