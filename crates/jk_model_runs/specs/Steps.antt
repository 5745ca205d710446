-- One step of one thread, as a relation: what it was, which lines it may print, and to which machine it may lead. There is one case a rule,
-- in the order of the rules, and each holds only where those before it don't. A state that fits no case has no step.
use Rattle.std.specs.Prelude.{◌≡◌, ◌≢◌, ℕ, zero, suc, ◌⊎◌, true, false, List, [], ◌∷◌, Option, Some, Ok, Err}
use Rattle.jk_model.specs.declared.identifiers.CapId.{CapId}
use Rattle.jk_model.specs.declared.identifiers.ClassId.{ClassId}
use Rattle.jk_model.specs.declared.identifiers.DomainId.{DomainId}
use Rattle.jk_model.specs.declared.identifiers.MemberId.{MemberId}
use Rattle.jk_model.specs.declared.identifiers.SegmentNo.{SegmentNo}
use Rattle.jk_model.specs.declared.identifiers.ThreadNo.{ThreadNo}
use Rattle.jk_model.specs.declared.output.Line.{Line}
use Rattle.jk_model.specs.declared.output.Line.TheVariants.{Said}
use Rattle.jk_model.specs.declared.steps.Raise.{Raise}
use Rattle.jk_model.specs.declared.steps.Raise.TheVariants as Raised
use Rattle.jk_model.specs.declared.steps.Standing.TheVariants as Stands
use Rattle.jk_model.specs.declared.values.Value.{Value}
use Rattle.jk_model_heaps.specs.Workings.{Request, Run}
use Rattle.jk_model_heaps.specs.Workings.{Resumes as AsksToResume, Stops as AsksToStop, Suspends as AsksToSuspend}
use Rattle.jk_model_running.specs.Initialising.{FrameNeeds, IsInProgressElsewhere}
use Rattle.jk_model_running.specs.LocalSteps.{LocalStep, TopFrame}
use Rattle.jk_model_running.specs.Ways.{Went, GoesOn, Says, Ended, Left, Crosses, Asks, Terminates as EndsDomain}
use Rattle.jk_model_sharing.specs.Segments.{with_revoked, with_stop}
use Rattle.jk_model_machine_state.specs.Machines.{IsLiveThread, Machine, paid}
use Rattle.jk_model_machine_state.specs.Places.{RunningSegment, run_of, setting_of, with_flags, with_run}
use Rattle.jk_model_crossings.specs.Answers.{Receives, Returns}
use Rattle.jk_model_crossings.specs.DomainEnds.{Terminates}
use Rattle.jk_model_crossings.specs.Throwing.{RaisesInThread, Throws}
use Rattle.jk_model_crossings.specs.RemoteCalls.{Enters, Refuses, RemoteCall}
use Rattle.jk_model_crossings.specs.Requests.{Grants}

-- ---- What a step was, for whoever follows one domain through a run.

pub data Deed : Type 0 where
  -- nothing changed
  Rested : Deed
  -- its own thread and domain alone changed, and the domain's own capabilities and names
  Worked : Deed
  -- a segment of the capability's owner is on top
  Entered : CapId → MemberId → Deed
  -- so many segments were left, one or more; the one below goes on, raises something or has a RevokedException pending, or the thread ended
  LeftSegments : ℕ → Deed
  -- flags of the segment of this number were set or cleared
  Flagged : SegmentNo → Deed
  -- the domain ended
  EndedDomain : DomainId → Deed

-- of a step in which something was raised, and so many segments were left by it
abbrev pub deed_of_raise : ℕ → Deed
deed_of_raise zero = Worked
deed_of_raise (suc n) = LeftSegments (suc n)

abbrev pub deed_of_request : Request → Deed
deed_of_request (AsksToSuspend s) = Flagged s
deed_of_request (AsksToResume s) = Flagged s
deed_of_request (AsksToStop s) = Flagged s
deed_of_request request = Worked

-- ---- A thread whose top segment is suspended, or needs a class that another thread initialises, does nothing.

abbrev pub Waits : {m : Machine} {t : ThreadNo} → RunningSegment m t → Type 0
Waits {m = m} {t = t} p =
    (top : TopFrame (run_of p)) × (class : ClassId) × FrameNeeds m.classes top.frame class × IsInProgressElsewhere p.home.inside.own t class

abbrev pub IsHeld : {m : Machine} {t : ThreadNo} → RunningSegment m t → Type 0
IsHeld p = (p.segment.shared.suspended ≡ true) ⊎ Waits p

-- ---- What follows where the segment itself has done what it does, from the machine in which it has.

pub data Ensues (m : Machine) (t : ThreadNo) : Went → Deed → List Line → Machine → Type 0 where
  goes_on : Ensues m t GoesOn Worked [] m
  says : (p : RunningSegment m t) (text : List ℕ) → Ensues m t (Says text) Worked (Said p.home.domain.name text ∷ []) m
  ended : (v : Option Value) (n : ℕ) (lines : List Line) (new : Machine) → Returns m t v n lines new
      → Ensues m t (Ended v) (LeftSegments n) lines new
  left : (a n : ℕ) (lines : List Line) (new : Machine) → Throws t n m a lines new → Ensues m t (Left a) (LeftSegments n) lines new
  enters : (k : CapId) (method : MemberId) (c : RemoteCall m t) (new : Machine) → c.capability ≡ k → c.method ≡ method → Enters c new
      → Ensues m t (Crosses k method) (Entered k method) [] new
  is_refused : (k : CapId) (method : MemberId) (c : RemoteCall m t) (r : Raise) (n : ℕ) (lines : List Line) (new : Machine)
      → c.capability ≡ k → c.method ≡ method → Refuses c r → RaisesInThread m t r n lines new
      → Ensues m t (Crosses k method) (deed_of_raise n) lines new
  grants : (p : RunningSegment m t) (request : Request) (v : Option Value) (mid new : Machine) → Grants p request (Ok v) mid
      → (q : RunningSegment mid t) → Receives q q.home.inside.heap v new → Ensues m t (Asks request) (deed_of_request request) [] new
  denies : (p : RunningSegment m t) (request : Request) (r : Raise) (n : ℕ) (lines : List Line) (mid new : Machine)
      → Grants p request (Err r) mid → RaisesInThread mid t r n lines new → Ensues m t (Asks request) (deed_of_raise n) lines new
  terminates : (p : RunningSegment m t) (lines : List Line) (new : Machine) → Terminates m p.home.domain lines new
      → Ensues m t EndsDomain (EndedDomain p.home.domain.number) lines new

-- ---- The top segment acts, in a machine in which the step is paid.

pub data Acts (m : Machine) (t : ThreadNo) : Deed → List Line → Machine → Type 0 where
  -- stop pending, and else revoked pending: the flag falls, and a throwable is raised
  stops : (p : RunningSegment m t) (n : ℕ) (lines : List Line) (new : Machine) → p.segment.shared.stop ≡ true
      → RaisesInThread (with_flags p (with_stop false p.segment.shared)) t (Raised.Standing Stands.ThreadDeath) n lines new
      → Acts m t (deed_of_raise n) lines new
  is_revoked : (p : RunningSegment m t) (n : ℕ) (lines : List Line) (new : Machine) → p.segment.shared.stop ≡ false
      → p.segment.shared.revoked ≡ true
      → RaisesInThread (with_flags p (with_revoked false p.segment.shared)) t (Raised.Standing Stands.Revoked) n lines new
      → Acts m t (deed_of_raise n) lines new
  does : (p : RunningSegment m t) (run : Run) (went : Went) (deed : Deed) (lines : List Line) (new : Machine)
      → p.segment.shared.stop ≡ false → p.segment.shared.revoked ≡ false → LocalStep (setting_of p) t (run_of p) run went
      → Ensues (with_run p run) t went deed lines new → Acts m t deed lines new

-- ---- One step of thread t.

pub data StepsBy (m : Machine) (t : ThreadNo) : Deed → List Line → Machine → Type 0 where
  not_live : (IsLiveThread m t → ⊥) → StepsBy m t Rested [] m
  is_held : (p : RunningSegment m t) → IsHeld p → StepsBy m t Rested [] m
  is_spent : (p : RunningSegment m t) → (IsHeld p → ⊥) → p.home.domain.steps_left ≡ Some 0 → StepsBy m t Rested [] m
  acts : (p : RunningSegment m t) (deed : Deed) (lines : List Line) (new : Machine) → (IsHeld p → ⊥) → p.home.domain.steps_left ≢ Some 0
      → Acts (paid p.segment.shared.domain m) t deed lines new → StepsBy m t deed lines new

abbrev pub Steps : Machine → ThreadNo → List Line → Machine → Type 0
Steps m t lines new = (deed : Deed) × StepsBy m t deed lines new
