-- What crossings, requests and ends of domains keep: the machine is sealed after them, its calls are answered, and what changed outside of the
-- domain that acts is what the step's deed says. Each is stated of definitions alone.
use Rattle.std.specs.Prelude.{ℕ, List, Option}
use Rattle.jk_model.specs.declared.identifiers.ThreadNo.{ThreadNo}
use Rattle.jk_model.specs.declared.output.Line.{Line}
use Rattle.jk_model.specs.declared.steps.Raise.{Raise}
use Rattle.jk_model.specs.declared.values.Value.{Value}
use Rattle.jk_model_heaps.specs.Workings.{Request}
use Rattle.jk_model_sealing.specs.FittingFrames.{FitsAtCall}
use Rattle.jk_model_machine_state.specs.Machines.{DomainState, Machine, caps_of}
use Rattle.jk_model_machine_state.specs.Places.{RunningSegment}
use Rattle.jk_model_crossings.specs.Answers.{Receives, Returns}
use Rattle.jk_model_crossings.specs.DomainEnds.{Terminates}
use Rattle.jk_model_crossings.specs.RemoteCalls.{Enters, RemoteCall}
use Rattle.jk_model_sharing.specs.Answers.{Granted}
use Rattle.jk_model_crossings.specs.Requests.{Grants}
use Rattle.jk_model_crossings.specs.Throwing.{RaisesInThread, Throws}
use Rattle.jk_model_runs.specs.AnsweredCalls.{AreCallsAnswered}
use Rattle.jk_model_runs.specs.Confined.{Confined}
use Rattle.jk_model_runs.specs.Events.{IsWhole}
use Rattle.jk_model_runs.specs.Sealed.{IsSealed}
use Rattle.jk_model_runs.specs.Steps.{Deed, StepsBy}
use Rattle.machine_laws.specs.CallsAndAnswers.{Awaits, IsKnownAnswer, IsLeft, IsTaken, IsThrown, MayBeAsked, MayBeRaised, StandsAtCall}
use Rattle.machine_laws.specs.SoundMachines.{AreOthersAnswered, HasSoundClasses, IsSealedAtCall}

-- ---- Calls.

pub record CallsStaySealed : Type 0 where
  pub sealed : (m new : Machine) (t : ThreadNo) (c : RemoteCall m t) → IsSealed m → HasSoundClasses m → StandsAtCall c → Enters c new → IsSealed new
  pub answered : (m new : Machine) (t : ThreadNo) (c : RemoteCall m t) → IsWhole m → HasSoundClasses m → StandsAtCall c → Enters c new
      → AreCallsAnswered new

-- ---- What comes back, from a segment of which no frame is left.

pub record AnswersStaySealed : Type 0 where
  pub sealed : (m new : Machine) (t : ThreadNo) (p : RunningSegment m t) (v : Option Value) (n : ℕ) (lines : List Line) → IsSealed m
      → HasSoundClasses m → IsLeft p → IsTaken m t v → Returns m t v n lines new → IsSealed new
  pub answered : (m new : Machine) (t : ThreadNo) (v : Option Value) (n : ℕ) (lines : List Line) → AreOthersAnswered m t
      → Returns m t v n lines new → AreCallsAnswered new

pub record ThrowablesStaySealed : Type 0 where
  pub sealed : (m new : Machine) (t : ThreadNo) (p : RunningSegment m t) (a n : ℕ) (lines : List Line) → IsSealed m → HasSoundClasses m
      → IsLeft p → IsThrown p a → Throws t n m a lines new → IsSealed new
  pub answered : (m new : Machine) (t : ThreadNo) (a n : ℕ) (lines : List Line) → AreOthersAnswered m t → Throws t n m a lines new
      → AreCallsAnswered new

-- ---- What is raised where a thread's top frame stands, which may be a call that has left it.

pub record RaisesStaySealed : Type 0 where
  pub sealed : (m new : Machine) (t : ThreadNo) (p : RunningSegment m t) (r : Raise) (n : ℕ) (lines : List Line) → IsSealedAtCall m t
      → HasSoundClasses m → MayBeRaised p r → RaisesInThread m t r n lines new → IsSealed new
  pub answered : (m new : Machine) (t : ThreadNo) (r : Raise) (n : ℕ) (lines : List Line) → AreCallsAnswered m
      → RaisesInThread m t r n lines new → AreCallsAnswered new

-- ---- Requests of package jk.

-- The top frame of the segment has made its call, which has left it, and takes this answer.
pub record Answered {m : Machine} {t : ThreadNo} (p : RunningSegment m t) : Type 0 where
  pub answer : Option Value
  pub awaits : Awaits m.classes p.home.inside.heap p.segment.frames answer
  pub stands : FitsAtCall m.classes p.home.inside.heap awaits.caller
  pub known : IsKnownAnswer (caps_of m) p.home.inside.heap answer

pub record RequestsStaySealed : Type 0 where
  pub grants : (m mid : Machine) (t : ThreadNo) (p : RunningSegment m t) (request : Request) (granted : Granted) → IsSealedAtCall m t
      → HasSoundClasses m → MayBeAsked p request → Grants p request granted mid → IsSealedAtCall mid t
  pub receives : (m new : Machine) (t : ThreadNo) (p : RunningSegment m t) (a : Answered p) → IsSealedAtCall m t → HasSoundClasses m
      → Receives p p.home.inside.heap a.answer new → IsSealed new

-- ---- Ends of domains.

pub record EndsStaySealed : Type 0 where
  pub sealed : (m new : Machine) (d : DomainState) (lines : List Line) → IsSealed m → Terminates m d lines new → IsSealed new
  pub answered : (m new : Machine) (d : DomainState) (lines : List Line) → IsWhole m → Terminates m d lines new → AreCallsAnswered new

-- ---- What a whole step changes elsewhere.

abbrev pub StepsAreConfined : Type 0
StepsAreConfined =
    (m new : Machine) (t : ThreadNo) (deed : Deed) (lines : List Line) (p : RunningSegment m t) → IsSealed m → StepsBy m t deed lines new
    → Confined (record { machine = m; thread = t; deed = deed }) p.segment.shared.domain new
