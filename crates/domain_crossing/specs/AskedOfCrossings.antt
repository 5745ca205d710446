-- What calls from one domain to another, and what comes back from them, ask of the machine and of its parts. That a frame answers the call
-- below it, and that a lowest frame initialises no class, isn't asked of the whole machine: of an answer it is asked where it is given.
use Rattle.std.specs.Prelude.{◌≡◌, ℕ, ◌-◌, ◌^◌, ◌<◌, Option}
use Rattle.jk_model.specs.declared.identifiers.CapId.{CapId}
use Rattle.jk_model.specs.declared.identifiers.MemberId.{MemberId}
use Rattle.jk_model.specs.declared.identifiers.ThreadNo.{ThreadNo}
use Rattle.jk_model.specs.declared.values.Value.{Value}
use Rattle.jk_model_machine_state.specs.Places.{RunningSegment}
use Rattle.jk_model_crossings.specs.RemoteCalls.{RemoteCall}
use Rattle.jk_model_runs.specs.Sealed.{IsSealed}
use Rattle.machine_laws.specs.CallsAndAnswers.{IsLeft, IsTaken, IsThrown, StandsAtCall}
use Rattle.machine_laws.specs.SoundMachines.{HasSoundClasses}
use Rattle.machine_parts.specs.FittingParts.{AreFittingParts}
use Rattle.machine_parts.specs.MachineParts.{MachineParts, machine_of}

-- Of every crossing: the parts fit, and stand for a sealed machine, whose classes and names are sound.
pub record MayCross (p : MachineParts) : Type 0 where
  pub fitting : AreFittingParts p
  pub sealed : IsSealed (machine_of p)
  pub sound : HasSoundClasses (machine_of p)

-- of a call: it is what the instruction at which the thread's top frame stands hands on
pub record MayEnter (p : MachineParts) (t : ThreadNo) (k : CapId) (method : MemberId) : Type 0 where
  pub cross : MayCross p
  pub call : RemoteCall (machine_of p) t
  pub capability : call.capability ≡ k
  pub is_method : call.method ≡ method
  pub stands : StandsAtCall call
  -- the next number of a segment may be drawn
  pub number : p.shared.next_segment < 2 ^ 64 - 1

-- of an answer: no frame of the segment that gives it is left, and the segment below takes it, where it isn't dropped
pub record MayLeave (p : MachineParts) (t : ThreadNo) (v : Option Value) : Type 0 where
  pub cross : MayCross p
  pub runs : RunningSegment (machine_of p) t
  pub left : IsLeft runs
  pub taken : IsTaken (machine_of p) t v

-- of a throwable: it is one of the running domain's, and has left all frames of the segment
pub record MayRaise (p : MachineParts) (t : ThreadNo) (a : ℕ) : Type 0 where
  pub cross : MayCross p
  pub runs : RunningSegment (machine_of p) t
  pub left : IsLeft runs
  pub thrown : IsThrown runs a
