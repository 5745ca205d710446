-- Where a call through a capability stands, which answer the segment below takes, what may be raised, and what a program may ask for.
use Rattle.std.specs.Prelude.{◌≡◌, ◌≢◌, ℕ, ◌<◌, ⊤, false, List, [], ◌∷◌, ◌++◌, length, Option, Some, None}
use Rattle.jk_model.specs.SystemTable.{system_classes}
use Rattle.jk_model.specs.declared.identifiers.ThreadNo.{ThreadNo}
use Rattle.jk_model.specs.declared.opcodes.TheConstants.{INVOKEINTERFACE}
use Rattle.jk_model.specs.declared.steps.Raise.{Raise}
use Rattle.jk_model.specs.declared.steps.Raise.TheVariants as Raised
use Rattle.jk_model.specs.declared.values.Value.{Value}
use Rattle.jk_model_classes.specs.declared.records.ClassRecord.{ClassRecord}
use Rattle.jk_model_classes.specs.declared.records.TypeRef.{TypeRef}
use Rattle.jk_model_classes.specs.Classes.{IsSubclass, OBJECT}
use Rattle.jk_model_classes.specs.Stubs.{ImplementsRemote}
use Rattle.jk_model_typing.specs.FrameTypes.{THROWABLE}
use Rattle.jk_model_frames.specs.Frames.{FrameState}
use Rattle.jk_model_domains.specs.Objects.{NamedObject}
use Rattle.jk_model_domains.specs.ValueTypes.{HoldsDeclared}
use Rattle.jk_model_heaps.specs.Capabilities.{CapRange, IsGivenOut}
use Rattle.jk_model_heaps.specs.RunningCode.{NamesMethod, RunsCode}
use Rattle.jk_model_heaps.specs.Workings.{Request}
use Rattle.jk_model_heaps.specs.Workings.{Binds as AsksToBind, Creates as AsksToCreate, Revokes as AsksToRevoke}
use Rattle.jk_model_sealing.specs.AnsweringFrames.{AwaitsResult}
use Rattle.jk_model_sealing.specs.FittingFrames.{FitsHere}
use Rattle.jk_model_sealing.specs.SealedInsides.{IsKnownValue, IsOfClass}
use Rattle.jk_model_machine_state.specs.Machines.{Machine, caps_of}
use Rattle.jk_model_machine_state.specs.Places.{RunningSegment}
use Rattle.jk_model_crossings.specs.RemoteCalls.{RemoteCall}
use Rattle.jk_model_crossings.specs.Throwing.{IsThrowable, TopTwo}

-- ---- A call is what the instruction at which the thread's top frame stands hands on: an invokeinterface of the method that was found, which
-- isn't one of java/lang/Object.

pub record StandsAtCall {m : Machine} {t : ThreadNo} (c : RemoteCall m t) : Type 0 where
  pub no_need : c.frame.head.need ≡ None
  pub code : RunsCode m.classes c.frame
  pub interface : code.instr.op ≡ INVOKEINTERFACE
  pub names : NamesMethod code.scope code.instr c.method c.named
  pub not_object : c.method.class ≢ OBJECT
  -- the capability and the arguments are on the stack still: the frame fits as before the call
  pub fits : FitsHere m.classes c.place.home.inside.heap c.frame

-- ---- An answer: unless the segment that gives it is the lowest or an orphan, it is one of the type that the call below it returns.

-- a value of the type, or none where the call returns nothing
abbrev pub IsAnswerOf : List ClassRecord → List NamedObject → Option TypeRef → Option Value → Type 0
IsAnswerOf classes heap None None = ⊤
IsAnswerOf classes heap (Some t) (Some v) = HoldsDeclared classes heap v t
IsAnswerOf classes heap result v = ⊥

-- the segment's top frame has made a call that takes the answer
pub record Awaits (classes : List ClassRecord) (heap : List NamedObject) (frames : List FrameState) (v : Option Value) : Type 0 where
  pub callers : List FrameState
  pub caller : FrameState
  pub are_frames : frames ≡ callers ++ caller ∷ []
  pub result : Option TypeRef
  pub awaits : AwaitsResult classes caller result
  pub answer : IsAnswerOf classes heap result v

-- an object of the heap, or a capability that was given out, where it is a reference
abbrev pub IsKnownAnswer : List CapRange → List NamedObject → Option Value → Type 0
IsKnownAnswer caps heap None = ⊤
IsKnownAnswer caps heap (Some v) = IsKnownValue caps heap v

abbrev pub IsTaken : Machine → ThreadNo → Option Value → Type 0
IsTaken m t v =
    (s : TopTwo m t) → s.left.segment.shared.orphan ≡ false
    → Awaits m.classes s.left.home.inside.heap s.below.segment.frames v × IsKnownAnswer (caps_of m) s.left.home.inside.heap v

-- ---- What comes back comes from a segment of which no frame is left.

abbrev pub IsLeft : {m : Machine} {t : ThreadNo} → RunningSegment m t → Type 0
IsLeft p = p.segment.frames ≡ []

-- ---- A throwable: an object of java/lang/Throwable or below it, in the heap of the top segment's domain.

pub record IsThrown {m : Machine} {t : ThreadNo} (p : RunningSegment m t) (a : ℕ) : Type 0 where
  pub throwable : IsThrowable p a
  pub below : IsSubclass m.classes throwable.class THROWABLE

-- what may be raised: such an object, a standing throwable, or a new one of a class of the system
abbrev pub MayBeRaised : {m : Machine} {t : ThreadNo} → RunningSegment m t → Raise → Type 0
MayBeRaised p (Raised.Object a) = IsThrown p a
MayBeRaised p (Raised.Standing s) = ⊤
MayBeRaised {m = m} p (Raised.Fresh c) = (c.0 < length system_classes) × IsSubclass m.classes c THROWABLE

-- ---- A request: the object for which a capability is created is one of the domain's heap, of a class that implements jk/Remote, and a
-- capability that is revoked or bound was given out.

abbrev pub MayBeAsked : {m : Machine} {t : ThreadNo} → RunningSegment m t → Request → Type 0
MayBeAsked {m = m} p (AsksToCreate class target) = IsOfClass p.home.inside.heap target class × ImplementsRemote m.classes class
MayBeAsked {m = m} p (AsksToRevoke k) = IsGivenOut (caps_of m) k
MayBeAsked {m = m} p (AsksToBind text k) = IsGivenOut (caps_of m) k
MayBeAsked p request = ⊤
