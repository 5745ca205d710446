-- A call through a capability: an invokeinterface at a capability, of a method that isn't one of java/lang/Object. The first rule that
-- applies refuses it, in the caller, where nothing else changes; else a new segment of the owner's domain runs the method at the target,
-- on copies of the arguments.
use Rattle.std.specs.Prelude.{◌≡◌, ℕ, ◌+◌, ◌<◌, ◌≤◌, false, IsTrue, List, [], ◌∷◌, ◌++◌, length, Some}
use Rattle.jk_model.specs.Flags.{has, PUBLIC}
use Rattle.jk_model.specs.declared.identifiers.CapId.{CapId}
use Rattle.jk_model.specs.declared.identifiers.DomainId.{DomainId}
use Rattle.jk_model.specs.declared.identifiers.MemberId.{MemberId}
use Rattle.jk_model.specs.declared.identifiers.ThreadNo.{ThreadNo}
use Rattle.jk_model.specs.declared.steps.Raise.{Raise}
use Rattle.jk_model.specs.declared.steps.Raise.TheVariants as Raised
use Rattle.jk_model.specs.declared.steps.Standing.TheVariants as Stands
use Rattle.jk_model.specs.declared.values.Value.{Value}
use Rattle.jk_model.specs.declared.values.Value.TheVariants as Held
use Rattle.jk_model_classes.specs.declared.records.Body.TheVariants as Does
use Rattle.jk_model_classes.specs.declared.records.LinkedCode.{LinkedCode}
use Rattle.jk_model_classes.specs.declared.records.MethodRecord.{MethodRecord}
use Rattle.jk_model_classes.specs.Lookups.{MethodIs, Selects}
use Rattle.jk_model_domains.specs.Objects.{NamedObject}
use Rattle.jk_model_frames.specs.Frames.{FrameState, head_chunks}
use Rattle.jk_model_heaps.specs.CalledFrames.{IsCalledFrame, call_head}
use Rattle.jk_model_heaps.specs.Capabilities.{OwnedCapability, ShowsInterface, capability_numbered}
use Rattle.jk_model_heaps.specs.SystemClasses.{ABSTRACT_METHOD_ERROR, ILLEGAL_ACCESS_ERROR, INCOMPATIBLE_CLASS_CHANGE_ERROR}
use Rattle.jk_model_heaps.specs.Workings.{with_heap}
use Rattle.jk_model_machine_state.specs.Machines.{Machine, Thread, caps_of, free_chunks, with_inside, with_thread}
use Rattle.jk_model_machine_state.specs.Places.{LiveDomain, RunningSegment, first_segment, with_running, with_segment_drawn}
use Rattle.jk_model_crossings.specs.Passages.{IsTooLarge, IsUncopiable, MayPass, Passage, Passes, passage}

-- ---- The call: the capability and the arguments are on top of the running frame's stack.

pub record RemoteCall (m : Machine) (t : ThreadNo) : Type 0 where
  pub place : RunningSegment m t
  pub capability : CapId
  -- the method that was found
  pub method : MemberId
  pub named : MethodRecord
  pub is_named : MethodIs m.classes method named
  pub callers : List FrameState
  pub frame : FrameState
  pub are_frames : place.segment.frames ≡ callers ++ frame ∷ []
  pub below : List Value
  pub given : List Value
  pub as_many : length given ≡ length named.params
  pub stack : frame.stack ≡ below ++ Held.Cap capability ∷ given
  pub known : OwnedCapability
  pub is_known : capability_numbered (caps_of m) capability ≡ Some known

-- ---- What it needs, one thing after the other.

-- the capability isn't revoked, and its owner lives
pub record IsLive {m : Machine} {t : ThreadNo} (c : RemoteCall m t) : Type 0 where
  pub unrevoked : c.known.capability.revoked ≡ false
  pub owner : LiveDomain m c.known.owner

-- it shows the interface that declares the method
pub record IsShown {m : Machine} {t : ThreadNo} (c : RemoteCall m t) : Type 0 where
  pub live : IsLive c
  pub shown : ShowsInterface m.classes c.known.capability c.method.class

-- the target's class has a method with code for it
pub record HasTarget {m : Machine} {t : ThreadNo} (c : RemoteCall m t) : Type 0 where
  pub is_shown : IsShown c
  pub target : MemberId
  pub selected : Selects m.classes c.known.capability.class c.method (Some target)
  pub target_method : MethodRecord
  pub is_target : MethodIs m.classes target target_method
  pub code : LinkedCode
  pub body : target_method.body ≡ Does.Linked code

-- which is public
pub record IsOpen {m : Machine} {t : ThreadNo} (c : RemoteCall m t) : Type 0 where
  pub has_target : HasTarget c
  pub public : IsTrue (has has_target.target_method.flags PUBLIC)

-- the arguments, from the running domain to the owner's
abbrev pub arguments : {m : Machine} {t : ThreadNo} {c : RemoteCall m t} → IsLive c → Passage
arguments {c = c} live = passage c.place.home live.owner c.given

-- a segment, and a frame of the target
abbrev pub chunks_needed : {m : Machine} {t : ThreadNo} {c : RemoteCall m t} → HasTarget c → ℕ
chunks_needed h = 1 + head_chunks (call_head h.target h.code)

-- ---- Refusals, and what each raises.

pub data Refuses {m : Machine} {t : ThreadNo} (c : RemoteCall m t) : Raise → Type 0 where
  is_dead : (IsLive c → ⊥) → Refuses c (Raised.Standing Stands.Revoked)
  not_shown : IsLive c → (IsShown c → ⊥) → Refuses c (Raised.Fresh INCOMPATIBLE_CLASS_CHANGE_ERROR)
  no_target : IsShown c → (HasTarget c → ⊥) → Refuses c (Raised.Fresh ABSTRACT_METHOD_ERROR)
  not_public : HasTarget c → (IsOpen c → ⊥) → Refuses c (Raised.Fresh ILLEGAL_ACCESS_ERROR)
  not_copiable : (o : IsOpen c) → IsUncopiable (arguments o.has_target.is_shown.live) → Refuses c (Raised.Standing Stands.NotCopiable)
  few_words : (o : IsOpen c) → IsTooLarge (arguments o.has_target.is_shown.live) → Refuses c (Raised.Standing Stands.Quota)
  few_chunks : (o : IsOpen c) → MayPass (arguments o.has_target.is_shown.live)
      → free_chunks m o.has_target.is_shown.live.owner.domain < chunks_needed o.has_target → Refuses c (Raised.Standing Stands.Quota)

-- ---- Entering, in two halves.

-- That of the caller's domain: the capability and the arguments leave the stack, and the frame stays at its call.
abbrev pub departed : {m : Machine} {t : ThreadNo} → RemoteCall m t → Machine
departed c =
    with_running c.place (record c.place.segment { frames = c.callers ++ record c.frame { stack = c.below } ∷ [] }) c.place.home.inside

-- That of the owner's domain: it has this heap, and a new segment of it with this frame is on top of the thread.
abbrev pub with_segment_on_top : ThreadNo → DomainId → FrameState → Machine → Machine
with_segment_on_top t d frame m =
    with_segment_drawn (with_thread t (λ (thread : Thread). record thread { segments = thread.segments ++ first_segment m d frame ∷ [] }) m)

abbrev pub arrived : {m : Machine} {d : DomainId} → LiveDomain m d → ThreadNo → List NamedObject → FrameState → Machine → Machine
arrived {d = d} owner t heap frame from = with_segment_on_top t d frame (with_inside d (with_heap owner.inside heap) from)

-- Both, joined by the copy of the arguments. The owner may be the caller's domain.
pub record Enters {m : Machine} {t : ThreadNo} (c : RemoteCall m t) (new : Machine) : Type 0 where
  pub is_open : IsOpen c
  pub chunks : chunks_needed is_open.has_target ≤ free_chunks m is_open.has_target.is_shown.live.owner.domain
  pub heap : List NamedObject
  pub values : List Value
  pub passes : Passes (arguments is_open.has_target.is_shown.live) heap values
  pub frame : FrameState
  pub begins : IsCalledFrame is_open.has_target.target is_open.has_target.code (Held.Obj c.known.capability.target ∷ values) frame
  pub leads : new ≡ arrived is_open.has_target.is_shown.live.owner t heap frame (departed c)
