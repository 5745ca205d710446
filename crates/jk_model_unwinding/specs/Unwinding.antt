-- Where a throwable is caught: within one step it goes from frame to frame of a segment, from the topmost one downwards (the Java Virtual
-- Machine Specification, 2.16.2, 2.17.5, 3.10 and 6, athrow).
use Rattle.std.specs.Prelude.{◌≡◌, ℕ, ◌<◌, ◌⊎◌, ⊤, List, [], ◌∷◌, ◌++◌, Some, None, MatchOption, slice_get}
use Rattle.jk_model.specs.declared.identifiers.ClassId.{ClassId}
use Rattle.jk_model.specs.declared.steps.Raise.TheVariants as Raised
use Rattle.jk_model.specs.declared.values.Value.TheVariants as Held
use Rattle.jk_model_classes.specs.declared.records.Caught.{Caught}
use Rattle.jk_model_typing.specs.Typing.{Covers}
use Rattle.jk_model_frames.specs.Frames.{FrameState}
use Rattle.jk_model_domains.specs.declared.states.ClassState.TheVariants as State
use Rattle.jk_model_domains.specs.Objects.{NamedObject, class_type}
use Rattle.jk_model_domains.specs.OwnStates.{HasState, with_state}
use Rattle.jk_model_heaps.specs.declared.shapes.Unwound.{Unwound}
use Rattle.jk_model_heaps.specs.declared.shapes.Unwound.TheVariants as Ended
use Rattle.jk_model_heaps.specs.CalledFrames.{at_place}
use Rattle.jk_model_heaps.specs.Instances.{IsInstance}
use Rattle.jk_model_heaps.specs.RunningCode.{RunsCode}
use Rattle.jk_model_heaps.specs.SystemClasses.{ERROR, EXCEPTION_IN_INITIALIZER_ERROR}
use Rattle.jk_model_heaps.specs.Throwables.{IsRaised}
use Rattle.jk_model_heaps.specs.Workings.{Inside, Run, Setting, with_own}

-- ---- Catching. A throwable is known by its name in the domain's heap.

-- it is of the class that the handler catches, by the real hierarchy, interfaces included; a handler without a class catches any
abbrev pub HasCaughtClass : Setting → List NamedObject → ℕ → Caught → Type 0
HasCaughtClass x heap a h = MatchOption h.class ⊤ (λ (c : ClassId). IsInstance x.classes x.caps heap (Held.Obj a) (class_type c))

-- The handler that catches is the first in order that covers the frame's place and whose class the throwable has. A frame whose need
-- stands catches nothing. Places are indices of instructions; that of a frame that made a call is the call's.
pub record Catches (x : Setting) (heap : List NamedObject) (f : FrameState) (a : ℕ) (h : Caught) : Type 0 where
  pub no_need : f.head.need ≡ None
  pub code : RunsCode x.classes f
  pub place : ℕ
  pub listed : slice_get code.scope.code.handlers place ≡ Some h
  pub covers : Covers h f.head.at
  pub of_class : HasCaughtClass x heap a h
  pub first : (earlier : ℕ) (g : Caught) → earlier < place → slice_get code.scope.code.handlers earlier ≡ Some g → Covers g f.head.at
      → HasCaughtClass x heap a g → ⊥

abbrev pub CatchesNot : Setting → List NamedObject → FrameState → ℕ → Type 0
CatchesNot x heap f a = (h : Caught) → Catches x heap f a h → ⊥

-- the frame at its handler, with the throwable alone on its stack
abbrev pub at_handler : FrameState → Caught → ℕ → FrameState
at_handler f h a = record (at_place f h.handler) { stack = Held.Obj a ∷ [] }

-- ---- Leaving.

-- it is a java/lang/Error, or below that
abbrev pub IsError : Setting → List NamedObject → ℕ → Type 0
IsError x heap a = IsInstance x.classes x.caps heap (Held.Obj a) (class_type ERROR)

-- It leaves the initialiser of a class, which is broken by now: what isn't an error is replaced, and goes on as another object.
abbrev pub LeavesInitialiser : Setting → Inside → ℕ → Inside → ℕ → Type 0
LeavesInitialiser x old a new b =
    (IsError x old.heap a × (new ≡ old) × (b ≡ a))
    ⊎ ((IsError x old.heap a → ⊥) × IsRaised x old (Raised.Fresh EXCEPTION_IN_INITIALIZER_ERROR) new b)

-- It leaves a frame, and is this object then. A class whose initialiser it leaves is broken.
abbrev pub LeavesFrame : Setting → FrameState → Inside → ℕ → Inside → ℕ → Type 0
LeavesFrame x f old a new b =
    ((f.head.initialises ≡ None) × (new ≡ old) × (b ≡ a))
    ⊎ ((c : ClassId) × (f.head.initialises ≡ Some c) × HasState old.own c
    × LeavesInitialiser x (with_own old (with_state old.own c State.Broken)) a new b)

-- It leaves these frames, the last of them first, since none of them catches what it meets.
abbrev pub LeavesFrames : Setting → List FrameState → Inside → ℕ → Inside → ℕ → Type 0
LeavesFrames x [] old a new b = (new ≡ old) × (b ≡ a)
LeavesFrames x (f ∷ upper) old a new b =
    (mid : Inside) × (met : ℕ) × LeavesFrames x upper old a mid met × CatchesNot x mid.heap f met × LeavesFrame x f mid met new b

-- ---- A whole segment.

-- The topmost frame that catches what it meets stands at its handler, and those above it are gone.
pub record IsCaughtIn (x : Setting) (old : Run) (a : ℕ) (new : Run) : Type 0 where
  pub lower : List FrameState
  pub catcher : FrameState
  pub upper : List FrameState
  pub are_frames : old.frames ≡ lower ++ catcher ∷ upper
  -- what the frame meets
  pub met : ℕ
  pub leaves : LeavesFrames x upper old.inside a new.inside met
  pub handler : Caught
  pub catches : Catches x new.inside.heap catcher met handler
  pub left : new.frames ≡ lower ++ at_handler catcher handler met ∷ []

-- it is caught, or leaves all frames, and is this object then
abbrev pub Unwinds : Setting → Run → ℕ → Unwound → Run → Type 0
Unwinds x old a Ended.Caught new = IsCaughtIn x old a new
Unwinds x old a (Ended.Uncaught b) new = LeavesFrames x old.frames old.inside a new.inside b × (new.frames ≡ [])
