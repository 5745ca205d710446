-- What is known of what an instruction leaves, by what is done next.
use Rattle.std.specs.Prelude.{◌≡◌, ◌≤◌, ⊤, ℕ, List, [], ◌∷◌, ◌++◌, Option, Some, None}
use Rattle.jk_model.specs.declared.identifiers.CapId.{CapId}
use Rattle.jk_model.specs.declared.identifiers.MemberId.{MemberId}
use Rattle.jk_model.specs.declared.values.Value.{Value}
use Rattle.jk_model.specs.declared.values.Value.TheVariants as Held
use Rattle.jk_model_classes.specs.declared.records.MethodRecord.{MethodRecord}
use Rattle.jk_model_classes.specs.declared.records.TypeRef.{TypeRef}
use Rattle.jk_model_classes.specs.Classes.{IsInterface}
use Rattle.jk_model_classes.specs.Lookups.{MethodIs}
use Rattle.jk_model_classes.specs.Stubs.{ImplementsRemote}
use Rattle.jk_model_typing.specs.Scopes.{CodeScope}
use Rattle.jk_model_frames.specs.Frames.{FrameState, head_chunks}
use Rattle.jk_model_domains.specs.Objects.{NamedObject, Task, CAPABILITY, class_type, object_named}
use Rattle.jk_model_domains.specs.ValueTypes.{HoldsDeclared}
use Rattle.jk_model_heaps.specs.CalledFrames.{at_place}
use Rattle.jk_model_heaps.specs.Capabilities.{IsGivenOut}
use Rattle.jk_model_heaps.specs.Workings.{Outcome, Request, Setting, Working, Asks, Binds, Calls, Creates, Crosses, GoesOn, LooksUp, Raises, Resumes, Returns, Revokes, Says, Stops, Suspends, Terminates, Unbinds}
use Rattle.jk_model_sealing.specs.AnsweringFrames.{AwaitsResult, FrameAnswers}
use Rattle.jk_model_sealing.specs.FittingFrames.{FitsAsTop, FitsAtCall, FitsHere}
use Rattle.jk_model_sealing.specs.SealedInsides.{IsKnownValue, IsOfClass, Surroundings}
use Rattle.jk_model_sealing.specs.SealedRuns.{IsAtHome, NamesKnown}
use Rattle.heap_laws.specs.RaisableObjects.{MayBeRaised}

-- ---- Values of declared types.

abbrev pub IsOfType : Surroundings → List NamedObject → TypeRef → Value → Type 0
IsOfType around heap t v = HoldsDeclared around.classes heap v t × IsKnownValue around.caps heap v

-- a value of the type; none where there is no type
abbrev pub IsResult : Surroundings → List NamedObject → Option TypeRef → Option Value → Type 0
IsResult around heap None None = ⊤
IsResult around heap (Some t) (Some v) = IsOfType around heap t v
IsResult around heap t v = ⊥

-- as many, each of the type at its place
abbrev pub AreOfTypes : Surroundings → List NamedObject → List TypeRef → List Value → Type 0
AreOfTypes around heap [] [] = ⊤
AreOfTypes around heap (t ∷ types) (v ∷ values) = IsOfType around heap t v × AreOfTypes around heap types values
AreOfTypes around heap types values = ⊥

-- ---- A frame that was called, on top of the one that called it.

pub record IsCalledWell (around : Surroundings) (heap : List NamedObject) (caller called : FrameState) : Type 0 where
  pub below : FitsAtCall around.classes heap caller
  pub answers : FrameAnswers around.classes caller called
  pub fits : FitsAsTop around.classes heap called
  pub at_home : IsAtHome around.table called
  pub known : NamesKnown around.caps heap called
  pub no_need : called.head.need ≡ None
  pub plain : called.head.initialises ≡ None

-- ---- A frame at a call through a capability: without the capability and the arguments it stands at its call.

pub record StandsAtCrossing (around : Surroundings) (heap : List NamedObject) (f : FrameState) (k : CapId) (m : MemberId) : Type 0 where
  pub method : MethodRecord
  pub is_method : MethodIs around.classes m method
  -- an interface has the method
  pub of_interface : IsInterface around.classes m.class
  pub below : List Value
  pub given : List Value
  pub stack : f.stack ≡ below ++ Held.Cap k ∷ given
  pub arguments : AreOfTypes around heap method.params given
  pub given_out : IsGivenOut around.caps k
  pub departed : FitsAtCall around.classes heap (record f { stack = below })
  pub awaits : AwaitsResult around.classes (record f { stack = below }) method.result

-- ---- A frame that waits for an answer from outside of its domain.

-- of what type the answer is; most requests have none
abbrev pub answer_type : Request → Option TypeRef
answer_type (Creates class target) = Some (class_type CAPABILITY)
answer_type (LooksUp text) = Some (class_type CAPABILITY)
answer_type request = None

-- what is asked for is of the domain's own heap, and capabilities were given out
abbrev pub IsKnownRequest : Surroundings → List NamedObject → Request → Type 0
IsKnownRequest around heap (Creates class target) = IsOfClass heap target class × ImplementsRemote around.classes class
IsKnownRequest around heap (Revokes k) = IsGivenOut around.caps k
IsKnownRequest around heap (Binds text k) = IsGivenOut around.caps k
IsKnownRequest around heap (LooksUp text) = ⊤
IsKnownRequest around heap (Unbinds text) = ⊤
IsKnownRequest around heap (Suspends n) = (a : ℕ) × (object_named heap a ≡ Some (Task n))
IsKnownRequest around heap (Resumes n) = (a : ℕ) × (object_named heap a ≡ Some (Task n))
IsKnownRequest around heap (Stops n) = (a : ℕ) × (object_named heap a ≡ Some (Task n))

pub record AwaitsAnswer (around : Surroundings) (heap : List NamedObject) (f : FrameState) (request : Request) : Type 0 where
  pub stands : FitsAtCall around.classes heap f
  pub awaits : AwaitsResult around.classes f (answer_type request)
  pub known : IsKnownRequest around heap request

-- ---- By what is done next. The scope is that of the frame's code.

abbrev pub FitsOutcome : Surroundings → Setting → CodeScope → Working → Outcome → Type 0
FitsOutcome around x s w (GoesOn n) = FitsHere around.classes w.inside.heap (at_place w.frame n)
FitsOutcome around x s w (Says text n) = FitsHere around.classes w.inside.heap (at_place w.frame n)
FitsOutcome around x s w (Calls called) = IsCalledWell around w.inside.heap w.frame called × (head_chunks called.head ≤ x.chunks)
FitsOutcome around x s w (Returns v) = IsResult around w.inside.heap s.method.result v
FitsOutcome around x s w (Raises r) =
    FitsHere around.classes w.inside.heap w.frame × MayBeRaised around.classes w.inside.heap r
FitsOutcome around x s w (Crosses k m) =
    FitsHere around.classes w.inside.heap w.frame × StandsAtCrossing around w.inside.heap w.frame k m
FitsOutcome around x s w (Asks request) = AwaitsAnswer around w.inside.heap w.frame request
FitsOutcome around x s w Terminates = FitsHere around.classes w.inside.heap w.frame
