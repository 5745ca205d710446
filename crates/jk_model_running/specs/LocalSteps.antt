-- One step of a segment that acts, as far as its own frames and its own domain go. There is one case a rule, and each holds only where
-- the others don't. A state that fits no case has no step.
use Rattle.std.specs.Prelude.{◌≡◌, ◌≢◌, ℕ, ◌<◌, ◌≤◌, ◌⊎◌, List, [], ◌∷◌, ◌++◌, Option, Some, None}
use Rattle.jk_model.specs.declared.frames.FrameHead.{FrameHead}
use Rattle.jk_model.specs.declared.identifiers.CapId.{CapId}
use Rattle.jk_model.specs.declared.identifiers.ClassId.{ClassId}
use Rattle.jk_model.specs.declared.identifiers.MemberId.{MemberId}
use Rattle.jk_model.specs.declared.identifiers.ThreadNo.{ThreadNo}
use Rattle.jk_model.specs.declared.steps.Raise.{Raise}
use Rattle.jk_model.specs.declared.steps.Raise.TheVariants as Raised
use Rattle.jk_model.specs.declared.steps.Standing.TheVariants as Stands
use Rattle.jk_model.specs.declared.values.Value.{Value}
use Rattle.jk_model_classes.specs.declared.records.ClassRecord.{ClassRecord}
use Rattle.jk_model_classes.specs.Classes.{record_of}
use Rattle.jk_model_domains.specs.declared.states.ClassState.{ClassState}
use Rattle.jk_model_domains.specs.declared.states.ClassState.TheVariants as State
use Rattle.jk_model_domains.specs.OwnStates.{HasState, state_of, with_state}
use Rattle.jk_model_frames.specs.Frames.{FrameState, head_chunks, new_frame}
use Rattle.jk_model_heaps.specs.declared.shapes.Unwound.{Unwound}
use Rattle.jk_model_heaps.specs.CalledFrames.{at_place, resumed}
use Rattle.jk_model_heaps.specs.RunningCode.{InstrNeeds, RunsCode}
use Rattle.jk_model_heaps.specs.SystemClasses.{NO_CLASS_DEF_FOUND_ERROR}
use Rattle.jk_model_heaps.specs.Workings.{Inside, Outcome, Request, Run, Setting, Working, with_own}
use Rattle.jk_model_heaps.specs.Workings.{Asks as AsksFor, Calls, Crosses as CrossesTo, GoesOn as GoesOnAt, Raises, Returns, Says as SaysAt, Terminates as EndsDomain}
use Rattle.jk_model_heap_rows.specs.Constants.{LacksConstants, SetsConstants}
use Rattle.jk_model_running.specs.Executions.{Executes}
use Rattle.jk_model_running.specs.Initialising.{FrameNeeds, IsInitialiserHead, IsReady}
use Rattle.jk_model_running.specs.Raising.{RaisesIn, after_raising}
use Rattle.jk_model_running.specs.Ways.{Went, GoesOn, Says, Ended, Crosses, Asks, Terminates}

-- the top frame, and those below it
pub record TopFrame (run : Run) : Type 0 where
  pub callers : List FrameState
  pub frame : FrameState
  pub are_frames : run.frames ≡ callers ++ frame ∷ []

-- the inside with the class in this state
abbrev pub with_class : ClassId → ClassState → Inside → Inside
with_class c state inside = with_own inside (with_state inside.own c state)

abbrev pub with_top : List FrameState → FrameState → Inside → Run
with_top callers frame inside = record { inside = inside; frames = callers ++ frame ∷ [] }

-- ---- A class that is needed and isn't ready.

-- It is untouched: an initialiser frame is put on top, and the class is in progress. Where the frame's chunks don't fit, the class
-- stays untouched.
pub record Touches (x : Setting) (run : Run) (class : ClassId) : Type 0 where
  pub top : TopFrame run
  pub needs : FrameNeeds x.classes top.frame class
  pub untouched : state_of run.inside.own class ≡ State.Untouched
  -- the domain keeps a state for the class
  pub is_there : HasState run.inside.own class
  pub head : FrameHead
  pub is_head : IsInitialiserHead x.classes class head

abbrev pub begun : ThreadNo → Run → ClassId → FrameHead → Run
begun t run class head =
    record { inside = with_class class (State.InProgress t) run.inside; frames = run.frames ++ new_frame head ∷ [] }

-- it is broken
pub record MeetsBroken (x : Setting) (run : Run) : Type 0 where
  pub top : TopFrame run
  pub class : ClassId
  pub needs : FrameNeeds x.classes top.frame class
  pub broken : state_of run.inside.own class ≡ State.Broken

-- ---- A need falls.

-- the top frame has a need, and the class that it needs is ready
pub record HasReadyNeed (x : Setting) (t : ThreadNo) (run : Run) : Type 0 where
  pub top : TopFrame run
  pub class : ClassId
  pub need : top.frame.head.need ≡ Some class
  pub ready : IsReady run.inside.own t class

-- the class that the frame initialises
pub record Initialises (x : Setting) (f : FrameState) : Type 0 where
  pub class : ClassId
  pub initialises : f.head.initialises ≡ Some class
  pub of_class : ClassRecord
  pub is_class : record_of x.classes class ≡ Some of_class

abbrev pub without_need : FrameState → FrameState
without_need f = record f { head = record f.head { need = None } }

-- What becomes of the run where the frame initialises a class whose constant texts are set: it goes on without its need; or it has no
-- code, and the class is done and the frame gone.
abbrev pub FallsWith : List FrameState → FrameState → ClassId → Inside → Run → Type 0
FallsWith callers f class set new =
    ((f.head.method ≢ None) × (new ≡ with_top callers (without_need f) set))
    ⊎ ((f.head.method ≡ None) × (callers ≢ []) × (new ≡ record { inside = with_class class State.Done set; frames = callers }))

-- ---- An instruction, and what follows it in the segment.

pub record DoesInstr (x : Setting) (t : ThreadNo) (run : Run) : Type 0 where
  pub top : TopFrame run
  pub no_need : top.frame.head.need ≡ None
  pub code : RunsCode x.classes top.frame
  pub ready : (class : ClassId) → InstrNeeds code.scope code.instr class → IsReady run.inside.own t class
  pub working : Working
  pub outcome : Outcome
  pub executes : Executes x code.scope code.instr (record { inside = run.inside; frame = top.frame }) working outcome

-- What an instruction that left this working does next in the segment, whose other frames are these.
pub data Continues (x : Setting) (callers : List FrameState) (w : Working) : Outcome → Run → Went → Type 0 where
  goes_on : (n : ℕ) → Continues x callers w (GoesOnAt n) (with_top callers (at_place w.frame n) w.inside) GoesOn
  says : (text : List ℕ) (n : ℕ) → Continues x callers w (SaysAt text n) (with_top callers (at_place w.frame n) w.inside) (Says text)
  calls : (called : FrameState) → Continues x callers w (Calls called)
      (record { inside = w.inside; frames = callers ++ w.frame ∷ called ∷ [] }) GoesOn
  -- the initialiser of a class ends: the class is done, and the frame below stands where it stood
  ends_initialiser : (v : Option Value) (c : ClassId) → w.frame.head.initialises ≡ Some c → HasState w.inside.own c → callers ≢ []
      → Continues x callers w (Returns v) (record { inside = with_class c State.Done w.inside; frames = callers }) GoesOn
  -- a called method returns: the frame below goes on after its call
  returns : (v : Option Value) (lower : List FrameState) (below : FrameState) → w.frame.head.initialises ≡ None
      → callers ≡ lower ++ below ∷ [] → Continues x callers w (Returns v) (with_top lower (resumed v below) w.inside) GoesOn
  -- the lowest frame returns
  ends : (v : Option Value) → w.frame.head.initialises ≡ None → callers ≡ []
      → Continues x callers w (Returns v) (record { inside = w.inside; frames = [] }) (Ended v)
  raises : (r : Raise) (new : Run) (unwound : Unwound) → RaisesIn x (with_top callers w.frame w.inside) r new unwound
      → Continues x callers w (Raises r) new (after_raising unwound)
  crosses : (k : CapId) (m : MemberId) → Continues x callers w (CrossesTo k m) (with_top callers w.frame w.inside) (Crosses k m)
  asks : (request : Request) → Continues x callers w (AsksFor request) (with_top callers w.frame w.inside) (Asks request)
  terminates : Continues x callers w EndsDomain (with_top callers w.frame w.inside) Terminates

-- ---- The step.

pub data LocalStep (x : Setting) (t : ThreadNo) (old new : Run) : Went → Type 0 where
  touches : (class : ClassId) (at : Touches x old class) → head_chunks at.head ≤ x.chunks → new ≡ begun t old class at.head
      → LocalStep x t old new GoesOn
  overflows : (class : ClassId) (at : Touches x old class) (unwound : Unwound) → x.chunks < head_chunks at.head
      → RaisesIn x old (Raised.Standing Stands.StackOverflowError) new unwound → LocalStep x t old new (after_raising unwound)
  meets_broken : MeetsBroken x old → (unwound : Unwound) → RaisesIn x old (Raised.Fresh NO_CLASS_DEF_FOUND_ERROR) new unwound
      → LocalStep x t old new (after_raising unwound)
  -- of a frame that initialises no class
  need_falls : (at : HasReadyNeed x t old) → at.top.frame.head.initialises ≡ None
      → new ≡ with_top at.top.callers (without_need at.top.frame) old.inside → LocalStep x t old new GoesOn
  sets_constants : (at : HasReadyNeed x t old) (of : Initialises x at.top.frame) (set : Inside)
      → SetsConstants x of.class of.of_class old.inside set → FallsWith at.top.callers at.top.frame of.class set new
      → LocalStep x t old new GoesOn
  -- the frame, whose need stands, doesn't catch it
  lacks_constants : (at : HasReadyNeed x t old) (of : Initialises x at.top.frame) (unwound : Unwound) → LacksConstants x of.of_class old.inside
      → RaisesIn x old (Raised.Standing Stands.OutOfMemoryError) new unwound → LocalStep x t old new (after_raising unwound)
  does : (at : DoesInstr x t old) (went : Went) → Continues x at.top.callers at.working at.outcome new went → LocalStep x t old new went
