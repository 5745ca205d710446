-- Which class must be initialised before a frame goes on, and the frame that initialises a class, which first needs the class's
-- parent (the Java Virtual Machine Specification, 2.17.5).
use Rattle.std.specs.Prelude.{◌≡◌, ◌≢◌, ◌⊎◌, List, Some, None}
use Rattle.jk_model.specs.declared.frames.FrameHead.{FrameHead}
use Rattle.jk_model.specs.declared.identifiers.ClassId.{ClassId}
use Rattle.jk_model.specs.declared.identifiers.MemberId.{MemberId}
use Rattle.jk_model.specs.declared.identifiers.ThreadNo.{ThreadNo}
use Rattle.jk_model_classes.specs.declared.records.ClassRecord.{ClassRecord}
use Rattle.jk_model_classes.specs.declared.records.LinkedCode.{LinkedCode}
use Rattle.jk_model_classes.specs.Classes.{record_of}
use Rattle.jk_model_domains.specs.declared.states.ClassState.TheVariants as State
use Rattle.jk_model_domains.specs.OwnStates.{OwnState, state_of}
use Rattle.jk_model_frames.specs.Frames.{FrameState}
use Rattle.jk_model_heaps.specs.RunningCode.{HasNoClinit, InstrNeeds, IsClinitOf, RunsCode}

-- ---- What needs a class: the frame by its need, or else by its instruction.

abbrev pub FrameNeeds : List ClassRecord → FrameState → ClassId → Type 0
FrameNeeds classes f class =
    (f.head.need ≡ Some class)
    ⊎ ((f.head.need ≡ None) × ((code : RunsCode classes f) × InstrNeeds code.scope code.instr class))

-- ready: done, or in progress by this thread
abbrev pub IsReady : OwnState → ThreadNo → ClassId → Type 0
IsReady own t class = (state_of own class ≡ State.Done) ⊎ (state_of own class ≡ State.InProgress t)

-- in progress by another thread, for which this one waits
abbrev pub IsInProgressElsewhere : OwnState → ThreadNo → ClassId → Type 0
IsInProgressElsewhere own t class = (other : ThreadNo) × (state_of own class ≡ State.InProgress other) × (other ≢ t)

-- ---- The frame that initialises a class.

-- It runs the class's `<clinit>`, where there is one, and needs the class's parent first.
pub record IsInitialiserHead (classes : List ClassRecord) (c : ClassId) (head : FrameHead) : Type 0 where
  pub initialises : head.initialises ≡ Some c
  pub at : head.at ≡ 0
  pub class : ClassRecord
  pub is_class : record_of classes c ≡ Some class
  pub parent : ClassId
  pub is_parent : class.parent ≡ Some parent
  pub need : head.need ≡ Some parent
  pub code :
      ((m : MemberId) × (code : LinkedCode) × IsClinitOf classes c m code × (head.method ≡ Some m)
      × (head.max_locals ≡ code.max_locals) × (head.max_stack ≡ code.max_stack))
      ⊎ (HasNoClinit classes c × (head.method ≡ None) × (head.max_locals ≡ 0) × (head.max_stack ≡ 0))
