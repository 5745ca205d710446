-- One turn of the steps that stay in their frame: one instruction on numbers that is no return, or one access of an element or a field.
use Rattle.std.specs.Prelude.{◌≡◌, ℕ, ◌≤◌, ◌⊎◌, List, None}
use Rattle.jk_model.specs.declared.identifiers.DomainId.{DomainId}
use Rattle.jk_model.specs.declared.identifiers.SegmentNo.{SegmentNo}
use Rattle.jk_model.specs.declared.identifiers.ThreadNo.{ThreadNo}
use Rattle.jk_model.specs.declared.opcodes.TheConstants.{IRETURN, RETURN}
use Rattle.jk_model.specs.declared.steps.After.TheVariants as Next
use Rattle.jk_model_classes.specs.declared.records.ClassRecord.{ClassRecord}
use Rattle.jk_model_classes.specs.Worlds.{WorldRecord}
use Rattle.jk_model_frames.specs.Frames.{FrameState}
use Rattle.jk_model_domains.specs.NumberRows.{IsOfNumbers}
use Rattle.jk_model_sharing.specs.SharedStates.{SharedState}
use Rattle.class_init.specs.KeptStates.{KeptState}
use Rattle.frame_store.specs.FrameContents.{FrameContent, SetsTop, TopFrame}
use Rattle.heap_ops.specs.HeapSteps.{HeapDone}
use Rattle.number_ops.specs.NumberSteps.{DoesNumbers, IsReady}
use Rattle.object_store.specs.HeapContents.{HeapContent}
use Rattle.step_contents.specs.Contents.{Contents, Here, contents_of, here_at}
use Rattle.step_contents.specs.InstructionKinds.{IsAccess}
use Rattle.step_contents.specs.PlacesInCode.{PlaceInCode}
use Rattle.step_contents.specs.StandingTops.{StandsThere}
use Rattle.segment_steps.specs.ActingSegments.{MayAct}
use Rattle.segment_steps.specs.StepsInTurn.{StepsLead}

-- ---- All the turns.

-- the steps are steps of any thread: none of them needs a class
abbrev pub RunsInFrame : Contents → Contents → Here → ℕ → Type 0
RunsInFrame old new here n = (t : ThreadNo) → StepsLead old new here t n

-- ---- An instruction on numbers.

-- the instruction there works on numbers, and is no return
abbrev pub IsInFrame : PlaceInCode → Type 0
IsInFrame at = IsOfNumbers at.scope at.instr × (IRETURN ≤ at.instr.op → at.instr.op ≤ RETURN → ⊥)

-- it may be done at the top frame, if it works on numbers
abbrev pub IsReadyAt : FrameContent → List ClassRecord → SegmentNo → PlaceInCode → Type 0
IsReadyAt c classes s at = IsOfNumbers at.scope at.instr → IsReady c classes s at.head at.instr

-- It was done at the top frame, and the frame goes on at this place.
pub record GoesOnInFrame (old new : FrameContent) (classes : List ClassRecord) (s : SegmentNo) (at : PlaceInCode) (n : ℕ) : Type 0 where
  pub numbers : IsOfNumbers at.scope at.instr
  pub does : DoesNumbers old new classes s at.head at.instr (Next.Goto n)

-- the segment stays as it is, and so does all else
abbrev pub StaysAsItIs : FrameContent → FrameContent → SegmentNo → Type 0
StaysAsItIs old new s = (f : FrameState) → TopFrame old s f → SetsTop old new s f

-- ---- An access. The store has where the top frame stood some steps ago: where it stands is stored first.

abbrev pub StoresPlace : FrameContent → FrameContent → SegmentNo → PlaceInCode → Type 0
StoresPlace old new s at =
    (f : FrameState) → TopFrame old s f → SetsTop old new s (record f { head = record f.head { at = at.head.at; need = None } })

-- once that is stored, the top frame stands there, and the segment may act
abbrev pub MayActOnceStored : HeapContent → FrameContent → WorldRecord → DomainId → SegmentNo → PlaceInCode → Type 0
MayActOnceStored heap frames world d s at =
    (own : KeptState) × (shared : SharedState)
    × ((mid : FrameContent) → StoresPlace frames mid s at
    → MayAct (contents_of heap mid own) (here_at world shared d s) × StandsThere mid world.classes s at)

-- It was done, whatever the domain's own state and what domains share are, and the frame goes on at this place.
pub record Accesses (old_heap heap : HeapContent) (old new : FrameContent) (world : WorldRecord) (d : DomainId) (s : SegmentNo) (at : PlaceInCode)
    (n : ℕ) : Type 0 where
  pub access : IsAccess at.instr.op
  pub mid : FrameContent
  pub stores : StoresPlace old mid s at
  pub does : (own : KeptState) (shared : SharedState)
      → HeapDone (contents_of old_heap mid own) (contents_of heap new own) (here_at world shared d s) at (Next.Goto n)

-- ---- Either of them.

-- the instruction there was done, and the frame goes on at this place
abbrev pub TakesTurn : HeapContent → HeapContent → FrameContent → FrameContent → WorldRecord → DomainId → SegmentNo → PlaceInCode → ℕ → Type 0
TakesTurn old_heap heap old new world d s at n =
    ((heap ≡ old_heap) × GoesOnInFrame old new world.classes s at n) ⊎ Accesses old_heap heap old new world d s at n

-- nothing changed, but that the place where the frame stands may be stored
abbrev pub TakesNoTurn : HeapContent → HeapContent → FrameContent → FrameContent → SegmentNo → PlaceInCode → Type 0
TakesNoTurn old_heap heap old new s at = (heap ≡ old_heap) × (StaysAsItIs old new s ⊎ StoresPlace old new s at)
