-- When an instruction on whole numbers may be done at the top frame of a segment, and what it makes of the store then. The frame stands
-- where the head says that is handed in, which may be another place than the stored head's: a loop need not store each place.
use Rattle.std.specs.Prelude.{◌≡◌, ℕ, ◌<◌, ◌^◌, ℤ, pos, List, length, map, Some, slice_get}
use Rattle.jk_model.specs.declared.frames.FrameHead.{FrameHead}
use Rattle.jk_model.specs.declared.identifiers.MemberId.{MemberId}
use Rattle.jk_model.specs.declared.identifiers.SegmentNo.{SegmentNo}
use Rattle.jk_model.specs.declared.instructions.Instr.{Instr}
use Rattle.jk_model.specs.declared.instructions.SwitchCase.{SwitchCase}
use Rattle.jk_model.specs.Instructions.{Rises}
use Rattle.jk_model.specs.declared.steps.After.{After}
use Rattle.jk_model_classes.specs.declared.records.ClassRecord.{ClassRecord}
use Rattle.jk_model_typing.specs.declared.frames.FrameType.{FrameType}
use Rattle.jk_model_typing.specs.FrameTypes.{IsFrameOf}
use Rattle.jk_model_typing.specs.Rows.{Row}
use Rattle.jk_model_typing.specs.Scopes.{CodeScope, IsScopeOf}
use Rattle.jk_model_typing.specs.Typing.{GoesOnAt}
use Rattle.jk_model_frames.specs.Frames.{FrameState}
use Rattle.jk_model_domains.specs.NumberRows.{IsOfNumbers, NumberRow}
use Rattle.jk_model_domains.specs.Objects.{NamedObject}
use Rattle.jk_model_domains.specs.ValueTypes.{FrameHolds}
use Rattle.frame_store.specs.FrameContents.{FrameContent, SetsTop, TopFrame}
use Rattle.number_laws.specs.FrameLaws.{with_head}

-- this is the frame's head, but for the place
abbrev pub IsHeadOf : FrameState → FrameHead → Type 0
IsHeadOf f head = head ≡ record f.head { at = head.at }

-- The top frame, with this head, stands at this instruction, which works on numbers, and its values fit a frame type with which the
-- instruction may begin.
pub record IsReady (c : FrameContent) (classes : List ClassRecord) (s : SegmentNo) (head : FrameHead) (i : Instr) : Type 0 where
  pub frame : FrameState
  pub top : TopFrame c s frame
  pub ahead : IsHeadOf frame head
  pub method : MemberId
  pub method_is : head.method ≡ Some method
  pub scope : CodeScope
  pub scope_is : IsScopeOf classes method scope
  pub room : (head.max_locals ≡ scope.code.max_locals) × (head.max_stack ≡ scope.code.max_stack)
  pub stands : slice_get scope.code.instrs head.at ≡ Some i
  pub of_numbers : IsOfNumbers scope i
  pub before : FrameType
  pub after : FrameType
  pub sized : IsFrameOf scope.code before
  pub row : Row scope head.at i before after
  pub heap : List NamedObject
  pub holds : FrameHolds scope heap frame before
  -- the keys of a switch rise
  pub keys : Rises (map (λ (c : SwitchCase). c.key) i.cases)
  -- wherever control may go from it, there is an instruction
  pub goes_on : (next : ℤ) → GoesOnAt head.at i next → (n : ℕ) × (next ≡ pos n) × (n < length scope.code.instrs)
  pub short : length scope.code.instrs < 2 ^ 32

-- The instruction was done at the top frame of the segment with this head: its locals and its stack changed, and nothing else. The
-- stored head is as before.
abbrev pub DoesNumbers : FrameContent → FrameContent → List ClassRecord → SegmentNo → FrameHead → Instr → After → Type 0
DoesNumbers old new classes s head i after =
    (f : FrameState) × (g : FrameState) × (method : MemberId) × (scope : CodeScope) × TopFrame old s f × IsHeadOf f head
    × (head.method ≡ Some method) × IsScopeOf classes method scope × NumberRow scope head.at i (with_head f head) g after
    × SetsTop old new s (with_head g f.head)
