-- What is on top of the operand stack of a segment's top frame, and how the store changes where entries are taken and pushed.
use Rattle.std.specs.Prelude.{◌≡◌, ℕ, ◌+◌, ◌≤◌, List, ◌++◌, length, Some, slice_get}
use Rattle.jk_model.specs.declared.identifiers.SegmentNo.{SegmentNo}
use Rattle.jk_model.specs.declared.instructions.Instr.{Instr}
use Rattle.jk_model.specs.declared.values.Value.{Value}
use Rattle.jk_model_frames.specs.Frames.{FrameState}
use Rattle.jk_model_domains.specs.NumberRows.{IsOnTop, Replaces, UsesLocal}
use Rattle.frame_store.specs.FrameContents.{FrameContent, SetsTop, TopFrame}

-- These entries are on top.
pub record OnTop (c : FrameContent) (s : SegmentNo) (taken : List Value) : Type 0 where
  pub frame : FrameState
  pub top : TopFrame c s frame
  pub on_top : IsOnTop frame taken

-- These entries are on top, and once they are taken there is room for so many.
pub record OnTopWithRoom (c : FrameContent) (s : SegmentNo) (taken : List Value) (room : ℕ) : Type 0 where
  pub frame : FrameState
  pub top : TopFrame c s frame
  pub below : List Value
  pub stack : frame.stack ≡ below ++ taken
  pub has_room : length below + room ≤ frame.head.max_stack

-- The top frame has this value in a local.
pub record HasInLocal (c : FrameContent) (s : SegmentNo) (n : ℕ) (v : Value) : Type 0 where
  pub frame : FrameState
  pub top : TopFrame c s frame
  pub local : slice_get frame.locals n ≡ Some v

-- The top frame has at least so many locals.
pub record HasLocals (c : FrameContent) (s : SegmentNo) (n : ℕ) : Type 0 where
  pub frame : FrameState
  pub top : TopFrame c s frame
  pub many : n ≤ length frame.locals

-- the top frame has at most so many locals
abbrev pub HasAtMostLocals : FrameContent → SegmentNo → ℕ → Type 0
HasAtMostLocals c s n = (f : FrameState) → TopFrame c s f → length f.locals ≤ n

-- The top frame becomes another one, and nothing else changes.
pub record Becomes (old new : FrameContent) (s : SegmentNo) (f g : FrameState) : Type 0 where
  pub top : TopFrame old s f
  pub sets : SetsTop old new s g

-- Entries are taken off the stack of the top frame, and others are put in their place.
pub record Turns (old new : FrameContent) (s : SegmentNo) (taken pushed : List Value) : Type 0 where
  pub before : FrameState
  pub after : FrameState
  pub becomes : Becomes old new s before after
  pub replaces : Replaces before after taken pushed

-- The top frame uses a local as the instruction says.
pub record Uses (old new : FrameContent) (s : SegmentNo) (i : Instr) : Type 0 where
  pub before : FrameState
  pub after : FrameState
  pub becomes : Becomes old new s before after
  pub uses : UsesLocal i before after
