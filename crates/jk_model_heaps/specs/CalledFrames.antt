-- Frames as they are called, and as they go on.
use Rattle.std.specs.Prelude.{◌≡◌, ℕ, ◌+◌, ◌≤◌, List, [], ◌∷◌, ◌++◌, length, Option, Some, None}
use Rattle.jk_model.specs.declared.frames.FrameHead.{FrameHead}
use Rattle.jk_model.specs.declared.identifiers.MemberId.{MemberId}
use Rattle.jk_model.specs.declared.values.Value.{Value}
use Rattle.jk_model_classes.specs.declared.records.LinkedCode.{LinkedCode}
use Rattle.jk_model_frames.specs.Frames.{FrameState, called_frame, locals_of}

-- the head of a frame that begins a method
abbrev pub call_head : MemberId → LinkedCode → FrameHead
call_head m code = record {
  method = Some m;
  at = 0;
  need = None;
  initialises = None;
  max_locals = code.max_locals;
  max_stack = code.max_stack;
}

-- a frame that begins a method with these arguments, the receiver first; they fit its locals
abbrev pub IsCalledFrame : MemberId → LinkedCode → List Value → FrameState → Type 0
IsCalledFrame m code given f = (length (locals_of given) ≤ code.max_locals) × (f ≡ called_frame (call_head m code) given)

-- the frame at another place
abbrev pub at_place : FrameState → ℕ → FrameState
at_place f n = record f { head = record f.head { at = n } }

-- one entry, or none where a method answers nothing
abbrev pub as_entries : Option Value → List Value
as_entries (Some v) = v ∷ []
as_entries None = []

-- a frame that a call left standing goes on after it, with the answer on its stack
abbrev pub resumed : Option Value → FrameState → FrameState
resumed v f = record f { head = record f.head { at = f.head.at + 1 }; stack = f.stack ++ as_entries v }
