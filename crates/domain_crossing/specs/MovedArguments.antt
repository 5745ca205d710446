-- The arguments of a call through a capability: on the caller's operand stack, and in the locals of the frame that begins.
use Rattle.std.specs.Prelude.{◌≡◌, ℕ, ◌+◌, ◌<◌, ◌≤◌, ⊤, List, [], ◌∷◌, ◌++◌, length, Option, Some, None, slice_get}
use denote.Ref.{Bor}
use Rattle.jk_model.specs.declared.frames.FrameHead.{FrameHead}
use Rattle.jk_model.specs.declared.identifiers.DomainId.{DomainId}
use Rattle.jk_model.specs.declared.identifiers.SegmentNo.{SegmentNo}
use Rattle.jk_model.specs.declared.values.Value.{Value}
use Rattle.jk_model_frames.specs.Frames.{FrameState, called_frame, head_chunks, locals_of}
use Rattle.frame_store.specs.FrameContents.{Changes, FrameContent, StoredSegment, TopFrame}

-- The top frame of a segment has these entries on top of its operand stack.
pub record HasOnTop (c : FrameContent) (s : SegmentNo) (values : List Value) : Type 0 where
  pub frame : FrameState
  pub top : TopFrame c s frame
  pub below : List Value
  pub stack : frame.stack ≡ below ++ values

-- There is a copy at the place, where there are copies.
abbrev pub CopiesReach : Option (Bor (List Value)) → ℕ → Type 0
CopiesReach None i = ⊤
CopiesReach (Some copies) i = i < length copies.now

-- The value is the copy at the place, where there are copies, and else the argument.
abbrev pub IsHanded : Option (Bor (List Value)) → ℕ → Value → Value → Type 0
IsHanded None i argument v = v ≡ argument
IsHanded (Some copies) i argument v = slice_get copies.now i ≡ Some v

-- So many arguments are handed over as these values.
pub record Carries (given : List Value) (copies : Option (Bor (List Value))) (count : ℕ) (values : List Value) : Type 0 where
  pub many : length given ≡ count
  pub as_many : length values ≡ count
  pub each : (i : ℕ) (a v : Value) → slice_get given i ≡ Some a → slice_get values i ≡ Some v → IsHanded copies i a v

-- ---- A frame that begins.

abbrev pub FitsLocals : FrameHead → List Value → Type 0
FitsLocals head values = length (locals_of values) ≤ head.max_locals

-- its first locals have these values
abbrev pub BeginsWith : FrameContent → SegmentNo → FrameHead → List Value → Type 0
BeginsWith c n head values = TopFrame c n (called_frame head values)

-- ---- The caller.

-- Its top frame has a receiver and arguments on top of its operand stack.
pub record StandsToCall (c : FrameContent) (s : SegmentNo) : Type 0 where
  pub stood : StoredSegment
  pub is_there : c.segment s ≡ Some stood
  pub callers : List FrameState
  pub frame : FrameState
  pub are_frames : stood.frames ≡ callers ++ frame ∷ []
  pub below : List Value
  pub receiver : Value
  pub given : List Value
  pub stack : frame.stack ≡ below ++ receiver ∷ given

-- These have left its stack, and another segment has begun with one frame.
pub record HasArrived {old : FrameContent} {s : SegmentNo} (call : StandsToCall old s) (n : SegmentNo) (owner : DomainId) (frame : FrameState)
    (new : FrameContent) : Type 0 where
  pub mid : FrameContent
  pub taken : Changes old mid s call.stood.domain
      (Some (record { domain = call.stood.domain; frames = call.callers ++ record call.frame { stack = call.below } ∷ [] })) (old.used call.stood.domain)
  pub begun : Changes mid new n owner (Some (record { domain = owner; frames = frame ∷ [] })) (old.used owner + 1 + head_chunks frame.head)
