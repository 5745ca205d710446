-- A frame that stands at a call goes on after it, with the answer.
use Rattle.std.specs.Prelude.{◌≡◌, ◌+◌, ◌^◌, ◌<◌, ◌≤◌, length, Option, None}
use Rattle.jk_model.specs.declared.identifiers.SegmentNo.{SegmentNo}
use Rattle.jk_model.specs.declared.values.Value.{Value}
use Rattle.jk_model_frames.specs.Frames.{FrameState}
use Rattle.jk_model_heaps.specs.CalledFrames.{as_entries, resumed}
use Rattle.frame_store.specs.FrameContents.{FrameContent, SetsTop, TopFrame}

-- It has no need, and there is an instruction after the call, and room for the answer.
pub record MayResume (f : FrameState) (v : Option Value) : Type 0 where
  pub no_need : f.head.need ≡ None
  pub place : f.head.at + 1 < 2 ^ 32
  pub room : length f.stack + length (as_entries v) ≤ f.head.max_stack

-- so may the top frame of a segment
abbrev pub TopMayResume : FrameContent → SegmentNo → Option Value → Type 0
TopMayResume c s v = (f : FrameState) × TopFrame c s f × MayResume f v

-- where this was the top frame of the segment, it went on
abbrev pub TopResumes : FrameContent → FrameContent → SegmentNo → FrameState → Option Value → Type 0
TopResumes old new s f v = TopFrame old s f → f.head.need ≡ None → SetsTop old new s (resumed v f)
