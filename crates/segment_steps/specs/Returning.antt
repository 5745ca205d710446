-- A frame returns.
use Rattle.std.specs.Prelude.{◌≡◌, ◌≢◌, ◌+◌, ◌^◌, ◌<◌, ◌≤◌, List, [], ◌∷◌, ◌++◌, length, Option, Some, None}
use Rattle.jk_model.specs.declared.identifiers.ClassId.{ClassId}
use Rattle.jk_model.specs.declared.identifiers.SegmentNo.{SegmentNo}
use Rattle.jk_model.specs.declared.values.Value.{Value}
use Rattle.jk_model_domains.specs.OwnStates.{HasState}
use Rattle.jk_model_frames.specs.Frames.{FrameState, frames_chunks}
use Rattle.jk_model_heaps.specs.CalledFrames.{as_entries}
use Rattle.jk_model_heaps.specs.Heaps.{heap_words}
use Rattle.jk_model_heaps.specs.Workings.{Returns, Run, Setting, Working}
use Rattle.jk_model_running.specs.LocalSteps.{Continues}
use Rattle.jk_model_running.specs.Ways.{Went as Way}
use Rattle.frame_store.specs.FrameContents.{FrameContent, StoredSegment}
use Rattle.step_contents.specs.Contents.{Becomes, Contents, Here, Holds, with_frame}
use Rattle.segment_steps.specs.StepsAlone.{IsWent}
use Rattle.segment_steps.specs.declared.went.Went.{Went}

-- A frame that stands at a call may go on after it, with this answer on its stack.
pub record MayResume (f : FrameState) (v : Option Value) : Type 0 where
  pub no_need : f.head.need ≡ None
  pub place : f.head.at + 1 < 2 ^ 32
  pub room : length f.stack + length (as_entries v) ≤ f.head.max_stack

-- the domain of the segment uses the chunks of its frames, and maybe others
abbrev pub PaysFrames : FrameContent → SegmentNo → Type 0
PaysFrames c s = (g : StoredSegment) → c.segment s ≡ Some g → frames_chunks g.frames ≤ c.used g.domain

-- The top frame returned this, and its entry has left its stack: it stands there still, over these callers.
pub record MayReturn (c : Contents) (here : Here) (callers : List FrameState) (w : Working) (v : Option Value) : Type 0 where
  pub holds : Holds c here (with_frame callers w.frame w.inside)
  pub used : c.heaps.used here.domain ≡ heap_words here.world.classes w.inside.heap
  pub class : (k : ClassId) → w.frame.head.initialises ≡ Some k → HasState w.inside.own k × (callers ≢ [])
  pub resumes : (lower : List FrameState) (below : FrameState) → w.frame.head.initialises ≡ None → callers ≡ lower ++ below ∷ []
      → MayResume below v

pub record HasReturned (x : Setting) (old new : Contents) (here : Here) (callers : List FrameState) (w : Working) (v : Option Value)
    (went : Went) : Type 0 where
  pub run : Run
  pub way : Way
  pub continues : Continues x callers w (Returns v) run way
  pub is_went : IsWent way went
  pub becomes : Becomes old new here (with_frame callers w.frame w.inside) run
