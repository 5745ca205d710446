-- What the stores of objects and of frames and a domain's own state hold of a segment's run, and what a step makes of them.
use Rattle.std.specs.Prelude.{◌≡◌, ℕ, ◌+◌, List, [], ◌∷◌, ◌++◌, Some}
use Rattle.jk_model.specs.declared.identifiers.DomainId.{DomainId}
use Rattle.jk_model.specs.declared.identifiers.SegmentNo.{SegmentNo}
use Rattle.jk_model_classes.specs.Worlds.{WorldRecord}
use Rattle.jk_model_frames.specs.Frames.{FrameState, frames_chunks}
use Rattle.jk_model_heaps.specs.Heaps.{heap_words}
use Rattle.jk_model_heaps.specs.Workings.{Inside, Run}
use Rattle.jk_model_sharing.specs.SharedStates.{SharedState}
use Rattle.class_init.specs.KeptStates.{KeptState}
use Rattle.frame_store.specs.FrameContents.{FrameContent, Changes}
use Rattle.frame_store.specs.FrameContents.{IsSame as AreSameFrames}
use Rattle.object_store.specs.HeapContents.{HeapContent, HeapBecomes}

-- ---- What a step function is given.

-- both stores, and the own state of the domain that runs
pub record Contents : Type 0 where
  pub heaps : HeapContent
  pub frames : FrameContent
  pub own : KeptState

abbrev pub contents_of : HeapContent → FrameContent → KeptState → Contents
contents_of heaps frames own = record { heaps = heaps; frames = frames; own = own }

-- among which classes and domains, in which domain and in which segment
pub record Here : Type 0 where
  pub world : WorldRecord
  pub shared : SharedState
  pub domain : DomainId
  pub segment : SegmentNo

abbrev pub here_at : WorldRecord → SharedState → DomainId → SegmentNo → Here
here_at world shared d s = record { world = world; shared = shared; domain = d; segment = s }

-- what a call leaves that may change what domains share, too
pub record LeftBehind : Type 0 where
  pub contents : Contents
  pub shared : SharedState

abbrev pub left_behind : Contents → SharedState → LeftBehind
left_behind contents shared = record { contents = contents; shared = shared }

-- ---- What they hold.

-- what the domain has inside
abbrev pub inside_in : Contents → Here → Inside
inside_in c here = record {
  own = c.own.state;
  heap = c.heaps.heap here.domain;
  heap_at = c.heaps.first_page here.domain;
  stack_at = c.frames.first_page here.domain;
}

-- the segment, which is one of the domain, with these frames
abbrev pub HasFrames : Contents → Here → List FrameState → Type 0
HasFrames c here frames = c.frames.segment here.segment ≡ Some (record { domain = here.domain; frames = frames })

-- They hold this run of the segment.
pub record Holds (c : Contents) (here : Here) (run : Run) : Type 0 where
  pub inside : run.inside ≡ inside_in c here
  pub frames : HasFrames c here run.frames

-- what stands in a segment whose top frame, over these callers, is this one
abbrev pub with_frame : List FrameState → FrameState → Inside → Run
with_frame callers frame inside = record { inside = inside; frames = callers ++ frame ∷ [] }

-- ---- What a step makes of them.

-- The domain has this inside then, and uses the words that its objects cost. All else in the store of objects is as before, marks too, and
-- so are the texts for which the own state has room.
pub record InsideBecomes (old new : Contents) (here : Here) (inside : Inside) : Type 0 where
  pub is_inside : inside ≡ inside_in new here
  pub heaps : HeapBecomes old.heaps new.heaps here.domain inside.heap (heap_words here.world.classes inside.heap)
  pub rooms : new.own.rooms ≡ old.own.rooms

-- The segment had these frames and has those then, and the domain uses the chunks that this says. All else in the store of frames is as
-- before.
pub record FramesBecome (old new : Contents) (here : Here) (before after : List FrameState) : Type 0 where
  pub used : ℕ
  pub chunks : used + frames_chunks before ≡ old.frames.used here.domain + frames_chunks after
  pub changes : Changes old.frames new.frames here.segment here.domain (Some (record { domain = here.domain; frames = after })) used

-- The frames are as before.
abbrev pub KeepsFrames : Contents → Contents → Type 0
KeepsFrames old new = AreSameFrames old.frames new.frames

-- They held the one run and hold the other then, and nothing else changed. Where both are one run, nothing changed at all.
pub record Becomes (old new : Contents) (here : Here) (before after : Run) : Type 0 where
  pub inside : InsideBecomes old new here after.inside
  pub frames : FramesBecome old new here before.frames after.frames
