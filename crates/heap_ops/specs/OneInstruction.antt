-- One instruction on objects, as functions do it that see some of the stores alone: it may be done, and is, whatever the others hold.
use Rattle.std.specs.Prelude.{Result}
use Rattle.jk_model.specs.declared.steps.After.{After}
use Rattle.jk_model.specs.declared.steps.Raise.{Raise}
use Rattle.jk_model_heaps.specs.Capabilities.{KnownCapabilities}
use Rattle.jk_model_heap_rows.specs.HeapRows.{IsOfHeaps}
use Rattle.jk_model_sharing.specs.SharedStates.{SharedState}
use Rattle.class_init.specs.KeptStates.{KeptState}
use Rattle.step_contents.specs.StandingFrames.{place_of}
use Rattle.frame_store.specs.FrameContents.{FrameContent}
use Rattle.object_store.specs.HeapContents.{HeapContent}
use Rattle.step_contents.specs.Conditions.{MayDo}
use Rattle.step_contents.specs.Contents.{contents_of, here_at}
use Rattle.step_contents.specs.Contents.{Here as Within}
use Rattle.step_contents.specs.PlacesInCode.{PlaceInCode}
use Rattle.step_contents.specs.Settings.{AreKnown}
use Rattle.heap_ops.specs.HeapSteps.{HeapDone, after_access}
use Rattle.heap_ops.specs.declared.here.Here.{Here}

abbrev pub place_in : Here → PlaceInCode
place_in h = place_of h.at.now

abbrev pub among : Here → SharedState → Within
among h shared = here_at h.world.now shared h.domain h.segment

-- ---- Before.

-- The instruction at this place may be done.
pub record MayStep (heaps : HeapContent) (frames : FrameContent) (h : Here) : Type 0 where
  pub own : KeptState
  pub shared : SharedState
  pub may : MayDo (contents_of heaps frames own) (among h shared) (place_in h)
  pub kind : IsOfHeaps (place_in h).scope (place_in h).instr

-- It may be done where the own state is this one.
pub record MayStepWith (heaps : HeapContent) (frames : FrameContent) (own : KeptState) (h : Here) : Type 0 where
  pub shared : SharedState
  pub may : MayDo (contents_of heaps frames own) (among h shared) (place_in h)
  pub kind : IsOfHeaps (place_in h).scope (place_in h).instr

-- It may be done where this is known of capabilities.
pub record MayStepAmong (heaps : HeapContent) (frames : FrameContent) (caps : KnownCapabilities) (h : Here) : Type 0 where
  pub own : KeptState
  pub shared : SharedState
  pub may : MayDo (contents_of heaps frames own) (among h shared) (place_in h)
  pub kind : IsOfHeaps (place_in h).scope (place_in h).instr
  pub known : AreKnown h.world.now.classes shared caps

-- It may be done where both are given.
pub record MayStepAll (heaps : HeapContent) (frames : FrameContent) (own : KeptState) (caps : KnownCapabilities) (h : Here) : Type 0 where
  pub shared : SharedState
  pub may : MayDo (contents_of heaps frames own) (among h shared) (place_in h)
  pub kind : IsOfHeaps (place_in h).scope (place_in h).instr
  pub known : AreKnown h.world.now.classes shared caps

-- ---- After.

-- the frame goes on at the next place, or this is raised
abbrev pub answer : Here → Result (Unit {0}) Raise → After
answer h result = after_access (place_in h) result

abbrev pub Steps : HeapContent → HeapContent → FrameContent → FrameContent → Here → Result (Unit {0}) Raise → Type 0
Steps heaps new_heaps frames new_frames h result =
    (own : KeptState) (shared : SharedState)
    → HeapDone (contents_of heaps frames own) (contents_of new_heaps new_frames own) (among h shared) (place_in h) (answer h result)

abbrev pub StepsWith : HeapContent → HeapContent → FrameContent → FrameContent → KeptState → KeptState → Here → Result (Unit {0}) Raise → Type 0
StepsWith heaps new_heaps frames new_frames own new_own h result =
    (shared : SharedState)
    → HeapDone (contents_of heaps frames own) (contents_of new_heaps new_frames new_own) (among h shared) (place_in h) (answer h result)

abbrev pub StepsAmong : HeapContent → HeapContent → FrameContent → FrameContent → KnownCapabilities → Here → Result (Unit {0}) Raise → Type 0
StepsAmong heaps new_heaps frames new_frames known h result =
    (own : KeptState) (shared : SharedState) → AreKnown h.world.now.classes shared known
    → HeapDone (contents_of heaps frames own) (contents_of new_heaps new_frames own) (among h shared) (place_in h) (answer h result)

abbrev pub StepsAll : HeapContent → HeapContent → FrameContent → FrameContent → KeptState → KeptState → KnownCapabilities → Here
    → Result (Unit {0}) Raise → Type 0
StepsAll heaps new_heaps frames new_frames own new_own known h result =
    (shared : SharedState) → AreKnown h.world.now.classes shared known
    → HeapDone (contents_of heaps frames own) (contents_of new_heaps new_frames new_own) (among h shared) (place_in h) (answer h result)
