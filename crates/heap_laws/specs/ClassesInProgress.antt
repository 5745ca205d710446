-- Classes in progress, as far as one segment goes: they come into progress and out of it with the frames that initialise them.
use Rattle.std.specs.Prelude.{◌≡◌, ◌≢◌, ℕ, ◌+◌, ◌≤◌, List, count_by}
use Rattle.jk_model.specs.declared.identifiers.ClassId.{ClassId}
use Rattle.jk_model.specs.declared.identifiers.ThreadNo.{ThreadNo}
use Rattle.jk_model_frames.specs.Frames.{FrameState}
use Rattle.jk_model_heaps.specs.Workings.{Run}
use Rattle.jk_model_sealing.specs.ClassesInProgress.{initialises, progress_by}

-- how many of the frames initialise the class
abbrev pub count_initialisers : ClassId → List FrameState → ℕ
count_initialisers c frames = count_by (initialises c) frames

-- each class that one of the frames initialises is in progress by the thread, and one frame alone initialises it
abbrev pub AreInProgress : ThreadNo → Run → Type 0
AreInProgress t run = (c : ClassId) → count_initialisers c run.frames ≤ progress_by t run.inside.own c

-- A class comes into progress by the thread with a frame that initialises it, and out of it with that frame; for other threads nothing
-- changes.
pub record KeepsProgress (t : ThreadNo) (old new : Run) : Type 0 where
  pub own : (c : ClassId) → count_initialisers c new.frames + progress_by t old.inside.own c
      ≡ count_initialisers c old.frames + progress_by t new.inside.own c
  pub others : (u : ThreadNo) (c : ClassId) → u ≢ t → progress_by u new.inside.own c ≡ progress_by u old.inside.own c
