-- What is known of a segment that does steps alone, before each of them.
use Rattle.std.specs.Prelude.{◌≡◌, ℕ, ◌≤◌, Some}
use Rattle.jk_model.specs.declared.identifiers.ThreadNo.{ThreadNo}
use Rattle.heap_laws.specs.ClassesInProgress.{AreInProgress}
use Rattle.step_contents.specs.Contents.{Contents, Here}
use Rattle.segment_steps.specs.ActingSegments.{MayAct}
use Rattle.segment_steps.specs.Returning.{PaysFrames}

-- It may act, the classes that its frames initialise are in progress by the thread, and its domain uses the chunks of its frames, and no more
-- than it may.
pub record IsActing (c : Contents) (here : Here) (t : ThreadNo) : Type 0 where
  pub may : MayAct c here
  pub progress : AreInProgress t may.run
  pub pays : PaysFrames c.frames here.segment
  pub quota : ℕ
  pub has_quota : c.frames.quota here.domain ≡ Some quota
  pub within : c.frames.used here.domain ≤ quota
