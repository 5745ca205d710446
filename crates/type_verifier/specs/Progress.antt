-- The frames that leaders have so far, and the places that are still to be looked at.
use Rattle.std.specs.Prelude.{◌≡◌, ℕ, ◌+◌, ◌*◌, ◌≤◌, ◌⊎◌, List, length, sum_by, Contains, Option, Some, slice_get}
use Rattle.jk_model_typing.specs.declared.frames.FrameType.{FrameType}
use Rattle.jk_model_typing.specs.FrameTypes.{IsFrameOf}
use Rattle.jk_model_typing.specs.Scopes.{CodeScope}
use Rattle.jk_model_typing.specs.Typing.{FrameAt, FitsAt}
use Rattle.type_frames.specs.Heights.{place_height}
use Rattle.type_verifier.specs.declared.progress.Progress.{Progress}
use Rattle.type_verifier.specs.declared.ranges.LocalRange.{LocalRange}
use Rattle.type_verifier.specs.declared.tasks.Task.{Task}
use Rattle.type_verifier.specs.Leaders.{Leads}
use Rattle.type_verifier.specs.Ranges.{IsWhole, RoseFrom}
use Rattle.type_verifier.specs.Tasks.{scope_in, TypesTask}

-- each frame fits the one that a typing has there
abbrev pub AreBelow : CodeScope → List (Option FrameType) → List (Option FrameType) → Type 0
AreBelow s frames typing = (place : ℕ) (f : FrameType) → FrameAt frames place f → FitsAt s typing place f

-- what holds of the frames at each moment: none says more than each typing does
pub record AreFrames (task : Task) (frames : List (Option FrameType)) : Type 0 where
  pub as_many : length frames ≡ length (scope_in task).code.instrs
  pub sized : (place : ℕ) (f : FrameType) → FrameAt frames place f → IsFrameOf (scope_in task).code f
  pub leaders : (place : ℕ) (f : FrameType) → FrameAt frames place f → Leads task.leads.items place
  pub below : (typing : List (Option FrameType)) → TypesTask task typing → AreBelow (scope_in task) frames typing

-- how much may still happen: a frame rises only so often, and is looked at again after that
abbrev pub work_left : CodeScope → List (Option FrameType) → List ℕ → ℕ
work_left s frames work = 2 * sum_by (place_height s.classes s.code) frames + length work

-- the places to be looked at, and the locals that may have risen, for each place
pub record Notes : Type 0 where
  pub work : List ℕ
  pub rose : List LocalRange

abbrev pub notes_of : Progress → Notes
notes_of p = record { work = p.work.keys; rose = p.rose.items }

-- the range that is noted for a place has all locals, or those in which its frame differs from an old one, and all that was noted
abbrev pub HasNoted : CodeScope → List (Option FrameType) → List LocalRange → ℕ → FrameType → LocalRange → Type 0
HasNoted s old rose place f r =
    IsWhole s r
    ⊎ ((g : FrameType) × (q : LocalRange) × FrameAt old place g × (slice_get rose place ≡ Some q) × RoseFrom s g q f r)

-- Frames rise, and each place whose frame rose is to be looked at.
pub record Moves (s : CodeScope) (old : List (Option FrameType)) (old_notes : Notes) (new : List (Option FrameType)) (new_notes : Notes) : Type 0 where
  pub grows : (place : ℕ) (f : FrameType) → FrameAt old place f → FitsAt s new place f
  pub pending : (place : ℕ) → (slice_get new place ≡ slice_get old place) ⊎ Contains new_notes.work place
  pub kept : (place : ℕ) → Contains old_notes.work place → Contains new_notes.work place
  pub as_many : length new_notes.rose ≡ length old_notes.rose
  pub noted : (place : ℕ) (f : FrameType) (r : LocalRange) → FrameAt new place f → slice_get new_notes.rose place ≡ Some r
      → HasNoted s old old_notes.rose place f r
  pub cost : work_left s new new_notes.work ≤ work_left s old old_notes.work
