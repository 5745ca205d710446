-- Several steps of a thread that its top segment does alone, and maybe one more by which the thread leaves the segment.
use Rattle.std.specs.Prelude.{◌≡◌, ℕ, suc, ◌+◌, ◌≤◌, List}
use Rattle.jk_model.specs.declared.identifiers.ThreadNo.{ThreadNo}
use Rattle.jk_model_frames.specs.Frames.{frames_chunks}
use Rattle.jk_model_heaps.specs.Workings.{Run, Setting}
use Rattle.jk_model_running.specs.LocalSteps.{LocalStep}
use Rattle.jk_model_running.specs.Ways.{Went as Way}
use Rattle.step_contents.specs.Contents.{Becomes, Contents, Here}
use Rattle.step_contents.specs.Settings.{IsSetting}
use Rattle.segment_steps.specs.ActingSegments.{MayAct}
use Rattle.segment_steps.specs.StepsAlone.{IsWent}
use Rattle.segment_steps.specs.StepsInTurn.{HaveRooms, StepsInTurn, StepsLead, WaitsForNoClass, set_after}
use Rattle.segment_steps.specs.declared.went.Went.{Went}
use Rattle.segment_steps.specs.declared.went.Went.TheVariants as Goes

-- The last step: the thread waits for no class before it, and it comes to this.
pub record LastStep (t : ThreadNo) (rooms : List (List ℕ)) (x : Setting) (run new : Run) (went : Went) : Type 0 where
  pub waits : WaitsForNoClass x.classes t run
  pub way : Way
  pub step : LocalStep x t run new way
  pub is_went : IsWent way went
  pub have_rooms : HaveRooms rooms new
  pub chunks : frames_chunks new.frames ≤ frames_chunks run.frames + x.chunks

-- So many steps, by the last of which the thread left the segment so, led from what the stores and the own state held to what they hold.
abbrev pub StepsLeave : Contents → Contents → Here → ThreadNo → ℕ → Went → Type 0
StepsLeave old new here t n went =
    (x : Setting) (may : MayAct old here) → IsSetting old here x
    → (before : ℕ) × (n ≡ suc before) × ((run last : Run) × StepsInTurn t old.own.rooms before x may.run run
    × LastStep t old.own.rooms (set_after x may.run run) run last went × Becomes old new here may.run last)

-- Either the segment goes on after so many steps, or the thread left it by the last one.
abbrev pub StepsComeTo : Contents → Contents → Here → ThreadNo → ℕ → Went → Type 0
StepsComeTo old new here t n Goes.GoesOn = StepsLead old new here t n
StepsComeTo old new here t n (Goes.Returned v) = StepsLeave old new here t n (Goes.Returned v)
StepsComeTo old new here t n (Goes.Left a) = ⊥
StepsComeTo old new here t n (Goes.Crosses k m) = StepsLeave old new here t n (Goes.Crosses k m)
StepsComeTo old new here t n Goes.Terminates = ⊥
