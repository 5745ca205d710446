-- Several steps of a thread, one after another, that its top segment does alone: by what the segment and its domain have before and after each.
use Rattle.std.specs.Prelude.{ℕ, suc, ◌+◌, ◌-◌, ◌≤◌, List, Contains}
use Rattle.jk_model.specs.declared.identifiers.ClassId.{ClassId}
use Rattle.jk_model.specs.declared.identifiers.ThreadNo.{ThreadNo}
use Rattle.jk_model_classes.specs.declared.records.ClassRecord.{ClassRecord}
use Rattle.jk_model_domains.specs.OwnStates.{Literal}
use Rattle.jk_model_frames.specs.Frames.{frames_chunks}
use Rattle.jk_model_heaps.specs.Workings.{Run, Setting}
use Rattle.jk_model_running.specs.Initialising.{FrameNeeds, IsInProgressElsewhere}
use Rattle.jk_model_running.specs.LocalSteps.{LocalStep, TopFrame}
use Rattle.jk_model_running.specs.Ways.{GoesOn}
use Rattle.step_contents.specs.Contents.{Becomes, Contents, Here}
use Rattle.step_contents.specs.Settings.{IsSetting}
use Rattle.segment_steps.specs.ActingSegments.{MayAct}

-- no other thread initialises the class that the top frame needs
abbrev pub WaitsForNoClass : List ClassRecord → ThreadNo → Run → Type 0
WaitsForNoClass classes t run =
    (top : TopFrame run) (c : ClassId) → FrameNeeds classes top.frame c → IsInProgressElsewhere run.inside.own t c → ⊥

-- the text of each literal has one of these rooms
abbrev pub HaveRooms : List (List ℕ) → Run → Type 0
HaveRooms rooms run = (l : Literal) → Contains run.inside.own.literals l → Contains rooms l.text

-- the same setting, with the chunks that are free after a step from the one run to the other
abbrev pub set_after : Setting → Run → Run → Setting
set_after x run new = record x { chunks = x.chunks + frames_chunks run.frames - frames_chunks new.frames }

-- So many steps from the one run to the other. The thread waits for no class before any of them, and goes on in its segment after each; and the
-- frames cost no more after each than they did and than was free.
pub data StepsInTurn (t : ThreadNo) (rooms : List (List ℕ)) : ℕ → Setting → Run → Run → Type 0 where
  none : (x : Setting) (run : Run) → StepsInTurn t rooms 0 x run run
  one_more : (n : ℕ) (x : Setting) (run mid new : Run) → WaitsForNoClass x.classes t run → LocalStep x t run mid GoesOn
      → HaveRooms rooms mid → frames_chunks mid.frames ≤ frames_chunks run.frames + x.chunks
      → StepsInTurn t rooms n (set_after x run mid) mid new → StepsInTurn t rooms (suc n) x run new

-- So many steps of the thread led from what the stores and the own state held to what they hold.
abbrev pub StepsLead : Contents → Contents → Here → ThreadNo → ℕ → Type 0
StepsLead old new here t n =
    (x : Setting) (may : MayAct old here) → IsSetting old here x
    → (run : Run) × StepsInTurn t old.own.rooms n x may.run run × Becomes old new here may.run run
