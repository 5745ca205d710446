-- The lowest frame of a segment gives what it gave, as long as frames are left of it.
use Rattle.std.specs.Prelude.{◌≢◌, []}
use Rattle.jk_model.specs.declared.identifiers.ThreadNo.{ThreadNo}
use Rattle.jk_model_heaps.specs.Workings.{Run, Setting}
use Rattle.jk_model_running.specs.LocalSteps.{LocalStep}
use Rattle.jk_model_running.specs.Ways.{Went}
use Rattle.jk_model_sealing.specs.SealedInsides.{Surroundings}
use Rattle.row_laws.specs.KeptRuns.{ActsWell}
use Rattle.machine_laws.specs.RunsInMachines.{GivesStill}

abbrev pub LowestFramesGiveStill : Type 0
LowestFramesGiveStill =
    (around : Surroundings) (x : Setting) (t : ThreadNo) (old new : Run) (went : Went) → ActsWell around x t old
    → LocalStep x t old new went → new.frames ≢ [] → GivesStill around.classes old.frames new.frames
