-- All along a run another folder may be loaded: the world of the machine is one in which that is asked.
use Rattle.std.specs.Prelude.{ℕ, ◌+◌, ◌*◌, ◌≤◌, List, length, Option}
use Rattle.jk_model.specs.SystemTable.{system_classes}
use Rattle.jk_model.specs.declared.identifiers.ThreadNo.{ThreadNo}
use Rattle.jk_model.specs.declared.output.Line.{Line}
use Rattle.jk_model.specs.declared.script.Quotas.{Quotas}
use Rattle.jk_model_classes.specs.Worlds.{IsWorld}
use Rattle.jk_model_folders.specs.declared.files.FolderFiles.{FolderFiles}
use Rattle.jk_model_folders.specs.FolderTrees.{AreFiles, MOST_FILES}
use Rattle.jk_model_folders.specs.Loads.{MayLoad}
use Rattle.jk_model_machine_state.specs.Machines.{IsFirstMachine, Machine, world_of}
use Rattle.jk_model_runs.specs.Events.{Kills}
use Rattle.jk_model_runs.specs.Starts.{Starts, StartWords}
use Rattle.jk_model_runs.specs.Steps.{Steps}
use Rattle.machine_laws.specs.KnownMachines.{IsKnownMachine}
use Rattle.machine_laws.specs.MachinesOfRuns.{OpensFrom}
use Rattle.machine_laws.specs.OpenedMachines.{MayGrow}

-- The classes to which names, offers and records lead are there, each class is of a domain that was added, and each folder had as many classes as a
-- folder may have.
pub record LoadsNext (m : Machine) : Type 0 where
  pub world : IsWorld (world_of m) (length m.domains)
  pub few_classes : length m.classes ≤ length system_classes + MOST_FILES * length m.domains

-- then a folder may be loaded
abbrev pub FoldersMayLoad : Type 0
FoldersMayLoad = (m : Machine) → IsKnownMachine m → MayGrow m → LoadsNext m → MayLoad (world_of m)

-- ---- It is so of the first machine, and each event leads to such a machine.

abbrev pub FirstMachinesLoadNext : Type 0
FirstMachinesLoadNext = (heap_pages stack_pages : Option ℕ) (m : Machine) → IsFirstMachine heap_pages stack_pages m → LoadsNext m

abbrev pub StartsLoadNext : Type 0
StartsLoadNext =
    (m new : Machine) (start : StartWords) (lines : List Line) → IsKnownMachine m → LoadsNext m → Starts m start lines new → LoadsNext new

abbrev pub StepsLoadNext : Type 0
StepsLoadNext = (m new : Machine) (t : ThreadNo) (lines : List Line) → IsKnownMachine m → LoadsNext m → Steps m t lines new → LoadsNext new

abbrev pub KillsLoadNext : Type 0
KillsLoadNext = (m new : Machine) (name : List ℕ) (lines : List Line) → LoadsNext m → Kills m name lines new → LoadsNext new

abbrev pub OpeningsLoadNext : Type 0
OpeningsLoadNext =
    (f : FolderFiles) (m new : Machine) (name : List ℕ) (quotas : Quotas) → AreFiles f → LoadsNext m → OpensFrom f m name quotas new
    → LoadsNext new
