-- What holds of the kernel's machine at every moment: of the first one, and after each start, step, kill and opening.
use Rattle.std.specs.Prelude.{◌≡◌, ℕ, List, length, Option}
use Rattle.jk_model.specs.declared.identifiers.ThreadNo.{ThreadNo}
use Rattle.jk_model.specs.declared.output.Line.{Line}
use Rattle.jk_model.specs.declared.script.Quotas.{Quotas}
use Rattle.jk_model_folders.specs.declared.files.FolderFiles.{FolderFiles}
use Rattle.jk_model_folders.specs.FolderTrees.{AreFiles}
use Rattle.jk_model_machine_state.specs.Machines.{IsFirstMachine, Machine}
use Rattle.jk_model_runs.specs.Events.{Kills}
use Rattle.jk_model_runs.specs.Starts.{Starts, StartWords}
use Rattle.jk_model_runs.specs.Steps.{Steps}
use Rattle.machine_laws.specs.KnownMachines.{IsKnownMachine}
use Rattle.machine_laws.specs.LoadingNext.{LoadsNext}
use Rattle.machine_laws.specs.MachinesOfRuns.{OpensFrom}
use Rattle.machine_laws.specs.OpenedMachines.{MayGrow}
use Rattle.kernel_events.specs.StepsInTurn.{StepsApart}
use Rattle.kernel_parts.specs.SoundKernels.{IsSoundKernel}

pub record IsSoundMachine (m : Machine) : Type 0 where
  pub kernel : IsSoundKernel m
  -- it is whole, and its classes and names are those of accepted folders
  pub known : IsKnownMachine m
  -- another domain may be opened, and another folder be loaded for it
  pub grows : MayGrow m
  pub loads : LoadsNext m

abbrev pub FirstMachinesAreSound : Type 0
FirstMachinesAreSound = (heap_pages stack_pages : Option ℕ) (m : Machine) → IsFirstMachine heap_pages stack_pages m → IsSoundMachine m

abbrev pub StartsKeepSound : Type 0
StartsKeepSound =
    (m new : Machine) (start : StartWords) (lines : List Line) → IsSoundMachine m → Starts m start lines new
    → IsSoundMachine new × (length new.domains ≡ length m.domains)

abbrev pub StepsKeepSound : Type 0
StepsKeepSound = (m new : Machine) (t : ThreadNo) (lines : List Line) → IsSoundMachine m → Steps m t lines new → IsSoundMachine new

abbrev pub KillsKeepSound : Type 0
KillsKeepSound = (m new : Machine) (name : List ℕ) (lines : List Line) → IsSoundMachine m → Kills m name lines new → IsSoundMachine new

abbrev pub OpeningsKeepSound : Type 0
OpeningsKeepSound =
    (f : FolderFiles) (m new : Machine) (name : List ℕ) (quotas : Quotas) → AreFiles f → IsSoundMachine m → OpensFrom f m name quotas new
    → IsSoundMachine new

-- each step is confined to what its deed may change
abbrev pub StepsAreApart : Type 0
StepsAreApart =
    (m new : Machine) (t : ThreadNo) (lines : List Line) → IsSoundMachine m → Steps m t lines new → StepsApart m t lines new
