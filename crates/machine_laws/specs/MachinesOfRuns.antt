-- What is kept of each machine of a run, from the first one on: all is known of it, and another domain may be opened.
use Rattle.std.specs.Prelude.{◌≡◌, ℕ, List}
use Rattle.jk_model.specs.declared.identifiers.ThreadNo.{ThreadNo}
use Rattle.jk_model.specs.declared.output.Line.{Line}
use Rattle.jk_model.specs.declared.script.Quotas.{Quotas}
use Rattle.jk_model_folders.specs.declared.files.FolderFiles.{FolderFiles}
use Rattle.jk_model_heaps.specs.Workings.{Inside}
use Rattle.jk_model_machine_state.specs.Machines.{Machine, caps_of, world_of}
use Rattle.jk_model_openings.specs.OpenedDomains.{IsOpening, IsPlacedIn, with_new_domain}
use Rattle.jk_model_openings.specs.Openings.{HasManyDomains, IsAccepted, LacksPages, admission}
use Rattle.jk_model_runs.specs.Events.{Goes, Kills, Rounds, Turns}
use Rattle.jk_model_runs.specs.Starts.{Starts, StartWords}
use Rattle.jk_model_runs.specs.Steps.{Steps}
use Rattle.jk_model_sharing.specs.CapabilityCalls.{LacksNumbers}
use Rattle.machine_laws.specs.KnownMachines.{IsKnownMachine}
use Rattle.machine_laws.specs.OpenedMachines.{MayGrow}
use Rattle.machine_laws.specs.SoundFolders.{AcceptsFiles}

-- ---- Another domain may be opened: that is kept by each start, step and kill. (Openings: `OpeningsStayWhole` of OpenedMachines.)

abbrev pub StartsMayGrow : Type 0
StartsMayGrow =
    (m new : Machine) (start : StartWords) (lines : List Line) → IsKnownMachine m → MayGrow m → Starts m start lines new → MayGrow new

abbrev pub StepsMayGrow : Type 0
StepsMayGrow = (m new : Machine) (t : ThreadNo) (lines : List Line) → IsKnownMachine m → MayGrow m → Steps m t lines new → MayGrow new

abbrev pub KillsMayGrow : Type 0
KillsMayGrow = (m new : Machine) (name : List ℕ) (lines : List Line) → IsKnownMachine m → MayGrow m → Kills m name lines new → MayGrow new

-- ---- Openings.

-- A domain is opened with the classes and names of accepted files.
pub record OpensFrom (f : FolderFiles) (m : Machine) (name : List ℕ) (quotas : Quotas) (new : Machine) : Type 0 where
  pub accepted : IsAccepted f m name
  pub accepts : AcceptsFiles f (world_of m) name accepted.first accepted.table accepted.offers accepted.stubs accepted.world
  pub inside : Inside
  pub room : LacksPages m quotas → ⊥
  pub numbers : LacksNumbers (caps_of m) quotas.caps → ⊥
  pub few : HasManyDomains m → ⊥
  pub opening : IsOpening accepted.world.classes accepted.table quotas.heap inside
  pub placed : IsPlacedIn m quotas inside
  pub leads : new ≡ with_new_domain m accepted.world (admission accepted quotas) inside

abbrev pub OpeningsStayKnown : Type 0
OpeningsStayKnown =
    (f : FolderFiles) (m new : Machine) (name : List ℕ) (quotas : Quotas) → IsKnownMachine m → MayGrow m → OpensFrom f m name quotas new
    → IsKnownMachine new × MayGrow new

-- ---- Where something is kept from step to step, and is enough for a next step, there are whole turns and rounds.

abbrev pub TurnsGoOn : (Machine → Type 0) → Type 0
TurnsGoOn Kept = (n : ℕ) (t : ThreadNo) (m : Machine) → Kept m → (lines : List Line) × (new : Machine) × Turns n t m lines new × Kept new

abbrev pub ThreadsGoOn : (Machine → Type 0) → Type 0
ThreadsGoOn Kept =
    (steps thread : ℕ) (m : Machine) → Kept m → (lines : List Line) × (new : Machine) × Goes steps thread m lines new × Kept new

abbrev pub RoundsGoOn : (Machine → Type 0) → Type 0
RoundsGoOn Kept = (n steps : ℕ) (m : Machine) → Kept m → (lines : List Line) × (new : Machine) × Rounds n steps m lines new × Kept new
