-- No thread gets stuck: in a machine of which all is known that a run keeps, each thread has a step, and so there are whole turns and
-- rounds.
use Rattle.std.specs.Prelude.{ℕ, List}
use Rattle.jk_model.specs.declared.identifiers.ThreadNo.{ThreadNo}
use Rattle.jk_model.specs.declared.output.Line.{Line}
use Rattle.jk_model_machine_state.specs.Machines.{Machine}
use Rattle.jk_model_runs.specs.Events.{Goes, Rounds, Turns}
use Rattle.jk_model_runs.specs.Steps.{Steps}
use Rattle.machine_laws.specs.KnownMachines.{IsKnownMachine}

-- ---- A thread that isn't live has a step too, which changes nothing.

abbrev pub StepsAreThere : Type 0
StepsAreThere = (m : Machine) (t : ThreadNo) → IsKnownMachine m → (lines : List Line) × (new : Machine) × Steps m t lines new

-- ---- Where each such machine has steps that lead to such machines, there are whole events.

-- what is kept of a machine from step to step, so that it has a next one
pub record KeepsOn (Kept : Machine → Type 0) : Type 0 where
  pub known : (m : Machine) → Kept m → IsKnownMachine m
  pub steps : (m : Machine) (t : ThreadNo) → Kept m → (lines : List Line) × (new : Machine) × Steps m t lines new
  pub kept : (m new : Machine) (t : ThreadNo) (lines : List Line) → Kept m → Steps m t lines new → Kept new

abbrev pub TurnsAreThere : (Machine → Type 0) → Type 0
TurnsAreThere Kept =
    KeepsOn Kept → (n : ℕ) (t : ThreadNo) (m : Machine) → Kept m → (lines : List Line) × (new : Machine) × Turns n t m lines new × Kept new

abbrev pub GoingIsThere : (Machine → Type 0) → Type 0
GoingIsThere Kept =
    KeepsOn Kept → (steps thread : ℕ) (m : Machine) → Kept m
    → (lines : List Line) × (new : Machine) × Goes steps thread m lines new × Kept new

abbrev pub RoundsAreThere : (Machine → Type 0) → Type 0
RoundsAreThere Kept =
    KeepsOn Kept → (n steps : ℕ) (m : Machine) → Kept m → (lines : List Line) × (new : Machine) × Rounds n steps m lines new × Kept new
