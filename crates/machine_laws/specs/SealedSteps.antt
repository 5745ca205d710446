-- Machines stay sealed, from the first one on, with each start, step and kill.
use Rattle.std.specs.Prelude.{◌≡◌, ℕ, false, List, [], Option}
use Rattle.jk_model.specs.declared.identifiers.ThreadNo.{ThreadNo}
use Rattle.jk_model.specs.declared.output.Line.{Line}
use Rattle.jk_model_heaps.specs.Workings.{Run}
use Rattle.jk_model_machine_state.specs.Machines.{IsFirstMachine, Machine}
use Rattle.jk_model_machine_state.specs.Places.{RunningSegment, run_of, setting_of, with_run}
use Rattle.jk_model_running.specs.Ways.{Went}
use Rattle.jk_model_runs.specs.Events.{Kills}
use Rattle.jk_model_runs.specs.Sealed.{IsSealed, surroundings}
use Rattle.jk_model_runs.specs.Starts.{Starts, StartWords}
use Rattle.jk_model_runs.specs.Steps.{Steps}
use Rattle.machine_laws.specs.SoundMachines.{HasSoundClasses, IsSealedAtCall}
use Rattle.machine_laws.specs.KnownMachines.{IsKnownMachine}
use Rattle.row_laws.specs.KeptRuns.{ActsWell, AwaitOn, KeepsRun}

abbrev pub FirstMachinesAreKnown : Type 0
FirstMachinesAreKnown = (heap_pages stack_pages : Option ℕ) (m : Machine) → IsFirstMachine heap_pages stack_pages m → IsKnownMachine m

-- ---- One segment of a machine, and the machine around it.

-- what the running segment may rest on, where no RevokedException is pending for it
abbrev pub RunningSegmentsActWell : Type 0
RunningSegmentsActWell =
    (m : Machine) (t : ThreadNo) (p : RunningSegment m t) → IsKnownMachine m → p.segment.shared.revoked ≡ false
    → ActsWell (surroundings m p.home.domain) (setting_of p) t (run_of p)

-- (where the segment has run and goes on: `KeptRunsStaySealed` and `AnsweringRunsStayWhole` of RunsInMachines)

-- where no frame of it is left, the machine is sealed
abbrev pub LeftRunsStaySealed : Type 0
LeftRunsStaySealed =
    (m : Machine) (t : ThreadNo) (p : RunningSegment m t) (run : Run) (went : Went) → IsKnownMachine m
    → KeepsRun (surroundings m p.home.domain) (setting_of p) t (run_of p) run went → run.frames ≡ [] → IsSealed (with_run p run)

-- where its top frame waits for an answer, the machine is sealed but for that
abbrev pub WaitingRunsStaySealed : Type 0
WaitingRunsStaySealed =
    (m : Machine) (t : ThreadNo) (p : RunningSegment m t) (run : Run) (went : Went) → IsKnownMachine m
    → KeepsRun (surroundings m p.home.domain) (setting_of p) t (run_of p) run went → AwaitOn (surroundings m p.home.domain) run
    → IsSealedAtCall (with_run p run) t

-- ---- Steps, starts and kills.

abbrev pub StepsStayKnown : Type 0
StepsStayKnown = (m new : Machine) (t : ThreadNo) (lines : List Line) → IsKnownMachine m → Steps m t lines new → IsKnownMachine new

abbrev pub StartsStayKnown : Type 0
StartsStayKnown = (m new : Machine) (start : StartWords) (lines : List Line) → IsKnownMachine m → Starts m start lines new → IsKnownMachine new

-- also where calls aren't answered
abbrev pub StartsStaySealed : Type 0
StartsStaySealed =
    (m new : Machine) (start : StartWords) (lines : List Line) → IsSealed m → HasSoundClasses m → Starts m start lines new
    → IsSealed new × HasSoundClasses new

abbrev pub KillsStayKnown : Type 0
KillsStayKnown = (m new : Machine) (name : List ℕ) (lines : List Line) → IsKnownMachine m → Kills m name lines new → IsKnownMachine new
