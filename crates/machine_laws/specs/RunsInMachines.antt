-- One segment of a machine has run, and the machine around it is sealed. Where it goes on, the machine is whole if the lowest frame still gives
-- what it gave: a call of the segment below it awaits that.
use Rattle.std.specs.Prelude.{◌≡◌, ℕ, List, ◌∷◌, Option}
use Rattle.jk_model.specs.declared.identifiers.DomainId.{DomainId}
use Rattle.jk_model.specs.declared.identifiers.ThreadNo.{ThreadNo}
use Rattle.jk_model_classes.specs.declared.records.ClassRecord.{ClassRecord}
use Rattle.jk_model_classes.specs.declared.records.TypeRef.{TypeRef}
use Rattle.jk_model_frames.specs.Frames.{FrameState}
use Rattle.jk_model_heaps.specs.Workings.{Run}
use Rattle.jk_model_running.specs.Ways.{Went}
use Rattle.jk_model_sealing.specs.AnsweringFrames.{GivesResult}
use Rattle.jk_model_machine_state.specs.Machines.{IsFirstMachine, Machine, paid}
use Rattle.jk_model_machine_state.specs.Places.{RunningSegment, run_of, setting_of, with_run}
use Rattle.jk_model_runs.specs.Events.{IsWhole}
use Rattle.jk_model_runs.specs.Sealed.{IsSealed, surroundings}
use Rattle.machine_laws.specs.KnownMachines.{IsKnownMachine}
use Rattle.row_laws.specs.KeptRuns.{KeepsRun, RunOn}

-- what the lowest of these frames gave, the lowest of those gives
abbrev pub GivesStill : List ClassRecord → List FrameState → List FrameState → Type 0
GivesStill classes old new =
    (result : Option TypeRef)
    → (lowest : FrameState) × (others : List FrameState) × (old ≡ lowest ∷ others) × GivesResult classes lowest result
    → (lowest : FrameState) × (others : List FrameState) × (new ≡ lowest ∷ others) × GivesResult classes lowest result

abbrev pub KeptRunsStaySealed : Type 0
KeptRunsStaySealed =
    (m : Machine) (t : ThreadNo) (p : RunningSegment m t) (run : Run) (went : Went) → IsKnownMachine m
    → KeepsRun (surroundings m p.home.domain) (setting_of p) t (run_of p) run went → RunOn (surroundings m p.home.domain) run
    → IsSealed (with_run p run)

abbrev pub AnsweringRunsStayWhole : Type 0
AnsweringRunsStayWhole =
    (m : Machine) (t : ThreadNo) (p : RunningSegment m t) (run : Run) (went : Went) → IsKnownMachine m
    → KeepsRun (surroundings m p.home.domain) (setting_of p) t (run_of p) run went → RunOn (surroundings m p.home.domain) run
    → GivesStill m.classes p.segment.frames run.frames → IsWhole (with_run p run)

abbrev pub FirstMachinesAreWhole : Type 0
FirstMachinesAreWhole = (heap_pages stack_pages : Option ℕ) (m : Machine) → IsFirstMachine heap_pages stack_pages m → IsWhole m

-- a step is paid
abbrev pub PaidMachinesStayKnown : Type 0
PaidMachinesStayKnown = (m : Machine) (d : DomainId) → IsKnownMachine m → IsKnownMachine (paid d m)
