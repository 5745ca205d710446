-- What a whole step changes outside of the domain in which its thread runs: no more than its deed says.
use Rattle.std.specs.Prelude.{List}
use Rattle.jk_model.specs.declared.identifiers.ThreadNo.{ThreadNo}
use Rattle.jk_model.specs.declared.output.Line.{Line}
use Rattle.jk_model_machine_state.specs.Machines.{Machine}
use Rattle.jk_model_machine_state.specs.Places.{RunningSegment}
use Rattle.jk_model_runs.specs.Confined.{Confined}
use Rattle.jk_model_runs.specs.Steps.{Deed, StepsBy}
use Rattle.machine_laws.specs.KnownMachines.{IsKnownMachine}

abbrev pub StepsAreConfined : Type 0
StepsAreConfined =
    (m new : Machine) (t : ThreadNo) (deed : Deed) (lines : List Line) (p : RunningSegment m t) → IsKnownMachine m → StepsBy m t deed lines new
    → Confined (record { machine = m; thread = t; deed = deed }) p.segment.shared.domain new
