-- A step is there from each machine of which all is known, and keeps that.
use Rattle.machine_laws.specs.KnownMachines.{IsKnownMachine}
use Rattle.machine_laws.specs.SealedSteps.{StepsStayKnown}
use Rattle.machine_laws.specs.StepProgress.{KeepsOn, StepsAreThere}
use Rattle.jk_kernel.proofs.laws.machines_go_on.Goals as goal

keeps_on : StepsAreThere → StepsStayKnown → KeepsOn IsKnownMachine
keeps_on there stay = record { known = λ m known. known; steps = there; kept = λ m new t lines known steps. stay m new t lines known steps }

pub returns-clause-turns : goal.returns-clause-turns
returns-clause-turns c = c.turns_are_there.ensures.turns (keeps_on c.steps_are_there.ensures c.steps_stay_known.ensures)

pub returns-clause-threads : goal.returns-clause-threads
returns-clause-threads c = c.turns_are_there.ensures.goes (keeps_on c.steps_are_there.ensures c.steps_stay_known.ensures)

pub returns-clause-rounds : goal.returns-clause-rounds
returns-clause-rounds c = c.turns_are_there.ensures.rounds (keeps_on c.steps_are_there.ensures c.steps_stay_known.ensures)
