-- Threads that rest.
use Rattle.std.specs.Prelude.{[]}
use Rattle.jk_model.specs.declared.identifiers.ThreadNo.{ThreadNo}
use Rattle.jk_model_machine_state.specs.Machines.{Machine}
use Rattle.jk_model_runs.specs.Steps.{Rested, StepsBy}

-- What a step of the thread is, is a rest: the thread isn't live, its top segment is held, or its domain has no steps left.
abbrev pub IsResting : Machine → ThreadNo → Type 0
IsResting m t = StepsBy m t Rested [] m
