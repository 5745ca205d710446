-- A step of the machine by what its top segment does by itself.
use Rattle.std.specs.Prelude.{[], ◌∷◌}
use Rattle.jk_model.specs.declared.output.Line.TheVariants.{Said}
use Rattle.jk_model_machine_state.specs.Places.{with_run}
use Rattle.jk_model_running.specs.Ways.{GoesOn, Says}
use Rattle.jk_model_runs.specs.Steps.{Worked, acts, does, goes_on, says}
use Rattle.jk_model_runs.proofs.laws.local_steps_are_steps.Goals as goal

pub returns-clause-goes_on : goal.returns-clause-goes_on
returns-clause-goes_on c = λ m t p free left q no_stop not_revoked run step.
    (Worked, acts p Worked [] (with_run q run) free left (does q run GoesOn Worked [] (with_run q run) no_stop not_revoked step goes_on))

pub returns-clause-says : goal.returns-clause-says
returns-clause-says c = λ m t p free left q no_stop not_revoked run text step after. (
  Worked,
  acts p Worked (Said after.home.domain.name text ∷ []) (with_run q run) free left
      (does q run (Says text) Worked (Said after.home.domain.name text ∷ []) (with_run q run) no_stop not_revoked step (says after text)),
)
