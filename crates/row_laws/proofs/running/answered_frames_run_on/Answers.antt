-- By what is kept of the step that asks.
use Rattle.row_laws.proofs.AnsweredFrames.{answered_runs_on}
use Rattle.row_laws.proofs.running.answered_frames_run_on.Goals as goal

pub returns : goal.returns
returns c = λ around wide x t old run request v top more acts step is.
    answered_runs_on c.heap_rows_keep.ensures around wide x t old run request v top more acts step is
