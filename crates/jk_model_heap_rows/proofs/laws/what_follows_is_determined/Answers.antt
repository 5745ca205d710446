use Rattle.jk_model_heap_rows.proofs.RowsByKind.{one_outcome, raising_changes_nothing}
use Rattle.jk_model_heap_rows.proofs.laws.what_follows_is_determined.Goals as goal

pub returns-clause-one : goal.returns-clause-one
returns-clause-one c = λ x s i w new other outcome another h k. one_outcome x s i w new other outcome another h k

pub returns-clause-raises : goal.returns-clause-raises
returns-clause-raises c = λ x s i w new raise row. raising_changes_nothing x s i w new raise row
