-- By rising names.
use Rattle.row_laws.proofs.TreesOfArrays.{tree_made}
use Rattle.row_laws.proofs.heap_rows.fitting_trees_are_made.Goals as goal

pub returns : goal.returns
returns c = λ x t n counts heap fits. tree_made x t n counts heap fits
