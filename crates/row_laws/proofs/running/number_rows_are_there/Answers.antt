-- By the typing of the instruction.
use Rattle.row_laws.proofs.NumberRowsThere.{number_row_there}
use Rattle.row_laws.proofs.running.number_rows_are_there.Goals as goal

pub returns : goal.returns
returns c = λ around x w runs code of_numbers. number_row_there around x w runs code of_numbers
