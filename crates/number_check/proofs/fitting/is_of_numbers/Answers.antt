-- By the opcode's row, or by what ldc leads to.
use Rattle.number_check.proofs.OpcodesOfNumbers.{of_numbers}
use Rattle.number_check.proofs.fitting.is_of_numbers.Goals as goal

pub returns-then-is_number_opcode : goal.returns-then-is_number_opcode
returns-then-is_number_opcode c = λ yes s same. of_numbers s c.args.i.now (c.is_number_opcode.ensures yes)
