-- The tests give a kind that the opcode is of.
use Rattle.std.proofs.Common.{IsTrue, sym, subst, arith}
use Rattle.number_ops.specs.Parts.{is_part}
use Rattle.number_ops.proofs.PartsOfOpcodes.{has_part}
use Rattle.number_ops.proofs.parts.part_of.Goals as goal

pub returns : goal.returns
returns c = subst (λ p. IsTrue (is_part c.args.op p)) (sym c.part_at.ensures) (has_part c.args.op (omega arith))
