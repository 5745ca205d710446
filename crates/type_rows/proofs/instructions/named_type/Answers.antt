-- The operand leads to nothing.
use Rattle.type_rows.proofs.instructions.named_type.Goals as goal

pub returns-in_err-t : goal.returns-in_err-t
returns-in_err-t c = rw c.from_residual.ensures (λ t leads. c.in_err-t.ensures _ leads)
