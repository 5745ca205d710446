-- The operand leads to no type.
use Rattle.type_rows.proofs.instructions.makes_object.Goals as goal

pub returns-in_err-t : goal.returns-in_err-t
returns-in_err-t c = rw c.from_residual.ensures (λ shape (k, leads, _). c.in_err-t.ensures _ leads)
