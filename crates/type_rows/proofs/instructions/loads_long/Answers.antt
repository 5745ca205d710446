-- The operand leads to nothing.
use Rattle.type_rows.proofs.instructions.loads_long.Goals as goal

pub returns-in_err-link_of : goal.returns-in_err-link_of
returns-in_err-link_of c = rw c.from_residual.ensures (λ shape (n, leads, _). c.in_err-link_of.ensures _ leads)
