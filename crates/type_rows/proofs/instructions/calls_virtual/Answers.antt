-- The operand leads to no method.
use Rattle.type_rows.proofs.instructions.calls_virtual.Goals as goal

pub returns-in_err-used : goal.returns-in_err-used
returns-in_err-used c = rw c.from_residual.ensures (λ shape (k, m, method, uses, _). c.in_err-used.ensures k m method uses)
