-- The operand leads to no field.
use Rattle.type_rows.proofs.instructions.gets_field.Goals as goal

pub returns-in_err-used : goal.returns-in_err-used
returns-in_err-used c = rw c.from_residual.ensures (λ shape (k, m, field, uses, _). c.in_err-used.ensures k m field uses)
