-- The operand leads to no type.
use Rattle.type_rows.proofs.instructions.tests.Goals as goal

pub returns-in_err-named_type : goal.returns-in_err-named_type
returns-in_err-named_type c = rw c.from_residual.ensures (λ shape (t, leads, _). c.in_err-named_type.ensures t leads)
