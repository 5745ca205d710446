-- The operand leads to nothing.
use Rattle.type_rows.proofs.operands.names_class.Goals as goal

pub returns-in-None : goal.returns-in-None
returns-in-None c = (λ no. absurd cc, λ leads. absurd (c.in-None.ensures _ leads))
