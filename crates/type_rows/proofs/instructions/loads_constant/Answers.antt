-- The operand leads to nothing.
use Rattle.std.proofs.Common.{inl, inr}
use Rattle.type_rows.proofs.instructions.loads_constant.Goals as goal

pub returns-in_err-link_of : goal.returns-in_err-link_of
returns-in_err-link_of c =
    rw c.from_residual.ensures
    (λ shape h.
    elim h [
      | inl (n, leads, _) ↦ c.in_err-link_of.ensures _ leads
      | inr (text, leads, _) ↦ c.in_err-link_of.ensures _ leads
    ])
