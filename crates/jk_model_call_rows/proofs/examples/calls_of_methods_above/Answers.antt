-- The parent, and what is selected there.
use Rattle.std.proofs.Common.{◌≢◌, ℕ, List, refl, inr, ap, length, arith}
use Rattle.std.specs.Prelude.{codes}
use Rattle.jk_model_classes.specs.Members.{INIT}
use Rattle.jk_model.specs.declared.identifiers.ClassId.{ClassId}
use Rattle.jk_model_call_rows.specs.Examples.{B, member_at}
use Rattle.jk_model_call_rows.proofs.SelectedMethods.{at_b}
use Rattle.jk_model_call_rows.proofs.examples.calls_of_methods_above.Goals as goal

m_not_init : codes "m" ≢ INIT
m_not_init e = absurd (omega (arith, ap (λ (units : List ℕ). length units) e))

pub returns-clause-above : goal.returns-clause-above
returns-clause-above c = inr (
  B,
  record {
    no_constructor = m_not_init;
    not_private = refl;
    other = λ e. absurd (omega (arith, ap (λ (k : ClassId). k.0) e));
    above = (2, omega arith, refl);
  },
  refl,
  inr (member_at B 0, at_b, refl),
)
