-- The class of the object, whether it has the interface, and what is selected there.
use Rattle.std.proofs.Common.{◌≢◌, refl, inl, inr, ap, arith}
use Rattle.jk_model.specs.declared.identifiers.ClassId.{ClassId}
use Rattle.jk_model_classes.specs.Classes.{OBJECT}
use Rattle.jk_model_domains.specs.Objects.{Plain}
use Rattle.jk_model_call_rows.specs.Examples.{A, HIDES, I, LACKS, member_at}
use Rattle.jk_model_call_rows.proofs.SelectedMethods.{a_lacks_interface, at_a, at_hides, at_lacks, hides_has_interface, lacks_has_interface}
use Rattle.jk_model_call_rows.proofs.examples.calls_of_interfaces.Goals as goal

not_object : I ≢ OBJECT
not_object e = absurd (omega (arith, ap (λ (c : ClassId). c.0) e))

pub returns-clause-no_interface : goal.returns-clause-no_interface
returns-clause-no_interface c = λ heap a fields stands.
    (A, (Plain A fields, stands, refl), inl ((not_object, a_lacks_interface), refl))

pub returns-clause-no_method : goal.returns-clause-no_method
returns-clause-no_method c = λ heap a fields stands.
    (LACKS, (Plain LACKS fields, stands, refl), inr (inr lacks_has_interface, inl (at_lacks, refl)))

pub returns-clause-private : goal.returns-clause-private
returns-clause-private c = λ heap a fields stands. (
  HIDES,
  (Plain HIDES fields, stands, refl),
  inr (inr hides_has_interface, inr (inl (member_at HIDES 0, _, at_hides, (_, refl, refl), refl, refl))),
)

pub returns-clause-of_object : goal.returns-clause-of_object
returns-clause-of_object c = λ heap a fields stands. (
  A,
  (Plain A fields, stands, refl),
  inr (inl refl, inr (inr (member_at OBJECT 0, _, at_a, (_, refl, refl), refl, refl))),
)
