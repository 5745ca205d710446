-- A reference's kind says which descriptor it needs.
use Rattle.class_rules.proofs.ReferenceTypes.{method_reference, interface_reference}
use Rattle.class_rules.proofs.known_pool.Reference.has_descriptor.Goals as goal

pub returns-in-Field : goal.returns-in-Field
returns-in-Field c = λ pool name descriptor of_name known. rw c.in-Field.is (c.is_field_descriptor.ensures pool descriptor known)

pub returns-in-Method : goal.returns-in-Method
returns-in-Method c =
    λ pool name descriptor of_name known.
    rw c.in-Method.is (method_reference name descriptor _ _ (c.is-is_init.ensures pool name of_name) (c.fits_method.ensures pool descriptor known))

pub returns-in-InterfaceMethod : goal.returns-in-InterfaceMethod
returns-in-InterfaceMethod c =
    λ pool name descriptor of_name known.
    rw c.in-InterfaceMethod.is
    (interface_reference name descriptor _ _ (c.is-is_init.ensures pool name of_name) (c.fits_method-in-InterfaceMethod.ensures pool descriptor known))
