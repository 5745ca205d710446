-- A reference's kind says where a float can stand.
use Rattle.class_rules.proofs.known_pool.Reference.is_float.Goals as goal

pub returns-in-Field : goal.returns-in-Field
returns-in-Field c = λ pool descriptor known. rw c.in-Field.is (c.is_float_field.ensures pool descriptor known)

pub returns-in-Method : goal.returns-in-Method
returns-in-Method c = λ pool descriptor known. rw c.in-Method.is (c.is_float_method.ensures pool descriptor known)

pub returns-in-InterfaceMethod : goal.returns-in-InterfaceMethod
returns-in-InterfaceMethod c = λ pool descriptor known. rw c.in-InterfaceMethod.is (c.is_float_method-in-InterfaceMethod.ensures pool descriptor known)
