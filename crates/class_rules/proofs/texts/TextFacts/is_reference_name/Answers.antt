-- The kind of a reference says which names it may have.
use Rattle.std.proofs.Common.{inl}
use Rattle.class_rules.proofs.Decisions.{and_then, or_else, denied}
use Rattle.class_rules.proofs.texts.TextFacts.is_reference_name.Goals as goal

pub returns-then-self : goal.returns-then-self
returns-then-self c = λ pool units known. rw c.in-Field.is (and_then _ _ c.if-self.true known.is_name (denied _ (c.is.ensures pool units known)))

pub returns-then-is_plain_method_name : goal.returns-then-is_plain_method_name
returns-then-is_plain_method_name c =
    λ pool units known.
    rw c.in-Method.is (λ e. inl ((c.is_plain_method_name.ensures pool units known).0 e), λ h. c.if-is_plain_method_name.true)

pub returns-else-is_plain_method_name : goal.returns-else-is_plain_method_name
returns-else-is_plain_method_name c =
    λ pool units known.
    rw c.in-Method.is
    (or_else _ _ c.if-is_plain_method_name.false (c.is_plain_method_name.ensures pool units known)
    (c.is-else-is_plain_method_name.ensures pool units known))

pub returns-in-InterfaceMethod : goal.returns-in-InterfaceMethod
returns-in-InterfaceMethod c =
    λ pool units known. rw c.in-InterfaceMethod.is (c.is_plain_method_name-in-InterfaceMethod.ensures pool units known)
