-- The name of a method is plain, or one of two words.
use Rattle.std.proofs.Common.{inl, inr, refl}
use Rattle.class_rules.proofs.Decisions.{or_else}
use Rattle.class_rules.proofs.texts.TextFacts.is_method_name.Goals as goal

pub returns-then-is_plain_method_name : goal.returns-then-is_plain_method_name
returns-then-is_plain_method_name c =
    λ pool units known. (λ e. inl ((c.is_plain_method_name.ensures pool units known).0 c.if-is_plain_method_name.true), λ h. refl)

pub returns-then-is : goal.returns-then-is
returns-then-is c = λ pool units known. (λ e. inr (inl ((c.is.ensures pool units known).0 e)), λ h. c.if-is.true)

pub returns-else-is : goal.returns-else-is
returns-else-is c =
    λ pool units known.
    or_else _ _ c.if-is_plain_method_name.false (c.is_plain_method_name.ensures pool units known)
    (or_else _ _ c.if-is.false (c.is.ensures pool units known) (c.is-else-is.ensures pool units known))
