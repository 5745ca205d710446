-- No class file has the name, so only a system class may.
use Rattle.std.proofs.Common.{inl, inr}
use Rattle.std.proofs.lemmas.Bool.{iff_false}
use Rattle.resolver_rules.proofs.judged.is_taken.Goals as goal

pub returns-else-has_class : goal.returns-else-has_class
returns-else-has_class c = (
  λ t. inr (c.is_of_another_system_class.ensures.0 t),
  λ meaning. elim meaning [
    | inl file ↦ absurd (iff_false c.has_class.ensures c.if-has_class.false file)
    | inr other ↦ c.is_of_another_system_class.ensures.1 other
  ],
)
