-- Those of `<clinit>` are ignored.
use Rattle.std.proofs.Common.{inl, inr, refl}
use Rattle.list_lemmas.proofs.AnswersTold.{not_so as is_not}
use Rattle.class_rules.proofs.attributes.method_flags.Goals as goal

pub returns-then-is_word : goal.returns-then-is_word
returns-then-is_word c = inl (c.is_word.ensures.0 c.if-is_word.true, refl)

pub returns-else-is_word : goal.returns-else-is_word
returns-else-is_word c = inr (λ t. is_not c.is_word.result _ c.is_word.ensures c.if-is_word.false t, refl)
