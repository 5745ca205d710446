-- By what isn't Exceptions, or else by these.
use Rattle.std.proofs.Common.{inl, refl}
use Rattle.list_lemmas.proofs.AnswersTold.{not_so as is_not}
use Rattle.class_rules.specs.Attributes.{HasWrongCode, HasWrongExceptions}
use Rattle.class_rules.proofs.MethodsByFlags.{or_else_answer}
use Rattle.class_rules.proofs.attributes.has_wrong_attributes.Goals as goal

pub returns-then-has_wrong : goal.returns-then-has_wrong
returns-then-has_wrong c = (λ t. inl (c.in_ok-has_wrong.ensures.0 c.if-has_wrong.true), λ h. refl)

pub returns : goal.returns
returns c =
    or_else_answer (HasWrongCode c.args.pool.now.entries.now c.args.flags c.args.attributes.now)
    (HasWrongExceptions c.args.pool.now.entries.now c.args.attributes.now)
    c.has_wrong_exceptions.result (is_not c.in_ok-has_wrong.has_wrong _ c.in_ok-has_wrong.ensures c.if-has_wrong.false) c.has_wrong_exceptions.ensures
