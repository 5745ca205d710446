-- A name that is missing, a Code that is missed, or else a bad one.
use Rattle.std.proofs.Common.{inl, inr, refl, ◌⊎◌}
use Rattle.list_lemmas.proofs.AnswersTold.{not_so as is_not}
use Rattle.jk_model_classes.specs.Items.{HasItem}
use Rattle.jk_model_classes.specs.MemberAttributes.{HasUnnamed, IsBadCode}
use Rattle.class_rules.specs.Attributes.{IsCodeMissed}
use Rattle.class_rules.proofs.MethodsByFlags.{or_else_answer}
use Rattle.class_rules.proofs.attributes.has_wrong_code.Goals as goal

pub returns-then-has_unnamed : goal.returns-then-has_unnamed
returns-then-has_unnamed c = (λ t. inl (c.has_unnamed.ensures.0 c.if-has_unnamed.true), λ h. refl)

pub returns-then-misses_code : goal.returns-then-misses_code
returns-then-misses_code c = (λ t. inr (inl (c.misses_code.ensures.0 c.if-misses_code.true)), λ h. refl)

pub returns : goal.returns
returns c =
    let pool = c.args.pool.now.entries.now in
    let attributes = c.args.attributes.now in
    or_else_answer (HasUnnamed pool attributes) (IsCodeMissed pool c.args.flags attributes ⊎ HasItem (IsBadCode pool) attributes) c.some_bad_code.result
    (is_not c.has_unnamed.result _ c.has_unnamed.ensures c.if-has_unnamed.false)
    (or_else_answer (IsCodeMissed pool c.args.flags attributes) (HasItem (IsBadCode pool) attributes) c.some_bad_code.result
    (is_not c.misses_code.result _ c.misses_code.ensures c.if-misses_code.false) c.some_bad_code.ensures)
