-- A static field's constants are judged.
use Rattle.std.proofs.Common.{sym, ◌∙◌}
use Rattle.class_rules.proofs.attributes.has_bad_constant.Goals as goal

pub returns-then-has : goal.returns-then-has
returns-then-has c =
    let h = rw c.as_slice.ensures at c.has_wrong_constant.ensures in
    (λ t. (sym c.has.ensures ∙ c.if-has.true, h.0 t), λ (static, wrong). h.1 wrong)
