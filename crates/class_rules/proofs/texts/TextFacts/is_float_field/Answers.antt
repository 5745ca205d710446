-- The shape of a field's type says whether it is of float or double.
use Rattle.std.proofs.Common.{ap}
use Rattle.jk_model_classes.specs.MemberDescriptors.{IsFloatType}
use Rattle.class_rules.specs.declared.texts.FieldShape.{FieldShape}
use Rattle.class_rules.proofs.DescriptorForms.{field_decides}
use Rattle.class_rules.proofs.texts.TextFacts.is_float_field.Goals as goal

pub returns-in-Some : goal.returns-in-Some
returns-in-Some c =
    λ pool units known.
    field_decides IsFloatType units c.in-Some.shape _ (rw c.in-Some.is at known.field)
    (λ t same. c.is_float.ensures t.base (ap (λ (s : FieldShape). s.kind) same))
