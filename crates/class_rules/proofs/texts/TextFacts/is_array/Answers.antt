-- The shape of a field's type says whether it is an array's.
use Rattle.std.proofs.Common.{◌≡◌, ◌≤◌, arith, ap}
use Rattle.std.proofs.lemmas.Bool.Decides.{nat_tests}
use Rattle.jk_model.specs.declared.descriptors.FieldType.{FieldType}
use Rattle.class_rules.specs.declared.texts.FieldShape.{FieldShape}
use Rattle.class_rules.proofs.DescriptorForms.{field_decides}
use Rattle.class_rules.proofs.texts.TextFacts.is_array.Goals as goal

pub returns-in-Some : goal.returns-in-Some
returns-in-Some c =
    λ pool units known.
    let both = field_decides (λ (t : FieldType). 1 ≤ t.dims) units c.in-Some.shape _ (rw c.in-Some.is at known.field)
    (λ t same. let dims : c.in-Some.shape.dims ≡ t.dims = ap (λ (s : FieldShape). s.dims) same in grind (arith, nat_tests)) in
    (λ e. let (t, text, long) = both.0 e in (t, long, text), λ (t, long, text). both.1 (t, text, long))
