-- The shape of a method's type says whether it has a float.
use Rattle.std.proofs.Common.{◌⊎◌}
use Rattle.jk_model_classes.specs.Items.{HasItem}
use Rattle.jk_model_classes.specs.MemberDescriptors.{IsFloatType, IsFloatResult}
use Rattle.class_rules.proofs.DescriptorForms.{method_decides, float_method}
use Rattle.class_rules.proofs.texts.TextFacts.is_float_method.Goals as goal

pub returns-in-Some : goal.returns-in-Some
returns-in-Some c =
    λ pool units known.
    method_decides (λ t. HasItem IsFloatType t.params ⊎ IsFloatResult t.result) units c.in-Some.shape _ (rw c.in-Some.is at known.method)
    (λ t same. float_method t c.in-Some.shape same)
