-- The shape of a method's type says what its arguments take.
use Rattle.class_rules.specs.MethodDescriptors.{MayTake}
use Rattle.class_rules.proofs.DescriptorForms.{method_decides}
use Rattle.class_rules.proofs.texts.TextFacts.fits_method.Goals as goal

pub returns-in-Some : goal.returns-in-Some
returns-in-Some c =
    λ pool units known.
    let here =
    method_decides (λ t. MayTake c.args.receiver c.args.is_init t) units c.in-Some.shape c.fits.result (rw c.in-Some.is at known.method) c.fits.ensures
    in
    (λ e. let (t, text, may) = here.0 e in (t, (text, may)), λ (t, (text, may)). here.1 (t, text, may))
