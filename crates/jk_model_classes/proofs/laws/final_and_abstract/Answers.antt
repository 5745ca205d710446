use Rattle.std.proofs.Common.{inl, refl, arith}
use Rattle.jk_model_classes.specs.Items.{Member}
use Rattle.jk_model_classes.proofs.OneFirstFault.{nothing_before_the_class}
use Rattle.jk_model_classes.proofs.laws.final_and_abstract.Goals as goal

pub returns : goal.returns
returns c = λ pool fields methods path. record {
  place = 0;
  listed = refl;
  earlier = λ other before spot broken. absurd (omega (arith, before.2));
  spot = Member 0;
  broken = inl (refl, refl);
  least = λ other before broken. absurd (nothing_before_the_class other before);
  is_number = refl;
}
