-- The class of the object, and what is selected there.
use Rattle.std.proofs.Common.{refl, inr}
use Rattle.jk_model_domains.specs.Objects.{Plain}
use Rattle.jk_model_call_rows.specs.Examples.{B, C, member_at}
use Rattle.jk_model_call_rows.proofs.SelectedMethods.{at_c}
use Rattle.jk_model_call_rows.proofs.examples.calls_at_objects_below.Goals as goal

pub returns : goal.returns
returns c = λ heap a fields stands. (C, (Plain C fields, stands, refl), inr (member_at B 0, at_c, refl))
