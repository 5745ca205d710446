-- The class of the object, and what is selected there.
use Rattle.std.proofs.Common.{refl, inr}
use Rattle.jk_model_domains.specs.Objects.{Plain}
use Rattle.jk_model_call_rows.specs.Examples.{P_A, P_C, P_D, P_E, Q_B, member_at}
use Rattle.jk_model_call_rows.proofs.PackagesOfExamples.{at_p_c, at_p_d, at_p_e, at_q_b}
use Rattle.jk_model_call_rows.proofs.examples.calls_within_packages.Goals as goal

pub returns-clause-other_package : goal.returns-clause-other_package
returns-clause-other_package c = λ heap a fields stands. (Q_B, (Plain Q_B fields, stands, refl), inr (member_at P_A 0, at_q_b, refl))

pub returns-clause-package_again : goal.returns-clause-package_again
returns-clause-package_again c = λ heap a fields stands. (P_C, (Plain P_C fields, stands, refl), inr (member_at P_C 0, at_p_c, refl))

pub returns-clause-other_home : goal.returns-clause-other_home
returns-clause-other_home c = λ heap a fields stands. (P_D, (Plain P_D fields, stands, refl), inr (member_at P_A 0, at_p_d, refl))

pub returns-clause-private : goal.returns-clause-private
returns-clause-private c = λ heap a fields stands. (P_E, (Plain P_E fields, stands, refl), inr (member_at P_E 0, at_p_e, refl))
