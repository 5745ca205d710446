-- What is run as it is named is so by one of two rules, and then nothing else is run.
use Rattle.std.proofs.Common.{◌≡◌, ℕ, refl, inl, inr, ap, arith}
use Rattle.jk_model.specs.declared.identifiers.MemberId.{MemberId}
use Rattle.jk_model_call_rows.specs.Examples.{A, B, C, classes_of_calls, constructor, member_at, private_p}
use Rattle.jk_model_call_rows.specs.Targets.{Runs, SpecialTarget}
use Rattle.jk_model_call_rows.proofs.OneSelected.{one_special_target}
use Rattle.jk_model_call_rows.proofs.examples.calls_that_are_not_selected.Goals as goal

runs_constructor : SpecialTarget classes_of_calls C (member_at A 2) constructor (Runs (member_at A 2))
runs_constructor = inl (inl refl, refl)

runs_private : SpecialTarget classes_of_calls C (member_at A 1) private_p (Runs (member_at A 1))
runs_private = inl (inr (inl refl), refl)

other_class : (i : ℕ) → Runs (member_at A i) ≡ Runs (member_at B i) → ⊥
other_class i e =
    let same : member_at A i ≡ member_at B i = cc in
    let numbers : 2 ≡ 3 = ap (λ (m : MemberId). m.class.0) same in
    absurd (omega (arith, numbers))

pub returns-clause-constructor : goal.returns-clause-constructor
returns-clause-constructor c = runs_constructor

pub returns-clause-private : goal.returns-clause-private
returns-clause-private c = runs_private

pub returns-clause-no_constructor_above : goal.returns-clause-no_constructor_above
returns-clause-no_constructor_above c = λ runs.
    other_class 2
    (one_special_target classes_of_calls C (member_at A 2) constructor (Runs (member_at A 2)) (Runs (member_at B 2)) runs_constructor runs)

pub returns-clause-no_method_above : goal.returns-clause-no_method_above
returns-clause-no_method_above c = λ runs.
    other_class 1 (one_special_target classes_of_calls C (member_at A 1) private_p (Runs (member_at A 1)) (Runs (member_at B 1)) runs_private runs)
