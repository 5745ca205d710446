-- The class isn't there, and so what stands in for it is read; where the class is there, it isn't.
use Rattle.std.proofs.Common.{[], ◌∷◌, refl, inl, inr, arith}
use Rattle.std.proofs.lemmas.Option.{none-some}
use Rattle.jk_model_heaps.specs.Examples.{BOX, ELSEWHERE, IMPL, MARK}
use Rattle.jk_model_heaps.proofs.ExampleCapabilities.{cap, class_numbered, elsewhere_is_no_mark, impl_is_there, never_instance, shows_no_mark}
use Rattle.jk_model_heaps.proofs.examples.capabilities_that_are_stood_in_for.Goals as goal

pub returns-clause-stands_in : goal.returns-clause-stands_in
returns-clause-stands_in c = record {
  class = BOX;
  no_array = refl;
  above = inr (inr (inr (
    _,
    refl,
    inr (refl, (record { class = ELSEWHERE; interfaces = BOX ∷ [] }, (0, omega arith, refl), refl, (0, omega arith, refl))),
  )));
}

pub returns-clause-not_shown : goal.returns-clause-not_shown
returns-clause-not_shown c = never_instance (cap 1) MARK refl refl refl (λ o is makes. elim makes [
  | inl shows ↦ shows_no_mark o shows
  | inr stands ↦ elsewhere_is_no_mark o (class_numbered (cap 1) ELSEWHERE o refl is) stands
])

pub returns-clause-not_asked : goal.returns-clause-not_asked
returns-clause-not_asked c = never_instance (cap 0) MARK refl refl refl (λ o is makes. elim makes [
  | inl shows ↦ shows_no_mark o shows
  | inr stands ↦ impl_is_there MARK o (class_numbered (cap 0) IMPL o refl is) stands
])

pub returns-clause-not_given_out : goal.returns-clause-not_given_out
returns-clause-not_given_out c = never_instance (cap 3) BOX refl refl refl (λ o is makes. none-some o is)
