-- A StackOverflowError is an Error, two classes below it.
use Rattle.std.proofs.Common.{[], ◌∷◌, inl, inr, refl, arith}
use Rattle.jk_model.specs.declared.values.Value.TheVariants as Held
use Rattle.jk_model_domains.specs.declared.states.ClassState.TheVariants as State
use Rattle.jk_model_domains.specs.Objects.{Plain}
use Rattle.jk_model_heaps.specs.SystemClasses.{STACK_OVERFLOW_ERROR}
use Rattle.jk_model_unwinding.specs.Examples.{MAIN, part}
use Rattle.jk_model_unwinding.proofs.examples.error_leaves_an_initialiser.Goals as goal

pub returns : goal.returns
returns c =
    inr (
      MAIN,
      refl,
      (part (State.InProgress (record { 0 = 1 })), refl),
      inl ((Plain STACK_OVERFLOW_ERROR (Held.Null ∷ []), refl, inr (inl (refl, inl (2, omega arith, refl)))), refl, refl),
    )
