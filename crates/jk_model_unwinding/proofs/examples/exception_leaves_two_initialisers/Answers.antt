-- Both initialiser frames have a need, and so catch nothing; the new object, which is an Error, is the second and last one.
use Rattle.std.proofs.Common.{List, [], ◌∷◌, pos, codes, inl, inr, refl, sym, arith}
use Rattle.std.proofs.lemmas.Option.{none-some}
use Rattle.jk_model.specs.declared.opcodes.TheConstants.{NOP}
use Rattle.jk_model.specs.declared.values.Value.TheVariants as Held
use Rattle.jk_model.specs.Instructions.{plain}
use Rattle.jk_model_classes.specs.Classes.{OBJECT}
use Rattle.jk_model_domains.specs.NumberRows.{ARITHMETIC_EXCEPTION}
use Rattle.jk_model_domains.specs.Objects.{NamedObject, Plain}
use Rattle.jk_model_domains.specs.OwnStates.{with_state}
use Rattle.jk_model_domains.specs.declared.states.ClassState.TheVariants as State
use Rattle.jk_model_heaps.specs.SystemClasses.{EXCEPTION_IN_INITIALIZER_ERROR}
use Rattle.jk_model_heaps.specs.Workings.{Inside, with_own}
use Rattle.jk_model_heaps.proofs.OneIsMade.{one_is_made}
use Rattle.jk_model_unwinding.specs.Examples.{LOWER, MAIN, classes, frame, handler, initialiser, initialising, lower_initialiser, method, part, setting, thrown, two_classes}
use Rattle.jk_model_unwinding.specs.Unwinding.{CatchesNot}
use Rattle.jk_model_unwinding.proofs.ClassesOfThrowables.{arithmetic_is_no_error, failure_is_error}
use Rattle.jk_model_unwinding.proofs.RunningCodes.{frame_runs}
use Rattle.jk_model_unwinding.proofs.examples.exception_leaves_two_initialisers.Goals as goal

abbrev first : List NamedObject
first = thrown 1 ARITHMETIC_EXCEPTION ∷ []

abbrev second : List NamedObject
second = thrown 1 ARITHMETIC_EXCEPTION ∷ thrown 2 EXCEPTION_IN_INITIALIZER_ERROR ∷ []

-- after the upper one was left
abbrev halfway : Inside
halfway =
    let begun : Inside = two_classes (State.InProgress (record { 0 = 1 })) second in
    with_own begun (with_state begun.own MAIN State.Broken)

upper_catches_not : CatchesNot (setting 10) first initialiser 1
upper_catches_not h catches = none-some OBJECT (sym catches.no_need)

lower_catches_not : CatchesNot (setting 10) second lower_initialiser 2
lower_catches_not h catches = none-some MAIN (sym catches.no_need)

pub returns : goal.returns
returns c = record {
  lower = [];
  catcher = frame 1 0 [];
  upper = lower_initialiser ∷ initialiser ∷ [];
  are_frames = refl;
  met = 2;
  leaves = (
    halfway,
    2,
    (
      two_classes (State.InProgress (record { 0 = 1 })) first,
      1,
      (refl, refl),
      upper_catches_not,
      inr (
        MAIN,
        refl,
        (part (State.InProgress (record { 0 = 1 })), refl),
        inr (
          arithmetic_is_no_error (setting 10).caps first 1 refl,
          inl (second, one_is_made classes 10 first 2 (Plain EXCEPTION_IN_INITIALIZER_ERROR (Held.Null ∷ [])) refl (omega arith), refl),
        ),
      ),
    ),
    lower_catches_not,
    inr (
      LOWER,
      refl,
      (record (part (State.InProgress (record { 0 = 1 }))) { class = LOWER }, refl),
      inl ((Plain EXCEPTION_IN_INITIALIZER_ERROR (Held.Null ∷ []), refl, failure_is_error), refl, refl),
    ),
  );
  handler = handler EXCEPTION_IN_INITIALIZER_ERROR 2;
  catches = record {
    no_need = refl;
    code = frame_runs 1 0 [] (method (codes "initialising") initialising) initialising (plain 0 NOP (pos 0) (pos 0)) refl refl refl;
    place = 0;
    listed = refl;
    covers = (omega arith, omega arith);
    of_class = (Plain EXCEPTION_IN_INITIALIZER_ERROR (Held.Null ∷ []), refl, inl refl);
    first = λ earlier g before listed covers of_class. absurd (omega (arith, before));
  };
  left = refl;
}
