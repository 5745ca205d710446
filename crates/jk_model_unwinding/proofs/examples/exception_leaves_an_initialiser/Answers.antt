-- The initialiser frame has a need, and so doesn't catch; the class is broken, and the new object is the second.
use Rattle.std.proofs.Common.{[], ◌∷◌, pos, codes, inl, inr, refl, sym, arith}
use Rattle.std.proofs.lemmas.Option.{none-some}
use Rattle.jk_model.specs.declared.opcodes.TheConstants.{NOP}
use Rattle.jk_model.specs.declared.values.Value.TheVariants as Held
use Rattle.jk_model.specs.Instructions.{plain}
use Rattle.jk_model_classes.specs.Classes.{OBJECT}
use Rattle.jk_model_domains.specs.declared.states.ClassState.TheVariants as State
use Rattle.jk_model_domains.specs.NumberRows.{ARITHMETIC_EXCEPTION}
use Rattle.jk_model_domains.specs.Objects.{Plain}
use Rattle.jk_model_heaps.specs.RunningCode.{RunsCode}
use Rattle.jk_model_heaps.specs.SystemClasses.{EXCEPTION_IN_INITIALIZER_ERROR}
use Rattle.jk_model_unwinding.specs.Examples.{MAIN, classes, domain, frame, handler, initialiser, initialising, method, part, setting, thrown}
use Rattle.jk_model_unwinding.specs.Unwinding.{CatchesNot}
use Rattle.jk_model_unwinding.proofs.ClassesOfThrowables.{arithmetic_is_no_error}
use Rattle.jk_model_heaps.proofs.OneIsMade.{one_is_made}
use Rattle.jk_model_unwinding.proofs.RunningCodes.{runs}
use Rattle.jk_model_unwinding.proofs.examples.exception_leaves_an_initialiser.Goals as goal

abbrev running : RunsCode classes (frame 1 0 [])
running = record {
  method = record { class = MAIN; index = 1 };
  is_method = refl;
  scope = record { classes = classes; self = MAIN; links = []; method = method (codes "initialising") initialising; code = initialising };
  is_scope = runs 1 0 (method (codes "initialising") initialising) initialising refl refl;
  instr = plain 0 NOP (pos 0) (pos 0);
  stands = refl;
}

initialiser_catches_not : CatchesNot (setting 10) (thrown 1 ARITHMETIC_EXCEPTION ∷ []) initialiser 1
initialiser_catches_not h catches = none-some OBJECT (sym catches.no_need)

pub returns : goal.returns
returns c = record {
  lower = [];
  catcher = frame 1 0 [];
  upper = initialiser ∷ [];
  are_frames = refl;
  met = 2;
  leaves = (
    domain (State.InProgress (record { 0 = 1 })) (thrown 1 ARITHMETIC_EXCEPTION ∷ []),
    1,
    (refl, refl),
    initialiser_catches_not,
    inr (
      MAIN,
      refl,
      (part (State.InProgress (record { 0 = 1 })), refl),
      inr (
        arithmetic_is_no_error (setting 10).caps (thrown 1 ARITHMETIC_EXCEPTION ∷ []) 1 refl,
        inl (
          thrown 1 ARITHMETIC_EXCEPTION ∷ thrown 2 EXCEPTION_IN_INITIALIZER_ERROR ∷ [],
          one_is_made classes 10 (thrown 1 ARITHMETIC_EXCEPTION ∷ []) 2 (Plain EXCEPTION_IN_INITIALIZER_ERROR (Held.Null ∷ [])) refl (omega arith),
          refl,
        ),
      ),
    ),
  );
  handler = handler EXCEPTION_IN_INITIALIZER_ERROR 2;
  catches = record {
    no_need = refl;
    code = running;
    place = 0;
    listed = refl;
    covers = (omega arith, omega arith);
    of_class = (Plain EXCEPTION_IN_INITIALIZER_ERROR (Held.Null ∷ []), refl, inl refl);
    first = λ earlier g before listed covers of_class. absurd (omega (arith, before));
  };
  left = refl;
}
