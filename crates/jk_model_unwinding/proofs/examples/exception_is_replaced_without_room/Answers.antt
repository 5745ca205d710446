-- The heap has 10 words used of 14, and an object of 5 doesn't fit. The first handler is of the class that wasn't made.
use Rattle.std.proofs.Common.{◌≡◌, ℕ, zero, suc, ◌<◌, List, [], ◌∷◌, Some, pos, codes, slice_get, inl, inr, refl, sym, subst, arith}
use Rattle.std.proofs.lemmas.Option.{none-some, same_Some}
use Rattle.jk_model.specs.declared.opcodes.TheConstants.{NOP}
use Rattle.jk_model.specs.declared.values.Value.TheVariants as Held
use Rattle.jk_model.specs.Instructions.{plain}
use Rattle.jk_model_classes.specs.declared.records.Caught.{Caught}
use Rattle.jk_model_classes.specs.Classes.{OBJECT}
use Rattle.jk_model_domains.specs.NumberRows.{ARITHMETIC_EXCEPTION}
use Rattle.jk_model_domains.specs.Objects.{NamedObject, Plain}
use Rattle.jk_model_domains.specs.declared.states.ClassState.TheVariants as State
use Rattle.jk_model_heaps.specs.SystemClasses.{EXCEPTION_IN_INITIALIZER_ERROR, OUT_OF_MEMORY_ERROR}
use Rattle.jk_model_unwinding.specs.Examples.{MAIN, frame, handler, initialiser, method, part, setting, sparing, standing_domain, thrown}
use Rattle.jk_model_unwinding.specs.Unwinding.{CatchesNot, HasCaughtClass}
use Rattle.jk_model_unwinding.proofs.ClassesOfThrowables.{arithmetic_is_no_error, no_instance}
use Rattle.jk_model_unwinding.proofs.RunningCodes.{frame_runs}
use Rattle.jk_model_unwinding.proofs.examples.exception_is_replaced_without_room.Goals as goal

abbrev heap : List NamedObject
heap = thrown 1 ARITHMETIC_EXCEPTION ∷ thrown 2 OUT_OF_MEMORY_ERROR ∷ []

catches_not : CatchesNot (setting 14) heap initialiser 1
catches_not h catches = none-some OBJECT (sym catches.no_need)

first_fails : (earlier : ℕ) (g : Caught) → earlier < 1 → slice_get sparing.handlers earlier ≡ Some g
    → HasCaughtClass (setting 14) heap 2 g → ⊥
first_fails zero g before at is =
    no_instance (setting 14).caps heap 2 OUT_OF_MEMORY_ERROR EXCEPTION_IN_INITIALIZER_ERROR refl refl refl refl
    (subst (HasCaughtClass (setting 14) heap 2) (sym (same_Some (handler EXCEPTION_IN_INITIALIZER_ERROR 1) g at)) is)
first_fails (suc k) g before at is = absurd (omega (arith, before))

pub returns : goal.returns
returns c = record {
  lower = [];
  catcher = frame 4 0 [];
  upper = initialiser ∷ [];
  are_frames = refl;
  met = 2;
  leaves = (
    standing_domain (State.InProgress (record { 0 = 1 })) heap,
    1,
    (refl, refl),
    catches_not,
    inr (
      MAIN,
      refl,
      (part (State.InProgress (record { 0 = 1 })), refl),
      inr (arithmetic_is_no_error (setting 14).caps heap 1 refl, inr (omega arith, refl, refl)),
    ),
  );
  handler = handler OUT_OF_MEMORY_ERROR 2;
  catches = record {
    no_need = refl;
    code = frame_runs 4 0 [] (method (codes "sparing") sparing) sparing (plain 0 NOP (pos 0) (pos 0)) refl refl refl;
    place = 1;
    listed = refl;
    covers = (omega arith, omega arith);
    of_class = (Plain OUT_OF_MEMORY_ERROR (Held.Null ∷ []), refl, inl refl);
    first = λ earlier g before listed covers of_class. first_fails earlier g before listed of_class;
  };
  left = refl;
}
