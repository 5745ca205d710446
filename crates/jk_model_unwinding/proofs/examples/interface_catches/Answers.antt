-- The throwable's class implements the interface, and that of an ArithmeticException doesn't.
use Rattle.std.proofs.Common.{◌≡◌, ℕ, zero, suc, [], ◌∷◌, Some, pos, codes, slice_get, inl, refl, sym, subst, arith}
use Rattle.std.proofs.lemmas.Option.{none-some, same_Some}
use Rattle.jk_model.specs.declared.opcodes.TheConstants.{NOP}
use Rattle.jk_model.specs.declared.values.Value.TheVariants as Held
use Rattle.jk_model.specs.Instructions.{plain}
use Rattle.jk_model_classes.specs.declared.records.Caught.{Caught}
use Rattle.jk_model_domains.specs.NumberRows.{ARITHMETIC_EXCEPTION}
use Rattle.jk_model_domains.specs.Objects.{Plain}
use Rattle.jk_model_domains.specs.declared.states.ClassState.TheVariants as State
use Rattle.jk_model_unwinding.specs.Examples.{MARK, MINE, domain, frame, handler, marking, method, setting, thrown}
use Rattle.jk_model_unwinding.specs.Unwinding.{CatchesNot, HasCaughtClass}
use Rattle.jk_model_unwinding.proofs.ClassesOfThrowables.{arithmetic_is_no_mark, mine_is_mark}
use Rattle.jk_model_unwinding.proofs.RunningCodes.{catches_none, frame_runs}
use Rattle.jk_model_unwinding.proofs.examples.interface_catches.Goals as goal

has_no_mark : HasCaughtClass (setting 64) (thrown 1 ARITHMETIC_EXCEPTION ∷ []) 1 (handler MARK 1) → ⊥
has_no_mark is = arithmetic_is_no_mark (setting 64).caps (thrown 1 ARITHMETIC_EXCEPTION ∷ []) 1 refl is

no_handler : (place : ℕ) (h : Caught) → slice_get marking.handlers place ≡ Some h
    → HasCaughtClass (setting 64) (thrown 1 ARITHMETIC_EXCEPTION ∷ []) 1 h → ⊥
no_handler zero h at is =
    has_no_mark (subst (HasCaughtClass (setting 64) (thrown 1 ARITHMETIC_EXCEPTION ∷ []) 1) (sym (same_Some (handler MARK 1) h at)) is)
no_handler (suc place) h at is = none-some h at

catches_not : CatchesNot (setting 64) (thrown 1 ARITHMETIC_EXCEPTION ∷ []) (frame 2 0 []) 1
catches_not =
    catches_none 64 (thrown 1 ARITHMETIC_EXCEPTION ∷ []) 1 2 0 [] marking refl (λ place h listed covers of_class. no_handler place h listed of_class)

pub returns-clause-caught : goal.returns-clause-caught
returns-clause-caught c = record {
  lower = [];
  catcher = frame 2 0 [];
  upper = [];
  are_frames = refl;
  met = 1;
  leaves = (refl, refl);
  handler = handler MARK 1;
  catches = record {
    no_need = refl;
    code = frame_runs 2 0 [] (method (codes "marking") marking) marking (plain 0 NOP (pos 0) (pos 0)) refl refl refl;
    place = 0;
    listed = refl;
    covers = (omega arith, omega arith);
    of_class = (Plain MINE (Held.Null ∷ []), refl, mine_is_mark);
    first = λ earlier g before listed covers of_class. absurd (omega (arith, before));
  };
  left = refl;
}

pub returns-clause-no_other : goal.returns-clause-no_other
returns-clause-no_other c = catches_not

pub returns-clause-uncaught : goal.returns-clause-uncaught
returns-clause-uncaught c = (
  (domain State.Done (thrown 1 ARITHMETIC_EXCEPTION ∷ []), 1, (refl, refl), catches_not, inl (refl, refl, refl)),
  refl,
)
