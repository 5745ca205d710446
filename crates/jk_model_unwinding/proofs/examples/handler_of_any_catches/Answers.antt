-- The first handler is of an interface, and the second has no class.
use Rattle.std.proofs.Common.{◌≡◌, ℕ, zero, suc, ◌<◌, [], ◌∷◌, Some, pos, codes, slice_get, refl, sym, subst, arith}
use Rattle.std.proofs.lemmas.Option.{same_Some}
use Rattle.jk_model.specs.declared.opcodes.TheConstants.{NOP}
use Rattle.jk_model.specs.declared.values.Value.TheVariants as Held
use Rattle.jk_model.specs.Instructions.{plain}
use Rattle.jk_model_classes.specs.declared.records.Caught.{Caught}
use Rattle.jk_model_domains.specs.NumberRows.{ARITHMETIC_EXCEPTION}
use Rattle.jk_model_domains.specs.Objects.{Plain}
use Rattle.jk_model_unwinding.specs.Examples.{MARK, MINE, frame, handler, handler_of_any, method, setting, sweeping, thrown}
use Rattle.jk_model_unwinding.specs.Unwinding.{HasCaughtClass}
use Rattle.jk_model_unwinding.proofs.ClassesOfThrowables.{arithmetic_is_no_mark, mine_is_mark}
use Rattle.jk_model_unwinding.proofs.RunningCodes.{frame_runs}
use Rattle.jk_model_unwinding.proofs.examples.handler_of_any_catches.Goals as goal

first_fails : (earlier : ℕ) (g : Caught) → earlier < 1 → slice_get sweeping.handlers earlier ≡ Some g
    → HasCaughtClass (setting 64) (thrown 1 ARITHMETIC_EXCEPTION ∷ []) 1 g → ⊥
first_fails zero g before at is =
    arithmetic_is_no_mark (setting 64).caps (thrown 1 ARITHMETIC_EXCEPTION ∷ []) 1 refl
    (subst (HasCaughtClass (setting 64) (thrown 1 ARITHMETIC_EXCEPTION ∷ []) 1) (sym (same_Some (handler MARK 1) g at)) is)
first_fails (suc k) g before at is = absurd (omega (arith, before))

pub returns-clause-other : goal.returns-clause-other
returns-clause-other c = record {
  lower = [];
  catcher = frame 3 0 [];
  upper = [];
  are_frames = refl;
  met = 1;
  leaves = (refl, refl);
  handler = handler_of_any 2;
  catches = record {
    no_need = refl;
    code = frame_runs 3 0 [] (method (codes "sweeping") sweeping) sweeping (plain 0 NOP (pos 0) (pos 0)) refl refl refl;
    place = 1;
    listed = refl;
    covers = (omega arith, omega arith);
    of_class = tt;
    first = λ earlier g before listed covers of_class. first_fails earlier g before listed of_class;
  };
  left = refl;
}

pub returns-clause-first : goal.returns-clause-first
returns-clause-first c = record {
  lower = [];
  catcher = frame 3 0 [];
  upper = [];
  are_frames = refl;
  met = 1;
  leaves = (refl, refl);
  handler = handler MARK 1;
  catches = record {
    no_need = refl;
    code = frame_runs 3 0 [] (method (codes "sweeping") sweeping) sweeping (plain 0 NOP (pos 0) (pos 0)) refl refl refl;
    place = 0;
    listed = refl;
    covers = (omega arith, omega arith);
    of_class = (Plain MINE (Held.Null ∷ []), refl, mine_is_mark);
    first = λ earlier g before listed covers of_class. absurd (omega (arith, before));
  };
  left = refl;
}
