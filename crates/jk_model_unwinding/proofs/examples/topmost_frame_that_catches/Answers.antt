-- The topmost frame stands where its handlers end; the one below it stands at the first instruction.
use Rattle.std.proofs.Common.{[], ◌∷◌, pos, codes, inl, refl, arith}
use Rattle.jk_model.specs.declared.opcodes.TheConstants.{NOP}
use Rattle.jk_model.specs.declared.values.Value.TheVariants as Held
use Rattle.jk_model.specs.Instructions.{plain}
use Rattle.jk_model_domains.specs.NumberRows.{ARITHMETIC_EXCEPTION}
use Rattle.jk_model_domains.specs.Objects.{Plain}
use Rattle.jk_model_domains.specs.declared.states.ClassState.TheVariants as State
use Rattle.jk_model_unwinding.specs.Examples.{RUNTIME_EXCEPTION, careful, domain, frame, handler, method, thrown}
use Rattle.jk_model_unwinding.proofs.ClassesOfThrowables.{is_runtime_exception}
use Rattle.jk_model_unwinding.proofs.RunningCodes.{catches_none, frame_runs, none_covers}
use Rattle.jk_model_unwinding.proofs.examples.topmost_frame_that_catches.Goals as goal

pub returns : goal.returns
returns c = record {
  lower = frame 0 0 (Held.Null ∷ []) ∷ [];
  catcher = frame 0 0 (Held.Null ∷ []);
  upper = frame 0 1 (Held.Null ∷ []) ∷ [];
  are_frames = refl;
  met = 1;
  leaves = (
    domain State.Done (thrown 1 ARITHMETIC_EXCEPTION ∷ []),
    1,
    (refl, refl),
    catches_none 64 (thrown 1 ARITHMETIC_EXCEPTION ∷ []) 1 0 1 (Held.Null ∷ []) careful refl
        (λ place h listed covers of_class. none_covers place h listed covers),
    inl (refl, refl, refl),
  );
  handler = handler RUNTIME_EXCEPTION 1;
  catches = record {
    no_need = refl;
    code = frame_runs 0 0 (Held.Null ∷ []) (method (codes "careful") careful) careful (plain 0 NOP (pos 0) (pos 0)) refl refl refl;
    place = 0;
    listed = refl;
    covers = (omega arith, omega arith);
    of_class = (Plain ARITHMETIC_EXCEPTION (Held.Null ∷ []), refl, is_runtime_exception);
    first = λ earlier g before listed covers of_class. absurd (omega (arith, before));
  };
  left = refl;
}
