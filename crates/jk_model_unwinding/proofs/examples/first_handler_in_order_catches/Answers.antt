-- The first handler covers the place and has the class, and there is none before it.
use Rattle.std.proofs.Common.{[], ◌∷◌, pos, codes, refl, arith}
use Rattle.jk_model.specs.declared.opcodes.TheConstants.{NOP}
use Rattle.jk_model.specs.declared.values.Value.TheVariants as Held
use Rattle.jk_model.specs.Instructions.{plain}
use Rattle.jk_model_domains.specs.NumberRows.{ARITHMETIC_EXCEPTION}
use Rattle.jk_model_domains.specs.Objects.{Plain}
use Rattle.jk_model_heaps.specs.RunningCode.{RunsCode}
use Rattle.jk_model_unwinding.specs.Examples.{MAIN, RUNTIME_EXCEPTION, careful, classes, frame, handler, method}
use Rattle.jk_model_unwinding.proofs.ClassesOfThrowables.{is_runtime_exception}
use Rattle.jk_model_unwinding.proofs.RunningCodes.{runs}
use Rattle.jk_model_unwinding.proofs.examples.first_handler_in_order_catches.Goals as goal

abbrev running : RunsCode classes (frame 0 0 [])
running = record {
  method = record { class = MAIN; index = 0 };
  is_method = refl;
  scope = record { classes = classes; self = MAIN; links = []; method = method (codes "careful") careful; code = careful };
  is_scope = runs 0 0 (method (codes "careful") careful) careful refl refl;
  instr = plain 0 NOP (pos 0) (pos 0);
  stands = refl;
}

pub returns : goal.returns
returns c = record {
  lower = [];
  catcher = frame 0 0 [];
  upper = [];
  are_frames = refl;
  met = 1;
  leaves = (refl, refl);
  handler = handler RUNTIME_EXCEPTION 1;
  catches = record {
    no_need = refl;
    code = running;
    place = 0;
    listed = refl;
    covers = (omega arith, omega arith);
    of_class = (Plain ARITHMETIC_EXCEPTION (Held.Null ∷ []), refl, is_runtime_exception);
    first = λ earlier g before listed covers of_class. absurd (omega (arith, before));
  };
  left = refl;
}
