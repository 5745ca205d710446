-- The tests hold of the instruction that stands there.
use Rattle.std.proofs.Common.{IsTrue, List, rules, refl, sym, subst}
use Rattle.std.proofs.lemmas.Option.{slice_get_read}
use Rattle.jk_model.specs.declared.instructions.SwitchCase.{SwitchCase}
use Rattle.jk_model.specs.Instructions.{Rises}
use Rattle.number_ops.specs.Operands.{keys_of}
use Rattle.type_rows.specs.CodeViews.{scope_of}
use Rattle.number_check.proofs.running.instruction_at.Goals as goal

pub returns : goal.returns
returns g c =
    let numbers : IsTrue c.is_of_numbers.result = search rules in
    let rise : IsTrue c.keys_rise.result = search rules in
    record {
      stands = slice_get_read c.args.view.now.code.now.instrs _ c.args.place c.in-Some.i.now refl c.in-Some.ensures.3.0 c.in-Some.ensures.1;
      of_numbers = c.is_of_numbers.ensures numbers (scope_of c.args.view.now) (sym c.as_slice.ensures);
      keys = subst (λ (cases : List SwitchCase). Rises (keys_of cases)) c.as_slice-2.ensures (c.keys_rise.ensures rise);
    }
