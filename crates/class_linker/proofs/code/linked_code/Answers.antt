-- The code's instructions stand in order, and it leads to some of them alone.
use Rattle.std.proofs.Common.{List, subst, sym}
use Rattle.jk_model.specs.declared.instructions.Instr.{Instr}
use Rattle.class_linker.specs.KnownCodes.{IsReading}
use Rattle.class_linker.proofs.PlacesOfCode.{has_places, in_order, leads_within}
use Rattle.class_linker.proofs.code.linked_code.Goals as goal

pub linked_instrs-requires-clause-order : goal.linked_instrs-requires-clause-order
linked_instrs-requires-clause-order c =
    in_order c.args.scope.now.file.now.pool c.args.code.now c.as_slice.result.now c.requires.good
    (subst (λ (is : List Instr). IsReading c.args.code.now is) (sym c.as_slice.ensures) c.in_ok-decoded.ensures)

pub linked_instrs-requires-clause-leads : goal.linked_instrs-requires-clause-leads
linked_instrs-requires-clause-leads c =
    leads_within c.args.scope.now.file.now.pool c.args.code.now c.as_slice.result.now c.requires.good
    (subst (λ (is : List Instr). IsReading c.args.code.now is) (sym c.as_slice.ensures) c.in_ok-decoded.ensures)

pub linked_handlers-requires-clause-order : goal.linked_handlers-requires-clause-order
linked_handlers-requires-clause-order c =
    in_order c.args.scope.now.file.now.pool c.args.code.now c.as_slice-2.result.now c.requires.good
    (subst (λ (is : List Instr). IsReading c.args.code.now is) (sym c.as_slice-2.ensures) c.in_ok-decoded.ensures)

pub linked_handlers-requires-clause-places : goal.linked_handlers-requires-clause-places
linked_handlers-requires-clause-places c =
    has_places c.args.scope.now.file.now.pool c.args.code.now c.as_slice-2.result.now c.requires.good
    (subst (λ (is : List Instr). IsReading c.args.code.now is) (sym c.as_slice-2.ensures) c.in_ok-decoded.ensures)
