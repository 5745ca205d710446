-- One more instruction.
use Rattle.std.proofs.Common.{arith, refl, subst, length}
use Rattle.std.proofs.lemmas.Option.{slice_get_read}
use Rattle.list_lemmas.proofs.ItemByItem.{zip_more}
use Rattle.jk_model.specs.declared.instructions.Instr.{Instr}
use Rattle.jk_model_folders.specs.LinkedClasses.{IsInstrFor}
use Rattle.class_linker.proofs.ItemByItem.{along_all}
use Rattle.class_linker.proofs.code.linked_instrs.Goals as goal

pub linked_instr-requires-clause-leads : goal.linked_instr-requires-clause-leads
linked_instr-requires-clause-leads c =
    let instrs = c.args.instrs.now in
    c.requires.leads c.loop-instr.instr-index c.instr-item.result
    (slice_get_read instrs (length instrs) c.loop-instr.instr-index c.instr-item.result refl (omega arith) c.instr-item.is)

pub loop-instr-preserved : goal.loop-instr-preserved
loop-instr-preserved c =
    let instrs = c.args.instrs.now in
    let made = c.in_ok-linked_instr.field-0 in
    zip_more (IsInstrFor instrs) instrs c.loop-instr.linked _ c.loop-instr.instr-index c.instr-item.result made (omega arith) c.loop-instr.invariant
    (subst (λ (x : Instr). IsInstrFor instrs x made) c.instr-item.is c.in_ok-linked_instr.ensures) c.in_ok-push.ensures.ok

pub returns : goal.returns
returns c =
    along_all (IsInstrFor c.args.instrs.now) c.args.instrs.now c.loop-instr.linked c.loop-instr.instr-index (omega arith) c.loop-instr.invariant
