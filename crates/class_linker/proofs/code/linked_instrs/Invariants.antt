-- The instructions so far are those of the code so far.
use Rattle.std.proofs.Common.{take}
use Rattle.std.specs.List.{AllZip}
use Rattle.jk_model_folders.specs.LinkedClasses.{IsInstrFor}
use Rattle.class_linker.proofs.code.linked_instrs.Given as goal

abbrev pub invariant-loop-instr : goal.invariant-loop-instr
invariant-loop-instr l = AllZip (IsInstrFor l.instrs) (take l.instr-index l.instrs) l.linked
