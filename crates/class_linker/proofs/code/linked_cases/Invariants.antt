-- The cases so far are those of the switch so far.
use Rattle.std.proofs.Common.{take}
use Rattle.std.specs.List.{AllZip}
use Rattle.jk_model_folders.specs.LinkedClasses.{IsCaseFor}
use Rattle.class_linker.proofs.code.linked_cases.Given as goal

abbrev pub invariant-loop-case : goal.invariant-loop-case
invariant-loop-case l = AllZip (IsCaseFor l.instrs) (take l.case-index l.cases) l.linked
