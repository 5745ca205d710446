-- The bytes so far are those of the cases so far, and their labels stand.
use Rattle.std.proofs.Common.{◌≡◌, ◌++◌, List, take}
use Rattle.std.specs.List.{flat_map}
use Rattle.asm_reader.specs.declared.items.CodeLine.{CodeLine}
use Rattle.jkasm.specs.LabelTables.{IsLabelsOf}
use Rattle.jkasm.specs.OperandWriting.{case_bytes, DoStand}
use Rattle.jkasm.proofs.code_writer.append_cases.Given as goal

abbrev pub invariant-loop-case : goal.invariant-loop-case
invariant-loop-case l = record {
  bytes : (codes : List CodeLine) → IsLabelsOf codes l.labels → l.code ≡ l.initial.code ++ flat_map (case_bytes codes l.at) (take l.case-index l.cases);
  stand : (codes : List CodeLine) → IsLabelsOf codes l.labels → DoStand codes (take l.case-index l.cases);
}
