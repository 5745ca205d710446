-- The texts so far are those of the entries so far.
use Rattle.std.proofs.Common.{take}
use Rattle.std.specs.List.{AllZip}
use Rattle.class_texts.specs.EntryTexts.{IsTextOf}
use Rattle.class_texts.proofs.texts.ClassTexts.of.Given as goal

abbrev pub invariant-loop-entry : goal.invariant-loop-entry
invariant-loop-entry l = AllZip IsTextOf (take l.entry-index l.pool) l.texts.items
