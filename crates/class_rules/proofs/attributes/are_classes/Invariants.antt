-- The indices so far are those of classes.
use Rattle.jk_model.specs.ClassFile.{NamesEntry, IsClassEntry}
use Rattle.class_rules.proofs.AllItems.{AllBefore}
use Rattle.class_rules.proofs.attributes.are_classes.Given as goal

abbrev pub invariant-loop-i : goal.invariant-loop-i
invariant-loop-i l = AllBefore l.i-index (NamesEntry IsClassEntry l.pool) l.indices
