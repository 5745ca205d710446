-- What is named so far is named at its places.
use Rattle.std.proofs.Common.{◌≡◌, Option, length}
use Rattle.jk_model.specs.declared.identifiers.ClassId.{ClassId}
use Rattle.class_linker.specs.TextsSaid.{Answers, AreAt, SaysClass}
use Rattle.class_linker.proofs.classes.classes_in.Given as goal

abbrev pub invariant-loop-i : goal.invariant-loop-i
invariant-loop-i l = (length l.classes ≡ l.i) × AreAt (λ i (found : Option ClassId). Answers (SaysClass l.names l.c.pool i) found) l.classes
