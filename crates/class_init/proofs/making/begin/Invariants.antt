-- The classes of the first names have their parts and texts.
use Rattle.class_init.specs.Beginning.{IsBegun}
use Rattle.class_init.proofs.making.begin.Given as goal

abbrev pub invariant-loop-i : goal.invariant-loop-i
invariant-loop-i l = IsBegun l.t l.names l.i l.begun.classes l.begun.texts
