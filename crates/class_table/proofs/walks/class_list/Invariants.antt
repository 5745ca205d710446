-- The first numbers are classes.
use Rattle.std.proofs.Common.{◌≡◌, take}
use Rattle.class_table.specs.Walks.{classes_numbered}
use Rattle.class_table.proofs.walks.class_list.Given as goal

abbrev pub invariant-loop-n : goal.invariant-loop-n
invariant-loop-n l = l.list ≡ classes_numbered (take l.n-index l.numbers)
