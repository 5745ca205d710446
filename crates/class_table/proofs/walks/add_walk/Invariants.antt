-- The first classes of the walk are there.
use Rattle.std.proofs.Common.{◌≡◌, take}
use Rattle.class_table.specs.Walks.{with_all}
use Rattle.class_table.proofs.walks.add_walk.Given as goal

abbrev pub invariant-loop-class : goal.invariant-loop-class
invariant-loop-class l = l.seen.keys ≡ with_all l.initial.seen.keys (take l.class-index l.walk)
