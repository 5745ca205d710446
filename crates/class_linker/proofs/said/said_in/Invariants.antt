-- What is said so far is said at its places.
use Rattle.std.proofs.Common.{◌≡◌, length}
use Rattle.class_linker.specs.TextsSaid.{AreAt, IsSaidAt}
use Rattle.class_linker.proofs.said.said_in.Given as goal

abbrev pub invariant-loop-i : goal.invariant-loop-i
invariant-loop-i l = (length l.all ≡ l.i) × AreAt (IsSaidAt l.names l.c.pool) l.all
