-- The first images are literals.
use Rattle.std.proofs.Common.{◌≡◌, map, take}
use Rattle.class_init.specs.Literals.{literal_from}
use Rattle.class_init.proofs.literals.Literals.restore_all.Given as goal

abbrev pub invariant-loop-image : goal.invariant-loop-image
invariant-loop-image l = l.self ≡ record { texts = l.fn.self.texts; literals = map literal_from (take l.image-index l.images) }
