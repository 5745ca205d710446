-- The first parts of the list are restored, and the others fit.
use Rattle.std.proofs.Common.{◌≡◌, take}
use Rattle.class_init.specs.Parts.{FitsAll, restored_all}
use Rattle.class_init.proofs.class_parts.ClassParts.restore_all.Given as goal

abbrev pub invariant-loop-part : goal.invariant-loop-part
invariant-loop-part l =
    record {
      are : l.self ≡ restored_all (take l.part-index l.list) l.fn.self;
      fits : FitsAll l.list l.self;
    }
