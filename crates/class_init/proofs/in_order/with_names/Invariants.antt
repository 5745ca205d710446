-- The first parts have their names.
use Rattle.std.proofs.Common.{◌≡◌, map, take}
use Rattle.jk_model_domains.specs.OwnStates.{own_class}
use Rattle.class_init.specs.InOrder.{AreNamedParts, part_of_named}
use Rattle.class_init.specs.Parts.{class_part}
use Rattle.class_init.proofs.in_order.with_names.Given as goal

abbrev pub invariant-loop-part : goal.invariant-loop-part
invariant-loop-part l =
    record {
      parts : map part_of_named l.named.items ≡ map own_class (map class_part (take l.part-index l.parts));
      names : AreNamedParts l.t l.named.items;
    }
