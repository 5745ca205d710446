-- The extent at the place is one of those that are out.
use Rattle.std.proofs.Common.{arith}
use Rattle.extent_map.proofs.SameInAnyOrder.{same_in}
use Rattle.store_check.proofs.extent_map_tests.gives.Goals as goal

pub give_back-requires : goal.give_back-requires
give_back-requires c =
    same_in c.args.map.now.out c.args.out.now.items c.remove-e.result c.args.place c.requires (omega arith) c.remove-e.ensures.value
