use Rattle.std.proofs.Common.{arith}
use Rattle.extent_map.proofs.SameInAnyOrder.{same_in}
use Rattle.bench_calls.proofs.stores.return_at.Goals as goal

pub give_back-requires : goal.give_back-requires
give_back-requires c =
    same_in c.args.map.now.out c.args.out.now.items c.remove-extent.result c.args.place c.requires (omega arith) c.remove-extent.ensures.value
