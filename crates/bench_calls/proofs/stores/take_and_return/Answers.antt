use Rattle.std.proofs.Common.{refl}
use Rattle.extent_map.proofs.SameInAnyOrder.{in_taken, same_back}
use Rattle.bench_calls.proofs.stores.take_and_return.Goals as goal

pub give_back-requires : goal.give_back-requires
give_back-requires c = in_taken c.args.map.now.out c.take.new.self.out c.in-Some.taken c.in-Some.ensures.out

pub returns : goal.returns
returns c =
    same_back c.args.map.now.out c.take.new.self.out c.give_back.new.self.out c.args.map.now.out c.in-Some.taken (λ f. refl) c.in-Some.ensures.out
    c.give_back.ensures.out
