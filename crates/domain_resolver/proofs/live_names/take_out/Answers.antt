-- The name isn't found any more, and every other as before.
use Rattle.std.proofs.Common.{Vec, ℕ}
use Rattle.std.specs.declared.alloc.Global.{Global}
use Rattle.domain_resolver.proofs.NamesInTheMap.{take_finds}
use Rattle.domain_resolver.proofs.live_names.take_out.Goals as goal

pub returns : goal.returns
returns c = λ q.
    rw c.remove.ensures.entries
    (take_finds (λ (k : Vec ℕ Global). k.items) c.args.names.now.entries c.args.name.now q
    (rw c.remove.ensures.entries at c.remove.ensures.updates.1))
