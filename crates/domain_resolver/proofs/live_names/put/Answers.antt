-- The name is found at its place, and every other as before.
use Rattle.std.proofs.Common.{Vec, ℕ}
use Rattle.std.specs.declared.alloc.Global.{Global}
use Rattle.domain_resolver.proofs.NamesInTheMap.{put_finds}
use Rattle.domain_resolver.proofs.live_names.put.Goals as goal

pub returns-clause-ok : goal.returns-clause-ok
returns-clause-ok c = λ q.
    rw (c.in_ok-insert.ensures.entries, ← c.in_ok-name.ensures.items)
    (put_finds (λ (k : Vec ℕ Global). k.items) c.args.names.now.entries c.in_ok-name.name c.args.place q)
