-- What names no object passes as itself.
use Rattle.std.proofs.Common.{[], ◌∷◌}
use Rattle.domain_crossing.specs.NoObjects.{IsNoObject}
use Rattle.domain_crossing.proofs.NothingReached.{no_object, nothing_copied, nothing_refused}
use Rattle.domain_crossing.proofs.passing.pass.Goals as goal

pub returns-in_default : goal.returns-in_default
returns-in_default g c =
    let store = g.H.ObjectStore.content c.args.heap.now in
    let none : IsNoObject c.args.v = no_object c.args.v c.in_default.not-Obj in (
      nothing_refused store c.args.w.now c.args.from c.args.to (c.args.v ∷ []) (none, tt),
      nothing_copied store c.args.w.now c.args.from c.args.to (c.args.v ∷ []) (none, tt),
    )
