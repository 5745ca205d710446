-- The value is in the local, or can't be.
use Rattle.std.proofs.Common.{refl}
use Rattle.type_rows.specs.CodeViews.{scope_of}
use Rattle.type_rows.proofs.LocalsAreDone.{stored, not_stored}
use Rattle.type_rows.proofs.locals.store.Goals as goal

pub returns-then-may_store : goal.returns-then-may_store
returns-then-may_store c =
    λ place.
    stored (scope_of c.args.view.now) place c.args.frame.now c.args.demand c.args.n c.pop.new.stack c.put.new.locals c.in-Some.v c.requires
    c.in-Some.ensures.some (c.if-may_store.ensures.0 refl) c.put.ensures

pub returns-else-may_store : goal.returns-else-may_store
returns-else-may_store c =
    λ place.
    not_stored (scope_of c.args.view.now) place c.args.frame.now c.args.demand c.args.n c.pop.new.stack c.in-Some.v _
    c.in-Some.ensures.some (λ may. let never = c.if-may_store.ensures.1 may in absurd cc)
