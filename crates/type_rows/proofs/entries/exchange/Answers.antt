-- The entries are taken, and one is pushed, or none.
use Rattle.type_rows.specs.CodeViews.{scope_of}
use Rattle.type_rows.specs.Shapes.{demands_view}
use Rattle.type_rows.proofs.RowsAreDone.{each_place, takes_none, takes_one}
use Rattle.type_rows.proofs.entries.exchange.Goals as goal

pub returns-in-Some : goal.returns-in-Some
returns-in-Some c =
    let s = scope_of c.args.view.now in
    each_place _ _
    (λ place.
    takes_one s place c.args.frame.now c.take.new.stack (demands_view s c.args.demands.now) c.push.result c.args.gives c.in-Some.v
    c.push.new.stack c.in-Some.is c.requires c.if-not-take.ensures c.push.ensures.room c.push.ensures.pushed)

pub returns-in-None : goal.returns-in-None
returns-in-None c =
    let s = scope_of c.args.view.now in
    λ place.
    takes_none s place c.args.frame.now c.take.new.stack (demands_view s c.args.demands.now) c.args.gives c.in-None.is c.requires
    c.if-not-take.ensures
