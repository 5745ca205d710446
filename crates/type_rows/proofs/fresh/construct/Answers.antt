-- The constructor is called, or the entries for it are missing.
use Rattle.type_rows.specs.CodeViews.{scope_of}
use Rattle.type_rows.specs.Shapes.{argument_demands}
use Rattle.type_rows.proofs.LocalsAreDone.{constructed, no_arguments, no_receiver}
use Rattle.type_rows.proofs.fresh.construct.Goals as goal

pub returns-then-not-take : goal.returns-then-not-take
returns-then-not-take c =
    let s = scope_of c.args.view.now in
    let call = c.args.call.now in
    λ place. no_arguments s place call.class call.member (argument_demands s call.params.now) c.args.frame.now c.take.new.stack _
    c.if-not-take.ensures

pub returns-in-Some : goal.returns-in-Some
returns-in-Some c =
    let s = scope_of c.args.view.now in
    let call = c.args.call.now in
    λ place.
    constructed s place call.class call.member (argument_demands s call.params.now) c.args.frame.now c.take.new.stack c.pop.new.stack
    c.in-Some.receiver c.construct_at.result c.construct_at.new.frame c.requires c.if-not-take.ensures c.in-Some.ensures.some
    c.construct_at.ensures

pub returns-in-None : goal.returns-in-None
returns-in-None c =
    let s = scope_of c.args.view.now in
    let call = c.args.call.now in
    λ place.
    no_receiver s place call.class call.member (argument_demands s call.params.now) c.args.frame.now c.take.new.stack _ c.if-not-take.ensures
    c.in-None.ensures.none
