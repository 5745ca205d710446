-- C24 is asked of all classes, and then C23.
use Rattle.placed_rules.proofs.CodesInTurn.{sizes_first, told_first, told_none}
use Rattle.placed_rules.proofs.ShortCodes.{short_from}
use Rattle.placed_rules.proofs.code.code_fault.Goals as goal

pub first_broken-requires-clause-ready : goal.first_broken-requires-clause-ready
first_broken-requires-clause-ready c =
    let r = c.requires.recorded in
    (r.2.as_many, short_from c.args.t.now c.args.first c.args.order.now r.0 r.1 r.2)

pub first_untyped_file-requires-clause-short : goal.first_untyped_file-requires-clause-short
first_untyped_file-requires-clause-short c =
    let r = c.requires.recorded in
    short_from c.args.t.now c.args.first c.args.order.now r.0 r.1 r.2

pub returns-in-Some-clause-fault : goal.returns-in-Some-clause-fault
returns-in-Some-clause-fault c = sizes_first c.args.order.now c.args.t.now c.args.first c.in-Some.fault c.in-Some.ensures

pub returns-clause-fault : goal.returns-clause-fault
returns-clause-fault c =
    told_first c.args.order.now c.args.t.now c.args.first c.first_untyped_file.result c.in_default.ensures c.first_untyped_file.ensures.fault

pub returns-clause-none : goal.returns-clause-none
returns-clause-none c =
    told_none c.args.order.now c.args.t.now c.args.first c.first_untyped_file.result c.in_default.ensures c.first_untyped_file.ensures.fault
