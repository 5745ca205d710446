-- The rules are asked in turn, and the first that is broken counts.
use Rattle.std.proofs.Common.{Some}
use Rattle.class_files.specs.FolderClasses.{files_of}
use Rattle.placed_rules.specs.declared.links.LinkRule.TheVariants.{Members}
use Rattle.placed_rules.proofs.LinksInTurn.{Answers, access_first, finals_first, members_first, none_of_links}
use Rattle.placed_rules.proofs.links.link_fault.Goals as goal

pub returns-in-Some-clause-fault : goal.returns-in-Some-clause-fault
returns-in-Some-clause-fault c =
    let fs = files_of c.args.classes.now in
    let h : Answers fs c.args.order.now c.args.t.now c.args.names.now c.args.first c.requires.order Members (Some c.in-Some.fault) = c.in-Some.ensures in
    members_first fs c.args.order.now c.args.t.now c.args.names.now c.args.first c.requires.order c.in-Some.fault h

pub returns-in-Some-first_broken-clause-fault : goal.returns-in-Some-first_broken-clause-fault
returns-in-Some-first_broken-clause-fault c =
    access_first (files_of c.args.classes.now) c.args.order.now c.args.t.now c.args.names.now c.args.first c.requires.order c.in-Some-first_broken.fault
    c.in_default.ensures c.in-Some-first_broken.ensures

pub returns-clause-fault : goal.returns-clause-fault
returns-clause-fault c =
    finals_first (files_of c.args.classes.now) c.args.order.now c.args.t.now c.args.names.now c.args.first c.requires.order c.first_broken-3.result
    c.in_default.ensures c.in_default-first_broken.ensures c.first_broken-3.ensures

pub returns-clause-none : goal.returns-clause-none
returns-clause-none c =
    none_of_links (files_of c.args.classes.now) c.args.order.now c.args.t.now c.args.names.now c.args.first c.requires.order c.first_broken-3.result
    c.in_default.ensures c.in_default-first_broken.ensures c.first_broken-3.ensures
