-- C20 to C22 are judged where the classes stand without their links.
use Rattle.class_files.specs.FolderClasses.{files_of}
use Rattle.folder_loader.proofs.RulesMet.{linked, unlinked_as}
use Rattle.folder_loader.proofs.judged_classes.judge_links.Goals as goal

pub link_fault-requires-clause-linked : goal.link_fault-requires-clause-linked
link_fault-requires-clause-linked c =
    let u = c.requires.unlinked in
    linked u.0 u.1 (files_of c.args.classes.now) u.2 c.args.placed.now u.3 c.args.t.now c.as_slice-order.result.now c.args.links.now u.5
    c.as_slice-order.ensures.value u.4

pub returns-in-None-clause-none : goal.returns-in-None-clause-none
returns-in-None-clause-none c = λ w lines names is e.
    c.in-None.ensures.none w is.placed
    (unlinked_as w lines (files_of c.args.classes.now) names c.args.placed.now is c.args.t.now c.as_slice-order.result.now e c.as_slice-order.ensures.value)
