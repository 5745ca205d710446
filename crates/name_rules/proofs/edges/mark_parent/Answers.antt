-- The parent's file is marked, if the folder has it.
use Rattle.name_rules.proofs.EdgesMarked.{no_parent_marks, parent_marks}
use Rattle.name_rules.proofs.edges.mark_parent.Goals as goal

pub returns-in-Some : goal.returns-in-Some
returns-in-Some c =
    parent_marks c.args.f.now.file c.args.own.now c.as_slice-in-Some.result.now c.in-Some.name.now c.as_slice.result.now c.args.row.now
    c.mark_class.new.row c.as_slice.ensures c.in-Some.ensures c.as_slice-in-Some.ensures c.mark_class.ensures

pub returns-in_default : goal.returns-in_default
returns-in_default c =
    no_parent_marks c.args.f.now.file c.args.own.now c.as_slice.result.now c.args.row.now c.as_slice.ensures c.in_default.ensures
