-- The parent has one name.
use Rattle.name_rules.specs.BadHierarchies.{folder_scope}
use Rattle.name_rules.proofs.BadParts.{no_parent_tells, parent_tells}
use Rattle.name_rules.proofs.hierarchies.has_bad_parent.Goals as goal

pub returns-in-Some : goal.returns-in-Some
returns-in-Some c =
    parent_tells (folder_scope c.args.x.now) c.args.f.now.file c.as_slice.result.now c.in-Some.name.now c.is_bad_parent.result c.as_slice.ensures
    c.in-Some.ensures c.is_bad_parent.ensures

pub returns-in-None : goal.returns-in-None
returns-in-None c = no_parent_tells (folder_scope c.args.x.now) c.args.f.now.file c.as_slice.result.now c.as_slice.ensures c.in-None.ensures
