-- The group that the tests give is the table's.
use Rattle.std.proofs.Common.{◌∙◌, arith}
use Rattle.type_rows.proofs.SameGroups.{same_group}
use Rattle.type_rows.proofs.groups.group_of.Goals as goal

pub returns : goal.returns
returns c = c.group_at.ensures ∙ same_group c.args.op (omega arith)
