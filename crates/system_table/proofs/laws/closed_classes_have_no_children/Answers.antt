-- Each parent is compared with each closed class.
use Rattle.system_table.proofs.LawsOfTheTable.{closed_alone}
use Rattle.system_table.proofs.laws.closed_classes_have_no_children.Goals as goal

pub returns : goal.returns
returns c = closed_alone
