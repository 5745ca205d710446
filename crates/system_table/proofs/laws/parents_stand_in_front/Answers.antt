-- Each parent is found, by computing.
use Rattle.system_table.proofs.LawsOfTheTable.{parents}
use Rattle.system_table.proofs.laws.parents_stand_in_front.Goals as goal

pub returns : goal.returns
returns c = parents
