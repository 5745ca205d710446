-- Each interface is found, by computing.
use Rattle.system_table.proofs.LawsOfTheTable.{interfaces}
use Rattle.system_table.proofs.laws.interfaces_stand_in_front.Goals as goal

pub returns : goal.returns
returns c = interfaces
