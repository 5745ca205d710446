-- The class of a name is found at its own place.
use Rattle.system_table.proofs.LawsOfTheTable.{names_apart}
use Rattle.system_table.proofs.laws.names_differ.Goals as goal

pub returns : goal.returns
returns c = names_apart
