-- What is listed stays.
use Rattle.number_table.proofs.EntriesListed.{same_listed}
use Rattle.number_table.proofs.EntriesOfANumber.{room_small}
use Rattle.number_table.proofs.table.NumberTable.reserve.Goals as goal

pub returns-clause-same : goal.returns-clause-same
returns-clause-same c = rw (← c.self.view_is) (same_listed c.self.inside.table c.reserve.new.self c.reserve.ensures.same)

pub returns-clause-few : goal.returns-clause-few
returns-clause-few c = room_small c.reserve.new.self
