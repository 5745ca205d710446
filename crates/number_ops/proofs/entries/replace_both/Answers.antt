-- The store exchanges both at once.
use Rattle.number_ops.proofs.BothOnTop.{both_replaced, both_there}
use Rattle.number_ops.proofs.entries.replace_both.Goals as goal

pub exchange-requires-clause-there : goal.exchange-requires-clause-there
exchange-requires-clause-there g c = both_there _ _ _ _ c.requires.2

pub returns : goal.returns
returns g c = λ v w on. both_replaced _ _ v w on _ c.args.u c.exchange.ensures
