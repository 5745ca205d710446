-- The store takes both at once.
use Rattle.number_ops.proofs.BothOnTop.{both_taken, both_there}
use Rattle.number_ops.proofs.entries.take_both.Goals as goal

pub drop_entries-requires : goal.drop_entries-requires
drop_entries-requires g c = both_there _ _ _ _ c.requires.2

pub returns : goal.returns
returns g c = λ v w on. both_taken _ _ v w on _ c.drop_entries.ensures
