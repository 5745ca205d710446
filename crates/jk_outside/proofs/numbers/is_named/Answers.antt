use Rattle.jk_outside.specs.Counts.{is_named}
use Rattle.jk_outside.proofs.numbers.is_named.Goals as goal

pub returns : goal.returns
unfolding is_named
returns c = c.contains.ensures.value
