-- The entry on top is compared with null.
use Rattle.number_ops.proofs.jumps.take_null.Goals as goal

pub pop-v-requires : goal.pop-v-requires
pop-v-requires g c = c.requires

pub returns : goal.returns
returns g c = (c.pop-v.result, c.is_same_reference.ensures, c.pop-v.ensures)
