-- The local is there, and its value is pushed.
use Rattle.number_ops.proofs.LocalsUsed.{has_local, loaded, within}
use Rattle.number_ops.proofs.locals.load.Goals as goal

pub local_of-requires : goal.local_of-requires
local_of-requires g c = (c.requires.finds.0, c.requires.finds.2, within _ _ _ _ _ c.requires.finds.3 c.requires.most)

pub local-v-requires : goal.local-v-requires
local-v-requires g c = has_local _ _ c.args.i.now.a _ _ _ c.requires.finds.3 c.requires.finds.2 c.local_of.ensures

pub push-requires : goal.push-requires
push-requires g c = c.requires.finds.4

pub returns : goal.returns
returns g c = loaded _ _ _ c.args.i.now c.local_of.result _ c.requires.op c.local_of.ensures c.local-v.ensures c.push.ensures
