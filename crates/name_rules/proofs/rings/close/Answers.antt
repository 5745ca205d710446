-- One place more to go through.
use Rattle.std.proofs.Common.{arith}
use Rattle.name_rules.proofs.PathsThroughPlaces.{closed_all, closed_more, closed_none}
use Rattle.name_rules.proofs.rings.close.Goals as goal

pub loop-k-init : goal.loop-k-init
loop-k-init c = closed_none c.args.rows.now c.requires

pub loop-k-preserved : goal.loop-k-preserved
loop-k-preserved c = closed_more c.loop-k.k c.args.rows.now c.loop-k.rows c.join_all.new.rows c.loop-k.invariant c.join_all.ensures

pub returns : goal.returns
returns c = closed_all c.loop-k.k c.args.rows.now c.loop-k.rows c.requires (omega arith) c.loop-k.invariant
