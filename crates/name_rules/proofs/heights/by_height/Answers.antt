-- All heights are gone through.
use Rattle.std.proofs.Common.{arith}
use Rattle.name_rules.proofs.PlacesInOrder.{order_of}
use Rattle.name_rules.proofs.heights.by_height.Goals as goal

pub returns : goal.returns
returns c = order_of c.args.heights.now c.loop-height.height c.loop-height.order.items (omega arith) c.requires c.loop-height.invariant
