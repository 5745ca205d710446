-- The level that is pushed has no entry.
use Rattle.std.proofs.Common.{map}
use Rattle.handler_cover.proofs.LevelsHalve.{bare_more_in}
use Rattle.handler_cover.proofs.tree.CoverTree.bare.Goals as goal

pub loop-whole-preserved : goal.loop-whole-preserved
loop-whole-preserved c =
    bare_more_in (λ level. map (λ node. node.items) level.items) c.loop-whole.levels.items c.push.new.self.items c.in_ok-bare_level.field-0
    c.args.places c.loop-whole.whole c.loop-whole.width c.in_ok-push.ensures.items c.in_ok-bare_level.ensures c.loop-whole.invariant
