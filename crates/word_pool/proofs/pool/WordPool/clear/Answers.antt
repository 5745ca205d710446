-- A turn of the loop clears one word more.
use Rattle.std.proofs.Common.{◌<◌, Some, suc, length, length-set, ap, ◌∙◌, arith}
use Rattle.word_pool.proofs.ClearedOneMore.{next}
use Rattle.word_pool.proofs.pool.WordPool.clear.Goals as goal

pub loop-at-preserved : goal.loop-at-preserved
loop-at-preserved c =
    let inv = c.loop-at.invariant in let old = c.self.inside.block.content in let now = c.loop-at.self-inside.block.content in let at = c.loop-at.at in
    let inside : at < length old = omega (arith, c.requires, ap length c.self.view_is, c.loop-at-test.true) in (
      omega (arith, c.loop-at-test.true),
      ap length c.put.ensures ∙ length-set now at (Some 0) ∙ inv.1,
      (suc inv.2.0, omega (arith, inv.2.1), next (Some 0) old now c.put.new.self.content c.args.from inv.2.0 at inv.2.1 inside inv.2.2 c.put.ensures),
    )
