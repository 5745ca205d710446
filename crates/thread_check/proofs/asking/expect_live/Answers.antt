-- The lists say that it lives.
use Rattle.thread_check.proofs.ToldByParts.{live_told}
use Rattle.thread_check.proofs.asking.expect_live.Goals as goal

pub returns : goal.returns
returns c =
    live_told c.args.shared.now c.in_ok-parts.parts c.in_ok-parts.ensures c.is_sound.ensures.numbered c.args.d
    (c.is_live.ensures c.if-not-is_live.false)
