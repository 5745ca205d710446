-- One block more is taken.
use Rattle.std.proofs.Common.{◌∙◌, arith, ap, sym}
use Rattle.number_table.specs.ChainMoves.{place}
use Rattle.frame_store.proofs.FrameValues.{none_taken, one_taken, lowest_stays}
use Rattle.frame_store.proofs.frame_blocks.take_blocks.Goals as goal

pub loop-init : goal.loop-init
loop-init c =
    let none = none_taken _ _ _ _ c.args.locals c.requires.bare in (
      one_taken _ _ _ _ _ _ _ _ _ _ _ _ c.requires.there c.requires.frame none c.move_top-lowest.ensures.moves c.clear.ensures
          (λ k low within. omega arith),
      omega arith,
      sym c.move_top-lowest.ensures.moves.lands ∙ ap (place c.move_top-lowest.new.self c.args.frame) c.requires.bare,
    )

pub loop-preserved : goal.loop-preserved
loop-preserved c = (
  one_taken _ _ _ _ _ _ _ _ _ _ _ _ c.requires.there c.requires.frame c.loop.invariant.0 c.move_top-block.ensures.moves c.clear-in-loop.ensures
      (λ k low within. omega (arith, c.loop.invariant.1)),
  omega (arith, c.loop.invariant.1),
  c.loop.invariant.2
      ∙ sym (lowest_stays _ _ _ _ _ _ _ _ _ c.requires.there c.requires.frame c.loop.invariant.0 c.move_top-block.ensures.moves (omega arith)),
)
