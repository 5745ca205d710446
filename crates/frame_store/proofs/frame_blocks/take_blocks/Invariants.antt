-- So many blocks are taken, and so many locals are left to be unset; the lowest block stays the lowest.
use Rattle.std.proofs.Common.{◌≡◌, ◌-◌, ◌*◌}
use Rattle.number_table.specs.ChainMoves.{place}
use Rattle.frame_store.specs.FrameBlocks.{TakesBlocks}
use Rattle.frame_store.proofs.frame_blocks.take_blocks.Given as goal

abbrev pub invariant-loop : goal.invariant-loop
invariant-loop l =
    TakesBlocks l.fn.parts l.parts l.fn.values.items l.values.items l.last l.frame l.counter l.locals
    × (l.left ≡ l.locals - 20 * l.counter) × (l.lowest ≡ place l.parts l.frame 0)
