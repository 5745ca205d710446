use Rattle.std.proofs.Common.{◌++◌, append_assoc}
use Rattle.std.proofs.lemmas.List.{take-append-drop}
use Rattle.shared_values.proofs.FedInTurn.{feeds_both}
use Rattle.shared_values.proofs.hashed_units.feed_units.Goals as goal

-- the block goes from the front of what is left to the end of what is fed
pub loop-rest-preserved : goal.loop-rest-preserved
loop-rest-preserved c = (
  c.loop-rest.invariant.0 ++ c.split_at.result.0.now,
  rw (c.split_at.ensures.front, c.split_at.ensures.back, append_assoc, take-append-drop) c.loop-rest.invariant.1,
  feeds_both c.loop-rest.invariant.2 c.feed_block.ensures,
)
