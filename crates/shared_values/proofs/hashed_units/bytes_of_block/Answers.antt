use Rattle.std.proofs.Common.{arith}
use Rattle.std.proofs.lemmas.List.{length-set}
use Rattle.shared_values.proofs.BytesOfUnits.{bytes_more}
use Rattle.shared_values.proofs.hashed_units.bytes_of_block.Goals as goal

-- the two bytes of a unit stand after those of the units before it
pub loop-i-preserved : goal.loop-i-preserved
loop-i-preserved c = (
  simp length-set c.loop-i.invariant.0,
  bytes_more _ _ _ c.to_be_bytes.result c.loop-i-test.true (omega arith) c.loop-i.invariant.1 c.to_be_bytes.ensures,
)
