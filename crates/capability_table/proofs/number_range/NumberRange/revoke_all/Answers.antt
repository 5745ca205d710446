-- A turn of the loop revokes one creation more.
use Rattle.std.proofs.Common.{arith}
use Rattle.std.proofs.lemmas.List.Edits.{map_over_more}
use Rattle.jk_model.specs.Capabilities.{revoked_creation}
use Rattle.capability_table.proofs.number_range.NumberRange.revoke_all.Goals as goal

pub loop-capability-preserved : goal.loop-capability-preserved
loop-capability-preserved c =
    rw (c.revoke.ensures, ← c.capability-item.is)
    (map_over_more revoked_creation c.deref_mut-capability-items.result.now c.loop-capability.capability-items
    c.loop-capability.capability-index c.capability-item.result (omega (arith, c.loop-capability-test.true))
    c.loop-capability.invariant c.capability-item.is)
