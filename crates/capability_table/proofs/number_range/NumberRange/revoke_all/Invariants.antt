-- The creations up to the index are revoked.
use Rattle.std.proofs.Common.{◌≡◌, ◌++◌, map, take, drop}
use Rattle.jk_model.specs.Capabilities.{revoked_creation}
use Rattle.capability_table.proofs.number_range.NumberRange.revoke_all.Given as goal

abbrev pub invariant-loop-capability : goal.invariant-loop-capability
invariant-loop-capability l =
    l.capability-items ≡ map revoked_creation (take l.capability-index l.initial.capability-items) ++ drop l.capability-index l.initial.capability-items
