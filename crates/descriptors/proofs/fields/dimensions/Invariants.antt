-- As many brackets stand in front as were counted.
use Rattle.std.proofs.Common.{◌≡◌, ◌≤◌, take, replicate}
use Rattle.descriptors.proofs.fields.dimensions.Given as goal

abbrev pub invariant-loop-unit : goal.invariant-loop-unit
invariant-loop-unit l = (l.dims ≡ l.unit-index) × (l.dims ≤ 255) × (take l.unit-index l.units ≡ replicate l.unit-index 91)
