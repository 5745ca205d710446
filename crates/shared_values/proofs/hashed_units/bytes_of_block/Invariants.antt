use Rattle.std.proofs.Common.{◌≡◌, ◌*◌, length, take}
use Rattle.shared_values.specs.Fingerprints.{unit_bytes}
use Rattle.shared_values.proofs.hashed_units.bytes_of_block.Given as goal

abbrev pub invariant-loop-i : goal.invariant-loop-i
invariant-loop-i l = (length l.bytes ≡ 64) × (take (2 * l.i) l.bytes ≡ unit_bytes (take l.i l.units))
