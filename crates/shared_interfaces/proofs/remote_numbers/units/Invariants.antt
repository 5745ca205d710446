-- The units so far are the bytes.
use Rattle.std.proofs.Common.{◌≡◌, ℕ, ◌<◌, length, get_or}
use Rattle.shared_interfaces.proofs.remote_numbers.units.Given as goal

abbrev pub invariant-loop-i : goal.invariant-loop-i
invariant-loop-i g l = (length l.units ≡ length l.text) × ((k : ℕ) → k < l.i → get_or l.units k 0 ≡ get_or l.text k 0)
