-- As many as were made so far.
use Rattle.std.proofs.Common.{◌≡◌, length}
use Rattle.type_verifier.proofs.verifying.no_ranges.Given as goal

abbrev pub invariant-loop-place : goal.invariant-loop-place
invariant-loop-place l = length l.ranges.items ≡ l._place
