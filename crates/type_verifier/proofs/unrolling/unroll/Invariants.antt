-- The places so far are unrolled.
use Rattle.std.proofs.Common.{◌≡◌, length}
use Rattle.type_verifier.proofs.UnrolledSoFar.{IsUnrolled}
use Rattle.type_verifier.proofs.unrolling.unroll.Given as goal

abbrev pub invariant-loop-place : goal.invariant-loop-place
invariant-loop-place l = record { as_many : length l.typed ≡ l.place; unrolled : IsUnrolled l.fn.task l.fn.frames l.typed l.line }
