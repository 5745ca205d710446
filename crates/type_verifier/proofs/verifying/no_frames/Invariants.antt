-- As many as were made so far.
use Rattle.std.proofs.Common.{◌≡◌, replicate, None}
use Rattle.type_verifier.proofs.verifying.no_frames.Given as goal

abbrev pub invariant-loop-place : goal.invariant-loop-place
invariant-loop-place l = l.frames.items ≡ replicate l._place None
