-- The stubs are the known ones still.
use Rattle.std.proofs.Common.{◌≡◌}
use Rattle.thread_check.specs.KnownStubs.{known_stubs}
use Rattle.thread_check.proofs.playing.play.Given as goal

abbrev pub invariant-loop-i : goal.invariant-loop-i
invariant-loop-i g l = l.shared.stubs ≡ known_stubs
