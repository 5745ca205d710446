use Rattle.std.proofs.Common.{replicate}
use Rattle.shared_values.specs.Feeding.{Feeds}
use Rattle.shared_values.proofs.hashed_kinds.feed_dimensions.Given as goal

abbrev pub invariant-loop : goal.invariant-loop
invariant-loop l = Feeds l.initial.hasher l.hasher (replicate l.counter 91)
