use Rattle.std.proofs.Common.{◌≡◌, ℕ, List, ◌++◌, length}
use Rattle.shared_values.specs.Feeding.{Feeds}
use Rattle.shared_values.proofs.hashed_units.feed_units.Given as goal

abbrev pub invariant-loop-rest : goal.invariant-loop-rest
invariant-loop-rest l = (done : List ℕ) × (l.units ≡ done ++ l.rest) × Feeds l.initial.hasher l.hasher done

abbrev pub decreases-loop-rest : goal.decreases-loop-rest
decreases-loop-rest l = length l.rest
