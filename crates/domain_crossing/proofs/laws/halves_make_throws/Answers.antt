-- By the lemmas on throwables.
use Rattle.domain_crossing.proofs.HalvesTogether.{throw_delivered, throw_ended, throw_raised}
use Rattle.domain_crossing.proofs.laws.halves_make_throws.Goals as goal

pub returns : goal.returns
returns c = record { delivered = throw_delivered; ended = throw_ended; raised = throw_raised }
