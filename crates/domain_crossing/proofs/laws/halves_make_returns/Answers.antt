-- By the lemmas on returns.
use Rattle.domain_crossing.proofs.HalvesTogether.{return_delivered, return_ended, return_raised}
use Rattle.domain_crossing.proofs.laws.halves_make_returns.Goals as goal

pub returns : goal.returns
returns c = record { delivered = return_delivered; ended = return_ended; raised = return_raised }
