-- One argument fewer each time.
use Rattle.domain_crossing.proofs.arguments.+carry.Given as goal

abbrev pub decreases-carry : goal.decreases-carry
decreases-carry g l = l.count
