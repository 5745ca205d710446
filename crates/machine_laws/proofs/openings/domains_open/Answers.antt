-- By the lemmas on openings.
use Rattle.machine_laws.proofs.OpeningsSealed.{opening_sealed}
use Rattle.machine_laws.proofs.OpeningsThere.{opening_there}
use Rattle.machine_laws.proofs.openings.domains_open.Goals as goal

pub returns-clause-there : goal.returns-clause-there
returns-clause-there c = λ classes table quota codes sound room. opening_there classes table quota codes room

pub returns-clause-sealed : goal.returns-clause-sealed
returns-clause-sealed c = λ around quota inside codes sound opening. opening_sealed around quota inside codes sound opening
