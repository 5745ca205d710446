-- By the lemmas on what is raised.
use Rattle.machine_laws.proofs.RaisesSealed.{raised_sealed, raises_answered}
use Rattle.machine_laws.proofs.crossings.raises_stay_sealed.Goals as goal

pub returns : goal.returns
returns c = record { sealed = raised_sealed; answered = λ m new t r n lines h raises. raises_answered m t r n lines new h raises }
