-- By the lemmas on searches of lists.
use Rattle.std.specs.Prelude.{IsTrue}
use Rattle.decided_lookups.proofs.DecidedParts.{true_decided}
use Rattle.decided_lookups.proofs.ListsSearched.{first_or_none, longest_front}
use Rattle.decided_lookups.proofs.laws.searches_end.Goals as goal

pub returns-clause-handlers : goal.returns-clause-handlers
returns-clause-handlers g = λ test handlers. first_or_none (λ h. IsTrue (test h)) (λ h. true_decided (test h)) handlers

pub returns-clause-fronts : goal.returns-clause-fronts
returns-clause-fronts g = λ test values. longest_front (λ v. IsTrue (test v)) (λ v. true_decided (test v)) values
