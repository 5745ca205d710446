-- The records stand behind all others.
use Rattle.placed_rules.proofs.PlacedFolders.{linked_of, recorded_of}
use Rattle.placed_rules.proofs.laws.placed_folders_are_judged.Goals as goal

pub returns-clause-recorded : goal.returns-clause-recorded
returns-clause-recorded c = λ w lines cs names p h. recorded_of w lines cs names p h

pub returns-clause-linked : goal.returns-clause-linked
returns-clause-linked c = λ w lines cs names p h. linked_of w lines cs names p h
