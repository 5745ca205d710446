-- What is known of the classes that were judged holds.
use Rattle.link_rules.specs.FolderFinals.{AreJudged}
use Rattle.link_rules.proofs.folder_finals.numbers_from.Given as goal

abbrev pub invariant-loop-i : goal.invariant-loop-i
invariant-loop-i l = AreJudged l.t l.first l.spans.items l.met l.numbers.items
