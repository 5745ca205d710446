-- The best so far is the fault of the first file whose class was asked and breaks the rule.
use Rattle.placed_rules.specs.FirstFiles.{IsFirstFault}
use Rattle.placed_rules.proofs.by_file.first_broken.Given as goal

abbrev pub invariant-loop-place : goal.invariant-loop-place
invariant-loop-place g l = IsFirstFault l.fn.rule l.place l.order (g.R.ClassRule.breaks l.judged) l.best
