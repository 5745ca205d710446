-- No code so far breaks the rule.
use Rattle.std.proofs.Common.{Option}
use Rattle.std.specs.Prelude.{IsTrue}
use Rattle.jk_model_classes.specs.Items.{HasItemBefore}
use Rattle.class_rules.specs.CodeRules.{breaks}
use Rattle.class_rules.specs.declared.codes.CodeJudgment.{CodeJudgment}
use Rattle.class_rules.proofs.code_rules.first_code.Given as goal

abbrev pub invariant-loop-i : goal.invariant-loop-i
invariant-loop-i l = HasItemBefore l.i (λ (j : Option CodeJudgment). IsTrue (breaks l.rule j)) l.judged → ⊥
