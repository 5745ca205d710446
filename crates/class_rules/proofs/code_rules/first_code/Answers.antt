-- The first is found, or there is none.
use Rattle.std.proofs.Common.{◌≡◌, true, false, Option, sym, ◌∙◌, arith}
use Rattle.std.specs.Prelude.{IsTrue}
use Rattle.class_lemmas.proofs.SomeItem.{none_yet}
use Rattle.class_rules.specs.CodeRules.{breaks}
use Rattle.class_rules.specs.declared.codes.CodeJudgment.{CodeJudgment}
use Rattle.class_rules.proofs.SomeItem.{none_more_copied, is_first_copied, is_nowhere}
use Rattle.class_rules.proofs.code_rules.first_code.Goals as goal

pub loop-i-init : goal.loop-i-init
loop-i-init c = none_yet (λ (j : Option CodeJudgment). IsTrue (breaks c.args.rule j)) c.args.judged.now

pub loop-i-preserved : goal.loop-i-preserved
loop-i-preserved c =
    none_more_copied (λ (j : Option CodeJudgment). IsTrue (breaks c.args.rule j)) c.args.judged.now c.loop-i.i _ c.loop-i-test.true
    (λ p. let never : true ≡ false = sym p ∙ sym c.breaks.ensures ∙ c.if-breaks.false in absurd cc) c.loop-i.invariant

pub returns-then-breaks : goal.returns-then-breaks
returns-then-breaks c = record {
  least = is_first_copied (λ (j : Option CodeJudgment). IsTrue (breaks c.args.rule j)) c.args.judged.now c.loop-i.i _ c.loop-i-test.true
      (sym c.breaks.ensures ∙ c.if-breaks.true) c.loop-i.invariant;
  within = c.loop-i-test.true;
}

pub returns : goal.returns
returns c = record {
  least = is_nowhere (λ (j : Option CodeJudgment). IsTrue (breaks c.args.rule j)) c.args.judged.now c.loop-i.i (omega arith) c.loop-i.invariant;
  within = tt;
}
