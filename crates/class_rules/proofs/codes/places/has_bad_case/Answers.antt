-- One is found, or none is so.
use Rattle.std.proofs.Common.{arith}
use Rattle.jk_model.specs.declared.instructions.SwitchCase.{SwitchCase}
use Rattle.class_lemmas.proofs.SomeItem.{none_yet}
use Rattle.class_rules.specs.Codes.{HasPlace}
use Rattle.class_rules.proofs.SomeItem.{none_more_copied, is_found_copied, is_missed}
use Rattle.class_rules.proofs.codes.places.has_bad_case.Goals as goal

pub loop-case-init : goal.loop-case-init
loop-case-init c = none_yet (λ (s : SwitchCase). HasPlace c.args.places.now s.target → ⊥) c.args.cases.now

pub loop-case-preserved : goal.loop-case-preserved
loop-case-preserved c =
    none_more_copied (λ (s : SwitchCase). HasPlace c.args.places.now s.target → ⊥) c.args.cases.now c.loop-case.case-index _ c.loop-case-test.true
    (λ none. none (c.is_good_case.ensures.0 c.if-not-is_good_case.false)) c.loop-case.invariant

pub returns-then-not-is_good_case : goal.returns-then-not-is_good_case
returns-then-not-is_good_case c =
    is_found_copied (λ (s : SwitchCase). HasPlace c.args.places.now s.target → ⊥) c.args.cases.now c.loop-case.case-index _ c.loop-case-test.true
    (λ good. let t = c.is_good_case.ensures.1 good in absurd cc)

pub returns : goal.returns
returns c = is_missed (λ (s : SwitchCase). HasPlace c.args.places.now s.target → ⊥) c.args.cases.now c.loop-case.case-index (omega arith) c.loop-case.invariant
