-- One is found, or none is so.
use Rattle.std.proofs.Common.{arith}
use Rattle.jk_model.specs.declared.class_file.Handler.{Handler}
use Rattle.jk_model_classes.specs.MemberCode.{IsGoodHandler}
use Rattle.class_lemmas.proofs.SomeItem.{none_yet}
use Rattle.class_rules.proofs.SomeItem.{none_more_copied, is_found_copied, is_missed}
use Rattle.class_rules.proofs.codes.has_bad_handler.Goals as goal

pub loop-h-init : goal.loop-h-init
loop-h-init c = none_yet (λ (h : Handler). IsGoodHandler c.args.pool.now.entries.now c.args.code.now h → ⊥) c.args.handlers.now

pub loop-h-preserved : goal.loop-h-preserved
loop-h-preserved c =
    none_more_copied (λ (h : Handler). IsGoodHandler c.args.pool.now.entries.now c.args.code.now h → ⊥)
    c.args.handlers.now c.loop-h.h-index _ c.loop-h-test.true
    (λ none. none (c.is_good_handler.ensures.0 c.if-not-is_good_handler.false)) c.loop-h.invariant

pub returns-then-not-is_good_handler : goal.returns-then-not-is_good_handler
returns-then-not-is_good_handler c =
    is_found_copied (λ (h : Handler). IsGoodHandler c.args.pool.now.entries.now c.args.code.now h → ⊥) c.args.handlers.now c.loop-h.h-index _ c.loop-h-test.true
    (λ good. let t = c.is_good_handler.ensures.1 good in absurd cc)

pub returns : goal.returns
returns c =
    is_missed (λ (h : Handler). IsGoodHandler c.args.pool.now.entries.now c.args.code.now h → ⊥)
    c.args.handlers.now c.loop-h.h-index (omega arith) c.loop-h.invariant
