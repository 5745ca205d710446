-- No handler so far is bad.
use Rattle.jk_model.specs.declared.class_file.Handler.{Handler}
use Rattle.jk_model_classes.specs.Items.{HasItemBefore}
use Rattle.jk_model_classes.specs.MemberCode.{IsGoodHandler}
use Rattle.class_rules.proofs.codes.has_bad_handler.Given as goal

abbrev pub invariant-loop-h : goal.invariant-loop-h
invariant-loop-h l = HasItemBefore l.h-index (λ (h : Handler). IsGoodHandler l.pool.entries.now l.code h → ⊥) l.handlers → ⊥
