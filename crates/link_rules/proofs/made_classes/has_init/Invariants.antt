-- No method so far is a constructor.
use Rattle.jk_model_classes.specs.Items.{HasItemBefore}
use Rattle.link_rules.proofs.ClosedClasses.{IsInit}
use Rattle.link_rules.proofs.made_classes.has_init.Given as goal

abbrev pub invariant-loop-i : goal.invariant-loop-i
invariant-loop-i l = HasItemBefore l.i IsInit l.methods → ⊥
