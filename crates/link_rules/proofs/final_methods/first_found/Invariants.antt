-- No method so far overrides a final one of the class above.
use Rattle.jk_model_classes.specs.Items.{HasItemBefore}
use Rattle.link_rules.specs.FinalMethods.{OverridesIn}
use Rattle.link_rules.proofs.final_methods.first_found.Given as goal

abbrev pub invariant-loop-i : goal.invariant-loop-i
invariant-loop-i l = HasItemBefore l.i (OverridesIn l.t l.class l.d) l.methods → ⊥
