-- No method so far has the flag.
use Rattle.jk_model_classes.specs.Items.{HasItemBefore}
use Rattle.class_rules.specs.FlagRules.{HasFlagged}
use Rattle.class_rules.proofs.flag_rules.first_flagged.Given as goal

abbrev pub invariant-loop-i : goal.invariant-loop-i
invariant-loop-i l = HasItemBefore l.i (HasFlagged l.pool.entries.now l.flag.0) l.methods → ⊥
