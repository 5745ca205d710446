-- No method so far has a typing that would be too large.
use Rattle.jk_model_classes.specs.Items.{HasItemBefore}
use Rattle.placed_rules.specs.Codes.{IsOver}
use Rattle.placed_rules.proofs.sizes.first_over.Given as goal

abbrev pub invariant-loop-i : goal.invariant-loop-i
invariant-loop-i l = HasItemBefore l.i IsOver l.methods → ⊥
