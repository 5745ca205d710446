-- No method so far overrides a final one of the folder's classes.
use Rattle.jk_model_classes.specs.Items.{HasItemBefore}
use Rattle.link_rules.specs.FinalMethods.{IsInside, OverridesWhere}
use Rattle.link_rules.proofs.folder_finals.first_inside.Given as goal

abbrev pub invariant-loop-i : goal.invariant-loop-i
invariant-loop-i l = HasItemBefore l.i (OverridesWhere (IsInside l.above.first) l.above.t.now l.above.class) l.methods → ⊥
