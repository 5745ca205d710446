-- Each class so far goes along with each offer.
use Rattle.jk_model_classes.specs.Items.{HasItemBefore}
use Rattle.shared_interfaces.specs.Shapes.{StaysBehind}
use Rattle.shared_interfaces.proofs.references.exposes_any.Given as goal

abbrev pub invariant-loop-c : goal.invariant-loop-c
invariant-loop-c l = HasItemBefore l.c-index (StaysBehind l.w l.home l.offers l.start l.end) l.references → ⊥
