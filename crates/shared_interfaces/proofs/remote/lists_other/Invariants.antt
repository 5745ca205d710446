-- Each interface so far is jk/Remote or below it.
use Rattle.jk_model_classes.specs.Items.{HasItemBefore}
use Rattle.jk_model_classes.specs.Stubs.{ImplementsRemote}
use Rattle.shared_interfaces.proofs.remote.lists_other.Given as goal

abbrev pub invariant-loop-i : goal.invariant-loop-i
invariant-loop-i l = HasItemBefore l.i-index (λ i. ImplementsRemote l.classes i → ⊥) l.interfaces → ⊥
