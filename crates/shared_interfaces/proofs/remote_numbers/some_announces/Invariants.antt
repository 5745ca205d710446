-- No throwable so far announces those of a remote call.
use Rattle.jk_model_classes.specs.Items.{HasItemBefore}
use Rattle.jk_model_classes.specs.SharedRules.{AnnouncesRemote}
use Rattle.shared_interfaces.proofs.remote_numbers.some_announces.Given as goal

abbrev pub invariant-loop-c : goal.invariant-loop-c
invariant-loop-c l = HasItemBefore l.c-index AnnouncesRemote l.thrown → ⊥
