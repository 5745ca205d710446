-- What the classes from the next one upwards answer, the whole walk answers.
use Rattle.jk_model_classes.specs.Lookups.{RunsFor}
use Rattle.member_lookup.proofs.WalksUpwards.{IsLeft, height}
use Rattle.member_lookup.proofs.selection.first_runner.Given as goal

abbrev pub invariant-loop-next : goal.invariant-loop-next
invariant-loop-next l = IsLeft (RunsFor l.t l.method) l.t l.fn.receiver l.next

abbrev pub decreases-loop-next : goal.decreases-loop-next
decreases-loop-next l = height l.next
