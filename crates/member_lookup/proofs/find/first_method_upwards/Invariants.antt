-- What the classes from the next one upwards answer, the whole walk answers.
use Rattle.jk_model_classes.specs.Lookups.{IsMethodOf}
use Rattle.member_lookup.proofs.WalksUpwards.{IsLeft, height}
use Rattle.member_lookup.proofs.find.first_method_upwards.Given as goal

abbrev pub invariant-loop-next : goal.invariant-loop-next
invariant-loop-next l = IsLeft (IsMethodOf l.t l.key.name l.key.kind) l.t l.fn.c l.next

abbrev pub decreases-loop-next : goal.decreases-loop-next
decreases-loop-next l = height l.next
