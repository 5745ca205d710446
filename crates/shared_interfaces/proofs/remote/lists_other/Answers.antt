-- One is no remote interface, or all are.
use Rattle.std.proofs.Common.{arith}
use Rattle.std.proofs.lemmas.Option.{slice_get-get_or}
use Rattle.list_lemmas.proofs.AnswersTold.{not_so}
use Rattle.jk_model_classes.specs.Stubs.{ImplementsRemote}
use Rattle.shared_interfaces.proofs.WalksOverItems.{found, missed, none_here}
use Rattle.shared_interfaces.proofs.remote.lists_other.Goals as goal

pub returns-then-not-is_remote : goal.returns-then-not-is_remote
returns-then-not-is_remote c =
    found (λ i. ImplementsRemote c.args.classes.now i → ⊥) c.args.interfaces.now c.loop-i.i-index _
    (slice_get-get_or c.args.interfaces.now c.loop-i.i-index _ (omega arith))
    (not_so c.is_remote.result _ c.is_remote.ensures c.if-not-is_remote.true)

pub loop-i-preserved : goal.loop-i-preserved
loop-i-preserved c =
    none_here (λ i. ImplementsRemote c.args.classes.now i → ⊥) c.args.interfaces.now c.loop-i.i-index _
    (slice_get-get_or c.args.interfaces.now c.loop-i.i-index _ (omega arith))
    (λ never. never (c.is_remote.ensures.0 c.if-not-is_remote.false)) c.loop-i.invariant

pub returns : goal.returns
returns c =
    missed (λ i. ImplementsRemote c.args.classes.now i → ⊥) c.args.interfaces.now c.loop-i.i-index (omega arith) c.loop-i.invariant
