-- One stays behind, or none does.
use Rattle.std.proofs.Common.{arith}
use Rattle.std.proofs.lemmas.Option.{slice_get-get_or}
use Rattle.list_lemmas.proofs.AnswersTold.{not_so}
use Rattle.shared_interfaces.specs.Shapes.{StaysBehind}
use Rattle.shared_interfaces.proofs.WalksOverItems.{found, missed, none_here}
use Rattle.shared_interfaces.proofs.references.exposes_any.Goals as goal

pub returns-then-stays_behind : goal.returns-then-stays_behind
returns-then-stays_behind c =
    found (StaysBehind c.args.w.now c.args.home c.args.offers.now c.args.start c.args.end) c.args.references.now c.loop-c.c-index _
    (slice_get-get_or c.args.references.now c.loop-c.c-index _ (omega arith)) (c.stays_behind.ensures.0 c.if-stays_behind.true)

pub loop-c-preserved : goal.loop-c-preserved
loop-c-preserved c =
    none_here (StaysBehind c.args.w.now c.args.home c.args.offers.now c.args.start c.args.end) c.args.references.now c.loop-c.c-index _
    (slice_get-get_or c.args.references.now c.loop-c.c-index _ (omega arith))
    (not_so c.stays_behind.result _ c.stays_behind.ensures c.if-stays_behind.false) c.loop-c.invariant

pub returns : goal.returns
returns c =
    missed (StaysBehind c.args.w.now c.args.home c.args.offers.now c.args.start c.args.end) c.args.references.now c.loop-c.c-index (omega arith)
    c.loop-c.invariant
