-- A line without a label adds none to those that were met.
use Rattle.jkasm.proofs.LabelsInTurn.{seen_unlabelled}
use Rattle.jkasm.proofs.method_builder.meet_label.Goals as goal

pub returns-in-None-clause-seen : goal.returns-in-None-clause-seen
returns-in-None-clause-seen c = λ codes are. seen_unlabelled codes c.args.line.now c.args.seen.now are c.in-None.is
