-- One more case.
use Rattle.std.proofs.Common.{arith}
use Rattle.std.proofs.lemmas.Option.{slice_get-get_or}
use Rattle.list_lemmas.proofs.ItemByItem.{zip_more}
use Rattle.jk_model_folders.specs.LinkedClasses.{IsCaseFor}
use Rattle.class_linker.proofs.ItemByItem.{along_all}
use Rattle.class_linker.proofs.code.linked_cases.Goals as goal

pub linked_case-requires-clause-leads : goal.linked_case-requires-clause-leads
linked_case-requires-clause-leads c =
    c.requires.leads c.loop-case.case-index _ (slice_get-get_or c.args.cases.now c.loop-case.case-index _ (omega arith))

pub loop-case-preserved : goal.loop-case-preserved
loop-case-preserved c =
    zip_more (IsCaseFor c.args.instrs.now) c.args.cases.now c.loop-case.linked _ c.loop-case.case-index _ c.linked_case.result (omega arith)
    c.loop-case.invariant c.linked_case.ensures c.in_ok-push.ensures.ok

pub returns : goal.returns
returns c =
    along_all (IsCaseFor c.args.instrs.now) c.args.cases.now c.loop-case.linked c.loop-case.case-index (omega arith) c.loop-case.invariant
