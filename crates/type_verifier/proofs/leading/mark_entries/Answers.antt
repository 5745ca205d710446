-- One catch entry more has marked what it asks for; at the end all have.
use Rattle.std.proofs.Common.{◌∙◌, Some, ap, arith}
use Rattle.std.proofs.lemmas.Option.{slice_get-get_or}
use Rattle.type_verifier.proofs.MarksKept.{EntryMarked, entry_kept_at, marks_more, marks_all}
use Rattle.type_verifier.proofs.leading.mark_entries.Goals as goal

pub loop-h-preserved : goal.loop-h-preserved
loop-h-preserved c =
    marks_more EntryMarked entry_kept_at c.args.handlers.now c.loop-h.h-index c.args.leads.now c.loop-h.leads c.mark_entry.new.leads _
    (slice_get-get_or c.args.handlers.now c.loop-h.h-index _ c.loop-h-test.true) c.loop-h.invariant c.mark_entry.ensures.kept
    c.mark_entry.ensures.marked

pub returns-clause-marked : goal.returns-clause-marked
returns-clause-marked c = λ h (k, within, is).
    marks_all EntryMarked entry_kept_at c.args.handlers.now c.loop-h.h-index c.args.leads.now c.loop-h.leads (omega arith) c.loop-h.invariant k h
    (slice_get-get_or c.args.handlers.now k h within ∙ ap Some is)
