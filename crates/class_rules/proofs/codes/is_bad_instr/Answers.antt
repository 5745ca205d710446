-- What leads nowhere else and names the entry that it needs is bad by what is left.
use Rattle.list_lemmas.proofs.AnswersTold.{not_so as is_not}
use Rattle.class_rules.proofs.CodeIsJudged.{out_is_bad, entry_is_bad, misuse_is_bad}
use Rattle.class_rules.proofs.codes.is_bad_instr.Goals as goal

pub returns-then-leads_out : goal.returns-then-leads_out
returns-then-leads_out c =
    out_is_bad c.args.pool.now.entries.now c.args.code.now c.args.places.now c.args.instr.now c.requires.places (c.leads_out.ensures.0 c.if-leads_out.true)

pub returns-then-has_bad_entry : goal.returns-then-has_bad_entry
returns-then-has_bad_entry c =
    entry_is_bad c.args.pool.now.entries.now c.args.code.now c.args.instr.now (c.has_bad_entry.ensures.0 c.if-has_bad_entry.true)

pub returns : goal.returns
returns c =
    misuse_is_bad c.is_misuse.result c.args.pool.now.entries.now c.args.code.now c.args.places.now c.args.instr.now c.requires.places
    (is_not c.leads_out.result _ c.leads_out.ensures c.if-leads_out.false)
    (is_not c.has_bad_entry.result _ c.has_bad_entry.ensures c.if-has_bad_entry.false) c.is_misuse.ensures
