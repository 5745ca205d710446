-- One instruction more has marked what it asks for; at the end all have.
use Rattle.std.proofs.Common.{length, refl, arith}
use Rattle.std.proofs.lemmas.Option.{slice_get_read}
use Rattle.type_verifier.specs.Marks.{IsInstrMarked}
use Rattle.type_verifier.proofs.MarksKept.{instr_kept, marks_more, marks_all}
use Rattle.type_verifier.proofs.leading.mark_instrs.Goals as goal

pub loop-place-preserved : goal.loop-place-preserved
loop-place-preserved c =
    let instrs = c.args.instrs.now in
    let at = slice_get_read instrs (length instrs) c.loop-place.place c.index-instrs-place.result refl c.loop-place-test.true c.index-instrs-place.is in
    marks_more IsInstrMarked instr_kept instrs c.loop-place.place c.args.leads.now c.loop-place.leads c.mark_instr.new.leads c.index-instrs-place.result at
    c.loop-place.invariant c.mark_instr.ensures.kept c.mark_instr.ensures.marked

pub returns-clause-marked : goal.returns-clause-marked
returns-clause-marked c = λ place i at.
    marks_all IsInstrMarked instr_kept c.args.instrs.now c.loop-place.place c.args.leads.now c.loop-place.leads (omega arith) c.loop-place.invariant place i at
