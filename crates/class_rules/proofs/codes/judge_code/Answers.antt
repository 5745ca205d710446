-- A code has one reading, or one error refuses it.
use Rattle.class_rules.proofs.CodeIsJudged.{reading_of, refusal_of, error_is_judged}
use Rattle.class_rules.proofs.codes.judge_code.Goals as goal

pub judge_instrs-requires : goal.judge_instrs-requires
judge_instrs-requires c = record {
  known = c.requires.known;
  reading = reading_of c.args.code.now c.as_slice.result.now c.as_slice-in-Ok.result.now c.in-Ok.instrs c.as_slice.ensures c.as_slice-in-Ok.ensures
      c.in-Ok.ensures.read c.in-Ok.ensures.only c.in-Ok.ensures.only_fault c.in-Ok.ensures.only_cut;
}

pub returns-in-Err : goal.returns-in-Err
returns-in-Err c =
    error_is_judged c.args.pool.now.entries.now c.args.arguments c.args.code.now c.in-Err.e c.has_few_locals.result c.judge_error.result
    (refusal_of c.args.code.now c.as_slice.result.now c.in-Err.e c.as_slice.ensures c.in-Err.ensures.only c.in-Err.ensures.fault c.in-Err.ensures.only_fault
    c.in-Err.ensures.cut c.in-Err.ensures.only_cut)
    c.has_few_locals.ensures c.judge_error.ensures.judgment c.judge_error.ensures.memory

pub returns-in-Ok : goal.returns-in-Ok
returns-in-Ok c = c.judge_instrs.ensures
