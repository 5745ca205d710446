-- The bytes of one more case are put after the others, and its label stands too.
use Rattle.std.proofs.Common.{rules, w32}
use Rattle.std.proofs.lemmas.Int.{to_z-of_z}
use mir.Val.{SFits}
use Rattle.jkasm.proofs.SwitchIsWritten.{IsCaseAt, case_in_turn, stands_too}
use Rattle.jkasm.proofs.code_writer.append_cases.Goals as goal

pub loop-case-preserved : goal.loop-case-preserved
loop-case-preserved c =
    let cases = c.args.cases.now in
    let i = c.loop-case.case-index in
    let case = c.case-item.result in
    let here : IsCaseAt cases i case = record { within = c.loop-case-test.true; is = c.case-item.is } in
    let fits : SFits w32 c.case-item.result.key = search rules in
    let key = rw (c.cast_unsigned.ensures, to_z-of_z w32 c.case-item.result.key fits) at c.in_ok-append_u4.ensures in
    record {
      bytes = λ codes h. case_in_turn codes c.args.at cases i case c.args.code.now c.loop-case.code c.append_u4.new.out c.append_offset.new.code here
          (c.loop-case.invariant.bytes codes h) key (rw c.as_slice.ensures at (c.in_ok-append_offset.ensures.written codes h));
      stand = λ codes h. stands_too codes cases i case here (c.loop-case.invariant.stand codes h)
          (rw c.as_slice.ensures at (c.in_ok-append_offset.ensures.stands codes h));
    }
