-- The parts of a switch stand one after the other.
use Rattle.std.proofs.lemmas.Result.{on_ok_weaker}
use Rattle.jkasm.proofs.SwitchIsWritten.{switch_in_turn}
use Rattle.jkasm.proofs.code_writer.append_switch.Goals as goal

pub returns-clause-written : goal.returns-clause-written
returns-clause-written c = λ codes h.
    on_ok_weaker c.append_cases.result
    (switch_in_turn codes _ c.len-at.result c.args.default.now c.args.cases.now c.args.code.now c.push.new.self c.append_gap.new.code
    c.append_offset.new.code c.append_u4.new.out c.append_cases.new.code c.len-at.ensures c.in_ok-push.ensures.ok c.in_ok-append_gap.ensures
    (c.in_ok-append_offset.ensures.written codes h) c.in_ok-append_u4.ensures)
    (c.append_cases.ensures.written codes h)

pub returns-clause-stand : goal.returns-clause-stand
returns-clause-stand c = λ codes h.
    on_ok_weaker c.append_cases.result (λ stand. (c.in_ok-append_offset.ensures.stands codes h, stand)) (c.append_cases.ensures.stand codes h)
