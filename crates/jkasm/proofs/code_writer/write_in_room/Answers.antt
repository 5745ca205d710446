-- Jumps and switches are written as they should be.
use Rattle.std.proofs.Common.{Result, Ok, Err}
use Rattle.std.specs.Prelude.{OnOk}
use Rattle.std.proofs.lemmas.Result.{on_ok_weaker}
use Rattle.jkasm.proofs.JumpsInReach.{writes_jump}
use Rattle.jkasm.proofs.SwitchIsWritten.{writes_switch, cases_stand}
use Rattle.jkasm.proofs.code_writer.write_in_room.Goals as goal

-- what follows from two clauses on the same result
both_ok : {T E P Q R : Type 0} (r : Result T E) → (P → Q → R) → OnOk r P → OnOk r Q → OnOk r R
both_ok (Ok x) f p q = f p q
both_ok (Err e) f p q = tt

pub returns-in-Jump-clause-ok : goal.returns-in-Jump-clause-ok
returns-in-Jump-clause-ok c =
    let room = rw c.in-Jump.is at c.requires.room in
    λ codes h. rw c.in-Jump.is (on_ok_weaker c.append_jump.result
    (writes_jump codes c.args.pool.now c.args.code.now c.append_jump.new.code c.in-Jump.op c.in-Jump.label room)
    (rw c.as_slice.ensures at (c.append_jump.ensures.written codes h)))

pub returns-in-Switch-clause-ok : goal.returns-in-Switch-clause-ok
returns-in-Switch-clause-ok c =
    let room = rw c.in-Switch.is at c.requires.room in
    let default_is = c.as_slice-in-Switch.ensures in
    let cases_are = c.as_slice-in-Switch-2.ensures in
    λ codes h. rw c.in-Switch.is (both_ok c.append_switch.result
    (λ bytes stand. writes_switch codes c.args.pool.now c.args.code.now c.append_switch.new.code c.in-Switch.default c.in-Switch.cases room
    bytes stand.0 stand.1)
    (rw (default_is, cases_are) at (c.append_switch.ensures.written codes h)) (rw (default_is, cases_are) at (c.append_switch.ensures.stand codes h)))

pub returns-in-Switch-clause-fault : goal.returns-in-Switch-clause-fault
returns-in-Switch-clause-fault c =
    let default_is = c.as_slice-in-Switch.ensures in
    let cases_are = c.as_slice-in-Switch-2.ensures in
    λ codes h failed stand _ _ _ _ _.
    let names = rw c.in-Switch.is at stand in
    c.append_switch.ensures.fault codes h failed (rw default_is names.0) (rw cases_are (cases_stand codes c.in-Switch.cases names.1))
