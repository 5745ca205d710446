-- The line's label is met, and its instruction is written after those before it.
use Rattle.std.proofs.Common.{ap, subst, Err}
use Rattle.jk_model.specs.ClassFile.{AreBytes}
use Rattle.jkasm.proofs.FaultOfPools.{same_fault}
use Rattle.jkasm.proofs.MethodLineByLine.{codes_on, so_far_with_code, good_code, code_fault}
use Rattle.jkasm.proofs.method_builder.MethodBuilder.code_line.Goals as goal

pub returns-in_err-write_line-clause-fault : goal.returns-in_err-write_line-clause-fault
returns-in_err-write_line-clause-fault c = λ m later is e good fits.
    let line = c.args.line.now in
    let fault = same_fault c.from_residual-in_err-write_line.result c.in_err-write_line.field-0.0 c.from_residual-in_err-write_line.ensures.1 e in
    code_fault c.args.pool.now m line later c.args.self.now is
    (c.in_err-write_line.ensures.fault (codes_on m line later) is.labels (ap (λ x. Err x) fault)) good fits

pub returns-clause-built : goal.returns-clause-built
returns-clause-built c = λ m later is.
    let line = c.args.line.now in
    so_far_with_code c.args.pool.now c.write_line.new.pool m line later c.args.self.now c.meet_label.new.seen c.write_line.new.code is
    (c.in_ok-write_line.ensures.ok (codes_on m line later) is.labels is.short) (c.in_ok-meet_label.ensures.seen m.codes is.seen)
    (subst AreBytes c.as_slice.ensures c.are_bytes.ensures)

pub returns-clause-good : goal.returns-clause-good
returns-clause-good c = λ m later is.
    let line = c.args.line.now in
    good_code c.args.pool.now c.write_line.new.pool m line later c.args.self.now c.write_line.new.code is
    (c.in_ok-write_line.ensures.ok (codes_on m line later) is.labels is.short) (c.in_ok-meet_label.ensures.new m.codes is.seen)
