-- What a step lets rise.
use Rattle.jk_model.specs.declared.identifiers.ThreadNo.{ThreadNo}
use Rattle.jk_kernel.proofs.NumbersLeft.{counts_of}
use Rattle.jk_kernel.proofs.kernel.Kernel.turn.Goals as goal

pub returns-in_err-_changed-clause-counts : goal.returns-in_err-_changed-clause-counts
returns-in_err-_changed-clause-counts g c =
    let t : ThreadNo = record { 0 = c.args.thread } in
    let event = c.step.ensures.event in
    counts_of c.args.self.now c.step.new.self 1 (c.numbers_rise.ensures.steps c.args.self.now c.step.new.self t event.0 event.2)

pub returns-clause-counts : goal.returns-clause-counts
returns-clause-counts g c =
    let t : ThreadNo = record { 0 = c.args.thread } in
    let event = c.step.ensures.event in
    counts_of c.args.self.now c.step.new.self 1 (c.numbers_rise.ensures.steps c.args.self.now c.step.new.self t event.0 event.2)
