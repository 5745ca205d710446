-- The sought class stands above the next one where it stands above this one.
use Rattle.std.proofs.Common.{sym, refl}
use Rattle.class_table.proofs.StepsUp.{step-jump, step-parent}
use Rattle.class_table.proofs.upwards.step_towards.Goals as goal

pub returns-then-jump-to : goal.returns-then-jump-to
returns-then-jump-to c =
    step-jump c.args.entries.now c.requires.table c.args.at c.args.to c.in_ok-entry.entry.now (sym c.in_ok-entry.ensures)
    c.requires.above c.if-jump-at.true c.if-jump-to.true

pub returns : goal.returns
returns c =
    let e = c.in_ok-entry.entry.now in
    step-parent c.args.entries.now c.requires.table c.args.at c.args.to e (sym c.in_ok-entry.ensures) c.requires.above e.class.parent refl
