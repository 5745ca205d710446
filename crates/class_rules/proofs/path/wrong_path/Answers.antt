-- The class has the name that was found, or none.
use Rattle.std.proofs.Common.{◌∙◌}
use Rattle.class_rules.proofs.NameOfThePath.{no_name, right_where, wrong_where}
use Rattle.class_rules.proofs.path.wrong_path.Goals as goal

pub returns-in_default : goal.returns-in_default
returns-in_default c =
    no_name c.args.c.now c.args.path.now c.as_slice.result.now c.as_slice.ensures (rw c.in_default.is at c.in_ok-name.ensures)

pub returns-then-may_stand : goal.returns-then-may_stand
returns-then-may_stand c =
    right_where c.args.c.now c.args.path.now c.as_slice.result.now c.in-Some.name c.as_slice-3.result.now c.as_slice-2.result.now
    c.as_slice.ensures (rw c.in-Some.is at c.in_ok-name.ensures) (c.as_slice-2.ensures ∙ c.in_ok-path.ensures) c.as_slice-3.ensures
    (rw c.if-may_stand.true at c.may_stand.ensures)

pub returns : goal.returns
returns c =
    wrong_where c.args.c.now c.args.path.now c.as_slice.result.now c.in-Some.name c.as_slice-3.result.now c.as_slice-2.result.now
    c.as_slice.ensures (rw c.in-Some.is at c.in_ok-name.ensures) (c.as_slice-2.ensures ∙ c.in_ok-path.ensures) c.as_slice-3.ensures
    (rw c.if-may_stand.false at c.may_stand.ensures)
