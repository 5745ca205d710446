-- The topmost slots were copied.
use Rattle.type_rows.specs.CodeViews.{scope_of}
use Rattle.type_rows.proofs.RowsAreDone.{copied_so}
use Rattle.type_rows.proofs.entries.copy.Goals as goal

pub returns-in_ok-copy_top-in-Some : goal.returns-in_ok-copy_top-in-Some
returns-in_ok-copy_top-in-Some c =
    λ place.
    copied_so (scope_of c.args.view.now) place c.args.frame.now c.args.skipped c.args.copied _ _ c.copy_top.new.stack _ c.requires
    (rw c.as_slice.ensures at c.in-Some.ensures.some) c.in_ok-copy_top-in-Some.ensures
    (rw c.as_slice-in-Some.ensures at c.is_stack_of.ensures)
