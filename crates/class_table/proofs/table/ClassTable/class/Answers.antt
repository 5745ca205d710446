-- The record of the class's entry.
use Rattle.std.proofs.Common.{◌≡◌, List, None, Some, slice_get, ap, sym, ◌∙◌}
use Rattle.std.specs.Borrow.{Bor}
use Rattle.std.specs.Slice.{IsItemAt}
use Rattle.jk_model_classes.specs.declared.records.ClassRecord.{ClassRecord}
use Rattle.class_table.specs.declared.entry.Entry.{Entry}
use Rattle.class_table.specs.Entries.{records}
use Rattle.class_table.proofs.EntriesAreRight.{record-at}
use Rattle.class_table.proofs.ReadingIsRight.{no_record}
use Rattle.class_table.proofs.TableIsKept.{item-none, item-some}
use Rattle.class_table.proofs.table.ClassTable.class.Goals as goal

pub returns-in_err-entry : goal.returns-in_err-entry
returns-in_err-entry c =
    let entries = c.self.inside.entries.items in
    let none : slice_get entries c.args.c.0 ≡ None
    = ap (λ (xs : List Entry). slice_get xs c.args.c.0) (sym c.as_slice.ensures.value) ∙ sym c.in_err-entry.ensures in
    let item : IsItemAt c.args.self.now c.args.c.0 None = rw (← c.self.view_is) (item-none (records entries) c.args.c.0 (no_record entries c.args.c none)) in
    rw (c.from_residual.ensures) item

pub returns : goal.returns
returns c =
    let entries = c.self.inside.entries.items in
    let e = c.in_ok-entry.entry.now in
    let at : slice_get entries c.args.c.0 ≡ Some e
    = ap (λ (xs : List Entry). slice_get xs c.args.c.0) (sym c.as_slice.ensures.value) ∙ sym c.in_ok-entry.ensures in
    let r : Bor ClassRecord = record { ref_ptr = c.in_ok-entry.entry.ref_ptr; now = e.class } in
    rw (← c.self.view_is) (item-some (records entries) c.args.c.0 r (record-at entries c.args.c e at))
