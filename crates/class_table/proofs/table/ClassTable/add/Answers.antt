-- The new entry is right, and the others stay right.
use Rattle.std.proofs.Common.{◌≡◌, ◌+◌, ◌<◌, ◌^◌, ◌++◌, ◌∷◌, [], List, length, ap, sym, subst, ◌∙◌, arith}
use Rattle.jk_model_classes.specs.declared.records.ClassRecord.{ClassRecord}
use Rattle.jk_model_classes.specs.Classes.{StandsAbove}
use Rattle.class_table.specs.declared.entry.Entry.{Entry}
use Rattle.class_table.specs.Entries.{IsEntry, records}
use Rattle.class_table.proofs.EntriesAreRight.{length-records}
use Rattle.class_table.proofs.TableIsKept.{table-push}
use Rattle.class_table.proofs.table.ClassTable.add.Goals as goal

pub invariant_of-self-2 : goal.invariant_of-self-2
invariant_of-self-2 c =
    let entries = c.self.inside.entries.items in
    let e = c.in_ok-entry.entry in
    let same = c.in_ok-entry.ensures.of_class in
    let many : length c.args.self.now ≡ length entries = ap length (sym c.self.view_is) ∙ length-records entries in
    let above : StandsAbove (length entries) e.class = rw (same, ← many) c.requires.above in
    let few : length entries + 1 < 2 ^ 32 = omega (arith, many, c.requires.few) in
    let by_slice =
    subst (λ (xs : List Entry). IsEntry (records xs ++ c.args.c ∷ []) (record { 0 = length xs }) e) c.as_slice.ensures.value
    c.in_ok-entry.ensures.right in
    let right : IsEntry (records entries ++ e.class ∷ []) (record { 0 = length entries }) e
    = subst (λ (r : ClassRecord). IsEntry (records entries ++ r ∷ []) (record { 0 = length entries }) e) (sym same) by_slice in
    rw (c.in_ok-push.ensures.items) (table-push entries e c.self.invariant above few right)
