-- One class gets other links, and all entries stay right.
use Rattle.std.proofs.Common.{◌≡◌, ◌<◌, List, Some, length, set, slice_get, subst, refl}
use Rattle.std.proofs.lemmas.Option.{slice_get_read}
use Rattle.jk_model_classes.specs.declared.records.ClassRecord.{ClassRecord}
use Rattle.jk_model_classes.specs.Classes.{GetsLinks}
use Rattle.class_table.specs.Entries.{records}
use Rattle.class_table.proofs.EntriesAreRight.{length-records}
use Rattle.class_table.proofs.TableIsKept.{linked, table-linked, gets_links}
use Rattle.class_table.proofs.table.ClassTable.set_links.Goals as goal

pub invariant_of-self : goal.invariant_of-self
invariant_of-self c =
    let entries = c.self.inside.entries.items in
    let e = c.index_mut-entry.result.now in
    let within : c.args.c.0 < length entries = rw (← (length-records entries), c.self.view_is) c.requires in
    let at : slice_get entries c.args.c.0 ≡ Some e = slice_get_read entries (length entries) c.args.c.0 e refl within c.index_mut-entry.ensures.value in
    table-linked entries c.args.c e c.args.links at c.self.invariant

pub returns : goal.returns
returns c =
    let entries = c.self.inside.entries.items in
    let e = c.index_mut-entry.result.now in
    let within : c.args.c.0 < length entries = rw (← (length-records entries), c.self.view_is) c.requires in
    let at : slice_get entries c.args.c.0 ≡ Some e = slice_get_read entries (length entries) c.args.c.0 e refl within c.index_mut-entry.ensures.value in
    let new : List ClassRecord = records (set entries c.args.c.0 (linked e c.args.links)) in
    subst (λ (old : List ClassRecord). GetsLinks old c.args.c c.args.links new) c.self.view_is (gets_links entries c.args.c e c.args.links at)
