-- Each class of a table has at most 65,535 fields and as many methods.
use Rattle.std.proofs.Common.{◌≡◌, ◌<◌, ◌≤◌, ◌∙◌, List, length, Some, slice_get, subst, sym}
use Rattle.std.proofs.lemmas.Option.{same_Some, slice_get_within}
use Rattle.jk_model.specs.declared.identifiers.ClassId.{ClassId}
use Rattle.jk_model_classes.specs.declared.records.ClassRecord.{ClassRecord}
use Rattle.jk_model_classes.specs.Classes.{record_of}
use Rattle.class_table.specs.declared.entry.Entry.{Entry}
use Rattle.class_table.specs.Entries.{IsTable, records}
use Rattle.class_table.proofs.EntriesAreRight.{entry-exists, length-records, record-at}

pub few_members : (entries : List Entry) → IsTable entries → (c : ClassId) (r : ClassRecord) → record_of (records entries) c ≡ Some r
    → (length r.fields ≤ 65535) × (length r.methods ≤ 65535)
few_members entries t c r e =
    let found = entry-exists entries c (subst (λ n. c.0 < n) (length-records entries) (slice_get_within (records entries) c.0 r e)) in
    let same : found.0.class ≡ r = same_Some found.0.class r (sym (record-at entries c found.0 found.1) ∙ e) in
    let few = t.right c.0 found.0 found.1 in
    subst (λ (x : ClassRecord). (length x.fields ≤ 65535) × (length x.methods ≤ 65535)) same (few.few_fields, few.few_methods)
