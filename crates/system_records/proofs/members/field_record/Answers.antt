-- Each part of the record is that of the field.
use Rattle.system_table.specs.Entry.{field_of}
use Rattle.system_records.proofs.RecordsOfMembers.{field_made}
use Rattle.system_records.proofs.members.field_record.Goals as goal

pub returns : goal.returns
returns c =
    field_made (field_of c.args.field) c.in_ok-name.name c.in_ok-kind.kind c.type_ref.result c.in_ok-name.ensures c.in_ok-kind.ensures.text
    c.type_ref.ensures
