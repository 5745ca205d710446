-- The record is that of the table's class.
use Rattle.std.proofs.Common.{refl}
use Rattle.system_records.proofs.RecordOfAClass.{PartsAre, entry_fields, entry_methods, class_made, class_above, class_few}
use Rattle.system_records.proofs.records.system_record.Goals as goal

pub field_records-requires : goal.field_records-requires
field_records-requires c = entry_fields c.args.n c.system_class-class.result c.system_class-class.ensures

pub method_records-requires : goal.method_records-requires
method_records-requires c = entry_methods c.args.n c.system_class-class.result c.system_class-class.ensures

pub returns : goal.returns
returns c =
    let class = c.system_class-class.result in
    let entry = c.system_class-class.ensures in
    let parts : PartsAre class _ = record {
      name = c.in_ok-name.ensures;
      home = refl;
      flags = refl;
      parent = c.optional_class_id.ensures;
      interfaces = c.in_ok-interfaces.ensures;
      fields = c.in_ok-fields.ensures;
      methods = c.in_ok-methods.ensures;
      links = c.new.ensures;
      references = c.new-2.ensures;
    } in
    record {
      record_is = class_made c.args.n class _ entry parts;
      above = class_above c.args.n class _ entry parts;
      few = class_few c.args.n class _ entry parts;
    }
