-- For worked examples: records of the system classes with their fields, each of which stands for a text here, and without interfaces and
-- methods.
use Rattle.std.specs.Prelude.{ℕ, List, [], map, None, option_map}
use Rattle.jk_model.specs.declared.identifiers.ClassId.{ClassId}
use Rattle.jk_model.specs.SystemTable.{SystemClass, SystemField, parent_number, system_classes}
use Rattle.jk_model_classes.specs.declared.records.ClassRecord.{ClassRecord}
use Rattle.jk_model_classes.specs.declared.records.FieldRecord.{FieldRecord}
use Rattle.jk_model_classes.specs.declared.records.Link.TheVariants as To
use Rattle.jk_model_typing.specs.FrameTypes.{STRING}
use Rattle.jk_model_domains.specs.Objects.{class_type}

abbrev field_in : SystemField → FieldRecord
field_in e = record { name = e.name; flags = e.flags; kind = class_type STRING; constant = To.Nothing }

abbrev class_numbered : ℕ → ClassId
class_numbered n = record { 0 = n }

abbrev record_in : SystemClass → ClassRecord
record_in e = record {
  name = e.name;
  home = None;
  flags = e.flags;
  parent = option_map class_numbered (parent_number e);
  interfaces = [];
  fields = map field_in e.fields;
  methods = [];
  links = [];
  references = [];
}

abbrev pub system_records : List ClassRecord
system_records = map record_in system_classes
