-- The types of the members of system classes are those that a reader of descriptors reads in the system table.
use Rattle.std.specs.Prelude.{◌≡◌, List, length, take, Some, slice_get}
use Rattle.jk_model.specs.declared.identifiers.MemberId.{MemberId}
use Rattle.jk_model.specs.SystemTable.{SystemClass, SystemField, SystemMethod, system_classes}
use Rattle.jk_model_classes.specs.declared.records.ClassRecord.{ClassRecord}
use Rattle.jk_model_classes.specs.declared.records.FieldRecord.{FieldRecord}
use Rattle.jk_model_classes.specs.declared.records.MethodRecord.{MethodRecord}
use Rattle.jk_model_classes.specs.Lookups.{FieldIs, MethodIs}
use Rattle.jk_model_classes.specs.SystemRecords.{AreSystemRecords}
use Rattle.system_facts.specs.DescriptorReader.{field_kind, method_types}

-- the system classes stand in front of all classes
abbrev pub HaveSystemClasses : List ClassRecord → Type 0
HaveSystemClasses classes = AreSystemRecords (take (length system_classes) classes)

abbrev pub FieldsAreRead : Type 0
FieldsAreRead =
    (classes : List ClassRecord) (m : MemberId) (class : SystemClass) (entry : SystemField) (field : FieldRecord) → HaveSystemClasses classes
    → slice_get system_classes m.class.0 ≡ Some class → slice_get class.fields m.index ≡ Some entry → FieldIs classes m field
    → field_kind entry.descriptor ≡ Some field.kind

abbrev pub MethodsAreRead : Type 0
MethodsAreRead =
    (classes : List ClassRecord) (m : MemberId) (class : SystemClass) (entry : SystemMethod) (method : MethodRecord) → HaveSystemClasses classes
    → slice_get system_classes m.class.0 ≡ Some class → slice_get class.methods m.index ≡ Some entry → MethodIs classes m method
    → method_types entry.descriptor ≡ Some (record { params = method.params; result = method.result })
