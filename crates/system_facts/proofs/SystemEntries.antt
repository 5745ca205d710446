-- The record of a system class, and those of its members, by the entries of the table.
use Rattle.std.proofs.Common.{◌≡◌, List, length, Some, slice_get, ◌∙◌}
use Rattle.std.proofs.lemmas.Option.{slice_get_within}
use Rattle.jk_model.specs.declared.identifiers.ClassId.{ClassId}
use Rattle.jk_model.specs.declared.identifiers.MemberId.{MemberId}
use Rattle.jk_model.specs.SystemTable.{SystemClass, SystemField, SystemMethod, method_number, system_classes}
use Rattle.jk_model_classes.specs.declared.records.ClassRecord.{ClassRecord}
use Rattle.jk_model_classes.specs.declared.records.FieldRecord.{FieldRecord}
use Rattle.jk_model_classes.specs.declared.records.MethodRecord.{MethodRecord}
use Rattle.jk_model_classes.specs.Classes.{record_of}
use Rattle.jk_model_classes.specs.Lookups.{FieldIs, MethodIs}
use Rattle.jk_model_classes.specs.SystemRecords.{IsSystemField, IsSystemMethodAt, IsSystemRecord}
use Rattle.list_lemmas.proofs.ItemsByPlace.{slice_get-take}
use Rattle.system_facts.specs.DescriptorReader.{field_kind, method_types}
use Rattle.system_facts.specs.SystemTypes.{HaveSystemClasses}
use Rattle.system_facts.proofs.TypesRead.{field_kind-read, method_types-read}

module _ (classes : List ClassRecord) (system : HaveSystemClasses classes) where
  pub entry_of : (c : ClassId) (entry : SystemClass) (r : ClassRecord) → slice_get system_classes c.0 ≡ Some entry → record_of classes c ≡ Some r
      → IsSystemRecord c.0 entry r
  entry_of c entry r listed is =
      system.each c.0 entry r listed (slice_get-take classes (length system_classes) c.0 (slice_get_within system_classes c.0 entry listed) ∙ is)

  pub field_entry : (m : MemberId) (class : SystemClass) (entry : SystemField) (field : FieldRecord) → slice_get system_classes m.class.0 ≡ Some class
      → slice_get class.fields m.index ≡ Some entry → FieldIs classes m field → IsSystemField entry field
  field_entry m class entry field listed has (r, is, at) = (entry_of m.class class r listed is).fields m.index entry field has at

  pub method_entry : (m : MemberId) (class : SystemClass) (entry : SystemMethod) (method : MethodRecord)
      → slice_get system_classes m.class.0 ≡ Some class → slice_get class.methods m.index ≡ Some entry → MethodIs classes m method
      → IsSystemMethodAt (method_number m.class.0 m.index) entry method
  method_entry m class entry method listed has (r, is, at) = (entry_of m.class class r listed is).methods m.index entry method has at

  pub field_is_read : (m : MemberId) (class : SystemClass) (entry : SystemField) (field : FieldRecord)
      → slice_get system_classes m.class.0 ≡ Some class → slice_get class.fields m.index ≡ Some entry → FieldIs classes m field
      → field_kind entry.descriptor ≡ Some field.kind
  field_is_read m class entry field listed has is =
      let said = field_entry m class entry field listed has is in
      field_kind-read entry.descriptor said.type field.kind said.text said.kind

  pub method_is_read : (m : MemberId) (class : SystemClass) (entry : SystemMethod) (method : MethodRecord)
      → slice_get system_classes m.class.0 ≡ Some class → slice_get class.methods m.index ≡ Some entry → MethodIs classes m method
      → method_types entry.descriptor ≡ Some (record { params = method.params; result = method.result })
  method_is_read m class entry method listed has is =
      let said = method_entry m class entry method listed has is in
      method_types-read entry.descriptor method.kind method.params method.result said.text said.params said.result
