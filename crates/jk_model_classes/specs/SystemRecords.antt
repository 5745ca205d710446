-- The records of the system classes, which stand in front of all others in the order of their table.
use Rattle.std.specs.Prelude.{◌≡◌, ℕ, ◌+◌, ◌<◌, ⊤, List, [], length, map, Option, Some, None, slice_get, option_map, codes, IsSomeAnd}
use Rattle.jk_model.specs.declared.descriptors.Base.{Base}
use Rattle.jk_model.specs.declared.descriptors.Base.TheVariants.{Byte, Char, Int, Long, Short, Bool as Boolean, Class}
use Rattle.jk_model.specs.declared.descriptors.FieldType.{FieldType}
use Rattle.jk_model.specs.declared.identifiers.ClassId.{ClassId}
use Rattle.jk_model.specs.Descriptors.{IsFieldText, IsMethodText}
use Rattle.jk_model.specs.SystemTable.{SystemClass, SystemField, SystemMethod, system_classes, number_named, parent_number, interface_numbers, method_number}
use Rattle.jk_model_classes.specs.declared.records.BaseRef.{BaseRef}
use Rattle.jk_model_classes.specs.declared.records.BaseRef.TheVariants as Ref
use Rattle.jk_model_classes.specs.declared.records.Body.TheVariants.{System}
use Rattle.jk_model_classes.specs.declared.records.Link.TheVariants.{Nothing}
use Rattle.jk_model_classes.specs.declared.records.ClassRecord.{ClassRecord}
use Rattle.jk_model_classes.specs.declared.records.FieldRecord.{FieldRecord}
use Rattle.jk_model_classes.specs.declared.records.MethodRecord.{MethodRecord}
use Rattle.jk_model_classes.specs.declared.records.TypeRef.{TypeRef}

-- ---- Types whose class names are resolved.

-- the class of a name, by a meaning of names
abbrev Meaning : Type 0
Meaning = List ℕ → Option ClassId

-- Float and double have no counterpart: class files that use them are refused before.
abbrev pub IsBaseFor : Meaning → Base → BaseRef → Type 0
IsBaseFor meaning Byte base = base ≡ Ref.Byte
IsBaseFor meaning Char base = base ≡ Ref.Char
IsBaseFor meaning Int base = base ≡ Ref.Int
IsBaseFor meaning Long base = base ≡ Ref.Long
IsBaseFor meaning Short base = base ≡ Ref.Short
IsBaseFor meaning Boolean base = base ≡ Ref.Bool
IsBaseFor meaning (Class name) base = (c : ClassId) × (meaning name ≡ Some c) × (base ≡ Ref.Class c)
IsBaseFor meaning _ base = ⊥

abbrev pub IsTypeFor : Meaning → FieldType → TypeRef → Type 0
IsTypeFor meaning t ref = (ref.dims ≡ t.dims) × IsBaseFor meaning t.base ref.base

pub record AreTypesFor (meaning : Meaning) (types : List FieldType) (refs : List TypeRef) : Type 0 where
  pub as_many : length refs ≡ length types
  pub each : (i : ℕ) (t : FieldType) (ref : TypeRef) → slice_get types i ≡ Some t → slice_get refs i ≡ Some ref → IsTypeFor meaning t ref

abbrev pub IsResultFor : Meaning → Option FieldType → Option TypeRef → Type 0
IsResultFor meaning None result = result ≡ None
IsResultFor meaning (Some t) result = (ref : TypeRef) × (result ≡ Some ref) × IsTypeFor meaning t ref

-- ---- The records.

-- the system class of a name
abbrev pub system_meaning : List ℕ → Option ClassId
system_meaning name = option_map (λ n. record { 0 = n }) (number_named name)

pub record IsSystemField (entry : SystemField) (field : FieldRecord) : Type 0 where
  pub name : field.name ≡ entry.name
  pub flags : field.flags ≡ entry.flags
  pub type : FieldType
  pub text : IsFieldText entry.descriptor type
  pub kind : IsTypeFor system_meaning type field.kind
  pub constant : field.constant ≡ Nothing

-- the method of the table with this number
pub record IsSystemMethodAt (number : ℕ) (entry : SystemMethod) (method : MethodRecord) : Type 0 where
  pub name : method.name ≡ entry.name
  pub flags : method.flags ≡ entry.flags
  pub text : IsMethodText entry.descriptor method.kind
  pub params : AreTypesFor system_meaning method.kind.params method.params
  pub result : IsResultFor system_meaning method.kind.result method.result
  pub body : method.body ≡ System number

-- the class at place n of the table
pub record IsSystemRecord (n : ℕ) (entry : SystemClass) (r : ClassRecord) : Type 0 where
  pub name : r.name ≡ entry.name
  pub home : r.home ≡ None
  pub flags : r.flags ≡ entry.flags
  pub parent : option_map (λ (c : ClassId). c.0) r.parent ≡ parent_number entry
  pub interfaces : map (λ (c : ClassId). Some c.0) r.interfaces ≡ interface_numbers entry
  pub field_count : length r.fields ≡ length entry.fields
  pub fields : (i : ℕ) (e : SystemField) (field : FieldRecord) → slice_get entry.fields i ≡ Some e → slice_get r.fields i ≡ Some field
      → IsSystemField e field
  pub method_count : length r.methods ≡ length entry.methods
  pub methods : (i : ℕ) (e : SystemMethod) (method : MethodRecord) → slice_get entry.methods i ≡ Some e → slice_get r.methods i ≡ Some method
      → IsSystemMethodAt (method_number n i) e method
  pub links : r.links ≡ []
  pub references : r.references ≡ []

pub record AreSystemRecords (classes : List ClassRecord) : Type 0 where
  pub as_many : length classes ≡ length system_classes
  pub each : (n : ℕ) (entry : SystemClass) (r : ClassRecord) → slice_get system_classes n ≡ Some entry → slice_get classes n ≡ Some r
      → IsSystemRecord n entry r
