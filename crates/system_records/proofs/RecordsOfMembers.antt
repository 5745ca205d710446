-- The parts of a member's record are those of the table's member.
use Rattle.std.proofs.Common.{◌≡◌, ℕ, List, refl, sym, subst}
use Rattle.std.specs.List.{AllZip}
use Rattle.std.proofs.lemmas.Slice.Zip.{AllZip-long}
use Rattle.list_lemmas.proofs.ItemByItem.{zip_at}
use Rattle.jk_model.specs.Descriptors.{IsFieldText, IsMethodText}
use Rattle.jk_model.specs.SystemTable.{SystemField, SystemMethod}
use Rattle.jk_model.specs.declared.descriptors.FieldType.{FieldType}
use Rattle.jk_model.specs.declared.descriptors.MethodType.{MethodType}
use Rattle.jk_model_classes.specs.SystemRecords.{AreTypesFor, IsResultFor, IsTypeFor, IsSystemField, IsSystemMethodAt}
use Rattle.jk_model_classes.specs.declared.records.Body.TheVariants.{System}
use Rattle.jk_model_classes.specs.declared.records.Link.TheVariants.{Nothing}
use Rattle.jk_model_classes.specs.declared.records.MethodRecord.{MethodRecord}
use Rattle.jk_model_classes.specs.declared.records.TypeRef.{TypeRef}
use Rattle.system_records.specs.KnownTypes.{class_called}
use Rattle.system_records.proofs.ClassesByName.{called_is_meaning}

pub field_made : (e : SystemField) (name : List ℕ) (type : FieldType) (kind : TypeRef) → name ≡ e.name → IsFieldText e.descriptor type
    → IsTypeFor class_called type kind → IsSystemField e (record { name = name; flags = e.flags; kind = kind; constant = Nothing })
field_made e name type kind named text is = record {
  name = named;
  flags = refl;
  type = type;
  text = text;
  kind = subst (λ meaning. IsTypeFor meaning type kind) called_is_meaning is;
  constant = refl;
}

types_for : (types : List FieldType) (refs : List TypeRef) → AllZip (IsTypeFor class_called) types refs → AreTypesFor class_called types refs
types_for types refs h = record {
  as_many = AllZip-long (IsTypeFor class_called) types refs h;
  each = zip_at (IsTypeFor class_called) types refs h;
}

-- what is made of each part of a method, by its type and the types of its parameters with numbers of classes
pub record PartsAre (number : ℕ) (e : SystemMethod) (type : MethodType) (refs : List TypeRef) (r : MethodRecord) : Type 0 where
  pub name : r.name ≡ e.name
  pub flags : r.flags ≡ e.flags
  pub text : IsMethodText e.descriptor type
  pub kind : r.kind ≡ type
  pub types : AllZip (IsTypeFor class_called) type.params refs
  pub params : r.params ≡ refs
  pub result : IsResultFor class_called type.result r.result
  pub body : r.body ≡ System number

pub method_made : (number : ℕ) (e : SystemMethod) (type : MethodType) (refs : List TypeRef) (r : MethodRecord) → PartsAre number e type refs r
    → IsSystemMethodAt number e r
method_made number e type refs r parts =
    let back : type ≡ r.kind = sym parts.kind in
    let shared : AreTypesFor class_called type.params r.params =
    subst (λ ps. AreTypesFor class_called type.params ps) (sym parts.params) (types_for type.params refs parts.types) in
    let params : AreTypesFor class_called r.kind.params r.params = subst (λ (k : MethodType). AreTypesFor class_called k.params r.params) back shared in
    let result : IsResultFor class_called r.kind.result r.result =
    subst (λ (k : MethodType). IsResultFor class_called k.result r.result) back parts.result in
    record {
      name = parts.name;
      flags = parts.flags;
      text = subst (λ k. IsMethodText e.descriptor k) back parts.text;
      params = subst (λ meaning. AreTypesFor meaning r.kind.params r.params) called_is_meaning params;
      result = subst (λ meaning. IsResultFor meaning r.kind.result r.result) called_is_meaning result;
      body = parts.body;
    }
