-- The first field of a buffer, and of a throwable, is a text.
use Rattle.std.proofs.Common.{◌≡◌, ℕ, ◌+◌, List, [], ◌∷◌, Option, Some, None, slice_get, refl, sym, subst, ◌∙◌, arith}
use Rattle.std.specs.Prelude.{option_and_then}
use Rattle.std.specs.List.{AllZip}
use Rattle.std.proofs.lemmas.Option.{same_Some}
use Rattle.jk_model.specs.SystemTable.{SystemClass, SystemField, system_classes}
use Rattle.jk_model.specs.declared.identifiers.ClassId.{ClassId}
use Rattle.jk_model.specs.declared.identifiers.MemberId.{MemberId}
use Rattle.jk_model_classes.specs.declared.records.ClassRecord.{ClassRecord}
use Rattle.jk_model_classes.specs.declared.records.FieldRecord.{FieldRecord}
use Rattle.jk_model_classes.specs.declared.records.TypeRef.{TypeRef}
use Rattle.jk_model_classes.specs.Classes.{IsSubclass}
use Rattle.jk_model_classes.specs.Layouts.{InstanceField, instance_fields}
use Rattle.jk_model_classes.specs.Lookups.{FieldIs}
use Rattle.jk_model_typing.specs.FrameTypes.{STRING, THROWABLE}
use Rattle.jk_model_domains.specs.Objects.{class_type}
use Rattle.jk_model_heaps.specs.Heaps.{IsFieldWith, field_records}
use Rattle.jk_model_heaps.specs.SystemClasses.{STRING_BUFFER, STRING_BUILDER}
use Rattle.jk_model_heaps.proofs.FieldsInOrder.{fields_have_records}
use Rattle.heap_laws.specs.SoundCodes.{AreSoundCodes}
use Rattle.system_facts.specs.DescriptorReader.{field_kind}
use Rattle.system_facts.specs.SystemLayouts.{class_at, text_field}
use Rattle.system_facts.proofs.FieldsListed.{fields_listed, message_first}
use Rattle.system_facts.proofs.SystemEntries.{field_is_read}

-- the fields of objects of the class, of which the first is a text
pub record BeginsWithText (classes : List ClassRecord) (c : ClassId) : Type 0 where
  pub field : FieldRecord
  pub others : List FieldRecord
  pub records : field_records classes c ≡ field ∷ others
  pub kind : field.kind ≡ class_type STRING

-- the type of the first field that the table lists
abbrev first_kind : Option SystemClass → Option TypeRef
first_kind o =
    option_and_then (λ (class : SystemClass). option_and_then (λ (e : SystemField). field_kind e.descriptor) (slice_get class.fields 0)) o

module _ (classes : List ClassRecord) (sound : AreSoundCodes classes) where
  abbrev first_of : ℕ → MemberId
  first_of k = record { class = class_at k; index = 0 }

  kind_in : (k : ℕ) (f : FieldRecord) (class : SystemClass) → slice_get system_classes k ≡ Some class → (o : Option SystemField)
      → slice_get class.fields 0 ≡ o → option_and_then (λ (e : SystemField). field_kind e.descriptor) o ≡ Some (class_type STRING)
      → FieldIs classes (first_of k) f → f.kind ≡ class_type STRING
  kind_in k f class at None has kind is = absurd cc
  kind_in k f class at (Some entry) has kind is =
      same_Some f.kind (class_type STRING) (sym (field_is_read classes sound.system (first_of k) class entry f at has is) ∙ kind)

  kind_by : (k : ℕ) (f : FieldRecord) (o : Option SystemClass) → slice_get system_classes k ≡ o → first_kind o ≡ Some (class_type STRING)
      → FieldIs classes (first_of k) f → f.kind ≡ class_type STRING
  kind_by k f None at kind is = absurd cc
  kind_by k f (Some class) at kind is = kind_in k f class at (slice_get class.fields 0) refl kind is

  zipped : (k : ℕ) (more : List InstanceField) (fs : List FieldRecord) → AllZip (IsFieldWith classes) (text_field k ∷ more) fs
      → (f : FieldRecord) × (rest : List FieldRecord) × (fs ≡ f ∷ rest) × FieldIs classes (first_of k) f
  zipped k more [] h = absurd h
  zipped k more (f ∷ rest) h = (f, rest, refl, h.0.0)

  begins_by : (k : ℕ) (c : ClassId) (more : List InstanceField) → instance_fields classes c ≡ text_field k ∷ more
      → first_kind (slice_get system_classes k) ≡ Some (class_type STRING) → BeginsWithText classes c
  begins_by k c more fields kind =
      let zip = subst (λ (gs : List InstanceField). AllZip (IsFieldWith classes) gs (field_records classes c)) fields
      (fields_have_records classes (c.0 + 1) c) in
      let z = zipped k more (field_records classes c) zip in
      record { field = z.0; others = z.1; records = z.2; kind = kind_by k z.0 (slice_get system_classes k) refl kind z.3 }

  pub throwable_begins : (c : ClassId) → IsSubclass classes c THROWABLE → BeginsWithText classes c
  throwable_begins c below =
      let message = message_first classes sound.ordered sound.system c THROWABLE refl below in
      begins_by 9 c message.0 message.1 refl

  pub buffer_begins : BeginsWithText classes STRING_BUFFER
  buffer_begins = begins_by 4 STRING_BUFFER [] (fields_listed classes sound.ordered sound.system STRING_BUFFER (omega arith)) refl

  pub builder_begins : BeginsWithText classes STRING_BUILDER
  builder_begins = begins_by 5 STRING_BUILDER [] (fields_listed classes sound.ordered sound.system STRING_BUILDER (omega arith)) refl
