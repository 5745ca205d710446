-- A class of the new list stood before, or a file of the folder tells it; so do its fields and methods. No file breaks a rule.
use Rattle.std.proofs.Common.{◌≡◌, ℕ, ◌+◌, ◌-◌, ◌≤◌, ◌⊎◌, inl, inr, List, length, Some, slice_get, refl, sym, ap, ◌∙◌, arith}
use Rattle.std.proofs.lemmas.Bool.{cases_lt}
use Rattle.std.proofs.lemmas.Option.{slice_get_within}
use Rattle.list_lemmas.proofs.ItemsOfLists.{Contains-at}
use Rattle.list_lemmas.proofs.ItemsByPlace.{item_there, slice_get-behind, slice_get-front}
use Rattle.jk_model.specs.declared.class_file.ClassFile.{ClassFile}
use Rattle.jk_model.specs.declared.class_file.MemberInfo.{MemberInfo}
use Rattle.jk_model.specs.declared.identifiers.ClassId.{ClassId}
use Rattle.jk_model.specs.declared.identifiers.MemberId.{MemberId}
use Rattle.jk_model.specs.declared.output.Rule.{Rule}
use Rattle.jk_model.specs.declared.output.Rule.TheVariants.{C6, C7, C8, C9, C13, C15}
use Rattle.jk_model_classes.specs.declared.records.ClassRecord.{ClassRecord}
use Rattle.jk_model_classes.specs.declared.records.FieldRecord.{FieldRecord}
use Rattle.jk_model_classes.specs.declared.records.MethodRecord.{MethodRecord}
use Rattle.jk_model_classes.specs.declared.sharing.Offer.{Offer}
use Rattle.jk_model_classes.specs.declared.sharing.Stub.{Stub}
use Rattle.jk_model_classes.specs.ClassFlags.{HasBadFlags}
use Rattle.jk_model_classes.specs.ClassNames.{HasBadName}
use Rattle.jk_model_classes.specs.Classes.{record_of}
use Rattle.jk_model_classes.specs.Items.{Spot}
use Rattle.jk_model_classes.specs.Lookups.{FieldIs, MethodIs}
use Rattle.jk_model_classes.specs.MemberAttributes.{HasBadAttribute}
use Rattle.jk_model_classes.specs.MemberCode.{HasBadCode, IsNative}
use Rattle.jk_model_classes.specs.MemberDescriptors.{HasBadDescriptor}
use Rattle.jk_model_classes.specs.OneClassRules.{Breaks, one_class_rules}
use Rattle.jk_model_classes.specs.Worlds.{NamedClass, WorldRecord}
use Rattle.jk_model_folders.specs.declared.files.FolderFiles.{FolderFiles}
use Rattle.jk_model_folders.specs.FolderRules.{PlacedFolder, link_scope}
use Rattle.jk_model_folders.specs.LinkedClasses.{IsFieldFor, IsMethodFor}
use Rattle.jk_model_folders.specs.Loads.{Loads}
use Rattle.sound_folders.proofs.NewClasses.{OwnFile, added, all, own_file}

-- ---- What a file of the folder tells.

-- the class is of the folder: this place among the new ones is its
pub record NewClass (first : ℕ) (files : List ClassFile) (p : PlacedFolder) (c : ClassId) (r : ClassRecord) : Type 0 where
  pub k : ℕ
  pub number : c.0 ≡ first + k
  pub own : OwnFile first files p k r

pub record NewField (classes : List ClassRecord) (first : ℕ) (files : List ClassFile) (p : PlacedFolder) (m : MemberId) (field : FieldRecord)
    : Type 0 where
  pub class : ClassRecord
  pub class_is : record_of classes m.class ≡ Some class
  pub of : NewClass first files p m.class class
  pub at : slice_get class.fields m.index ≡ Some field
  pub info : MemberInfo
  pub listed : slice_get of.own.file.fields m.index ≡ Some info
  pub is : IsFieldFor (link_scope p (record { 0 = first + of.k })) of.own.file info field

pub record NewMethod (classes : List ClassRecord) (first : ℕ) (files : List ClassFile) (p : PlacedFolder) (m : MemberId) (method : MethodRecord)
    : Type 0 where
  pub class : ClassRecord
  pub class_is : record_of classes m.class ≡ Some class
  pub of : NewClass first files p m.class class
  pub at : slice_get class.methods m.index ≡ Some method
  pub info : MemberInfo
  pub listed : slice_get of.own.file.methods m.index ≡ Some info
  pub is : IsMethodFor (link_scope p (record { 0 = first + of.k })) of.own.file info method

module _ {f : FolderFiles} {w : WorldRecord} {into : List ℕ} {first : ClassId} {table : List NamedClass} {offers : List Offer} {stubs : List Stub}
    {new : WorldRecord} (l : Loads f w into first table offers stubs new) where
  abbrev pub IsNew : ClassId → ClassRecord → Type 0
  IsNew = NewClass (length w.classes) l.files l.placed

  abbrev pub IsNewField : MemberId → FieldRecord → Type 0
  IsNewField = NewField (all l) (length w.classes) l.files l.placed

  abbrev pub IsNewMethod : MemberId → MethodRecord → Type 0
  IsNewMethod = NewMethod (all l) (length w.classes) l.files l.placed

  pub new_class : (c : ClassId) (r : ClassRecord) → length w.classes ≤ c.0 → record_of (all l) c ≡ Some r → IsNew c r
  new_class c r high is =
      let k : ℕ = c.0 - length w.classes in
      let number : length w.classes + (c.0 - length w.classes) ≡ c.0 = omega (arith, high) in
      record {
        k = k;
        number = sym number;
        own = own_file l k r (sym (slice_get-behind w.classes (added l) k) ∙ ap (slice_get (all l)) number ∙ is);
      }

  pub class_cases : (c : ClassId) (r : ClassRecord) → record_of (all l) c ≡ Some r → (record_of w.classes c ≡ Some r) ⊎ IsNew c r
  class_cases c r is = elim (cases_lt c.0 (length w.classes)) [
    | inl low ↦ inl (sym (slice_get-front w.classes (added l) c.0 low) ∙ is)
    | inr high ↦ inr (new_class c r high is)
  ]

  pub field_of : (m : MemberId) (field : FieldRecord) (r : ClassRecord) → record_of (all l) m.class ≡ Some r → IsNew m.class r
      → slice_get r.fields m.index ≡ Some field → IsNewField m field
  field_of m field r is of at =
      let low = slice_get_within r.fields m.index field at in
      let told = item_there of.own.file.fields m.index (omega (arith, low, of.own.is_record.fields.as_many)) in
      record {
        class = r;
        class_is = is;
        of = of;
        at = at;
        info = told.0;
        listed = told.1;
        is = of.own.is_record.fields.each m.index told.0 field told.1 at;
      }

  pub method_of : (m : MemberId) (method : MethodRecord) (r : ClassRecord) → record_of (all l) m.class ≡ Some r → IsNew m.class r
      → slice_get r.methods m.index ≡ Some method → IsNewMethod m method
  method_of m method r is of at =
      let low = slice_get_within r.methods m.index method at in
      let told = item_there of.own.file.methods m.index (omega (arith, low, of.own.is_record.methods.as_many)) in
      record {
        class = r;
        class_is = is;
        of = of;
        at = at;
        info = told.0;
        listed = told.1;
        is = of.own.is_record.methods.each m.index told.0 method told.1 at;
      }

  pub field_cases : (m : MemberId) (field : FieldRecord) → FieldIs (all l) m field → FieldIs w.classes m field ⊎ IsNewField m field
  field_cases m field (r, is, at) = elim (class_cases m.class r is) [
    | inl old ↦ inl (r, old, at)
    | inr of ↦ inr (field_of m field r is of at)
  ]

  pub method_cases : (m : MemberId) (method : MethodRecord) → MethodIs (all l) m method → MethodIs w.classes m method ⊎ IsNewMethod m method
  method_cases m method (r, is, at) = elim (class_cases m.class r is) [
    | inl old ↦ inl (r, old, at)
    | inr of ↦ inr (method_of m method r is of at)
  ]

  -- ---- No file breaks a rule.

  module _ (i : ℕ) (c : ClassFile) (at : slice_get l.files i ≡ Some c) where
    none_broken : (rule : Rule) (n : ℕ) → slice_get one_class_rules n ≡ Some rule → (spot : Spot) → ((path : List ℕ) → Breaks rule c path spot) → ⊥
    none_broken rule n listed spot bad =
        let file = item_there f.classes i (omega (arith, slice_get_within l.files i c at, l.are_classes.as_many)) in
        l.none_alone rule i spot (Contains-at one_class_rules n rule listed) (file.0, c, file.1, at, bad file.0.path)

    pub good_flags : (spot : Spot) → HasBadFlags c spot → ⊥
    good_flags spot bad = none_broken C6 0 refl spot (λ path. bad)

    pub good_names : (spot : Spot) → HasBadName c spot → ⊥
    good_names spot bad = none_broken C7 1 refl spot (λ path. bad)

    pub good_descriptors : (spot : Spot) → HasBadDescriptor c spot → ⊥
    good_descriptors spot bad = none_broken C8 2 refl spot (λ path. bad)

    pub good_attributes : (spot : Spot) → HasBadAttribute c spot → ⊥
    good_attributes spot bad = none_broken C9 3 refl spot (λ path. bad)

    pub never_native : (spot : Spot) → IsNative c spot → ⊥
    never_native spot bad = none_broken C13 7 refl spot (λ path. bad)

    pub good_code : (spot : Spot) → HasBadCode c spot → ⊥
    good_code spot bad = none_broken C15 9 refl spot (λ path. bad)
