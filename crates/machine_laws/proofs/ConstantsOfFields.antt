-- What C9 asks of the constants of a folder's fields: they suit the field's type.
use Rattle.std.proofs.Common.{◌≡◌, ℕ, ◌+◌, ◌<◌, ◌^◌, ◌⊎◌, inl, inr, IsTrue, List, length, Option, Some, slice_get, refl, sym, ap, subst, ◌∙◌, arith, codes}
use Rattle.std.proofs.lemmas.Bool.{cases_eq}
use Rattle.std.proofs.lemmas.Nat.{from_be_bytes-to_be_bytes_2}
use Rattle.std.proofs.lemmas.Option.{same_Some, slice_get_within}
use Rattle.std.specs.Int.{from_be_bytes, w16}
use Rattle.list_lemmas.proofs.ItemsByPlace.{item_there}
use Rattle.list_lemmas.proofs.ItemsOfLists.{place_of}
use Rattle.jk_model.specs.ClassFile.{u2}
use Rattle.jk_model.specs.Descriptors.{IsFieldText}
use Rattle.jk_model.specs.Flags.{has, STATIC}
use Rattle.jk_model.specs.declared.class_file.Attribute.{Attribute}
use Rattle.jk_model.specs.declared.class_file.PoolEntry.{PoolEntry}
use Rattle.jk_model.specs.declared.descriptors.FieldType.{FieldType}
use Rattle.jk_model.specs.declared.identifiers.ClassId.{ClassId}
use Rattle.jk_model.specs.declared.identifiers.MemberId.{MemberId}
use Rattle.descriptors.proofs.NoTextBeginsAnother.{one_field}
use Rattle.jk_model_classes.specs.Items.{Member}
use Rattle.jk_model_classes.specs.MemberAttributes.{IsConstantOf, IsConstant}
use Rattle.jk_model_classes.specs.SystemRecords.{IsBaseFor, IsTypeFor}
use Rattle.jk_model_classes.specs.Worlds.{NamedClass, WorldRecord}
use Rattle.jk_model_classes.specs.declared.records.BaseRef.{BaseRef}
use Rattle.jk_model_classes.specs.declared.records.FieldRecord.{FieldRecord}
use Rattle.jk_model_classes.specs.declared.records.Link.{Link}
use Rattle.jk_model_classes.specs.declared.records.TypeRef.{TypeRef}
use Rattle.jk_model_classes.specs.declared.sharing.Offer.{Offer}
use Rattle.jk_model_classes.specs.declared.sharing.Stub.{Stub}
use Rattle.class_lemmas.proofs.OneMember.{same_type}
use Rattle.class_lemmas.proofs.OneText.{one_text}
use Rattle.jk_model_typing.specs.FrameTypes.{STRING}
use Rattle.jk_model_domains.specs.Objects.{class_type}
use Rattle.jk_model_folders.specs.LinkedClasses.{HasConstantEntry, IsConstantFrom}
use Rattle.jk_model_folders.specs.Loads.{Loads}
use Rattle.jk_model_folders.specs.declared.files.FolderFiles.{FolderFiles}
use Rattle.heap_laws.specs.SoundCodes.{IsOfInts, SuitsType}
use Rattle.sound_folders.proofs.NewClasses.{meaning}
use Rattle.machine_laws.proofs.MeaningsOfNames.{system_means}
use Rattle.machine_laws.proofs.NewMembers.{IsNewField, good_attributes}
use Rattle.machine_laws.proofs.TypesOfMethods.{text_or_not}
use Rattle.jk_model.specs.declared.descriptors.Base.{Base as ABase}
use Rattle.jk_model.specs.declared.descriptors.Base.TheVariants as Said
use Rattle.jk_model.specs.declared.class_file.PoolEntry.TheVariants as Held
use Rattle.jk_model_classes.specs.declared.records.BaseRef.TheVariants as Base

-- ---- Entries.

suits_or_not : (base : ABase) (entry : PoolEntry) → IsConstantOf base entry ⊎ (IsConstantOf base entry → ⊥)
suits_or_not Said.Byte (Held.Integer n) = inl tt
suits_or_not Said.Char (Held.Integer n) = inl tt
suits_or_not Said.Int (Held.Integer n) = inl tt
suits_or_not Said.Short (Held.Integer n) = inl tt
suits_or_not Said.Bool (Held.Integer n) = inl tt
suits_or_not Said.Long (Held.Long n) = inl tt
suits_or_not (Said.Class name) (Held.Str text) = text_or_not name (codes "java/lang/String")
suits_or_not base entry = inr (λ h. h)

one_index : (m n : ℕ) → m < 2 ^ 16 → n < 2 ^ 16 → u2 m ≡ u2 n → m ≡ n
one_index m n low few e = sym (from_be_bytes-to_be_bytes_2 m low) ∙ ap (from_be_bytes w16) e ∙ from_be_bytes-to_be_bytes_2 n few

module _ (meaning : List ℕ → Option ClassId) (string : meaning (codes "java/lang/String") ≡ Some STRING) where
  ints : (base : ABase) (n : ℕ) (b : BaseRef) → IsConstantOf base (Held.Integer n) → IsBaseFor meaning base b → IsOfInts b
  ints Said.Byte n b h e = subst IsOfInts (sym e) tt
  ints Said.Char n b h e = subst IsOfInts (sym e) tt
  ints Said.Int n b h e = subst IsOfInts (sym e) tt
  ints Said.Short n b h e = subst IsOfInts (sym e) tt
  ints Said.Bool n b h e = subst IsOfInts (sym e) tt
  ints base n b h e = absurd h

  longs : (base : ABase) (n : ℕ) (b : BaseRef) → IsConstantOf base (Held.Long n) → IsBaseFor meaning base b → b ≡ Base.Long
  longs Said.Long n b h e = e
  longs base n b h e = absurd h

  strings : (base : ABase) (text : ℕ) (b : BaseRef) → IsConstantOf base (Held.Str text) → IsBaseFor meaning base b → b ≡ Base.Class STRING
  strings (Said.Class name) text b h (c, meant, e) =
      let there : meaning name ≡ Some STRING = subst (λ (x : List ℕ). meaning x ≡ Some STRING) (sym h) string in
      e ∙ ap Base.Class (same_Some c STRING (sym meant ∙ there))
  strings base text b h e = absurd h

  module _ (pool : List PoolEntry) (kind : TypeRef) (type : FieldType) (dims : type.dims ≡ 0) (fits : IsTypeFor meaning type kind)
      (constant : Link) where
    flat : kind.dims ≡ 0
    flat = fits.0 ∙ dims

    by_entry : (entry : PoolEntry) → IsConstantOf type.base entry → IsConstantFrom pool kind entry constant → SuitsType kind constant
    by_entry (Held.Integer n) h e = subst (SuitsType kind) (sym e) (flat, ints type.base n kind.base h fits.1)
    by_entry (Held.Long n) h e = subst (SuitsType kind) (sym e) (flat, longs type.base n kind.base h fits.1)
    by_entry (Held.Str text) h (units, at, e) =
        subst (SuitsType kind) (sym e) (same_type kind (class_type STRING) flat (strings type.base text kind.base h fits.1))
    by_entry entry h never = absurd never

-- ---- Fields.

module _ {f : FolderFiles} {w : WorldRecord} {into : List ℕ} {first : ClassId} {table : List NamedClass} {offers : List Offer} {stubs : List Stub}
    {new : WorldRecord} (l : Loads f w into first table offers stubs new) (m : MemberId) (field : FieldRecord)
    (n : IsNewField l m field) where
  abbrev Suits : PoolEntry → Type 0
  Suits entry = (n.is.type.dims ≡ 0) × IsConstantOf n.is.type.base entry

  suits_decided : (entry : PoolEntry) → Suits entry ⊎ (Suits entry → ⊥)
  suits_decided entry = elim (cases_eq n.is.type.dims 0) [
    | inr differ ↦ inr (λ h. differ h.0)
    | inl zero_dims ↦ elim (suits_or_not n.is.type.base entry) [
      | inl holds ↦ inl (zero_dims, holds)
      | inr fails ↦ inr (λ h. fails h.1)
    ]
  ]

  few_entries : length n.of.own.file.pool < 2 ^ 16
  few_entries =
      let low = slice_get_within l.files n.of.own.place n.of.own.file n.of.own.listed in
      let of = item_there f.classes n.of.own.place (omega (arith, low, l.are_classes.as_many)) in
      (l.are_classes.each n.of.own.place of.0 n.of.own.file of.1 n.of.own.listed).layout.pool.1

  said_by : (a : Attribute) (index : ℕ) (entry : PoolEntry) → a.body ≡ u2 index → slice_get n.of.own.file.pool index ≡ Some entry
      → IsConstant n.of.own.file.pool n.info a.body → Suits entry
  said_by a index entry body at is =
      let (units, there, text) = n.is.text in
      let same : is.units ≡ units = one_text n.of.own.file.pool n.info.descriptor is.units units is.descriptor there in
      let type : record { dims = 0; base = is.base } ≡ n.is.type =
      one_field units (record { dims = 0; base = is.base }) n.is.type
      (subst (λ (x : List ℕ). IsFieldText x (record { dims = 0; base = is.base })) same is.type) text in
      let low : index < 2 ^ 16 = omega (arith, few_entries, slice_get_within n.of.own.file.pool index entry at) in
      let number : is.index ≡ index = one_index is.index index is.bytes.0 low (sym is.bytes.1 ∙ body) in
      let (held, held_at, kept) = is.entry in
      let one : held ≡ entry =
      same_Some held entry (sym held_at ∙ ap (slice_get n.of.own.file.pool) number ∙ at) in (
        sym (ap (λ (x : FieldType). x.dims) type),
        subst (λ (x : PoolEntry). IsConstantOf n.is.type.base x) one
            (subst (λ (x : ABase). IsConstantOf x held) (ap (λ (x : FieldType). x.base) type) kept),
      )

  suits : (entry : PoolEntry) → IsTrue (has n.info.flags STATIC) → HasConstantEntry n.of.own.file.pool n.info.attributes entry → Suits entry
  suits entry static (a, index, on, called, body, at) = elim (suits_decided entry) [
    | inl holds ↦ holds
    | inr fails ↦
        let place = place_of n.info.attributes a on in
        absurd (good_attributes l n.of.own.place n.of.own.file n.of.own.listed (Member (m.index + 1))
        (inr (inl (
          n.info,
          (m.index, refl, n.listed),
          inr (
            static,
            inr (place.0, a, place.1, (called, λ is. fails (said_by a index entry body at is))),
          ),
        ))))
  ]

  pub constant_suits : SuitsType field.kind field.constant
  constant_suits = elim n.is.constant [
    | inr (none, e) ↦ subst (SuitsType field.kind) (sym e) tt
    | inl (static, (entry, has_entry, from)) ↦
        let fits = suits entry static has_entry in
        by_entry (meaning l) (system_means l (codes "java/lang/String") STRING refl) n.of.own.file.pool field.kind n.is.type fits.0 n.is.kind
        field.constant entry fits.1 from
  ]
