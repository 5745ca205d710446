-- The name of a Class entry says a type, and that is the one that is worked out of what its text says.
use Rattle.std.proofs.Common.{◌≡◌, ◌≢◌, ℕ, ◌≤◌, ◌⊎◌, inl, inr, Bool, List, Option, Some, None, refl, sym, ◌∙◌, ap, subst, arith}
use Rattle.std.specs.Prelude.{slice_get, IsSome, if◌then◌else◌}
use Rattle.std.proofs.lemmas.Bool.Decides.{eqb_tells}
use Rattle.std.proofs.lemmas.Option.{same_Some}
use Rattle.jk_model.specs.declared.class_file.ClassFile.{ClassFile}
use Rattle.jk_model.specs.declared.class_file.PoolEntry.{PoolEntry}
use Rattle.jk_model.specs.declared.class_file.PoolEntry.TheVariants.{Class}
use Rattle.jk_model.specs.declared.descriptors.Base.{Base as ABase}
use Rattle.jk_model.specs.declared.descriptors.Base.TheVariants as Base
use Rattle.jk_model.specs.declared.descriptors.FieldType.{FieldType}
use Rattle.jk_model.specs.declared.identifiers.ClassId.{ClassId}
use Rattle.jk_model.specs.declared.output.Rule.TheVariants.{C7, C10}
use Rattle.jk_model.specs.Descriptors.{IsClassName, IsFieldText}
use Rattle.jk_model_classes.specs.declared.records.BaseRef.{BaseRef}
use Rattle.jk_model_classes.specs.declared.records.BaseRef.TheVariants as Ref
use Rattle.jk_model_classes.specs.declared.records.ClassRecord.{ClassRecord}
use Rattle.jk_model_classes.specs.declared.records.Link.TheVariants as To
use Rattle.jk_model_classes.specs.declared.records.TypeRef.{TypeRef}
use Rattle.jk_model_classes.specs.ClassNames.{IsArrayDescriptor, IsClassEntryName}
use Rattle.jk_model_classes.specs.Items.{Entry}
use Rattle.jk_model_classes.specs.MemberDescriptors.{IsFloatBase}
use Rattle.jk_model_classes.specs.Members.{ClassAt, TextAt}
use Rattle.jk_model_classes.specs.SystemRecords.{IsBaseFor, IsTypeFor}
use Rattle.jk_model_classes.specs.Worlds.{NamedClass, class_named}
use Rattle.model_lemmas.proofs.ClassNamesDecided.{class_or_not}
use Rattle.class_lemmas.proofs.ArraysHaveNoNames.{no_array, array_begins}
use Rattle.class_lemmas.proofs.EntriesAreGood.{class_there}
use Rattle.class_lemmas.proofs.OneText.{one_text}
use Rattle.descriptors.proofs.NoTextBeginsAnother.{one_field}
use Rattle.class_linker.specs.LinkedFiles.{IsLinkable}
use Rattle.class_linker.specs.LinkParts.{IsClassLinkFrom, type_of_class, type_said}
use Rattle.class_linker.specs.ThrownClasses.{IsItemOf}
use Rattle.class_linker.specs.TextsSaid.{Answers, IsSaidAt, SaysClass, SaysField}
use Rattle.class_linker.specs.declared.said.Said.{Said}
use Rattle.class_linker.proofs.EntriesAreGood.{class_known, good_entries}

-- ---- A type that is no float has a number for its class, where that is known.

class_some : (found : Option ClassId) → IsSome found → (c : ClassId) × (found ≡ Some c)
class_some None some = absurd cc
class_some (Some c) some = (c, refl)

some_base : (names : List NamedClass) (base : ABase) → (IsFloatBase base → ⊥)
    → ((name : List ℕ) → base ≡ Base.Class name → IsSome (class_named names name)) → (r : BaseRef) × IsBaseFor (class_named names) base r
some_base names Base.Byte whole known = (Ref.Byte, refl)
some_base names Base.Char whole known = (Ref.Char, refl)
some_base names Base.Double whole known = absurd (whole (inr refl))
some_base names Base.Float whole known = absurd (whole (inl refl))
some_base names Base.Int whole known = (Ref.Int, refl)
some_base names Base.Long whole known = (Ref.Long, refl)
some_base names Base.Short whole known = (Ref.Short, refl)
some_base names Base.Bool whole known = (Ref.Bool, refl)
some_base names (Base.Class name) whole known =
    let found = class_some (class_named names name) (known name refl) in
    (Ref.Class found.0, (found.0, found.1, refl))

-- The type that an entry's name says, without the scope's other parts.
abbrev pub IsTypeOfName : List NamedClass → List ℕ → TypeRef → Type 0
IsTypeOfName names name t =
    (IsClassName name × ((class : ClassId) × (class_named names name ≡ Some class) × (t ≡ record { dims = 0; base = Ref.Class class })))
    ⊎ ((type : FieldType) × (type.dims ≢ 0) × IsFieldText name type × IsTypeFor (class_named names) type t)

module _ (c : ClassFile) (names : List NamedClass) (linkable : IsLinkable c names) (i name : ℕ) (units : List ℕ) (at : ClassAt c.pool i units)
    (text : TextAt c.pool name units) where
  some_array : (t : FieldType) → 1 ≤ t.dims → IsFieldText units t → (r : TypeRef) × IsTypeFor (class_named names) t r
  some_array t some is =
      let whole : IsFloatBase t.base → ⊥ = λ float. linkable.alone C10 (Entry i) (inl (units, at, (t, some, is, float))) in
      let base = some_base names t.base whole
      (λ word e. linkable.known i word (inl (units, at, inr (t, is, (λ (z : t.dims ≡ 0). absurd (omega arith)), e)))) in
      (record { dims = t.dims; base = base.0 }, (refl, base.1))

  abbrev Found : Option TypeRef → Type 0
  Found said = (t : TypeRef) × (said ≡ Some t) × IsTypeOfName names units t

  -- ---- A class.

  class_found : (class : Option ClassId) → Answers (SaysClass names c.pool name) class → IsClassName units → Found (type_of_class class)
  class_found None none own =
      let found = class_some (class_named names units) (class_known c names linkable i units at own) in
      absurd (none found.0 (units, text, found.1))
  class_found (Some class) (us, there, means) own =
      let here : class_named names units ≡ Some class = ap (class_named names) (one_text c.pool name units us text there) ∙ means in
      (record { dims = 0; base = Ref.Class class }, refl, inl (own, (class, here, refl)))

  of_class : (class : Option ClassId) (field : Option TypeRef) → Answers (SaysClass names c.pool name) class → Answers (SaysField names c.pool name) field
      → IsClassName units → Found (type_said (record { class = class; field = field; method = None }))
  of_class class None says kinds own = class_found class says own
  of_class class (Some t) says (us, there, (type, is, resolved)) own = elim (eqb_tells t.dims 0) [
    | inl (test, zero_dims) ↦
        subst (λ (b : Bool). Found (if b then type_of_class class else Some t)) (sym test) (class_found class says own)
    | inr (test, some) ↦
        let text_is : IsFieldText units type = subst (λ (w : List ℕ). IsFieldText w type) (one_text c.pool name us units there text) is in
        let dims : t.dims ≡ type.dims = resolved.0 in
        absurd (no_array units (array_begins units (type, omega arith, text_is)) own)
  ]

  -- ---- An array.

  refused : (IsClassName units → ⊥) → (IsArrayDescriptor units → ⊥) → ⊥
  refused never none =
      linkable.alone C7 (Entry i) (inl (units, at, λ (h : IsClassEntryName units). elim h [ inl own ↦ never own | inr array ↦ none array ]))

  of_array : (class : Option ClassId) (field : Option TypeRef) → Answers (SaysField names c.pool name) field → (IsClassName units → ⊥)
      → Found (type_said (record { class = class; field = field; method = None }))
  of_array class None none never =
      absurd (refused never (λ (t, some, is). let r = some_array t some is in none r.0 (units, text, (t, is, r.1))))
  of_array class (Some t) (us, there, (type, is, resolved)) never =
      let text_is : IsFieldText units type = subst (λ (w : List ℕ). IsFieldText w type) (one_text c.pool name us units there text) is in
      let dims : t.dims ≡ type.dims = resolved.0 in
      elim (eqb_tells t.dims 0) [
        | inl (test, zero_dims) ↦
            absurd (refused never (λ (other, some, also).
            let same : other.dims ≡ type.dims = ap (λ (w : FieldType). w.dims) (one_field units other type also text_is) in
            omega arith))
        | inr (test, some) ↦
            subst (λ (b : Bool). Found (if b then type_of_class class else Some t)) (sym test)
            (t, refl, inr (type, (λ (z : type.dims ≡ 0). some (dims ∙ z)), text_is, resolved))
      ]

  pub type_found : (said : Said) → IsSaidAt names c.pool name said → Found (type_said said)
  type_found said h = elim (class_or_not units) [
    | inl own ↦ of_class said.class said.field h.class h.field own
    | inr never ↦ of_array said.class said.field h.field never
  ]

-- ---- A Class entry of the pool that is linked.

pub record IsNamedEntry (names : List NamedClass) (classes : List ClassRecord) (pool : List PoolEntry) (name : ℕ) : Type 0 where
  pub units : List ℕ
  pub there : TextAt pool name units
  pub type : (said : Said) → IsSaidAt names pool name said → (t : TypeRef) × (type_said said ≡ Some t) × IsTypeOfName names units t
  pub link : (said : Said) (t : TypeRef) → IsSaidAt names pool name said → type_said said ≡ Some t → IsClassLinkFrom names pool classes name (To.Class t)

own_entry : (c : ClassFile) (names : List NamedClass) (classes : List ClassRecord) (linkable : IsLinkable c names) (name i : ℕ)
    → slice_get c.pool i ≡ Some (Class name) → IsNamedEntry names classes c.pool name
own_entry c names classes linkable name i at =
    let there = class_there c.pool i (good_entries c names linkable) (Class name, at, tt) in
    let (n, also, text) = there.1 in
    let both : Some (Class n) ≡ Some (Class name) = sym also ∙ at in
    let same : n ≡ name = cc in
    let here : TextAt c.pool name there.0 = subst (λ (w : ℕ). TextAt c.pool w there.0) same text in
    record {
      units = there.0;
      there = here;
      type = type_found c names linkable i name there.0 there.1 here;
      link = λ said t h e.
          let found = type_found c names linkable i name there.0 there.1 here said h in
          let one : found.0 ≡ t = same_Some found.0 t (sym found.1 ∙ e) in
          (there.0, t, here, λ self. subst (λ (w : TypeRef). IsTypeOfName names there.0 w) one found.2, refl);
    }

pub class_entry : (c : ClassFile) (names : List NamedClass) (classes : List ClassRecord) (linkable : IsLinkable c names) (pool : List PoolEntry) (name : ℕ)
    → pool ≡ c.pool → IsItemOf c.pool (Class name) → IsNamedEntry names classes pool name
class_entry c names classes linkable pool name own (i, at) =
    subst (λ (w : List PoolEntry). IsNamedEntry names classes w name) (sym own) (own_entry c names classes linkable name i at)
