-- The constant that a field's type needs is known by the shape of the type.
use Rattle.std.proofs.Common.{◌≡◌, ℕ, ◌<◌, ◌↔◌, Bool, true, false, IsTrue, List, [], ◌∷◌, ◌++◌, length, Option, Some, None, refl, sym, ◌∙◌, ap, subst, arith, append-nil, length-append, ◌==◌}
use Rattle.std.specs.Prelude.{codes, bytes_eq, if◌then◌else◌}
use Rattle.std.proofs.lemmas.Slice.Eq.{bytes_eq-Decides}
use Rattle.std.proofs.lemmas.Bool.{eqb-true}
use Rattle.std.proofs.lemmas.Option.{same_Some}
use Rattle.jk_model.specs.declared.class_file.PoolEntry.{PoolEntry}
use Rattle.jk_model.specs.declared.class_file.PoolEntry.TheVariants as entries
use Rattle.jk_model.specs.declared.class_file.MemberInfo.{MemberInfo}
use Rattle.jk_model.specs.declared.descriptors.Base.{Base}
use Rattle.jk_model.specs.declared.descriptors.Base.TheVariants as bases
use Rattle.jk_model.specs.declared.descriptors.FieldType.{FieldType}
use Rattle.jk_model.specs.ClassFile.{u2, IsU2, NamesEntry}
use Rattle.jk_model.specs.Descriptors.{IsFieldText}
use Rattle.jk_model_classes.specs.MemberAttributes.{IsConstantOf, IsConstant}
use Rattle.class_lemmas.proofs.OneText.{one_text}
use Rattle.byte_fields.specs.OneReading.{one_u2}
use Rattle.descriptors.proofs.NoTextBeginsAnother.{one_field}
use Rattle.class_rules.specs.declared.texts.FieldShape.{FieldShape}
use Rattle.class_rules.specs.declared.texts.Kind.{Kind}
use Rattle.class_rules.specs.declared.texts.Kind.TheVariants as kinds
use Rattle.class_rules.specs.declared.texts.TextFacts.{TextFacts}
use Rattle.class_rules.specs.Attributes.{IsOfConstantKind}
use Rattle.class_rules.specs.KnownPools.{IsTextKnown}
use Rattle.class_rules.specs.Texts.{IsFieldShape, field_shape, kind_of}

-- ---- Two bytes that are an index.

pub index_read : (body rest : List ℕ) (i : ℕ) (empty : Bool) → body ≡ u2 i ++ rest → empty ≡ (length rest == 0) → empty ≡ true → body ≡ u2 i
index_read body [] i empty e is none = e ∙ append-nil (u2 i)
index_read body (b ∷ rest) i empty e is none = absurd (omega (arith, eqb-true (length (b ∷ rest)) 0 (sym is ∙ none)))

pub more_than_index : (body rest : List ℕ) (i : ℕ) (empty : Bool) → body ≡ u2 i ++ rest → empty ≡ (length rest == 0) → empty ≡ false → (j : ℕ) → IsU2 j
    → body ≡ u2 j → ⊥
more_than_index body [] i empty e is some j fits f = absurd cc
more_than_index body (b ∷ rest) i empty e is some j fits f = omega (arith, ap length e, ap length f, length-append (u2 i) (b ∷ rest))

pub less_than_index : (body : List ℕ) → length body < 2 → (j : ℕ) → IsU2 j → body ≡ u2 j → ⊥
less_than_index body short j fits e = omega (arith, ap length e)

-- ---- Kinds.

text_kind : (name : List ℕ) (e : PoolEntry) (same : Bool) → (IsTrue same → name ≡ codes "java/lang/String")
    → IsOfConstantKind (if same then kinds.Text else kinds.Other) e → IsConstantOf (bases.Class name) e
text_kind name (entries.Str text) true is h = is refl
text_kind name (entries.Str text) false is h = absurd h
text_kind name _ true is h = absurd h
text_kind name _ false is h = absurd h

pub of_kind : (base : Base) (e : PoolEntry) → IsOfConstantKind (kind_of base) e → IsConstantOf base e
of_kind bases.Byte (entries.Integer n) h = tt
of_kind bases.Char (entries.Integer n) h = tt
of_kind bases.Int (entries.Integer n) h = tt
of_kind bases.Short (entries.Integer n) h = tt
of_kind bases.Bool (entries.Integer n) h = tt
of_kind bases.Long (entries.Long n) h = tt
of_kind (bases.Class name) e h =
    text_kind name e (bytes_eq name (codes "java/lang/String")) (bytes_eq-Decides name (codes "java/lang/String")).0 h
of_kind _ _ h = absurd h

pub its_kind : (base : Base) (e : PoolEntry) → IsConstantOf base e → IsOfConstantKind (kind_of base) e
its_kind bases.Byte (entries.Integer n) h = tt
its_kind bases.Char (entries.Integer n) h = tt
its_kind bases.Int (entries.Integer n) h = tt
its_kind bases.Short (entries.Integer n) h = tt
its_kind bases.Bool (entries.Integer n) h = tt
its_kind bases.Long (entries.Long n) h = tt
its_kind (bases.Class name) (entries.Str text) h =
    let same : true ≡ bytes_eq name (codes "java/lang/String") = sym ((bytes_eq-Decides name (codes "java/lang/String")).1 h) in
    subst (λ (b : Bool). IsOfConstantKind (if b then kinds.Text else kinds.Other) (entries.Str text)) same tt
its_kind _ _ h = absurd h

-- ---- A field's constant.

shape_is : (units : List ℕ) (field : Option FieldShape) (t : FieldType) → IsFieldShape units field → IsFieldText units t
    → field ≡ Some (field_shape t)
shape_is units None t none text = absurd (none t text)
shape_is units (Some shape) t (u, known, same) text = ap (λ (s : FieldShape). Some s) (same ∙ sym (ap field_shape (one_field units t u text known)))

abbrev Shape : Kind → Option FieldShape
Shape kind = Some (record { dims = 0; kind = kind })

its_shape : (pool : List PoolEntry) (field : MemberInfo) (body : List ℕ) (facts : TextFacts) → IsTextKnown pool field.descriptor (Some facts)
    → (h : IsConstant pool field body) → facts.field ≡ Shape (kind_of h.base)
its_shape pool field body facts (units, at, known) h =
    let one : units ≡ h.units = one_text pool field.descriptor units h.units at h.descriptor in
    shape_is h.units facts.field (record { dims = 0; base = h.base }) (subst (λ (u : List ℕ). IsFieldShape u facts.field) one known.field) h.type

pub no_kind : (pool : List PoolEntry) (field : MemberInfo) (body : List ℕ) (facts : TextFacts) → IsTextKnown pool field.descriptor (Some facts)
    → ((kind : Kind) → facts.field ≡ Shape kind → ⊥) → IsTrue false ↔ IsConstant pool field body
no_kind pool field body facts k none = (λ t. absurd cc, λ h. absurd (none (kind_of h.base) (its_shape pool field body facts k h)))

pub no_descriptor : (pool : List PoolEntry) (field : MemberInfo) (body : List ℕ) → IsTextKnown pool field.descriptor None
    → IsTrue false ↔ IsConstant pool field body
no_descriptor pool field body none = (λ t. absurd cc, λ h. absurd (none h.units h.descriptor))

pub no_index : (pool : List PoolEntry) (field : MemberInfo) (body : List ℕ) → ((i : ℕ) → IsU2 i → body ≡ u2 i → ⊥)
    → IsTrue false ↔ IsConstant pool field body
no_index pool field body none = (λ t. absurd cc, λ h. absurd (none h.index h.bytes.0 h.bytes.1))

same_kind : (a b : Kind) → Shape a ≡ Shape b → a ≡ b
same_kind a b e = ap (λ (s : FieldShape). s.kind) (same_Some (record { dims = 0; kind = a }) (record { dims = 0; kind = b }) e)

entry_of_kind : (pool : List PoolEntry) (i : ℕ) (kind : Kind) (base : Base) → kind ≡ kind_of base → NamesEntry (IsOfConstantKind kind) pool i
    → NamesEntry (IsConstantOf base) pool i
entry_of_kind pool i kind base same (e, at, h) = (e, at, of_kind base e (subst (λ (k : Kind). IsOfConstantKind k e) same h))

kind_of_entry : (pool : List PoolEntry) (i : ℕ) (kind : Kind) (base : Base) → kind ≡ kind_of base → NamesEntry (IsConstantOf base) pool i
    → NamesEntry (IsOfConstantKind kind) pool i
kind_of_entry pool i kind base same (e, at, h) = (e, at, subst (λ (k : Kind). IsOfConstantKind k e) (sym same) (its_kind base e h))

plain_type : (units : List ℕ) (field : Option FieldShape) (kind : Kind) → IsFieldShape units field → field ≡ Shape kind
    → (base : Base) × IsFieldText units (record { dims = 0; base = base }) × (kind ≡ kind_of base)
plain_type units field kind h e = known_type (subst (IsFieldShape units) e h)
  where
    known_type : IsFieldShape units (Shape kind) → (base : Base) × IsFieldText units (record { dims = 0; base = base }) × (kind ≡ kind_of base)
    known_type (t, text, same) =
        let dims : t.dims ≡ 0 = sym (ap (λ (s : FieldShape). s.dims) same) in (
          t.base,
          subst (λ (n : ℕ). IsFieldText units (record { dims = n; base = t.base })) dims text,
          ap (λ (s : FieldShape). s.kind) same,
        )

pub constant_known : (r : Bool) (pool : List PoolEntry) (field : MemberInfo) (body : List ℕ) (facts : TextFacts) (kind : Kind) (i : ℕ)
    → IsTextKnown pool field.descriptor (Some facts) → facts.field ≡ Shape kind → IsU2 i × (body ≡ u2 i)
    → (IsTrue r ↔ NamesEntry (IsOfConstantKind kind) pool i) → IsTrue r ↔ IsConstant pool field body
constant_known r pool field body facts kind i (units, at, known) shape (fits, e) (to, from) =
    let (base, type, is) = plain_type units facts.field kind known.field shape in (
      λ t. record {
        units = units;
        descriptor = at;
        base = base;
        type = type;
        index = i;
        bytes = (fits, e);
        entry = entry_of_kind pool i kind base is (to t);
      },
      λ h.
          let one : kind ≡ kind_of h.base =
          same_kind kind (kind_of h.base) (sym shape ∙ its_shape pool field body facts (units, at, known) h) in
          let index : i ≡ h.index =
          (one_u2 i h.index [] [] fits h.bytes.0 (append-nil (u2 i) ∙ sym e ∙ h.bytes.1 ∙ sym (append-nil (u2 h.index)))).0 in
          from (kind_of_entry pool i kind h.base one (subst (λ (n : ℕ). NamesEntry (IsConstantOf h.base) pool n) (sym index) h.entry)),
    )
