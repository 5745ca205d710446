-- An entry that leads to a class or a member that may not be accessed is one at which access is refused.
use Rattle.std.proofs.Common.{◌≡◌, ◌≢◌, ℕ, ◌+◌, ◌^◌, ◌<◌, ◌≤◌, ◌⊎◌, inl, inr, Bool, true, false, ◌↔◌, IsTrue, List, Some, None, length, arith, refl, sym, ◌∙◌, ap, subst}
use Rattle.std.specs.Prelude.{not, slice_get}
use Rattle.std.proofs.lemmas.Bool.{cases_lt}
use Rattle.std.proofs.lemmas.Option.{same_Some, slice_get_within}
use Rattle.list_lemmas.proofs.ItemsByPlace.{item_there}
use Rattle.jk_model.specs.declared.class_file.ClassFile.{ClassFile}
use Rattle.jk_model.specs.declared.class_file.PoolEntry.{PoolEntry}
use Rattle.jk_model.specs.declared.class_file.PoolEntry.TheVariants as Entry
use Rattle.jk_model.specs.declared.descriptors.Base.{Base as ABase}
use Rattle.jk_model.specs.declared.descriptors.Base.TheVariants as Base
use Rattle.jk_model.specs.declared.descriptors.FieldType.{FieldType}
use Rattle.jk_model.specs.declared.identifiers.ClassId.{ClassId}
use Rattle.jk_model.specs.declared.identifiers.MemberId.{MemberId}
use Rattle.jk_model.specs.Descriptors.{IsClassName, IsFieldText}
use Rattle.jk_model.specs.ReadFaults.{IsWritable}
use Rattle.jk_model_classes.specs.declared.records.BaseRef.{BaseRef}
use Rattle.jk_model_classes.specs.declared.records.ClassRecord.{ClassRecord}
use Rattle.jk_model_classes.specs.declared.records.Link.{Link}
use Rattle.jk_model_classes.specs.declared.records.Link.TheVariants as To
use Rattle.jk_model_classes.specs.declared.records.Member.TheVariants as Found
use Rattle.jk_model_classes.specs.declared.records.TypeRef.{TypeRef}
use Rattle.jk_model_classes.specs.Items.{Entry as AtEntry}
use Rattle.jk_model_classes.specs.LinkRules.{FindsFieldAt, FindsMethodAt, IsAccessRefused, LinkScope}
use Rattle.jk_model_classes.specs.Lookups.{MayAccess, MayAccessClass}
use Rattle.jk_model_classes.specs.Members.{ClassAt, Field, InterfaceMethod, MemberKind, Method, TextAt, reference}
use Rattle.jk_model_classes.specs.References.{ClassEntryAt}
use Rattle.jk_model_classes.specs.SystemRecords.{IsBaseFor}
use Rattle.class_lemmas.proofs.ArraysHaveNoNames.{no_array, array_begins}
use Rattle.class_lemmas.proofs.OneMember.{same_reference}
use Rattle.jk_model_folders.specs.LinkedClasses.{AreLinksFor, IsEntryType, IsFieldLink, IsLinkFor, IsMethodLink}
use Rattle.class_lemmas.proofs.OneText.{one_text}
use Rattle.descriptors.proofs.NoTextBeginsAnother.{one_field}
use Rattle.link_rules.specs.RefusedEntries.{IsFirstRefused, RefusesBase, RefusesLink}
use Rattle.link_rules.proofs.MissingByLinks.{is_reference, no_ref}
use Rattle.one_verdict.proofs.OneMember.{one_field_found, one_method_found}

-- an array's text is none of a class
not_both : (units : List ℕ) (t : FieldType) → IsClassName units → IsFieldText units t → t.dims ≢ 0 → ⊥
not_both units t own text some = no_array units (array_begins units (t, omega arith, text)) own

field_no_class : (class pair n : ℕ) → Entry.FieldRef class pair ≡ Entry.Class n → ⊥
field_no_class class pair n e = cc

method_no_class : (class pair n : ℕ) → Entry.MethodRef class pair ≡ Entry.Class n → ⊥
method_no_class class pair n e = cc

interface_no_class : (class pair n : ℕ) → Entry.InterfaceMethodRef class pair ≡ Entry.Class n → ⊥
interface_no_class class pair n e = cc

method_no_field : Method ≢ Field
method_no_field e = cc

interface_no_field : InterfaceMethod ≢ Field
interface_no_field e = cc

-- neither a reference nor a class
abbrev is_plain : PoolEntry → Bool
is_plain (Entry.Class n) = false
is_plain entry = not (is_reference entry)

plain_no_class : (entry : PoolEntry) → is_plain entry ≡ true → (n : ℕ) → entry ≡ Entry.Class n → ⊥
plain_no_class entry plain n e = let both : true ≡ false = sym plain ∙ ap is_plain e in cc

plain_no_reference : (entry : PoolEntry) → is_plain entry ≡ true → is_reference entry ≡ false
plain_no_reference (Entry.FieldRef class pair) e = absurd cc
plain_no_reference (Entry.MethodRef class pair) e = absurd cc
plain_no_reference (Entry.InterfaceMethodRef class pair) e = absurd cc
plain_no_reference _ e = refl

module _ (s : LinkScope) where
  abbrev Refused : ClassId → Type 0
  Refused cls = MayAccessClass s.classes s.self cls → ⊥

  -- what a type that is refused is of
  base_refused : (base : ABase) (r : BaseRef) → IsBaseFor s.meaning base r → RefusesBase s.classes s.self r
      → (name : List ℕ) × (cls : ClassId) × (base ≡ Base.Class name) × (s.meaning name ≡ Some cls) × Refused cls
  base_refused Base.Byte r is h = absurd (subst (RefusesBase s.classes s.self) is h)
  base_refused Base.Char r is h = absurd (subst (RefusesBase s.classes s.self) is h)
  base_refused Base.Double r is h = absurd is
  base_refused Base.Float r is h = absurd is
  base_refused Base.Int r is h = absurd (subst (RefusesBase s.classes s.self) is h)
  base_refused Base.Long r is h = absurd (subst (RefusesBase s.classes s.self) is h)
  base_refused Base.Short r is h = absurd (subst (RefusesBase s.classes s.self) is h)
  base_refused Base.Bool r is h = absurd (subst (RefusesBase s.classes s.self) is h)
  base_refused (Base.Class name) r (cls, means, e) h = (name, cls, refl, means, subst (RefusesBase s.classes s.self) e h)

  refused_base : (base : ABase) (r : BaseRef) (name : List ℕ) (cls : ClassId) → IsBaseFor s.meaning base r → base ≡ Base.Class name
      → s.meaning name ≡ Some cls → Refused cls → RefusesBase s.classes s.self r
  refused_base base r name cls is e means h =
      let here : IsBaseFor s.meaning (Base.Class name) r = subst (λ (b : ABase). IsBaseFor s.meaning b r) e is in
      let same : cls ≡ here.0 = same_Some cls here.0 (sym means ∙ here.1) in
      subst (RefusesBase s.classes s.self) (sym here.2) (subst Refused same h)

  module _ (c : ClassFile) (i : ℕ) where
    abbrev Breaks : Type 0
    Breaks = IsAccessRefused s c (AtEntry i)

    -- ---- A Class entry.

    type_refused : (units : List ℕ) (t : TypeRef) → ClassAt c.pool i units → IsEntryType s units t → RefusesBase s.classes s.self t.base → Breaks
    type_refused units t at (inl (own, (cls, means, e))) h =
        inl (units, cls, (units, at, inl (own, refl)), means, subst (λ (w : TypeRef). RefusesBase s.classes s.self w.base) e h)
    type_refused units t at (inr (type, some, text, resolved)) h =
        let (name, cls, base, means, refused) = base_refused type.base t.base resolved.1 h in
        inl (name, cls, (units, at, inr (type, text, some, base)), means, refused)

    refused_type : (units : List ℕ) (t : TypeRef) (name : List ℕ) (cls : ClassId) → IsEntryType s units t
        → ((IsClassName units × (name ≡ units)) ⊎ ((u : FieldType) × IsFieldText units u × (u.dims ≢ 0) × (u.base ≡ Base.Class name)))
        → s.meaning name ≡ Some cls → Refused cls → RefusesBase s.classes s.self t.base
    refused_type units t name cls (inl (own, (other, means, e))) (inl (also, same)) is denied =
        let one : cls ≡ other = same_Some cls other (sym is ∙ ap s.meaning same ∙ means) in
        subst (λ (w : TypeRef). RefusesBase s.classes s.self w.base) (sym e) (subst Refused one denied)
    refused_type units t name cls (inl (own, class)) (inr (u, text, some, of)) is denied = absurd (not_both units u own text some)
    refused_type units t name cls (inr (type, some, text, resolved)) (inl (own, same)) is denied = absurd (not_both units type own text some)
    refused_type units t name cls (inr (type, some, text, resolved)) (inr (u, also, dims, of)) is denied =
        let one : u ≡ type = one_field units u type also text in
        let base : type.base ≡ Base.Class name = subst (λ (w : FieldType). w.base ≡ Base.Class name) one of in
        refused_base type.base t.base name cls resolved.1 base is denied

    no_member : (entry : PoolEntry) → slice_get c.pool i ≡ Some entry → is_reference entry ≡ false
        → (((m : MemberId) × FindsFieldAt s c i m × (MayAccess s.classes s.self (Found.Field m) → ⊥))
        ⊎ ((m : MemberId) × FindsMethodAt s c i m × (MayAccess s.classes s.self (Found.Method m) → ⊥))) → ⊥
    no_member entry at plain (inl (m, f, denied)) =
        let (a, b, there, target, rest) = f.is_there in
        no_ref entry plain Field a b (same_Some entry (reference Field a b) (sym at ∙ there))
    no_member entry at plain (inr (m, f, denied)) =
        let (a, b, there, target, rest) = f.is_there in
        no_ref entry plain f.kind a b (same_Some entry (reference f.kind a b) (sym at ∙ there))

    no_class : (entry : PoolEntry) → slice_get c.pool i ≡ Some entry → ((n : ℕ) → entry ≡ Entry.Class n → ⊥) → (name : List ℕ) → ClassEntryAt c.pool i name → ⊥
    no_class entry at other name (units, (n, there, text), which) = other n (same_Some entry (Entry.Class n) (sym at ∙ there))

    class_says : (n : ℕ) (units : List ℕ) (t : TypeRef) → slice_get c.pool i ≡ Some (Entry.Class n) → TextAt c.pool n units → IsEntryType s units t
        → RefusesBase s.classes s.self t.base ↔ Breaks
    class_says n units t at text is = (
      type_refused units t (n, at, text) is,
      λ h. elim h [
        | inl named ↦
            let (name, cls, entry, means, denied) = named in
            let (us, (m, there, spelled), which) = entry in
            let both : Some (Entry.Class m) ≡ Some (Entry.Class n) = sym there ∙ at in
            let index : m ≡ n = cc in
            let same : us ≡ units = one_text c.pool n us units (subst (λ (w : ℕ). TextAt c.pool w us) index spelled) text in
            refused_type units t name cls is
            (subst (λ (w : List ℕ). (IsClassName w × (name ≡ w)) ⊎ ((u : FieldType) × IsFieldText w u × (u.dims ≢ 0) × (u.base ≡ Base.Class name))) same which)
            means denied
        | inr member ↦ absurd (no_member (Entry.Class n) at refl member)
      ],
    )

    -- ---- References.

    kind_at : (k : MemberKind) (class pair : ℕ) (l : MemberKind) (a b : ℕ) → slice_get c.pool i ≡ Some (reference k class pair)
        → slice_get c.pool i ≡ Some (reference l a b) → l ≡ k
    kind_at k class pair l a b at there =
        (same_reference l k a b class pair (same_Some (reference l a b) (reference k class pair) (sym there ∙ at))).kind

    field_says : (class pair : ℕ) (link : Link) → slice_get c.pool i ≡ Some (Entry.FieldRef class pair) → IsFieldLink s c i link
        → RefusesLink s.classes s.self link ↔ Breaks
    field_says class pair link at (inl (m, f, e)) = (
      λ h. inr (inl (m, f, subst (RefusesLink s.classes s.self) e h)),
      λ h. elim h [
        | inl named ↦ absurd (no_class (Entry.FieldRef class pair) at (field_no_class class pair) named.0 named.2)
        | inr members ↦ elim members [
          | inl field ↦
              let same : field.0 ≡ m = (one_field_found s c i field.0 m field.1 f).0 in
              subst (RefusesLink s.classes s.self) (sym e) (subst (λ (w : MemberId). MayAccess s.classes s.self (Found.Field w) → ⊥) same field.2)
          | inr method ↦
              let g = method.1 in
              absurd (g.of_method (kind_at Field class pair g.kind g.is_there.0 g.is_there.1 at g.is_there.2))
        ]
      ],
    )
    field_says class pair link at (inr (never, e)) = (
      λ h. absurd (subst (RefusesLink s.classes s.self) e h),
      λ h. elim h [
        | inl named ↦ absurd (no_class (Entry.FieldRef class pair) at (field_no_class class pair) named.0 named.2)
        | inr members ↦ elim members [
          | inl field ↦ absurd (never field.0 field.1)
          | inr method ↦
              let g = method.1 in
              absurd (g.of_method (kind_at Field class pair g.kind g.is_there.0 g.is_there.1 at g.is_there.2))
        ]
      ],
    )

    method_says : (k : MemberKind) (class pair : ℕ) (link : Link) → k ≢ Field → ((n : ℕ) → reference k class pair ≡ Entry.Class n → ⊥)
        → slice_get c.pool i ≡ Some (reference k class pair) → IsMethodLink s c i link → RefusesLink s.classes s.self link ↔ Breaks
    method_says k class pair link other plain at (inl (m, f, e)) = (
      λ h. inr (inr (m, f, subst (RefusesLink s.classes s.self) e h)),
      λ h. elim h [
        | inl named ↦ absurd (no_class (reference k class pair) at plain named.0 named.2)
        | inr members ↦ elim members [
          | inl field ↦
              let g = field.1 in
              absurd (other (sym (kind_at k class pair Field g.is_there.0 g.is_there.1 at g.is_there.2)))
          | inr method ↦
              let same : method.0 ≡ m = (one_method_found s c i method.0 m method.1 f).0 in
              subst (RefusesLink s.classes s.self) (sym e) (subst (λ (w : MemberId). MayAccess s.classes s.self (Found.Method w) → ⊥) same method.2)
        ]
      ],
    )
    method_says k class pair link other plain at (inr (never, e)) = (
      λ h. absurd (subst (RefusesLink s.classes s.self) e h),
      λ h. elim h [
        | inl named ↦ absurd (no_class (reference k class pair) at plain named.0 named.2)
        | inr members ↦ elim members [
          | inl field ↦
              let g = field.1 in
              absurd (other (sym (kind_at k class pair Field g.is_there.0 g.is_there.1 at g.is_there.2)))
          | inr method ↦ absurd (never method.0 method.1)
        ]
      ],
    )

    -- ---- Any entry.

    nothing_says : (entry : PoolEntry) (link leads : Link) → slice_get c.pool i ≡ Some entry → is_plain entry ≡ true → link ≡ leads
        → (RefusesLink s.classes s.self leads → ⊥) → RefusesLink s.classes s.self link ↔ Breaks
    nothing_says entry link leads at plain e none = (
      λ h. absurd (none (subst (RefusesLink s.classes s.self) e h)),
      λ h. elim h [
        | inl named ↦ absurd (no_class entry at (plain_no_class entry plain) named.0 named.2)
        | inr member ↦ absurd (no_member entry at (plain_no_reference entry plain) member)
      ],
    )

    pub link_refused : (entry : PoolEntry) (link : Link) → slice_get c.pool i ≡ Some entry → IsLinkFor s c i entry link
        → RefusesLink s.classes s.self link ↔ Breaks
    link_refused (Entry.Class n) link at (units, t, text, is, e) =
        subst (λ (w : Link). RefusesLink s.classes s.self w ↔ Breaks) (sym e) (class_says n units t at text is)
    link_refused (Entry.FieldRef class pair) link at h = field_says class pair link at h
    link_refused (Entry.MethodRef class pair) link at h = method_says Method class pair link method_no_field (method_no_class class pair) at h
    link_refused (Entry.InterfaceMethodRef class pair) link at h =
        method_says InterfaceMethod class pair link interface_no_field (interface_no_class class pair) at h
    link_refused (Entry.Integer n) link at e = nothing_says (Entry.Integer n) link _ at refl e (λ h. h)
    link_refused (Entry.Long n) link at e = nothing_says (Entry.Long n) link _ at refl e (λ h. h)
    link_refused (Entry.Str text) link at (units, there, e) = nothing_says (Entry.Str text) link _ at refl e (λ h. h)
    link_refused Entry.Unusable link at e = nothing_says Entry.Unusable link To.Nothing at refl e (λ h. h)
    link_refused (Entry.Utf8 text) link at e = nothing_says (Entry.Utf8 text) link To.Nothing at refl e (λ h. h)
    link_refused (Entry.Float n) link at e = nothing_says (Entry.Float n) link To.Nothing at refl e (λ h. h)
    link_refused (Entry.Double n) link at e = nothing_says (Entry.Double n) link To.Nothing at refl e (λ h. h)
    link_refused (Entry.NameAndType n d) link at e = nothing_says (Entry.NameAndType n d) link To.Nothing at refl e (λ h. h)

-- ---- The walk over all entries.

module _ (classes : List ClassRecord) (self : ClassId) (links : List Link) where
  -- none of the links before this place is refused
  abbrev pub NoneRefused : ℕ → Type 0
  NoneRefused n = (j : ℕ) (link : Link) → j < n → slice_get links j ≡ Some link → RefusesLink classes self link → ⊥

  pub none_refused_more : (i : ℕ) (link : Link) → slice_get links i ≡ Some link → (RefusesLink classes self link → ⊥) → NoneRefused i → NoneRefused (i + 1)
  none_refused_more i link at never before j other low there h = elim (cases_lt j i) [
    | inl early ↦ before j other early there h
    | inr late ↦
        let here : j ≡ i = omega arith in
        let same : other ≡ link = same_Some other link (sym there ∙ subst (λ (n : ℕ). slice_get links n ≡ Some link) (sym here) at) in
        never (subst (RefusesLink classes self) same h)
  ]

-- ---- What a walk says of the class file.

-- access is refused only at an entry of the pool
refused_within : (s : LinkScope) (c : ClassFile) (i : ℕ) → IsAccessRefused s c (AtEntry i) → i < length c.pool
refused_within s c i (inl (name, cls, (units, (n, at, text), which), means, denied)) = slice_get_within c.pool i (Entry.Class n) at
refused_within s c i (inr (inl (m, f, denied))) = let (a, b, at, target, rest) = f.is_there in slice_get_within c.pool i (reference Field a b) at
refused_within s c i (inr (inr (m, f, denied))) = let (a, b, at, target, rest) = f.is_there in slice_get_within c.pool i (reference f.kind a b) at

module _ (classes : List ClassRecord) (self : ClassId) (links : List Link) (s : LinkScope) (c : ClassFile) (same : s.classes ≡ classes) (own : s.self ≡ self)
    (h : AreLinksFor s c links) where
  own_refusal : (link : Link) → RefusesLink classes self link → RefusesLink s.classes s.self link
  own_refusal link r =
      subst (λ (w : List ClassRecord). RefusesLink w s.self link) (sym same) (subst (λ (w : ClassId). RefusesLink classes w link) (sym own) r)

  given_refusal : (link : Link) → RefusesLink s.classes s.self link → RefusesLink classes self link
  given_refusal link r =
      subst (λ (w : List ClassRecord). RefusesLink w self link) same (subst (λ (w : ClassId). RefusesLink s.classes w link) own r)

  none_at : (n j : ℕ) → NoneRefused classes self links n → j < n → IsAccessRefused s c (AtEntry j) → ⊥
  none_at n j none low bad =
      let within = refused_within s c j bad in
      let entry = item_there c.pool j within in
      let link = item_there links j (omega (arith, within, h.as_many)) in
      none j link.0 low link.1 (given_refusal link.0 ((link_refused s c j entry.0 link.0 entry.1 (h.each j entry.0 link.0 entry.1 link.1)).1 bad))

  pub refused_found : (i : ℕ) (link : Link) → slice_get links i ≡ Some link → RefusesLink classes self link → NoneRefused classes self links i
      → IsFirstRefused s c (Some i)
  refused_found i link at r none =
      let entry = item_there c.pool i (omega (arith, slice_get_within links i link at, h.as_many)) in (
        (link_refused s c i entry.0 link entry.1 (h.each i entry.0 link entry.1 at)).0 (own_refusal link r),
        λ j low bad. none_at i j none low bad,
      )

  pub nothing_refused : (n : ℕ) → length links ≤ n → NoneRefused classes self links n → IsFirstRefused s c None
  nothing_refused n end none i bad = none_at n i none (omega (arith, refused_within s c i bad, h.as_many)) bad

pub denied_by : (P : Type 0) (b : Bool) → (IsTrue b ↔ P) → IsTrue (not b) ↔ (P → ⊥)
denied_by P true says = (λ (t : IsTrue (not true)). absurd cc, λ h. absurd (h (says.0 refl)))
denied_by P false says = (λ (t : IsTrue (not false)) p. let z : false ≡ true = says.1 p in absurd cc, λ h. refl)

pub refused_short : (s : LinkScope) (c : ClassFile) (i : ℕ) → IsWritable c → IsAccessRefused s c (AtEntry i) → i < 2 ^ 16
refused_short s c i writable refused = omega (arith, refused_within s c i refused, writable.is_class.layout.pool.1)
