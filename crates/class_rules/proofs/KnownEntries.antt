-- What is known of an entry that is a class or a reference, and at which spots a rule on entries is broken.
use Rattle.std.proofs.Common.{◌≡◌, ℕ, ◌⊎◌, inl, inr, ◌↔◌, refl, sym, ◌∙◌, subst, Bool, false, List, Option, Some, None, MatchOption}
use Rattle.std.specs.Prelude.{slice_get, IsTrue, not}
use Rattle.jk_model.specs.declared.class_file.PoolEntry.{PoolEntry}
use Rattle.jk_model.specs.declared.class_file.PoolEntry.TheVariants.{Class, FieldRef, MethodRef, InterfaceMethodRef, NameAndType}
use Rattle.jk_model_classes.specs.ClassNames.{NamesClass, BeginsArray}
use Rattle.jk_model_classes.specs.Members.{TextAt, ClassAt, NameAndTypeAt, ReferenceAt, MemberKind, Field as FieldKind, Method as MethodKind, InterfaceMethod as InterfaceMethodKind}
use Rattle.class_lemmas.proofs.OneText.{one_class as one_class_at, one_text}
use Rattle.class_rules.specs.declared.known_pool.Reference.{Reference}
use Rattle.class_rules.specs.declared.known_pool.ReferenceKind.{ReferenceKind}
use Rattle.class_rules.specs.declared.texts.TextFacts.{TextFacts}
use Rattle.class_rules.specs.Entries.{kind_of, class_of, reference_of, HasClassName, HasReference, IsClassSo, IsReferenceSo}
use Rattle.class_rules.specs.KnownPools.{IsTextKnown, ArePairKnown, IsClassKnown, IsNameKnown, IsReferenceKnown}
use Rattle.class_rules.specs.Texts.{AreFactsOf}
use Rattle.class_rules.proofs.Decisions.{denied}

-- the texts of a name and a descriptor at an index are at their own indices
pub pair_texts : (pool : List PoolEntry) (i n d : ℕ) (name descriptor : List ℕ) → slice_get pool i ≡ Some (NameAndType n d)
    → NameAndTypeAt pool i name descriptor → TextAt pool n name × TextAt pool d descriptor
pair_texts pool i n d name descriptor at (n2, d2, here, first, second) =
    let same : Some (NameAndType n2 d2) ≡ Some (NameAndType n d) = sym here ∙ at in
    let names : n2 ≡ n = cc in
    let descriptors : d2 ≡ d = cc in
    (subst (λ (k : ℕ). TextAt pool k name) names first, subst (λ (k : ℕ). TextAt pool k descriptor) descriptors second)

-- a name and a descriptor at an index are one pair of texts
pub one_pair : (pool : List PoolEntry) (i : ℕ) (a b c d : List ℕ) → NameAndTypeAt pool i a b → NameAndTypeAt pool i c d → (a ≡ c) × (b ≡ d)
one_pair pool i a b c d (n, m, at, first, second) h =
    let texts = pair_texts pool i n m c d at h in
    (one_text pool n a c first texts.0, one_text pool m b d second texts.1)

pub class_known : (pool : List PoolEntry) (name : ℕ) (found : Option TextFacts) → IsTextKnown pool name found → IsClassKnown pool (Class name) found
class_known pool name None h = h
class_known pool name (Some facts) h = h

pub pair_known : (pool : List PoolEntry) (i n d : ℕ) (name descriptor : TextFacts) → slice_get pool i ≡ Some (NameAndType n d)
    → IsTextKnown pool n (Some name) → IsTextKnown pool d (Some descriptor) → ArePairKnown pool i (Some (name, descriptor))
pair_known pool i n d name descriptor at (u, first, of_name) (v, second, of_descriptor) = (u, v, (n, d, at, first, second), of_name, of_descriptor)

no_pair : (pool : List PoolEntry) (i n d : ℕ) → slice_get pool i ≡ Some (NameAndType n d)
    → IsTextKnown pool n None ⊎ IsTextKnown pool d None → ArePairKnown pool i None
no_pair pool i n d at (inl none) name descriptor h = none name (pair_texts pool i n d name descriptor at h).0
no_pair pool i n d at (inr none) name descriptor h = none descriptor (pair_texts pool i n d name descriptor at h).1

-- the answer of `?` where one of the two texts isn't there
pub pair_unknown : (pool : List PoolEntry) (i n d : ℕ) (found : Option (TextFacts × TextFacts)) → found ≡ None
    → slice_get pool i ≡ Some (NameAndType n d) → IsTextKnown pool n None ⊎ IsTextKnown pool d None → ArePairKnown pool i found
pair_unknown pool i n d found none at missing = subst (λ (f : Option (TextFacts × TextFacts)). ArePairKnown pool i f) (sym none) (no_pair pool i n d at missing)

no_reference : (pool : List PoolEntry) (found : Option (ReferenceKind × ℕ)) (kind : ReferenceKind) (pair : ℕ) → Some (kind, pair) ≡ found
    → ArePairKnown pool pair None → (k : MemberKind) (name descriptor : List ℕ)
    → MatchOption found ⊥ (λ r. (k ≡ kind_of r.0) × NameAndTypeAt pool r.1 name descriptor) → ⊥
no_reference pool found kind pair same none k name descriptor h =
    let at = subst (λ (f : Option (ReferenceKind × ℕ)). MatchOption f ⊥ (λ r. (k ≡ kind_of r.0) × NameAndTypeAt pool r.1 name descriptor)) (sym same) h in
    none name descriptor at.1

-- the answer of `?` where the name and the descriptor of a reference aren't there
pub reference_unknown : (pool : List PoolEntry) (entry : PoolEntry) (kind : ReferenceKind) (pair : ℕ) (found : Option Reference) → found ≡ None
    → Some (kind, pair) ≡ reference_of entry → ArePairKnown pool pair None → IsReferenceKnown pool entry found
reference_unknown pool entry kind pair found none same missing =
    subst (λ (f : Option Reference). IsReferenceKnown pool entry f) (sym none)
    (λ k name descriptor h. no_reference pool (reference_of entry) kind pair same missing k name descriptor h)

-- ---- One class, and one reference.

one_class_of : (pool : List PoolEntry) (name : Option ℕ) (u v : List ℕ) → MatchOption name ⊥ (λ n. TextAt pool n u) → MatchOption name ⊥ (λ n. TextAt pool n v)
    → u ≡ v
one_class_of pool None u v h k = absurd h
one_class_of pool (Some n) u v h k = one_text pool n u v h k

pub one_class : (pool : List PoolEntry) (entry : PoolEntry) (u v : List ℕ) → HasClassName pool entry u → HasClassName pool entry v → u ≡ v
one_class pool entry u v h k = one_class_of pool (class_of entry) u v h k

pub record SameReference (k l : MemberKind) (a b c d : List ℕ) : Type 0 where
  pub kind : k ≡ l
  pub name : a ≡ c
  pub descriptor : b ≡ d

one_reference_of : (pool : List PoolEntry) (found : Option (ReferenceKind × ℕ)) (k l : MemberKind) (a b c d : List ℕ)
    → MatchOption found ⊥ (λ r. (k ≡ kind_of r.0) × NameAndTypeAt pool r.1 a b) → MatchOption found ⊥ (λ r. (l ≡ kind_of r.0) × NameAndTypeAt pool r.1 c d)
    → SameReference k l a b c d
one_reference_of pool None k l a b c d h g = absurd h
one_reference_of pool (Some r) k l a b c d h g =
    let texts = one_pair pool r.1 a b c d h.1 g.1 in
    record { kind = h.0 ∙ sym g.0; name = texts.0; descriptor = texts.1 }

pub one_reference : (pool : List PoolEntry) (entry : PoolEntry) (k l : MemberKind) (a b c d : List ℕ) → HasReference pool entry k a b
    → HasReference pool entry l c d → SameReference k l a b c d
one_reference pool entry k l a b c d h g = one_reference_of pool (reference_of entry) k l a b c d h g

-- ---- Spots.

class_at : (pool : List PoolEntry) (i : ℕ) (entry : PoolEntry) (units : List ℕ) → slice_get pool i ≡ Some entry → HasClassName pool entry units
    → ClassAt pool i units
class_at pool i (Class name) units at h = (name, at, h)
class_at pool i _ units at h = absurd h

reference_at : (pool : List PoolEntry) (i : ℕ) (entry : PoolEntry) (kind : MemberKind) (name descriptor : List ℕ) → slice_get pool i ≡ Some entry
    → HasReference pool entry kind name descriptor → ReferenceAt pool i kind name descriptor
reference_at pool i (FieldRef class pair) kind name descriptor at (same, h) =
    subst (λ (k : MemberKind). ReferenceAt pool i k name descriptor) (sym same) (class, pair, at, h)
reference_at pool i (MethodRef class pair) kind name descriptor at (same, h) =
    subst (λ (k : MemberKind). ReferenceAt pool i k name descriptor) (sym same) (class, pair, at, h)
reference_at pool i (InterfaceMethodRef class pair) kind name descriptor at (same, h) =
    subst (λ (k : MemberKind). ReferenceAt pool i k name descriptor) (sym same) (class, pair, at, h)
reference_at pool i _ kind name descriptor at h = absurd h

-- the spot of a class whose name is so
pub class_spot : (P : List ℕ → Type 0) (pool : List PoolEntry) (i : ℕ)
    → ((units : List ℕ) × ClassAt pool i units × P units) ↔ ((entry : PoolEntry) × (slice_get pool i ≡ Some entry) × IsClassSo P pool entry)
class_spot P pool i = (
  λ (units, (name, at, text), p). (Class name, at, (units, text, p)),
  λ (entry, at, (units, h, p)). (units, class_at pool i entry units at h, p),
)

entry_of : (P : MemberKind → List ℕ → List ℕ → Type 0) (pool : List PoolEntry) (i : ℕ) (kind : MemberKind) (name descriptor : List ℕ)
    → ReferenceAt pool i kind name descriptor → P kind name descriptor
    → (entry : PoolEntry) × (slice_get pool i ≡ Some entry) × IsReferenceSo P pool entry
entry_of P pool i FieldKind name descriptor (class, pair, at, h) p = (FieldRef class pair, at, (FieldKind, name, descriptor, (refl, h), p))
entry_of P pool i MethodKind name descriptor (class, pair, at, h) p = (MethodRef class pair, at, (MethodKind, name, descriptor, (refl, h), p))
entry_of P pool i InterfaceMethodKind name descriptor (class, pair, at, h) p =
    (InterfaceMethodRef class pair, at, (InterfaceMethodKind, name, descriptor, (refl, h), p))

-- the spot of a reference whose kind, name and descriptor are so
pub reference_spot : (P : MemberKind → List ℕ → List ℕ → Type 0) (pool : List PoolEntry) (i : ℕ)
    → ((kind : MemberKind) × (name : List ℕ) × (descriptor : List ℕ) × ReferenceAt pool i kind name descriptor × P kind name descriptor)
    ↔ ((entry : PoolEntry) × (slice_get pool i ≡ Some entry) × IsReferenceSo P pool entry)
reference_spot P pool i = (
  λ (kind, name, descriptor, at, p). entry_of P pool i kind name descriptor at p,
  λ (entry, at, (kind, name, descriptor, h, p)). (kind, name, descriptor, reference_at pool i entry kind name descriptor at h, p),
)

-- ---- Tests of entries.

no_class_reference : (pool : List PoolEntry) (entry : PoolEntry) (units : List ℕ) (kind : MemberKind) (name descriptor : List ℕ)
    → HasClassName pool entry units → HasReference pool entry kind name descriptor → ⊥
no_class_reference pool (Class n) units kind name descriptor h k = k
no_class_reference pool _ units kind name descriptor h k = h

-- an entry that is a class is refused by its name
pub class_decides : (P : List ℕ → Type 0) (Q : MemberKind → List ℕ → List ℕ → Type 0) (pool : List PoolEntry) (entry : PoolEntry) (facts : TextFacts)
    (b : Bool) → IsClassKnown pool entry (Some facts)
    → ((entries : List PoolEntry) (units : List ℕ) → AreFactsOf entries units facts → IsTrue b ↔ P units)
    → IsTrue b ↔ (IsClassSo P pool entry ⊎ IsReferenceSo Q pool entry)
class_decides P Q pool entry facts b (units, has, known) says =
    let here = says pool units known in (
      λ e. inl (units, has, here.0 e),
      λ s. elim s [
        | inl k ↦ here.1 (subst P (one_class pool entry k.0 units k.1 has) k.2)
        | inr k ↦ absurd (no_class_reference pool entry units k.0 k.1 k.2 has k.3)
      ],
    )

-- an entry that is a reference is refused by its kind, name and descriptor
pub reference_decides : (Q : MemberKind → List ℕ → List ℕ → Type 0) (pool : List PoolEntry) (entry : PoolEntry) (found : Reference) (b : Bool)
    → IsReferenceKnown pool entry (Some found)
    → ((entries : List PoolEntry) (name descriptor : List ℕ) → AreFactsOf entries name found.name → AreFactsOf entries descriptor found.descriptor
    → IsTrue b ↔ Q (kind_of found.kind) name descriptor)
    → IsTrue b ↔ IsReferenceSo Q pool entry
reference_decides Q pool entry found b (name, descriptor, has, of_name, of_descriptor) says =
    let here = says pool name descriptor of_name of_descriptor in (
      λ e. (kind_of found.kind, name, descriptor, has, here.0 e),
      λ (l, c, d, there, q).
          let same = one_reference pool entry l (kind_of found.kind) c d name descriptor there has in
          here.1 (subst (λ (k : MemberKind). Q k name descriptor) same.kind
          (subst (λ (n : List ℕ). Q l n descriptor) same.name (subst (λ (t : List ℕ). Q l c t) same.descriptor q))),
    )

-- the same, of an entry that is no class
pub no_class_decides : (P : List ℕ → Type 0) (Q : MemberKind → List ℕ → List ℕ → Type 0) (pool : List PoolEntry) (entry : PoolEntry) (b : Bool)
    → IsClassKnown pool entry None → IsTrue b ↔ IsReferenceSo Q pool entry → IsTrue b ↔ (IsClassSo P pool entry ⊎ IsReferenceSo Q pool entry)
no_class_decides P Q pool entry b none says = (
  λ e. inr (says.0 e),
  λ s. elim s [
    | inl k ↦ absurd (none k.0 k.1)
    | inr k ↦ says.1 k
  ],
)

-- ---- The class at an index.

-- what is known of a class's name at the index of the class
pub name_known : (pool : List PoolEntry) (i : ℕ) (entry : PoolEntry) (found : Option TextFacts) → slice_get pool i ≡ Some entry
    → IsClassKnown pool entry found → IsNameKnown pool i found
name_known pool i entry None at none =
    λ units (name, here, text).
    let same : Some (Class name) ≡ Some entry = sym here ∙ at in
    let class : Class name ≡ entry = cc in
    none units (subst (λ (e : PoolEntry). HasClassName pool e units) class text)
name_known pool i entry (Some facts) at (units, has, known) = (units, class_at pool i entry units at has, known)

pub no_name_known : (pool : List PoolEntry) (i : ℕ) → slice_get pool i ≡ None → IsNameKnown pool i None
no_name_known pool i at = λ units (name, here, text). let same : Some (Class name) ≡ None = sym here ∙ at in cc

-- a class is none of an array by the first unit of its name
pub named_by_first : (pool : List PoolEntry) (i place : ℕ) (facts : TextFacts) → place ≡ i → IsNameKnown pool place (Some facts)
    → IsTrue (not facts.begins_array) ↔ NamesClass pool i
named_by_first pool i place facts same (units, at, known) =
    let unlike = denied facts.begins_array known.begins_array in
    let here = subst (λ (n : ℕ). ClassAt pool n units) same at in (
      λ e. (units, here, unlike.0 e),
      λ (v, there, none). unlike.1 (subst (λ (u : List ℕ). BeginsArray u → ⊥) (one_class_at pool i v units there here) none),
    )

pub never_named : (pool : List PoolEntry) (i place : ℕ) → place ≡ i → IsNameKnown pool place None → IsTrue false ↔ NamesClass pool i
never_named pool i place same none =
    (λ e. absurd cc, λ (units, at, unlike). absurd (none units (subst (λ (n : ℕ). ClassAt pool n units) (sym same) at)))

-- ---- The reference at an index.

-- a member of this name is referred to at an index where the reference there says so
pub refers_to : (word : List ℕ) (pool : List PoolEntry) (i : ℕ) (entry : PoolEntry) (b : Bool) → slice_get pool i ≡ Some entry
    → IsTrue b ↔ IsReferenceSo (λ kind name descriptor. name ≡ word) pool entry
    → IsTrue b ↔ ((kind : MemberKind) × (descriptor : List ℕ) × ReferenceAt pool i kind word descriptor)
refers_to word pool i entry b at says = (
  λ e.
      let (kind, name, descriptor, has, same) = says.0 e in
      (kind, descriptor, subst (λ (n : List ℕ). ReferenceAt pool i kind n descriptor) same (reference_at pool i entry kind name descriptor at has)),
  λ (kind, descriptor, there).
      let (other, here, so) = entry_of (λ kind name descriptor. name ≡ word) pool i kind word descriptor there refl in
      let both : Some other ≡ Some entry = sym here ∙ at in
      let same : other ≡ entry = cc in
      says.1 (subst (λ (e : PoolEntry). IsReferenceSo (λ kind name descriptor. name ≡ word) pool e) same so),
)

pub refers_to_none : (word : List ℕ) (pool : List PoolEntry) (i : ℕ) (entry : PoolEntry) → slice_get pool i ≡ Some entry
    → IsReferenceKnown pool entry None → IsTrue false ↔ ((kind : MemberKind) × (descriptor : List ℕ) × ReferenceAt pool i kind word descriptor)
refers_to_none word pool i entry at none =
    refers_to word pool i entry false at (λ e. absurd cc, λ (kind, name, descriptor, has, same). absurd (none kind name descriptor has))

pub refers_nowhere : (word : List ℕ) (pool : List PoolEntry) (i : ℕ) → slice_get pool i ≡ None
    → IsTrue false ↔ ((kind : MemberKind) × (descriptor : List ℕ) × ReferenceAt pool i kind word descriptor)
refers_nowhere word pool i at = (
  λ e. absurd cc,
  λ (kind, descriptor, there).
      let (other, here, so) = entry_of (λ kind name descriptor. name ≡ word) pool i kind word descriptor there refl in
      let same : Some other ≡ None = sym here ∙ at in
      absurd cc,
)
