-- An entry that leads to nothing, or to a method of a class of the wrong sort, is one that misses its member.
use Rattle.std.proofs.Common.{◌≡◌, ◌≢◌, ℕ, ◌+◌, ◌^◌, ◌<◌, ◌≤◌, inl, inr, Bool, true, false, ◌↔◌, IsTrue, List, length, arith, Some, None, refl, sym, ◌∙◌, ap, subst}
use Rattle.std.specs.Prelude.{slice_get}
use Rattle.std.specs.List.{AllByRecursion}
use Rattle.std.proofs.lemmas.Bool.{cases_lt}
use Rattle.std.proofs.lemmas.Option.{same_Some, slice_get_within}
use Rattle.jk_model.specs.declared.class_file.ClassFile.{ClassFile}
use Rattle.jk_model.specs.declared.class_file.PoolEntry.{PoolEntry}
use Rattle.jk_model.specs.declared.class_file.PoolEntry.TheVariants as Entry
use Rattle.jk_model.specs.declared.identifiers.ClassId.{ClassId}
use Rattle.jk_model.specs.declared.identifiers.MemberId.{MemberId}
use Rattle.jk_model.specs.ClassFile.{IsClassEntry, IsGoodEntry, IsPairEntry, NamesEntry}
use Rattle.jk_model.specs.ReadFaults.{IsWritable}
use Rattle.jk_model.proofs.EachItem.{all_at}
use Rattle.jk_model_classes.specs.declared.records.ClassRecord.{ClassRecord}
use Rattle.jk_model_classes.specs.declared.records.Link.{Link}
use Rattle.jk_model_classes.specs.declared.records.Link.TheVariants as To
use Rattle.jk_model_classes.specs.Items.{Entry as AtEntry}
use Rattle.jk_model_classes.specs.LinkRules.{FindsFieldAt, FindsMethodAt, IsReferenceAt, LinkScope, MissesMember, NamesRightSort}
use Rattle.jk_model_classes.specs.Members.{ClassAt, MemberKind, Field, Method, InterfaceMethod, NameAndTypeAt, reference}
use Rattle.class_lemmas.proofs.EntriesAreGood.{text_there, class_there}
use Rattle.jk_model_folders.specs.LinkedClasses.{AreLinksFor, IsFieldLink, IsLinkFor, IsMethodLink}
use Rattle.class_lemmas.proofs.OneText.{one_class}
use Rattle.link_rules.specs.MissingMembers.{IsFirstMissing, IsMissingBy, NamesInterface, NamesNoInterface}

-- ---- What the entries name is there.

abbrev AreGood : List PoolEntry → Type 0
AreGood pool = AllByRecursion (IsGoodEntry pool) pool

pair_of : (pool : List PoolEntry) (i : ℕ) (e : PoolEntry) → AreGood pool → slice_get pool i ≡ Some e → IsGoodEntry pool e → IsPairEntry e
    → (name : List ℕ) × (descriptor : List ℕ) × NameAndTypeAt pool i name descriptor
pair_of pool i (Entry.NameAndType n d) all at good k =
    let name = text_there pool n all good.0 in
    let descriptor = text_there pool d all good.1 in
    (name.0, descriptor.0, (n, d, at, name.1, descriptor.1))
pair_of pool i _ all at good k = absurd k

pair_there : (pool : List PoolEntry) (i : ℕ) → AreGood pool → NamesEntry IsPairEntry pool i
    → (name : List ℕ) × (descriptor : List ℕ) × NameAndTypeAt pool i name descriptor
pair_there pool i good (e, at, k) = pair_of pool i e good at (all_at (IsGoodEntry pool) pool i e good at) k

names_both : (pool : List PoolEntry) (k : MemberKind) (class pair : ℕ) → IsGoodEntry pool (reference k class pair)
    → NamesEntry IsClassEntry pool class × NamesEntry IsPairEntry pool pair
names_both pool Field class pair good = good
names_both pool Method class pair good = good
names_both pool InterfaceMethod class pair good = good

refers : (c : ClassFile) (i : ℕ) (k : MemberKind) (class pair : ℕ) → IsWritable c → slice_get c.pool i ≡ Some (reference k class pair) → IsReferenceAt c i
refers c i k class pair writable at =
    let good : AreGood c.pool = writable.is_class.entries in
    let both = names_both c.pool k class pair (all_at (IsGoodEntry c.pool) c.pool i (reference k class pair) good at) in
    let target = class_there c.pool class good both.0 in
    let (name, descriptor, pair_at) = pair_there c.pool pair good both.1 in
    (k, target.0, name, descriptor, (class, pair, at, target.1, pair_at))

-- ---- One kind, and one class.

record SameReference (k l : MemberKind) (a c : ℕ) : Type 0 where
  kind : k ≡ l
  class : a ≡ c

same_reference : (k l : MemberKind) (a b c d : ℕ) → reference k a b ≡ reference l c d → SameReference k l a c
same_reference Field Field a b c d e = record { kind = refl; class = cc }
same_reference Method Method a b c d e = record { kind = refl; class = cc }
same_reference InterfaceMethod InterfaceMethod a b c d e = record { kind = refl; class = cc }
same_reference _ _ a b c d e = absurd cc

module _ (s : LinkScope) (c : ClassFile) (i : ℕ) (k : MemberKind) (class pair : ℕ) (at : slice_get c.pool i ≡ Some (reference k class pair)) where
  same_here : (l : MemberKind) (a b : ℕ) → slice_get c.pool i ≡ Some (reference l a b) → SameReference l k a class
  same_here l a b there = same_reference l k a b class pair (same_Some (reference l a b) (reference k class pair) (sym there ∙ at))

  no_field : k ≢ Field → (m : MemberId) → FindsFieldAt s c i m → ⊥
  no_field other m f = let (a, b, there, target, rest) = f.is_there in other (sym (same_here Field a b there).kind)

  kind_is : (m : MemberId) (f : FindsMethodAt s c i m) → f.kind ≡ k
  kind_is m f = (same_here f.kind f.is_there.0 f.is_there.1 f.is_there.2).kind

  target_at : (m : MemberId) (f : FindsMethodAt s c i m) → ClassAt c.pool class f.target
  target_at m f =
      subst (λ (w : ℕ). ClassAt c.pool w f.target) (same_here f.kind f.is_there.0 f.is_there.1 f.is_there.2).class f.is_there.3

  one_named : (m n : MemberId) (f : FindsMethodAt s c i m) (g : FindsMethodAt s c i n) → f.class ≡ g.class
  one_named m n f g =
      same_Some f.class g.class
      (sym f.class_is ∙ ap s.meaning (one_class c.pool class f.target g.target (target_at m f) (target_at n g)) ∙ g.class_is)

decided : (b : Bool) → ((IsTrue b → ⊥) → ⊥) → IsTrue b
decided true h = refl
decided false h = absurd (h (λ t. cc))

-- ---- Fields.

module _ (s : LinkScope) (c : ClassFile) (i : ℕ) (writable : IsWritable c) (class pair : ℕ) (link : Link) where
  pub field_misses : (missing : Bool) → slice_get c.pool i ≡ Some (Entry.FieldRef class pair) → IsFieldLink s c i link
      → (IsTrue missing ↔ (link ≡ To.Nothing)) → IsTrue missing ↔ MissesMember s c (AtEntry i)
  field_misses missing at (inl (m, f, e)) (to, from) = (
    λ (t : IsTrue missing). let none = to t in absurd cc,
    λ h. absurd (h.1 m f),
  )
  field_misses missing at (inr (never, e)) (to, from) = (
    λ (t : IsTrue missing). (refers c i Field class pair writable at, never, λ m f right. f.of_method (kind_is s c i Field class pair at m f)),
    λ h. from e,
  )

  -- ---- Methods.

  abbrev Wrong : MemberKind → ClassId → Type 0
  Wrong k cls = NamesRightSort s.classes k cls → ⊥

  method_misses : (k : MemberKind) (missing : Bool) (Says : Link → Type 0) → k ≢ Field → slice_get c.pool i ≡ Some (reference k class pair)
      → IsMethodLink s c i link → (IsTrue missing ↔ Says link) → Says To.Nothing
      → ((cls : ClassId) (m : MemberId) → Says (To.Method cls m) → Wrong k cls)
      → ((cls : ClassId) (m : MemberId) → (Says (To.Method cls m) → ⊥) → Wrong k cls → ⊥)
      → IsTrue missing ↔ MissesMember s c (AtEntry i)
  method_misses k missing Says other at (inl (m, f, e)) (to, from) nothing wrong right = (
    λ (t : IsTrue missing). (
      refers c i k class pair writable at,
      no_field s c i k class pair at other,
      λ n g sort.
          let at_method : Says (To.Method f.class m) = subst Says e (to t) in
          let sort_k : NamesRightSort s.classes k g.class =
          subst (λ (w : MemberKind). NamesRightSort s.classes w g.class) (kind_is s c i k class pair at n g) sort in
          wrong f.class m at_method
          (subst (λ (w : ClassId). NamesRightSort s.classes k w) (one_named s c i k class pair at n m g f) sort_k),
    ),
    λ h.
        let bad : Wrong k f.class = subst (λ (w : MemberKind). NamesRightSort s.classes w f.class → ⊥) (kind_is s c i k class pair at m f) (h.2 m f) in
        decided missing (λ isnt. right f.class m (λ says. isnt (from (subst Says (sym e) says))) bad),
  )
  method_misses k missing Says other at (inr (never, e)) (to, from) nothing wrong right = (
    λ (t : IsTrue missing). (refers c i k class pair writable at, no_field s c i k class pair at other, λ m f sort. never m f),
    λ h. from (subst Says (sym e) nothing),
  )

-- ---- Any entry.

method_no_field : Method ≢ Field
method_no_field e = cc

interface_no_field : InterfaceMethod ≢ Field
interface_no_field e = cc

abbrev pub is_reference : PoolEntry → Bool
is_reference (Entry.FieldRef class pair) = true
is_reference (Entry.MethodRef class pair) = true
is_reference (Entry.InterfaceMethodRef class pair) = true
is_reference _ = false

reference_is : (k : MemberKind) (class pair : ℕ) → is_reference (reference k class pair) ≡ true
reference_is Field class pair = refl
reference_is Method class pair = refl
reference_is InterfaceMethod class pair = refl

pub no_ref : (entry : PoolEntry) → is_reference entry ≡ false → (k : MemberKind) (class pair : ℕ) → entry ≡ reference k class pair → ⊥
no_ref entry plain k class pair e =
    let both : true ≡ false = sym (reference_is k class pair) ∙ ap is_reference (sym e) ∙ plain in
    cc

module _ (s : LinkScope) (c : ClassFile) (i : ℕ) (writable : IsWritable c) where
  none_missed : (entry : PoolEntry) → slice_get c.pool i ≡ Some entry
      → ((k : MemberKind) (class pair : ℕ) → entry ≡ reference k class pair → ⊥) → MissesMember s c (AtEntry i) → ⊥
  none_missed entry at none ((k, target, name, descriptor, (class, pair, there, named, rest)), fields, methods) =
      none k class pair (same_Some entry (reference k class pair) (sym at ∙ there))

  no_reference : (missing : Bool) (entry : PoolEntry) → slice_get c.pool i ≡ Some entry
      → ((k : MemberKind) (class pair : ℕ) → entry ≡ reference k class pair → ⊥) → missing ≡ false → IsTrue missing ↔ MissesMember s c (AtEntry i)
  no_reference missing entry at none is = (λ (t : IsTrue missing). absurd cc, λ h. absurd (none_missed entry at none h))

  pub misses : (entry : PoolEntry) (link : Link) (missing : Bool) → slice_get c.pool i ≡ Some entry → IsLinkFor s c i entry link
      → IsMissingBy s.classes entry link missing → IsTrue missing ↔ MissesMember s c (AtEntry i)
  misses (Entry.FieldRef class pair) link missing at h says = field_misses s c i writable class pair link missing at h says
  misses (Entry.MethodRef class pair) link missing at h says =
      method_misses s c i writable class pair link Method missing (NamesInterface s.classes) method_no_field at h says tt (λ cls m is right. right is)
      (λ cls m not wrong. wrong not)
  misses (Entry.InterfaceMethodRef class pair) link missing at h says =
      method_misses s c i writable class pair link InterfaceMethod missing (NamesNoInterface s.classes) interface_no_field at h says tt
      (λ cls m is right. is right)
      (λ cls m not wrong. not wrong)
  misses Entry.Unusable link missing at h says =
      no_reference missing Entry.Unusable at (no_ref Entry.Unusable refl) says
  misses (Entry.Utf8 x) link missing at h says =
      no_reference missing (Entry.Utf8 x) at (no_ref (Entry.Utf8 x) refl) says
  misses (Entry.Integer x) link missing at h says =
      no_reference missing (Entry.Integer x) at (no_ref (Entry.Integer x) refl) says
  misses (Entry.Float x) link missing at h says =
      no_reference missing (Entry.Float x) at (no_ref (Entry.Float x) refl) says
  misses (Entry.Long x) link missing at h says =
      no_reference missing (Entry.Long x) at (no_ref (Entry.Long x) refl) says
  misses (Entry.Double x) link missing at h says =
      no_reference missing (Entry.Double x) at (no_ref (Entry.Double x) refl) says
  misses (Entry.Class x) link missing at h says =
      no_reference missing (Entry.Class x) at (no_ref (Entry.Class x) refl) says
  misses (Entry.Str x) link missing at h says =
      no_reference missing (Entry.Str x) at (no_ref (Entry.Str x) refl) says
  misses (Entry.NameAndType x y) link missing at h says =
      no_reference missing (Entry.NameAndType x y) at (no_ref (Entry.NameAndType x y) refl) says

-- ---- The walk over all entries.

pub entry_misses : (classes : List ClassRecord) (s : LinkScope) (c : ClassFile) (pool : List PoolEntry) (links all : List Link) (i : ℕ)
    (entry : PoolEntry) (link : Link) (missing : Bool) → s.classes ≡ classes → IsWritable c → pool ≡ c.pool → links ≡ all
    → slice_get pool i ≡ Some entry → slice_get links i ≡ Some link
    → AreLinksFor s c all → IsMissingBy classes entry link missing → IsTrue missing ↔ MissesMember s c (AtEntry i)
entry_misses classes s c pool links all i entry link missing same writable own kept at there h says =
    let at_own : slice_get c.pool i ≡ Some entry = subst (λ (w : List PoolEntry). slice_get w i ≡ Some entry) own at in
    let at_link : slice_get all i ≡ Some link = subst (λ (w : List Link). slice_get w i ≡ Some link) kept there in
    misses s c i writable entry link missing at_own (h.each i entry link at_own at_link)
    (subst (λ (w : List ClassRecord). IsMissingBy w entry link missing) (sym same) says)

-- no entry before this place misses its member
abbrev pub NoneMissing : List ClassRecord → ClassFile → List Link → ℕ → Type 0
NoneMissing classes c links n =
    (s : LinkScope) → s.classes ≡ classes → AreLinksFor s c links → (j : ℕ) → j < n → MissesMember s c (AtEntry j) → ⊥

pub none_missing_more : (classes : List ClassRecord) (c : ClassFile) (pool : List PoolEntry) (links all : List Link) (i : ℕ) (entry : PoolEntry) (link : Link)
    (missing : Bool) → IsWritable c → pool ≡ c.pool → links ≡ all → slice_get pool i ≡ Some entry → slice_get links i ≡ Some link
    → IsMissingBy classes entry link missing → missing ≡ false → NoneMissing classes c all i → NoneMissing classes c all (i + 1)
none_missing_more classes c pool links all i entry link missing writable own kept at there says passed before s same h j low miss =
    elim (cases_lt j i) [
      | inl early ↦ before s same h j early miss
      | inr late ↦
          let here : j ≡ i = omega arith in
          let is_so : missing ≡ true =
          (entry_misses classes s c pool links all i entry link missing same writable own kept at there h says).1
          (subst (λ (w : ℕ). MissesMember s c (AtEntry w)) here miss) in
          absurd cc
    ]

pub missing_found : (classes : List ClassRecord) (c : ClassFile) (pool : List PoolEntry) (links all : List Link) (i : ℕ) (entry : PoolEntry) (link : Link)
    (missing : Bool) → IsWritable c → pool ≡ c.pool → links ≡ all → slice_get pool i ≡ Some entry → slice_get links i ≡ Some link
    → IsMissingBy classes entry link missing → missing ≡ true → NoneMissing classes c all i → (s : LinkScope) → s.classes ≡ classes → AreLinksFor s c all
    → IsFirstMissing s c (Some i)
missing_found classes c pool links all i entry link missing writable own kept at there says failed before s same h = (
  (entry_misses classes s c pool links all i entry link missing same writable own kept at there h says).0 failed,
  λ j low miss. before s same h j low miss,
)

pub nothing_missing : (classes : List ClassRecord) (c : ClassFile) (pool : List PoolEntry) (all : List Link) (n : ℕ) → pool ≡ c.pool → length pool ≤ n
    → NoneMissing classes c all n → (s : LinkScope) → s.classes ≡ classes → AreLinksFor s c all → IsFirstMissing s c None
nothing_missing classes c pool all n own end before s same h i miss =
    let (k, target, name, descriptor, (class, pair, at, named, rest)) = miss.0 in
    let within = slice_get_within c.pool i (reference k class pair) at in
    before s same h i (omega (arith, within, ap length own)) miss

pub missing_within : (s : LinkScope) (c : ClassFile) (i : ℕ) → IsWritable c → MissesMember s c (AtEntry i) → i < 2 ^ 16
missing_within s c i writable miss =
    let (k, target, name, descriptor, (class, pair, at, target_at, pair_at)) = miss.0 in
    omega (arith, slice_get_within c.pool i (reference k class pair) at, writable.is_class.layout.pool.1)
