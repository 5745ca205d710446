-- Which names have no meaning, by what says them.
use Rattle.std.proofs.Common.{◌≡◌, ◌≢◌, ℕ, ◌+◌, ◌<◌, ◌≤◌, ◌⊎◌, ◌↔◌, inl, inr, Bool, true, false, IsTrue, List, [], ◌∷◌, ◌++◌, length, Option, Some, None, slice_get, refl, sym, ◌∙◌, ap, subst, arith}
use Rattle.std.proofs.lemmas.Bool.{cases_lt}
use Rattle.std.proofs.lemmas.Option.{same_Some, slice_get_within}
use Rattle.jk_model.specs.declared.class_file.ClassFile.{ClassFile}
use Rattle.jk_model.specs.declared.class_file.PoolEntry.{PoolEntry}
use Rattle.jk_model.specs.declared.class_file.PoolEntry.TheVariants.{Class, Utf8}
use Rattle.jk_model.specs.declared.descriptors.Base.TheVariants as Base
use Rattle.jk_model.specs.declared.descriptors.FieldType.{FieldType}
use Rattle.jk_model.specs.declared.descriptors.MethodType.{MethodType}
use Rattle.jk_model.specs.declared.identifiers.ClassId.{ClassId}
use Rattle.jk_model.specs.declared.output.Rule.TheVariants.{C7}
use Rattle.jk_model.specs.Descriptors.{IsClassName, IsFieldText, IsMethodText}
use Rattle.jk_model_classes.specs.ClassNames.{BeginsArray, IsClassEntryName}
use Rattle.jk_model_classes.specs.Items.{Spot, Member, Entry, HasItem, HasItemBefore}
use Rattle.jk_model_classes.specs.Members.{TextAt}
use Rattle.jk_model_classes.specs.OneClassRules.{HasNoFault}
use Rattle.jk_model_classes.specs.References.{FolderScope, IsDescriptorEntry, IsKnownName, IsOfClass, IsResultOfClass, Mentions, MissesClass, RefersAt}
use Rattle.jk_model_classes.specs.Worlds.{NamedClass, class_named}
use Rattle.model_lemmas.proofs.ClassNamesDecided.{class_or_not}
use Rattle.class_lemmas.proofs.ArraysHaveNoNames.{array_begins}
use Rattle.class_lemmas.proofs.ClassesInDescriptors.{is_array, field_mentions, method_mentions}
use Rattle.list_lemmas.proofs.ItemsByPlace.{slice_get-front, slice_get-last}
use Rattle.class_lemmas.proofs.OneText.{one_text}
use Rattle.name_rules.specs.FolderNames.{AreOwnNames}
use Rattle.name_rules.specs.KnownNames.{AreLacking, DescriptorSays, IsEntryName, IsNamedBy, IsSaidBy, Lacks, LacksOne}
use Rattle.name_rules.specs.Marks.{IsMarked}
use Rattle.name_rules.specs.declared.names.Names.{Names}
use Rattle.name_rules.proofs.ItemsSoFar.{before_split}

abbrev pub Tells : Names → (List ℕ → Type 0) → Bool → Type 0
Tells x Says r = IsTrue r ↔ LacksOne x Says

-- the same names are said
pub tells_as : (x : Names) (P Q : List ℕ → Type 0) (r : Bool) → ((name : List ℕ) → P name → Q name) → ((name : List ℕ) → Q name → P name)
    → Tells x P r → Tells x Q r
tells_as x P Q r to from h = (
  λ t. let found = h.0 t in (found.0, to found.0 found.1, found.2),
  λ (name, said, lacks). h.1 (name, from name said, lacks),
)

-- no name is said
pub tells_none : (x : Names) (P : List ℕ → Type 0) → ((name : List ℕ) → P name → ⊥) → Tells x P false
tells_none x P never = (λ t. absurd cc, λ (name, said, lacks). absurd (never name said))

pub tells_first : (x : Names) (P Q R : List ℕ → Type 0) (a : Bool) → a ≡ true → ((name : List ℕ) → P name → R name) → Tells x P a → Tells x R a
tells_first x P Q R a is_so to h = (λ t. let found = h.0 t in (found.0, to found.0 found.1, found.2), λ _. is_so)

pub tells_second : (x : Names) (P Q R : List ℕ → Type 0) (a b : Bool) → a ≡ false → ((name : List ℕ) → Q name → R name)
    → ((name : List ℕ) → R name → P name ⊎ Q name) → Tells x P a → Tells x Q b → Tells x R b
tells_second x P Q R a b is_not to split h k = (
  λ t. let found = k.0 t in (found.0, to found.0 found.1, found.2),
  λ (name, said, lacks). elim (split name said) [
    | inl p ↦ absurd (let both : a ≡ true = h.1 (name, p, lacks) in cc)
    | inr q ↦ k.1 (name, q, lacks)
  ],
)

-- ---- Types in turn.

pub none_of_more : (x : Names) (types : List FieldType) (k : ℕ) (t : FieldType) (r : Bool) → slice_get types k ≡ Some t
    → Tells x (λ name. t.base ≡ Base.Class name) r → r ≡ false → (LacksOne x (λ name. HasItemBefore k (IsOfClass name) types) → ⊥)
    → LacksOne x (λ name. HasItemBefore (k + 1) (IsOfClass name) types) → ⊥
none_of_more x types k t r at tells is_not none (name, early, lacks) = elim (before_split (IsOfClass name) types k t at early) [
  | inl old ↦ none (name, old, lacks)
  | inr here ↦ let both : r ≡ true = tells.1 (name, here, lacks) in let never : false ≡ true = sym is_not ∙ both in absurd cc
]

pub one_of_types : (x : Names) (types : List FieldType) (k : ℕ) (t : FieldType) → slice_get types k ≡ Some t
    → LacksOne x (λ name. t.base ≡ Base.Class name) → LacksOne x (λ name. HasItem (IsOfClass name) types)
one_of_types x types k t at (name, is, lacks) = (name, (k, t, at, is), lacks)

-- ---- Descriptors.

pub field_tells : (x : Names) (units : List ℕ) (t : FieldType) (r : Bool) → IsFieldText units t → Tells x (λ name. t.base ≡ Base.Class name) r
    → Tells x (Mentions units) r
field_tells x units t r text h =
    tells_as x (λ name. t.base ≡ Base.Class name) (Mentions units) r (λ name is. inl (t, text, is)) (λ name. field_mentions units name t text) h

module _ (x : Names) (units : List ℕ) (m : MethodType) (text : IsMethodText units m) (a : Bool)
    (params : Tells x (λ name. HasItem (IsOfClass name) m.params) a) where
  pub params_tell : a ≡ true → Tells x (Mentions units) a
  params_tell is_so =
      tells_first x (λ name. HasItem (IsOfClass name) m.params) (λ name. IsResultOfClass name m.result) (Mentions units) a is_so
      (λ name h. inr (m, text, inl h)) params

  pub result_tells : (b : Bool) → a ≡ false → Tells x (λ name. IsResultOfClass name m.result) b → Tells x (Mentions units) b
  result_tells b is_not h =
      tells_second x (λ name. HasItem (IsOfClass name) m.params) (λ name. IsResultOfClass name m.result) (Mentions units) a b is_not
      (λ name k. inr (m, text, inr k)) (λ name. method_mentions units name m text) params h

pub none_mentioned : (x : Names) (units : List ℕ) → ((t : FieldType) → IsFieldText units t → ⊥) → ((m : MethodType) → IsMethodText units m → ⊥)
    → Tells x (Mentions units) false
none_mentioned x units no_field no_method =
    tells_none x (Mentions units) (λ name h. elim h [ inl field ↦ no_field field.0 field.1 | inr method ↦ no_method method.0 method.1 ])

-- ---- Names of Class entries.

pub array_tells : (x : Names) (units : List ℕ) (r : Bool) → BeginsArray units → (BeginsArray units → IsClassName units → ⊥)
    → Tells x (λ name. (t : FieldType) × IsFieldText units t × IsOfClass name t) r → Tells x (IsNamedBy units) r
array_tells x units r begins never h =
    tells_as x (λ name. (t : FieldType) × IsFieldText units t × IsOfClass name t) (IsNamedBy units) r
    (λ name k. inr (k.0, k.1, is_array units begins.0 k.0 begins.1 k.1, k.2))
    (λ name k. elim k [ inl class ↦ absurd (never begins class.0) | inr array ↦ (array.0, array.1, array.3) ]) h

is_name : (units : List ℕ) → (BeginsArray units → ⊥) → ((IsClassEntryName units → ⊥) → ⊥) → IsClassName units
is_name units other form = elim (class_or_not units) [
  | inl class ↦ class
  | inr never ↦ absurd (form (λ k. elim k [ inl class ↦ never class | inr array ↦ other (array_begins units array) ]))
]

one_dim : (d : ℕ) → d ≢ 0 → 1 ≤ d
one_dim d some = omega (arith, some)

pub class_tells : (x : Names) (units : List ℕ) (r : Bool) → (BeginsArray units → ⊥) → ((IsClassEntryName units → ⊥) → ⊥) → IsTrue r ↔ Lacks x units
    → Tells x (IsNamedBy units) r
class_tells x units r other form h = (
  λ t. (units, inl (is_name units other form, refl), h.0 t),
  λ (name, said, lacks). elim said [
    | inl class ↦ h.1 (subst (λ (w : List ℕ). Lacks x w) class.1 lacks)
    | inr array ↦ absurd (other (array_begins units (array.0, one_dim array.0.dims array.2, array.1)))
  ],
)

-- ---- The text at an index.

pub text_tells : (x : Names) (pool : List PoolEntry) (n : ℕ) (units : List ℕ) (r : Bool) → TextAt pool n units → Tells x (IsNamedBy units) r
    → Tells x (IsSaidBy pool n) r
text_tells x pool n units r text h =
    tells_as x (IsNamedBy units) (IsSaidBy pool n) r (λ name k. (units, text, k))
    (λ name k. subst (λ (us : List ℕ). IsNamedBy us name) (one_text pool n k.0 units k.1 text) k.2) h

pub descriptor_tells : (x : Names) (pool : List PoolEntry) (n : ℕ) (units : List ℕ) (r : Bool) → TextAt pool n units → Tells x (Mentions units) r
    → Tells x (DescriptorSays pool n) r
descriptor_tells x pool n units r text h =
    tells_as x (Mentions units) (DescriptorSays pool n) r (λ name k. (units, text, k))
    (λ name k. subst (λ (us : List ℕ). Mentions us name) (one_text pool n k.0 units k.1 text) k.2) h

pub no_text_tells : (x : Names) (pool : List PoolEntry) (n : ℕ) → ((units : List ℕ) → TextAt pool n units → ⊥)
    → Tells x (IsSaidBy pool n) false × Tells x (DescriptorSays pool n) false
no_text_tells x pool n none =
    (tells_none x (IsSaidBy pool n) (λ name k. none k.0 k.1), tells_none x (DescriptorSays pool n) (λ name k. none k.0 k.1))

-- what a Class entry is called has the form of such a name, in a file that breaks no rule
pub entry_name_form : (c : ClassFile) (path : List ℕ) (n : ℕ) (units : List ℕ) → HasNoFault c path → IsEntryName c.pool n → TextAt c.pool n units
    → (IsClassEntryName units → ⊥) → ⊥
entry_name_form c path n units alone (i, e, at, is) text never =
    alone C7 (Entry i) (inl (units, (n, at ∙ ap (λ (w : PoolEntry). Some w) is, text), never))

pub mark_tells : (x : Names) (pool : List PoolEntry) (marks : List Bool) (n i : ℕ) (r : Bool) → AreLacking x pool marks
    → slice_get pool i ≡ Some (Class n) → IsTrue r ↔ IsMarked marks n → Tells x (IsSaidBy pool n) r
mark_tells x pool marks n i r are at marked = (
  λ t.
      let m : slice_get marks n ≡ Some true = marked.0 t in
      let within = slice_get_within marks n true m in
      (are.at n (omega (arith, are.as_many)) (i, Class n, at, refl)).0 m,
  λ h.
      let within = slice_get_within pool n (Utf8 h.1.1.0) h.1.1.1 in
      marked.1 ((are.at n within (i, Class n, at, refl)).1 h),
)

pub lacking_more : (x : Names) (pool : List PoolEntry) (marks : List Bool) (n : ℕ) (b : Bool) → length marks ≡ n
    → ((k : ℕ) → k < n → IsEntryName pool k → IsMarked marks k ↔ LacksOne x (IsSaidBy pool k)) → (IsEntryName pool n → Tells x (IsSaidBy pool n) b)
    → (k : ℕ) → k < n + 1 → IsEntryName pool k → IsMarked (marks ++ b ∷ []) k ↔ LacksOne x (IsSaidBy pool k)
lacking_more x pool marks n b long before here k below is_name = elim (cases_lt k n) [
  | inl less ↦
      let e = slice_get-front marks (b ∷ []) k (omega (arith, long)) in
      ((λ m. (before k less is_name).0 (sym e ∙ m)), (λ l. e ∙ (before k less is_name).1 l))
  | inr least ↦
      let same : length marks ≡ k = omega (arith, long) in
      let own : n ≡ k = omega arith in
      let last : slice_get (marks ++ b ∷ []) k ≡ Some b =
      subst (λ (i : ℕ). slice_get (marks ++ b ∷ []) i ≡ Some b) same (slice_get-last marks b) in
      let tells : Tells x (IsSaidBy pool k) b =
      subst (λ (i : ℕ). Tells x (IsSaidBy pool i) b) own (here (subst (λ (i : ℕ). IsEntryName pool i) (sym own) is_name)) in
      ((λ m. tells.0 (same_Some b true (sym last ∙ m))), (λ l. last ∙ ap (λ (w : Bool). Some w) (tells.1 l)))
]

pub lacking_all : (x : Names) (pool : List PoolEntry) (marks : List Bool) (n : ℕ) → length marks ≡ n → n ≡ length pool
    → ((k : ℕ) → k < n → IsEntryName pool k → IsMarked marks k ↔ LacksOne x (IsSaidBy pool k)) → AreLacking x pool marks
lacking_all x pool marks n long all at = record { as_many = long ∙ all; at = λ k below. at k (omega (arith, all)) }

-- ---- An entry of the pool.

module _ (x : Names) (c : ClassFile) (i : ℕ) where
  pub class_entry_tells : (n : ℕ) (r : Bool) → slice_get c.pool i ≡ Some (Class n) → Tells x (IsSaidBy c.pool n) r → Tells x (RefersAt c i) r
  class_entry_tells n r at h =
      tells_as x (IsSaidBy c.pool n) (RefersAt c i) r (λ name k. inl (k.0, (n, at, k.1), k.2))
      (λ name k. elim k [
        | inl class ↦
            let both : Some (Class class.1.0) ≡ Some (Class n) = sym class.1.1 ∙ at in
            let same : class.1.0 ≡ n = cc in
            (class.0, subst (λ (m : ℕ). TextAt c.pool m class.0) same class.1.2, class.2)
        | inr text ↦
            let both : Some (Utf8 text.2.0) ≡ Some (Class n) = sym text.2.1 ∙ at in
            absurd cc
      ]) h

  pub no_entry_tells : (e : PoolEntry) → slice_get c.pool i ≡ Some e → ((n : ℕ) → e ≡ Class n → ⊥)
      → (((bytes : List ℕ) → e ≡ Utf8 bytes → ⊥) ⊎ (IsDescriptorEntry c i → ⊥)) → Tells x (RefersAt c i) false
  no_entry_tells e at no_class no_text =
      tells_none x (RefersAt c i) (λ name k. elim k [
        | inl class ↦ no_class class.1.0 (same_Some e (Class class.1.0) (sym at ∙ class.1.1))
        | inr text ↦ elim no_text [
          | inl other ↦ other text.2.0 (same_Some e (Utf8 text.2.0) (sym at ∙ text.2.1))
          | inr none ↦ none text.1
        ]
      ])

  pub text_entry_tells : (bytes : List ℕ) (r : Bool) → slice_get c.pool i ≡ Some (Utf8 bytes) → IsDescriptorEntry c i
      → Tells x (DescriptorSays c.pool i) r → Tells x (RefersAt c i) r
  text_entry_tells bytes r at descriptor h =
      tells_as x (DescriptorSays c.pool i) (RefersAt c i) r (λ name k. inr (k.0, descriptor, k.1, k.2))
      (λ name k. elim k [
        | inl class ↦
            let both : Some (Class class.1.0) ≡ Some (Utf8 bytes) = sym class.1.1 ∙ at in
            absurd cc
        | inr text ↦ (text.0, text.2, text.3)
      ]) h

-- ---- The folder.

module _ (x : Names) (s : FolderScope) (outer : s.names ≡ x.outer.now) (own : AreOwnNames s.files x.own.now) where
  pub lacking_unknown : (name : List ℕ) → Lacks x name → IsKnownName s name → ⊥
  lacking_unknown name lacks (inl (i, c, at, called)) =
      let place : ClassId = record { 0 = i } in
      let found : class_named x.own.now name ≡ Some place = (own name i).1 (c, at, called) in
      let both : None ≡ Some place = sym lacks.0 ∙ found in
      cc
  lacking_unknown name lacks (inr (class, found)) =
      let also : class_named x.outer.now name ≡ Some class = subst (λ (names : List NamedClass). class_named names name ≡ Some class) outer found in
      let both : None ≡ Some class = sym lacks.1 ∙ also in
      cc

  none_own : (name : List ℕ) (found : Option ClassId) → class_named x.own.now name ≡ found → (IsKnownName s name → ⊥) → found ≡ None
  none_own name None e never = refl
  none_own name (Some class) e never = let file = (own name class.0).0 e in absurd (never (inl (class.0, file.0, file.1, file.2)))

  none_outer : (name : List ℕ) (found : Option ClassId) → class_named x.outer.now name ≡ found → (IsKnownName s name → ⊥) → found ≡ None
  none_outer name None e never = refl
  none_outer name (Some class) e never =
      absurd (never (inr (class, subst (λ (names : List NamedClass). class_named names name ≡ Some class) (sym outer) e)))

  pub unknown_lacking : (name : List ℕ) → (IsKnownName s name → ⊥) → Lacks x name
  unknown_lacking name never =
      (none_own name (class_named x.own.now name) refl never, none_outer name (class_named x.outer.now name) refl never)

  -- ---- What is found.

  pub is_missing : (c : ClassFile) (i : ℕ) → LacksOne x (RefersAt c i) → MissesClass s c (Entry i)
  is_missing c i (name, refers, lacks) = (name, refers, lacking_unknown name lacks)

  pub not_missing : (c : ClassFile) (i : ℕ) → (LacksOne x (RefersAt c i) → ⊥) → MissesClass s c (Entry i) → ⊥
  not_missing c i none (name, refers, unknown) = none (name, refers, unknown_lacking name unknown)

  within_pool : (c : ClassFile) (i : ℕ) (name : List ℕ) → RefersAt c i name → i < length c.pool
  within_pool c i name (inl class) = slice_get_within c.pool i (Class class.1.0) class.1.1
  within_pool c i name (inr text) = slice_get_within c.pool i (Utf8 text.2.0) text.2.1

  pub none_missing : (c : ClassFile) (n : ℕ) → length c.pool ≤ n → ((i : ℕ) → i < n → LacksOne x (RefersAt c i) → ⊥) → (spot : Spot)
      → MissesClass s c spot → ⊥
  none_missing c n all none (Member k) missing = missing
  none_missing c n all none (Entry i) (name, refers, unknown) =
      let within = within_pool c i name refers in
      none i (omega arith) (name, refers, unknown_lacking name unknown)
