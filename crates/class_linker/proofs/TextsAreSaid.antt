-- What a text says is said at its index, and it says one thing.
use Rattle.std.proofs.Common.{◌≡◌, ℕ, ◌<◌, inl, inr, List, [], ◌∷◌, ◌++◌, length, Option, Some, None, Result, Ok, Err, sym, ◌∙◌, ap, subst, arith}
use denote.Ref.{Bor}
use Rattle.std.specs.Prelude.{slice_get, IfOk, MatchOption}
use Rattle.std.proofs.lemmas.Option.{same_Some, slice_get_within}
use Rattle.list_lemmas.proofs.ItemsByPlace.{old_or_new, item_there}
use Rattle.jk_model.specs.declared.class_file.PoolEntry.{PoolEntry}
use Rattle.jk_model.specs.declared.class_file.PoolEntry.TheVariants.{Utf8, Class, NameAndType}
use Rattle.jk_model.specs.declared.descriptors.Base.{Base as ABase}
use Rattle.jk_model.specs.declared.descriptors.Base.TheVariants as Base
use Rattle.jk_model.specs.declared.descriptors.FieldType.{FieldType}
use Rattle.jk_model.specs.declared.descriptors.MethodType.{MethodType}
use Rattle.jk_model.specs.declared.identifiers.ClassId.{ClassId}
use Rattle.jk_model.specs.Descriptors.{IsFieldText, IsMethodText}
use Rattle.jk_model_classes.specs.declared.records.BaseRef.{BaseRef}
use Rattle.jk_model_classes.specs.declared.records.TypeRef.{TypeRef}
use Rattle.jk_model_classes.specs.Members.{TextAt}
use Rattle.jk_model_classes.specs.SystemRecords.{IsBaseFor, IsTypeFor}
use Rattle.jk_model_classes.specs.Worlds.{NamedClass, class_named}
use Rattle.class_lemmas.proofs.OneMember.{same_type}
use Rattle.class_lemmas.proofs.OneText.{one_text, one_class}
use Rattle.descriptors.proofs.NoTextBeginsAnother.{one_field, one_method}
use Rattle.class_linker.specs.TextsSaid.{Answers, AreAt, AreSaid, IsFieldTextFor, IsPairOf, IsSaid, IsSaidAt, NamesClassBy, SaysClass, SaysField, SaysMethod}
use Rattle.class_linker.specs.declared.said.Said.{Said}

pub answers_moved : {X : Type 0} (P Q : X → Type 0) (r : Option X) → ((x : X) → P x → Q x) → ((x : X) → Q x → P x) → Answers P r → Answers Q r
answers_moved P Q None to from h = λ x q. h x (from x q)
answers_moved P Q (Some x) to from h = to x h

-- ---- At the index of a text, and where there is none.

module _ (names : List NamedClass) (pool : List PoolEntry) (i : ℕ) where
  pub class_at : (units : List ℕ) (r : Option ClassId) → TextAt pool i units → r ≡ class_named names units → Answers (SaysClass names pool i) r
  class_at units None at e = λ class (us, there, means).
      let same : us ≡ units = one_text pool i us units there at in
      let z : None ≡ Some class = e ∙ ap (class_named names) (sym same) ∙ means in
      cc
  class_at units (Some class) at e = (units, at, sym e)

  pub said_at_text : (units : List ℕ) (said : Said) → TextAt pool i units → IsSaid names units said → IsSaidAt names pool i said
  said_at_text units said at h =
      record {
        class = class_at units said.class at h.class;
        field =
            answers_moved (IsFieldTextFor names units) (SaysField names pool i) said.field (λ k p. (units, at, p))
            (λ k (us, there, p). subst (λ (w : List ℕ). IsFieldTextFor names w k) (one_text pool i us units there at) p) h.field;
        method =
            answers_moved (IsMethodText units) (SaysMethod pool i) said.method (λ k p. (units, at, p))
            (λ k (us, there, p). subst (λ (w : List ℕ). IsMethodText w k) (one_text pool i us units there at) p) h.method;
      }

  -- ---- One thing.

  pub one_method_said : (a b : MethodType) → SaysMethod pool i a → SaysMethod pool i b → a ≡ b
  one_method_said a b (us, at, p) (vs, there, q) =
      one_method vs a b (subst (λ (w : List ℕ). IsMethodText w a) (one_text pool i us vs at there) p) q

  pub one_class_named : (a b : ClassId) → NamesClassBy names pool i a → NamesClassBy names pool i b → a ≡ b
  one_class_named a b (us, at, p) (vs, there, q) =
      same_Some a b (sym p ∙ ap (class_named names) (one_class pool i us vs at there) ∙ q)

one_base : (names : List NamedClass) (base : ABase) (a b : BaseRef) → IsBaseFor (class_named names) base a → IsBaseFor (class_named names) base b → a ≡ b
one_base names Base.Byte a b p q = p ∙ sym q
one_base names Base.Char a b p q = p ∙ sym q
one_base names Base.Double a b p q = absurd p
one_base names Base.Float a b p q = absurd p
one_base names Base.Int a b p q = p ∙ sym q
one_base names Base.Long a b p q = p ∙ sym q
one_base names Base.Short a b p q = p ∙ sym q
one_base names Base.Bool a b p q = p ∙ sym q
one_base names (Base.Class name) a b (c, means, e) (d, also, f) =
    let same : c ≡ d = same_Some c d (sym means ∙ also) in
    cc

one_type : (names : List NamedClass) (t : FieldType) (a b : TypeRef) → IsTypeFor (class_named names) t a → IsTypeFor (class_named names) t b → a ≡ b
one_type names t a b p q = same_type a b (p.0 ∙ sym q.0) (one_base names t.base a.base b.base p.1 q.1)

pub one_field_said : (names : List NamedClass) (pool : List PoolEntry) (i : ℕ) (a b : TypeRef) → SaysField names pool i a → SaysField names pool i b → a ≡ b
one_field_said names pool i a b (us, at, (t, text, p)) (vs, there, (u, other, q)) =
    let same : t ≡ u = one_field vs t u (subst (λ (w : List ℕ). IsFieldText w t) (one_text pool i us vs at there) text) other in
    one_type names u a b (subst (λ (w : FieldType). IsTypeFor (class_named names) w a) same p) q

-- a name and a type are one, where the descriptor says one thing
pub one_pair : {X : Type 0} (Says : ℕ → X → Type 0) → ((i : ℕ) (a b : X) → Says i a → Says i b → a ≡ b) → (pool : List PoolEntry) (i : ℕ)
    → (a b : List ℕ) (k l : X) → IsPairOf Says pool i a k → IsPairOf Says pool i b l → (a ≡ b) × (k ≡ l)
one_pair Says one pool i a b k l (n, d, at, name, kind) (m, e, there, other, type) =
    let both : Some (NameAndType n d) ≡ Some (NameAndType m e) = sym at ∙ there in
    let same_name : n ≡ m = cc in
    let same_kind : d ≡ e = cc in (
      one_text pool m a b (subst (λ (w : ℕ). TextAt pool w a) same_name name) other,
      one e k l (subst (λ (w : ℕ). Says w k) same_kind kind) type,
    )

-- ---- The list of all.

-- there is no text where the list has no item
pub past_all : (names : List NamedClass) (pool : List PoolEntry) (said : List Said) (i : ℕ) (units : List ℕ) → AreSaid names pool said
    → slice_get said i ≡ None → TextAt pool i units → ⊥
past_all names pool said i units h none (bytes, at, spells) =
    let below : i < length said = omega (arith, slice_get_within pool i (Utf8 bytes) at, h.as_many) in
    let there = item_there said i below in
    let z : None ≡ Some there.0 = sym none ∙ there.1 in
    cc

pub said_read : {E : Type 0} (names : List NamedClass) (pool : List PoolEntry) (i : ℕ) (text units : List ℕ) (result : Result Said E) → TextAt pool i text
    → units ≡ text → IfOk result (λ said. IsSaid names units said) → IfOk result (λ said. IsSaidAt names pool i said)
said_read names pool i text units (Ok said) at e h =
    said_at_text names pool i units said (subst (λ (w : List ℕ). TextAt pool i w) (sym e) at) h
said_read names pool i text units (Err error) at e h = tt

-- one item more
pub at_more : {X : Type 0} (P : ℕ → X → Type 0) (xs longer : List X) (n : ℕ) (x : X) → length xs ≡ n → P n x → longer ≡ xs ++ x ∷ [] → AreAt P xs
    → AreAt P longer
at_more {X = X} P xs longer n x long here e h i y at = elim (old_or_new xs x i y (subst (λ (w : List X). slice_get w i ≡ Some y) e at)) [
  | inl old ↦ h i y old
  | inr new ↦
      let place : n ≡ i = omega (arith, new.0) in
      subst (λ (k : ℕ). P k y) place (subst (λ (z : X). P n z) (sym new.1) here)
]

-- the class of the name of a Class entry
pub class_by_name : (names : List NamedClass) (pool : List PoolEntry) (i n : ℕ) (r : Option ClassId) → slice_get pool i ≡ Some (Class n)
    → Answers (SaysClass names pool n) r → Answers (NamesClassBy names pool i) r
class_by_name names pool i n r at h =
    answers_moved (SaysClass names pool n) (NamesClassBy names pool i) r (λ c (us, there, means). (us, (n, at, there), means))
    (λ c (us, (m, also, there), means).
    let both : Some (Class m) ≡ Some (Class n) = sym also ∙ at in
    let same : m ≡ n = cc in
    (us, subst (λ (w : ℕ). TextAt pool w us) same there, means)) h

-- the name and the type are those of the entry
pub pair_by : {X Y : Type 0} (kind_of : Y → X) (Says : ℕ → X → Type 0) (pool : List PoolEntry) (i n d : ℕ) (r : Option (Bor (List ℕ) × Y))
    → slice_get pool i ≡ Some (NameAndType n d)
    → MatchOption r ((name : List ℕ) (kind : X) → TextAt pool n name → Says d kind → ⊥) (λ p. TextAt pool n p.0.now × Says d (kind_of p.1))
    → MatchOption r ((name : List ℕ) (kind : X) → IsPairOf Says pool i name kind → ⊥) (λ p. IsPairOf Says pool i p.0.now (kind_of p.1))
pair_by kind_of Says pool i n d None at h = λ name kind (m, e, there, text, says).
    let both : Some (NameAndType m e) ≡ Some (NameAndType n d) = sym there ∙ at in
    let same_name : m ≡ n = cc in
    let same_kind : e ≡ d = cc in
    h name kind (subst (λ (w : ℕ). TextAt pool w name) same_name text) (subst (λ (w : ℕ). Says w kind) same_kind says)
pair_by kind_of Says pool i n d (Some p) at h = (n, d, at, h.0, h.1)
