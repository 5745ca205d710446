-- A rule on the code of methods is broken at the number of a method of the class.
use Rattle.std.proofs.Common.{◌≡◌, ℕ, ◌+◌, ◌<◌, ◌≤◌, ◌*◌, List, length, Option, Some, None, slice_get, inl, inr, refl, sym, ap, subst, ◌∙◌, arith}
use Rattle.std.specs.Prelude.{IfNone}
use Rattle.std.proofs.lemmas.Option.{same_Some, none-some, slice_get_within}
use Rattle.list_lemmas.proofs.TestsAndOrders.{less_or_same}
use Rattle.jk_model.specs.declared.identifiers.ClassId.{ClassId}
use Rattle.jk_model.specs.declared.identifiers.MemberId.{MemberId}
use Rattle.jk_model_classes.specs.declared.records.Body.TheVariants.{Linked}
use Rattle.jk_model_classes.specs.declared.records.ClassRecord.{ClassRecord}
use Rattle.jk_model_classes.specs.declared.records.LinkedCode.{LinkedCode}
use Rattle.jk_model_classes.specs.declared.records.MethodRecord.{MethodRecord}
use Rattle.jk_model_classes.specs.Classes.{record_of}
use Rattle.jk_model_classes.specs.Items.{Spot, Member, Entry, IsBefore}
use Rattle.jk_model_typing.specs.declared.frames.FrameType.{FrameType}
use Rattle.jk_model_typing.specs.Scopes.{CodeScope, IsScopeOf}
use Rattle.jk_model_typing.specs.Typing.{BreaksC23, BreaksC24, CodeOf, IsTyping, MOST_SLOTS}
use Rattle.link_rules.specs.FinalMethods.{IsFirstPlace}
use Rattle.link_rules.specs.LinkFaults.{IsLeastNumber}
use Rattle.placed_rules.specs.Codes.{AreTypedBefore, AtMember, IsFirstUntyped, IsOver, IsTypedAt, IsUntypedAt, method_of}
use Rattle.placed_rules.specs.PlacedFaults.{AreTypedFrom}

module _ (classes : List ClassRecord) (class : ClassId) (P : MemberId → LinkedCode → Type 0) where
  -- the rule that the code of a method is so
  abbrev Breaks : ℕ → Type 0
  Breaks n = (m : MemberId) × (code : LinkedCode) × CodeOf classes class n m code × P m code

  abbrev IsBad : ℕ → MethodRecord → Type 0
  IsBad i method = (code : LinkedCode) × (method.body ≡ Linked code) × P (method_of class i) code

  no_class : record_of classes class ≡ None → (spot : Spot) → AtMember Breaks spot → ⊥
  no_class none (Member n) (m, code, is, bad) = none-some is.class (sym none ∙ is.class_is)
  no_class none (Entry i) bad = bad

  module _ (r : ClassRecord) (known : record_of classes class ≡ Some r) where
    bad_at : (n : ℕ) → Breaks n
        → (i : ℕ) × (method : MethodRecord) × (slice_get r.methods i ≡ Some method) × IsBad i method × (n ≡ length r.fields + i + 1)
    bad_at n (m, code, is, bad) =
        let same : is.class ≡ r = same_Some is.class r (sym is.class_is ∙ known) in
        let at : slice_get r.methods m.index ≡ Some is.method =
        subst (λ (x : ClassRecord). slice_get x.methods m.index ≡ Some is.method) same is.method_is in
        let own : P (method_of class m.index) code = subst (λ (c : ClassId). P (method_of c m.index) code) is.of_class bad in
        let number : n ≡ length r.fields + m.index + 1 = subst (λ (x : ClassRecord). n ≡ length x.fields + m.index + 1) same is.number_is in
        (m.index, is.method, at, (code, is.body, own), number)

    breaks_at : (i : ℕ) (method : MethodRecord) → slice_get r.methods i ≡ Some method → IsBad i method → Breaks (length r.fields + i + 1)
    breaks_at i method at (code, body, bad) =
        let is : CodeOf classes class (length r.fields + i + 1) (method_of class i) code = record {
          class = r;
          class_is = known;
          method = method;
          method_is = at;
          of_class = refl;
          body = body;
          number_is = refl;
        } in
        (method_of class i, code, is, bad)

    none_bad : ((i : ℕ) (method : MethodRecord) → slice_get r.methods i ≡ Some method → IsBad i method → ⊥) → (spot : Spot) → AtMember Breaks spot → ⊥
    none_bad none (Member n) broken = let b = bad_at n broken in none b.0 b.1 b.2 b.3
    none_bad none (Entry i) broken = broken

    least_bad : (i : ℕ) → ((j : ℕ) (method : MethodRecord) → j < i → slice_get r.methods j ≡ Some method → IsBad j method → ⊥) → (spot : Spot)
        → IsBefore spot (Member (length r.fields + i + 1)) → AtMember Breaks spot → ⊥
    least_bad i none (Member n) before broken =
        let b = bad_at n broken in
        none b.0 b.1 (omega (arith, before, b.4)) b.2 b.3
    least_bad i none (Entry j) before broken = broken

    first_bad : (i : ℕ) (method : MethodRecord) → slice_get r.methods i ≡ Some method → IsBad i method
        → ((j : ℕ) (other : MethodRecord) → j < i → slice_get r.methods j ≡ Some other → IsBad j other → ⊥)
        → IsLeastNumber (AtMember Breaks) (Some (length r.fields + i + 1))
    first_bad i method at bad none = (Member (length r.fields + i + 1), breaks_at i method at bad, least_bad i none, refl)

-- the number of a method is short
pub short_number : (r : ClassRecord) (i : ℕ) (method : MethodRecord) → (length r.fields ≤ 65535) × (length r.methods ≤ 65535)
    → slice_get r.methods i ≡ Some method → length r.fields + i + 1 ≤ 131070
short_number r i method few at = let inside = slice_get_within r.methods i method at in omega (arith, few.0, few.1, inside)

-- ---- C24.

module _ (classes : List ClassRecord) (class : ClassId) where
  abbrev TooMany : MemberId → LinkedCode → Type 0
  TooMany m code = MOST_SLOTS < length code.instrs * (code.max_locals + code.max_stack)

  pub none_is_over : record_of classes class ≡ None → IsLeastNumber (AtMember (BreaksC24 classes class)) None
  none_is_over none = no_class classes class TooMany none

  module _ (r : ClassRecord) (known : record_of classes class ≡ Some r) where
    pub no_method_over : IsFirstPlace IsOver r.methods None → IsLeastNumber (AtMember (BreaksC24 classes class)) None
    no_method_over none = none_bad classes class TooMany r known (λ i method at bad. none (i, method, at, bad))

    pub method_over : (i : ℕ) → IsFirstPlace IsOver r.methods (Some i)
        → IsLeastNumber (AtMember (BreaksC24 classes class)) (Some (length r.fields + i + 1))
    method_over i ((method, at, bad), none) =
        first_bad classes class TooMany r known i method at bad (λ j other less there over. none (j, other, less, there, over))

-- ---- C23.

module _ (classes : List ClassRecord) (class : ClassId) where
  abbrev HasNone : MemberId → LinkedCode → Type 0
  HasNone m code = (frames : List (Option FrameType)) → IsTyping classes m frames → ⊥

  pub none_is_untyped : record_of classes class ≡ None → IsLeastNumber (AtMember (BreaksC23 classes class)) None
  none_is_untyped none = no_class classes class HasNone none

  module _ (r : ClassRecord) (known : record_of classes class ≡ Some r) where
    -- code with a typing isn't without one
    not_untyped : (i : ℕ) (method : MethodRecord) → slice_get r.methods i ≡ Some method → IsTypedAt classes (method_of class i)
        → IsUntypedAt classes (method_of class i) method → ⊥
    not_untyped i method at typed (code, body, none) =
        let scope : CodeScope = record { classes = classes; self = class; links = r.links; method = method; code = code } in
        let is : IsScopeOf classes (method_of class i) scope = record {
          all = refl;
          self = refl;
          class = r;
          class_is = known;
          links = refl;
          method = at;
          body = body;
        } in
        let found = typed scope is in
        none found.0 found.1.typing

    pub no_method_untyped : AreTypedBefore classes class (length r.methods) → IsLeastNumber (AtMember (BreaksC23 classes class)) None
    no_method_untyped typed =
        none_bad classes class HasNone r known (λ i method at bad. not_untyped i method at (typed i (slice_get_within r.methods i method at)) bad)

    pub method_untyped : (i : ℕ) → IsFirstUntyped classes class r.methods (Some i)
        → IsLeastNumber (AtMember (BreaksC23 classes class)) (Some (length r.fields + i + 1))
    method_untyped i ((method, at, bad), typed) =
        first_bad classes class HasNone r known i method at bad (λ j other less there none. not_untyped j other there (typed j less) none)

-- ---- The methods of a class, and the classes of the folder, in turn.

abbrev of_number : ℕ → ClassId
of_number n = record { 0 = n }

pub typed_next : (classes : List ClassRecord) (class : ClassId) (n : ℕ) → AreTypedBefore classes class n → IsTypedAt classes (method_of class n)
    → AreTypedBefore classes class (n + 1)
typed_next classes class n before here i less =
    elim (less_or_same i n less) [
      | inl lower ↦ before i lower
      | inr same ↦ subst (λ (k : ℕ). IsTypedAt classes (method_of class k)) (sym same) here
    ]

-- the classes from the first one on are typed, up to this number
abbrev pub AreTypedUpTo : List ClassRecord → ClassId → ℕ → Type 0
AreTypedUpTo classes first n = (m : MemberId) → first.0 ≤ m.class.0 → m.class.0 < n → IsTypedAt classes m

pub class_typed_next : (classes : List ClassRecord) (first : ClassId) (n : ℕ) → AreTypedUpTo classes first n
    → ((m : MemberId) → m.class.0 ≡ n → IsTypedAt classes m) → AreTypedUpTo classes first (n + 1)
class_typed_next classes first n before here m from less =
    elim (less_or_same m.class.0 n less) [
      | inl lower ↦ before m from lower
      | inr same ↦ here m same
    ]

-- each method of a class is one of those that are typed
pub class_typed : (classes : List ClassRecord) (class : ClassId) (r : ClassRecord) → record_of classes class ≡ Some r
    → AreTypedBefore classes class (length r.methods) → (m : MemberId) → m.class ≡ class → IsTypedAt classes m
class_typed classes class r known typed m of_class s is =
    let same : is.class ≡ r = same_Some is.class r (sym is.class_is ∙ subst (λ (c : ClassId). record_of classes c ≡ Some r) (sym of_class) known) in
    let at : slice_get r.methods m.index ≡ Some s.method = subst (λ (x : ClassRecord). slice_get x.methods m.index ≡ Some s.method) same is.method in
    let own : IsTypedAt classes (method_of m.class m.index) =
    subst (λ (c : ClassId). IsTypedAt classes (method_of c m.index)) (sym of_class) (typed m.index (slice_get_within r.methods m.index s.method at)) in
    own s is

pub class_here : (classes : List ClassRecord) (class : ClassId)
    → ((r : ClassRecord) → record_of classes class ≡ Some r → AreTypedBefore classes class (length r.methods))
    → (m : MemberId) → m.class.0 ≡ class.0 → IsTypedAt classes m
class_here classes class typed m same s is =
    let of_class : m.class ≡ class = ap of_number same in
    let known : record_of classes class ≡ Some is.class = subst (λ (c : ClassId). record_of classes c ≡ Some is.class) of_class is.class_is in
    class_typed classes class is.class known (typed is.class known) m of_class s is

pub where_none : {X : Type 0} {A B : Type 0} (o : Option X) → (A → B) → IfNone o A → IfNone o B
where_none None f h = f h
where_none (Some x) f h = tt

pub all_typed : (classes : List ClassRecord) (first : ClassId) (n : ℕ) → length classes ≤ n → AreTypedUpTo classes first n → AreTypedFrom classes first
all_typed classes first n all typed m s is from =
    let inside = slice_get_within classes m.class.0 is.class is.class_is in
    typed m from (omega (arith, inside, all)) s is
