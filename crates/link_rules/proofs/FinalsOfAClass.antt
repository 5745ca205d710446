-- The final methods of a class that another overrides are found by its name and type, one after the other.
use Rattle.std.proofs.Common.{◌≡◌, ℕ, ◌+◌, ◌<◌, ◌≤◌, ◌⊎◌, ◌↔◌, inl, inr, Bool, true, false, IsTrue, List, length, Option, Some, None, refl, sym, ap, ◌∙◌, subst, arith}
use Rattle.std.specs.Prelude.{slice_get}
use Rattle.std.specs.Option.{is_some}
use Rattle.std.proofs.lemmas.Bool.{cases_eq, cases_lt, false≢true}
use Rattle.std.proofs.lemmas.Option.{same_Some, slice_get_within}
use Rattle.jk_model.specs.Flags.{has, FINAL}
use Rattle.jk_model.specs.declared.descriptors.MethodType.{MethodType}
use Rattle.jk_model.specs.declared.identifiers.ClassId.{ClassId}
use Rattle.jk_model.specs.declared.identifiers.MemberId.{MemberId}
use Rattle.jk_model_classes.specs.declared.records.ClassRecord.{ClassRecord}
use Rattle.jk_model_classes.specs.declared.records.MethodRecord.{MethodRecord}
use Rattle.jk_model_classes.specs.Classes.{record_of}
use Rattle.jk_model_classes.specs.Items.{HasItem}
use Rattle.jk_model_classes.specs.Lookups.{FindsFrom, IsMethodOf, MethodIs}
use Rattle.class_lemmas.proofs.OneRecord.{one_method}
use Rattle.link_rules.specs.FinalMethods.{HasMethods, IsFinalFor, IsFinalIn, IsFirstPlace, IsNamedAs, OverridesAt, OverridesIn, earlier_place}
use Rattle.link_rules.proofs.FirstPlaces.{first-both, first-same}

-- no method of class d before this place is one
abbrev pub NoneBefore : List ClassRecord → ClassId → List ℕ → MethodType → ClassId → ℕ → Type 0
NoneBefore classes class name kind d from = (i : ℕ) → i < from → IsFinalFor classes class name kind (record { class = d; index = i }) → ⊥

module _ (classes : List ClassRecord) (class : ClassId) (name : List ℕ) (kind : MethodType) where
  namesake : (m : MemberId) → IsFinalFor classes class name kind m → IsMethodOf classes name kind m
  namesake m (final, is, named, typed, marked, over) = (final, is, named, typed)

  -- a method of that name and type
  pub final_for : (m : MemberId) → IsMethodOf classes name kind m → IsFinalIn classes class m → IsFinalFor classes class name kind m
  final_for m (method, is, named, typed) (final, also, marked, over) =
      let same : method ≡ final = one_method classes m method final is also in
      (final, also, subst (λ (r : MethodRecord). r.name ≡ name) same named, subst (λ (r : MethodRecord). r.kind ≡ kind) same typed, marked, over)

  final_in : (m : MemberId) → IsFinalFor classes class name kind m → IsFinalIn classes class m
  final_in m (final, is, named, typed, marked, over) = (final, is, marked, over)

  pub none-before_first : (d : ClassId) → NoneBefore classes class name kind d 0
  none-before_first d i lt h = omega arith

  pub first-final : (d : ClassId) (from i : ℕ) → NoneBefore classes class name kind d from → FindsFrom (IsMethodOf classes name kind) d from (Some i)
      → IsFinalIn classes class (record { class = d; index = i }) → FindsFrom (IsFinalFor classes class name kind) d 0 (Some i)
  first-final d from i before found final =
      record {
        suits = final_for (record { class = d; index = i }) found.suits final;
        not_before = omega arith;
        first = λ j low lt h. elim (cases_lt j from) [
          | inl early ↦ before j early h
          | inr late ↦ found.first j late lt (namesake (record { class = d; index = j }) h)
        ];
      }

  pub none-before_next : (d : ClassId) (from i : ℕ) → NoneBefore classes class name kind d from → FindsFrom (IsMethodOf classes name kind) d from (Some i)
      → (IsFinalIn classes class (record { class = d; index = i }) → ⊥) → NoneBefore classes class name kind d (i + 1)
  none-before_next d from i before found never j lt h = elim (cases_eq j i) [
    | inl same ↦ never (final_in (record { class = d; index = i })
        (subst (λ (k : ℕ). IsFinalFor classes class name kind (record { class = d; index = k })) same h))
    | inr other ↦
        elim (cases_lt j from) [
          | inl early ↦ before j early h
          | inr late ↦ found.first j late (omega arith) (namesake (record { class = d; index = j }) h)
        ]
  ]

  pub no-final : (d : ClassId) (from : ℕ) → NoneBefore classes class name kind d from → FindsFrom (IsMethodOf classes name kind) d from None
      → FindsFrom (IsFinalFor classes class name kind) d 0 None
  no-final d from before none i low h = elim (cases_lt i from) [
    | inl early ↦ before i early h
    | inr late ↦ none i late (namesake (record { class = d; index = i }) h)
  ]

-- ---- Final methods of a class by their places, and the methods that override them.

module _ (classes : List ClassRecord) (class : ClassId) where
  -- the class's own record
  own_methods : (d : ClassId) (r q : ClassRecord) (methods : List MethodRecord) → record_of classes d ≡ Some r → record_of classes d ≡ Some q
      → r.methods ≡ methods → q.methods ≡ methods
  own_methods d r q methods at also is = ap (λ (x : ClassRecord). x.methods) (same_Some q r (sym also ∙ at)) ∙ is

  -- the method at a place of a class is that of the list
  pub method_at : (d : ClassId) (methods : List MethodRecord) (i : ℕ) (final : MethodRecord) → HasMethods classes d methods
      → MethodIs classes (record { class = d; index = i }) final → slice_get methods i ≡ Some final
  method_at d methods i final (r, at, is) (q, also, there) =
      subst (λ (ms : List MethodRecord). slice_get ms i ≡ Some final) (own_methods d r q methods at also is) there

  pub at_method : (d : ClassId) (methods : List MethodRecord) (i : ℕ) (method : MethodRecord) → HasMethods classes d methods
      → slice_get methods i ≡ Some method → MethodIs classes (record { class = d; index = i }) method
  at_method d methods i method (r, at, is) there =
      (r, at, subst (λ (ms : List MethodRecord). slice_get ms i ≡ Some method) (sym is) there)

  -- a search in class d for each method
  pub found_here : (d : ClassId) (method : MethodRecord) (i : ℕ) → FindsFrom (IsFinalFor classes class method.name method.kind) d 0 (Some i)
      → OverridesIn classes class d method
  found_here d method i found = (i, found.suits)

  pub found_none : (d : ClassId) (method : MethodRecord) → FindsFrom (IsFinalFor classes class method.name method.kind) d 0 None
      → OverridesIn classes class d method → ⊥
  found_none d method none (i, over) = none i (omega arith) over

  -- the same by whether one was found
  pub found_by : (d : ClassId) (method : MethodRecord) (found : Option ℕ) → FindsFrom (IsFinalFor classes class method.name method.kind) d 0 found
      → {b : Bool} → b ≡ is_some found → b ≡ true → OverridesIn classes class d method
  found_by d method None none is held = absurd (false≢true (sym is ∙ held))
  found_by d method (Some i) found is held = found_here d method i found

  pub found_none_by : (d : ClassId) (method : MethodRecord) (found : Option ℕ) → FindsFrom (IsFinalFor classes class method.name method.kind) d 0 found
      → {b : Bool} → b ≡ is_some found → b ≡ false → OverridesIn classes class d method → ⊥
  found_none_by d method None none is other = found_none d method none
  found_none_by d method (Some i) found is other = absurd (false≢true (sym other ∙ is))

  pub told_by : (d : ClassId) (method : MethodRecord) (found : Option ℕ) → FindsFrom (IsFinalFor classes class method.name method.kind) d 0 found
      → (b : Bool) → b ≡ is_some found → IsTrue b ↔ OverridesIn classes class d method
  told_by d method None none false is = (λ t. absurd cc, λ over. absurd (found_none d method none over))
  told_by d method None none true is = absurd cc
  told_by d method (Some i) found true is = (λ t. found_here d method i found, λ over. refl)
  told_by d method (Some i) found false is = absurd cc

  pub few_methods : (d : ClassId) (methods : List MethodRecord) → ((c : ClassId) (r : ClassRecord) → record_of classes c ≡ Some r
      → (length r.fields ≤ 65535) × (length r.methods ≤ 65535)) → HasMethods classes d methods → length methods ≤ 65535
  few_methods d methods members (r, at, is) = subst (λ (ms : List MethodRecord). length ms ≤ 65535) is (members d r at).1

  -- a search in the class for each final method
  pub named_first : (methods : List MethodRecord) (final : MethodRecord) (found : Option ℕ) → HasMethods classes class methods
      → FindsFrom (IsMethodOf classes final.name final.kind) class 0 found → IsFirstPlace (IsNamedAs final) methods found
  named_first methods final None own none = λ (i, method, at, (named, typed)).
      none i (omega arith) (method, at_method class methods i method own at, sym named, sym typed)
  named_first methods final (Some i) own first =
      let (method, is, named, typed) = first.suits in (
        (method, method_at class methods i method own is, (sym named, sym typed)),
        λ (j, other, less, at, (also, kind)).
            first.first j (omega arith) less (other, at_method class methods j other own at, sym also, sym kind),
      )

  pub overriding_named : (m : MemberId) (final : MethodRecord) → ((f : MethodRecord) → MethodIs classes m f → f ≡ final) → IsFinalIn classes class m
      → (methods : List MethodRecord) (found : Option ℕ) → IsFirstPlace (IsNamedAs final) methods found
      → IsFirstPlace (OverridesAt classes class m) methods found
  overriding_named m final one (f, is, marked, over) methods found first =
      let same : f ≡ final = one f is in
      first-same methods (IsNamedAs final) (OverridesAt classes class m) found (λ x (named, typed). (
        f,
        is,
        ap (λ (y : MethodRecord). y.name) same ∙ named,
        ap (λ (y : MethodRecord). y.kind) same ∙ typed,
        marked,
        over,
      )) (λ x (g, g_is, named, typed, g_marked, g_over).
      let other : g ≡ final = one g g_is in
      (ap (λ (y : MethodRecord). y.name) (sym other) ∙ named, ap (λ (y : MethodRecord). y.kind) (sym other) ∙ typed)) first

  pub overriding_none : (m : MemberId) (methods : List MethodRecord) → (IsFinalIn classes class m → ⊥) → HasItem (OverridesAt classes class m) methods → ⊥
  overriding_none m methods none (i, method, at, (f, is, named, typed, marked, over)) = none (f, is, marked, over)

  pub overriding_unmarked : (m : MemberId) (final : MethodRecord) → ((f : MethodRecord) → MethodIs classes m f → f ≡ final)
      → has final.flags FINAL ≡ false → (methods : List MethodRecord) → HasItem (OverridesAt classes class m) methods → ⊥
  overriding_unmarked m final one unmarked methods (i, method, at, (f, is, named, typed, marked, over)) =
      let same : f ≡ final = one f is in
      absurd (false≢true (sym unmarked ∙ subst (λ (x : MethodRecord). has x.flags FINAL ≡ true) same marked))

  -- the final methods at the first places of class d
  abbrev pub OverridesBefore : ClassId → ℕ → MethodRecord → Type 0
  OverridesBefore d n method = (i : ℕ) × (i < n) × OverridesAt classes class (record { class = d; index = i }) method

  pub before_first : (d : ClassId) (methods : List MethodRecord) → HasItem (OverridesBefore d 0) methods → ⊥
  before_first d methods (i, method, at, (j, less, over)) = omega arith

  pub before_next : (d : ClassId) (n : ℕ) (methods : List MethodRecord) (best found best_now : Option ℕ)
      → IsFirstPlace (OverridesBefore d n) methods best → IsFirstPlace (OverridesAt classes class (record { class = d; index = n })) methods found
      → best_now ≡ earlier_place best found → IsFirstPlace (OverridesBefore d (n + 1)) methods best_now
  before_next d n methods best found best_now h k is =
      subst (IsFirstPlace (OverridesBefore d (n + 1)) methods) (sym is)
      (first-same methods (λ x. OverridesBefore d n x ⊎ OverridesAt classes class (record { class = d; index = n }) x) (OverridesBefore d (n + 1))
      (earlier_place best found) to from
      (first-both methods (OverridesBefore d n) (OverridesAt classes class (record { class = d; index = n })) best found h k))
    where
      to : (x : MethodRecord) → OverridesBefore d n x ⊎ OverridesAt classes class (record { class = d; index = n }) x → OverridesBefore d (n + 1) x
      to x (inl (i, less, over)) = (i, omega arith, over)
      to x (inr over) = (n, omega arith, over)

      from : (x : MethodRecord) → OverridesBefore d (n + 1) x → OverridesBefore d n x ⊎ OverridesAt classes class (record { class = d; index = n }) x
      from x (i, less, over) = elim (cases_lt i n) [
        | inl before ↦ inl (i, before, over)
        | inr last ↦
            let same : i ≡ n = omega arith in
            inr (subst (λ (j : ℕ). OverridesAt classes class (record { class = d; index = j }) x) same over)
      ]

  pub before_all : (d : ClassId) (above methods : List MethodRecord) (n : ℕ) (best : Option ℕ) → HasMethods classes d above → length above ≤ n
      → IsFirstPlace (OverridesBefore d n) methods best → IsFirstPlace (OverridesIn classes class d) methods best
  before_all d above methods n best own all first =
      first-same methods (OverridesBefore d n) (OverridesIn classes class d) best (λ x before. (before.0, before.2))
      (λ x at. (at.0, omega (arith, all, slice_get_within above at.0 at.1.0 (method_at d above at.0 at.1.0 own at.1.1)), at.1)) first
