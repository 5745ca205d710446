-- The classes properly above a class are asked one after the other for final methods that the class's methods override.
use Rattle.std.proofs.Common.{◌≡◌, ◌≢◌, ℕ, zero, suc, ◌+◌, ◌<◌, ◌⊎◌, inl, inr, List, [], ◌∷◌, ◌++◌, length, Option, Some, None, Contains, refl, sym, ap, subst, ◌∙◌, arith, append-nil, append_assoc}
use Rattle.std.specs.Prelude.{slice_get}
use Rattle.std.specs.Option.{option_map, option_to_list}
use Rattle.std.proofs.lemmas.List.Elements.{Contains-append_cases, Contains-append_left, Contains-append_right}
use Rattle.std.proofs.lemmas.Bool.{cases_lt}
use Rattle.std.proofs.lemmas.Option.{same_Some}
use Rattle.list_lemmas.proofs.ItemsOfLists.{Contains-cases, Contains-here, Contains-there, none_in, only_in}
use Rattle.class_table.proofs.StandingAbove.{is-own_superclass, parent-lower, superclasses-lower}
use Rattle.jk_model.specs.declared.identifiers.ClassId.{ClassId}
use Rattle.jk_model_classes.specs.declared.records.ClassRecord.{ClassRecord}
use Rattle.jk_model_classes.specs.declared.records.MethodRecord.{MethodRecord}
use Rattle.jk_model_classes.specs.Classes.{AreOrdered, IsSubclass, parents_of, record_of, superclasses}
use Rattle.jk_model_classes.specs.Items.{HasItem, HasItemBefore, IsBefore, Member, Entry, Spot}
use Rattle.jk_model_classes.specs.LinkRules.{HasFinalOverridden, LinkScope, OverridesFinal}
use Rattle.member_lookup.proofs.WalksUpwards.{superclasses-upwards, upwards}
use Rattle.link_rules.specs.FinalMethods.{IsFirstPlace, IsInside, IsOutside, OverridesSo, OverridesWhere, earlier_place, scope_of}
use Rattle.link_rules.specs.LinkFaults.{IsLeastNumber}
use Rattle.link_rules.proofs.FirstPlaces.{first-both, first-same}

-- a method overrides a final one of one of these classes, which is so
abbrev pub OverridesOneOf : (ClassId → Type 0) → List ClassRecord → ClassId → List ClassId → MethodRecord → Type 0
OverridesOneOf IsSo classes class done method = (d : ClassId) × Contains done d × OverridesSo IsSo classes class d method

-- these of the classes properly above were asked, and this is the first place so far
pub record AreAsked (IsSo : ClassId → Type 0) (classes : List ClassRecord) (class : ClassId) (methods : List MethodRecord) (next : Option ClassId)
    (best : Option ℕ) : Type 0 where
  pub done : List ClassId
  pub split : superclasses classes class ≡ class ∷ (done ++ upwards classes next)
  pub lower : (d : ClassId) → Contains done d → d.0 < class.0
  pub next_lower : (d : ClassId) → next ≡ Some d → d.0 < class.0
  pub first : IsFirstPlace (OverridesOneOf IsSo classes class done) methods best

module _ (IsSo : ClassId → Type 0) (classes : List ClassRecord) (ordered : AreOrdered classes) (class : ClassId) (methods : List MethodRecord) where
  parent_below : (d : ClassId) (next : Option ClassId) (p : ClassId) → parents_of classes d ≡ option_to_list next → next ≡ Some p → p.0 < d.0
  parent_below d next p parent e = parent-lower classes ordered d p (parent ∙ ap option_to_list e)

  pub none-asked : (next : Option ClassId) → parents_of classes class ≡ option_to_list next → AreAsked IsSo classes class methods next None
  none-asked next parent = record {
    done = [];
    split = superclasses-upwards (λ m. ⊥) classes ordered class next parent;
    lower = λ d has. absurd (none_in d [] refl has);
    next_lower = λ d e. parent_below class next d parent e;
    first = λ (i, x, at, (d, has, over)). absurd (none_in d [] refl has);
  }

  one-more : (done : List ClassId) (d : ClassId) (method : MethodRecord)
      → OverridesOneOf IsSo classes class done method ⊎ OverridesSo IsSo classes class d method → OverridesOneOf IsSo classes class (done ++ d ∷ []) method
  one-more done d method (inl (e, has, over)) = (e, Contains-append_left done (d ∷ []) e has, over)
  one-more done d method (inr over) = (d, Contains-append_right done (d ∷ []) d (Contains-here d []), over)

  one-fewer : (done : List ClassId) (d : ClassId) (method : MethodRecord) → OverridesOneOf IsSo classes class (done ++ d ∷ []) method
      → OverridesOneOf IsSo classes class done method ⊎ OverridesSo IsSo classes class d method
  one-fewer done d method (e, has, over) = elim (Contains-append_cases done (d ∷ []) e has) [
    | inl before ↦ inl (e, before, over)
    | inr last ↦
        let same : d ≡ e = only_in e d (d ∷ []) refl last in
        inr (subst (λ (x : ClassId). OverridesSo IsSo classes class x method) (sym same) over)
  ]

  pub one-asked : (next parent : Option ClassId) (d : ClassId) (best found best_now : Option ℕ) → next ≡ Some d → parents_of classes d ≡ option_to_list parent
      → AreAsked IsSo classes class methods next best → IsFirstPlace (OverridesSo IsSo classes class d) methods found → best_now ≡ earlier_place best found
      → AreAsked IsSo classes class methods parent best_now
  one-asked next parent d best found best_now e above asked first is =
      let rest : upwards classes next ≡ d ∷ upwards classes parent =
      ap (upwards classes) e ∙ superclasses-upwards (λ m. ⊥) classes ordered d parent above in
      record {
        done = asked.done ++ d ∷ [];
        split = asked.split
            ∙ ap (λ (ds : List ClassId). class ∷ (asked.done ++ ds)) rest
            ∙ ap (λ (ds : List ClassId). class ∷ ds) (sym (append_assoc asked.done (d ∷ []) (upwards classes parent)));
        lower = λ c has. elim (Contains-append_cases asked.done (d ∷ []) c has) [
          | inl before ↦ asked.lower c before
          | inr last ↦
              let same : d ≡ c = only_in c d (d ∷ []) refl last in
              subst (λ (x : ClassId). x.0 < class.0) same (asked.next_lower d e)
        ];
        next_lower = λ c parent_is. omega (arith, parent_below d parent c above parent_is, asked.next_lower d e);
        first = subst (IsFirstPlace (OverridesOneOf IsSo classes class (asked.done ++ d ∷ [])) methods) (sym is)
            (first-same methods (λ x. OverridesOneOf IsSo classes class asked.done x ⊎ OverridesSo IsSo classes class d x)
            (OverridesOneOf IsSo classes class (asked.done ++ d ∷ [])) (earlier_place best found) (one-more asked.done d) (one-fewer asked.done d)
            (first-both methods (OverridesOneOf IsSo classes class asked.done) (OverridesSo IsSo classes class d) best found asked.first first));
      }

  -- the next one stands properly above
  pub next-above : (next : Option ClassId) (d : ClassId) (best : Option ℕ) → next ≡ Some d → AreAsked IsSo classes class methods next best
      → IsSubclass classes class d × (d ≢ class)
  next-above next d best e asked =
      let all : superclasses classes class ≡ class ∷ (asked.done ++ superclasses classes d) =
      asked.split ∙ ap (λ (n : Option ClassId). class ∷ (asked.done ++ upwards classes n)) e in
      let there : Contains (class ∷ (asked.done ++ superclasses classes d)) d =
      Contains-there d class (asked.done ++ superclasses classes d)
      (Contains-append_right asked.done (superclasses classes d) d (is-own_superclass classes ordered d)) in
      let lower = asked.next_lower d e in
      (subst (λ (ds : List ClassId). Contains ds d) (sym all) there, λ f. let same : d.0 ≡ class.0 = ap (λ (c : ClassId). c.0) f in omega arith)

  -- all were asked
  pub all-asked : (next : Option ClassId) (best : Option ℕ) → next ≡ None → AreAsked IsSo classes class methods next best
      → IsFirstPlace (OverridesWhere IsSo classes class) methods best
  all-asked next best none asked =
      let all : superclasses classes class ≡ class ∷ asked.done =
      asked.split ∙ ap (λ (n : Option ClassId). class ∷ (asked.done ++ upwards classes n)) none
      ∙ ap (λ (ds : List ClassId). class ∷ ds) (append-nil asked.done) in
      first-same methods (OverridesOneOf IsSo classes class asked.done) (OverridesWhere IsSo classes class) best (to all) (from all) asked.first
    where
      to : superclasses classes class ≡ class ∷ asked.done → (method : MethodRecord) → OverridesOneOf IsSo classes class asked.done method
          → OverridesWhere IsSo classes class method
      to all method (d, has, over) =
          let below : Contains (superclasses classes class) d =
          subst (λ (ds : List ClassId). Contains ds d) (sym all) (Contains-there d class asked.done has) in
          let lower = asked.lower d has in
          let other : d ≡ class → ⊥ = λ e. let same : d.0 ≡ class.0 = ap (λ (c : ClassId). c.0) e in omega arith in
          (d, below, other, over)

      from : superclasses classes class ≡ class ∷ asked.done → (method : MethodRecord) → OverridesWhere IsSo classes class method
          → OverridesOneOf IsSo classes class asked.done method
      from all method (d, below, other, over) =
          let there : Contains (class ∷ asked.done) d = subst (λ (ds : List ClassId). Contains ds d) all below in
          elim (Contains-cases d class asked.done there) [
            | inl same ↦ absurd (other (sym same))
            | inr later ↦ (d, later, over)
          ]

-- ---- One method alone.

pub none_alone : (Q : MethodRecord → Type 0) (method : MethodRecord) → (Q method → ⊥) → HasItem Q (method ∷ []) → ⊥
none_alone Q method none (zero, x, at, q) = none (subst Q (sym (same_Some method x at)) q)
none_alone Q method none (suc i, x, at, q) = absurd cc

pub not_alone : (Q : MethodRecord → Type 0) (method : MethodRecord) → (HasItem Q (method ∷ []) → ⊥) → Q method → ⊥
not_alone Q method none q = none (0, method, refl, q)

-- ---- Of classes that stand before one, and of those that don't.

abbrev of_number : ℕ → ClassId
of_number n = record { 0 = n }

module _ (classes : List ClassRecord) (class : ClassId) where
  overrides_final : (IsSo : ClassId → Type 0) (method : MethodRecord) → OverridesWhere IsSo classes class method
      → OverridesFinal (scope_of classes class) method
  overrides_final IsSo method (d, below, other, (so, (i, (final, is, named, typed, marked, over)))) =
      (record { class = d; index = i }, final, is, below, other, named, typed, marked, over)

  overrides_where : (IsSo : ClassId → Type 0) → ((d : ClassId) → IsSubclass classes class d → (d ≢ class) → IsSo d) → (method : MethodRecord)
      → OverridesFinal (scope_of classes class) method → OverridesWhere IsSo classes class method
  overrides_where IsSo all method (m, final, is, below, other, named, typed, marked, over) =
      (m.class, below, other, (all m.class below other, (m.index, (final, is, named, typed, marked, over))))

  -- each class properly above stands before the class
  pub final_from_before : AreOrdered classes → (methods : List MethodRecord) (found : Option ℕ)
      → IsFirstPlace (OverridesWhere (IsOutside class) classes class) methods found → IsFirstPlace (OverridesFinal (scope_of classes class)) methods found
  final_from_before ordered methods found first =
      first-same methods (OverridesWhere (IsOutside class) classes class) (OverridesFinal (scope_of classes class)) found
      (overrides_final (IsOutside class)) (overrides_where (IsOutside class) all) first
    where
      all : (d : ClassId) → IsSubclass classes class d → (d ≢ class) → d.0 < class.0
      all d below other =
          let most = superclasses-lower classes ordered class d below in
          elim (cases_lt d.0 class.0) [
            | inl less ↦ less
            | inr least ↦
                let same : d.0 ≡ class.0 = omega arith in
                absurd (other (ap of_number same))
          ]

  pub final_from_both : (first : ClassId) (methods : List MethodRecord) (outside inside found : Option ℕ)
      → IsFirstPlace (OverridesWhere (IsOutside first) classes class) methods outside
      → IsFirstPlace (OverridesWhere (IsInside first) classes class) methods inside → found ≡ earlier_place outside inside
      → IsFirstPlace (OverridesFinal (scope_of classes class)) methods found
  final_from_both first methods outside inside found h k is =
      subst (IsFirstPlace (OverridesFinal (scope_of classes class)) methods) (sym is)
      (first-same methods (λ x. OverridesWhere (IsOutside first) classes class x ⊎ OverridesWhere (IsInside first) classes class x)
      (OverridesFinal (scope_of classes class)) (earlier_place outside inside) to from
      (first-both methods (OverridesWhere (IsOutside first) classes class) (OverridesWhere (IsInside first) classes class) outside inside h k))
    where
      to : (method : MethodRecord) → OverridesWhere (IsOutside first) classes class method ⊎ OverridesWhere (IsInside first) classes class method
          → OverridesFinal (scope_of classes class) method
      to method (inl over) = overrides_final (IsOutside first) method over
      to method (inr over) = overrides_final (IsInside first) method over

      from : (method : MethodRecord) → OverridesFinal (scope_of classes class) method
          → OverridesWhere (IsOutside first) classes class method ⊎ OverridesWhere (IsInside first) classes class method
      from method (m, final, is, below, other, named, typed, marked, over) = elim (cases_lt m.class.0 first.0) [
        | inl less ↦ inl (m.class, below, other, (less, (m.index, (final, is, named, typed, marked, over))))
        | inr least ↦ inr (m.class, below, other, (least, (m.index, (final, is, named, typed, marked, over))))
      ]

-- ---- The number of the first method.

module _ (classes : List ClassRecord) (class : ClassId) (r : ClassRecord) (at : record_of classes class ≡ Some r) where
  abbrev Number : Option ℕ → Option ℕ
  Number found = option_map (λ i. length r.fields + i + 1) found

  none_before : (i : ℕ) → (HasItemBefore i (OverridesFinal (scope_of classes class)) r.methods → ⊥) → (other : Spot)
      → IsBefore other (Member (length r.fields + i + 1)) → HasFinalOverridden (scope_of classes class) other → ⊥
  none_before i none (Member n) low (q, j, method, here, there, e, over) =
      let same : q ≡ r = same_Some q r (sym here ∙ at) in
      let fields : length q.fields ≡ length r.fields = ap (λ (w : ClassRecord). length w.fields) same in
      none (j, method, omega arith, subst (λ (w : ClassRecord). slice_get w.methods j ≡ Some method) same there, over)
  none_before i none (Entry n) low h = h

  nowhere : (HasItem (OverridesFinal (scope_of classes class)) r.methods → ⊥) → (spot : Spot) → HasFinalOverridden (scope_of classes class) spot → ⊥
  nowhere none (Member n) (q, i, method, here, there, e, over) =
      let same : q ≡ r = same_Some q r (sym here ∙ at) in
      none (i, method, subst (λ (w : ClassRecord). slice_get w.methods i ≡ Some method) same there, over)
  nowhere none (Entry i) h = h

  least_of : (found : Option ℕ) → IsFirstPlace (OverridesFinal (scope_of classes class)) r.methods found
      → IsLeastNumber (HasFinalOverridden (scope_of classes class)) (Number found)
  least_of None none = nowhere none
  least_of (Some i) ((method, there, over), none) =
      (Member (length r.fields + i + 1), (r, i, method, at, there, refl, over), none_before i none, refl)

same_scope : (Q : List ClassRecord → ClassId → Type 0) (classes : List ClassRecord) (class : ClassId) (cs : List ClassRecord) (self : ClassId) → cs ≡ classes
    → self ≡ class → Q classes class → Q cs self
same_scope Q classes class cs self e f h = subst (λ (w : ClassId). Q cs w) (sym f) (subst (λ (w : List ClassRecord). Q w class) (sym e) h)

broken_moved : (s t : LinkScope) → s.classes ≡ t.classes → s.self ≡ t.self → (spot : Spot) → HasFinalOverridden s spot → HasFinalOverridden t spot
broken_moved s t e f (Member n) h =
    same_scope (λ cs self. HasFinalOverridden (scope_of cs self) (Member n)) s.classes s.self t.classes t.self (sym e) (sym f) h
broken_moved s t e f (Entry i) h = h

number_moved : (s t : LinkScope) → s.classes ≡ t.classes → s.self ≡ t.self → (number : Option ℕ) → IsLeastNumber (HasFinalOverridden s) number
    → IsLeastNumber (HasFinalOverridden t) number
number_moved s t e f None none = λ spot h. none spot (broken_moved t s (sym e) (sym f) spot h)
number_moved s t e f (Some n) (spot, h, least, is) =
    (spot, broken_moved s t e f spot h, λ other before k. least other before (broken_moved t s (sym e) (sym f) other k), is)

pub least_final : (classes : List ClassRecord) (class : ClassId) (r : ClassRecord) → record_of classes class ≡ Some r → (found : Option ℕ)
    → IsFirstPlace (OverridesFinal (scope_of classes class)) r.methods found → (s : LinkScope) → s.classes ≡ classes → s.self ≡ class
    → IsLeastNumber (HasFinalOverridden s) (option_map (λ i. length r.fields + i + 1) found)
least_final classes class r at found h s e f =
    number_moved (scope_of classes class) s (sym e) (sym f) (option_map (λ i. length r.fields + i + 1) found) (least_of classes class r at found h)

no_record : (classes : List ClassRecord) (class : ClassId) → record_of classes class ≡ None → (spot : Spot)
    → HasFinalOverridden (scope_of classes class) spot → ⊥
no_record classes class none (Member n) (r, i, method, at, there, e, over) = let z : None ≡ Some r = sym none ∙ at in cc
no_record classes class none (Entry i) h = h

pub no_class : (classes : List ClassRecord) (class : ClassId) → record_of classes class ≡ None → (s : LinkScope) → s.classes ≡ classes → s.self ≡ class
    → (spot : Spot) → HasFinalOverridden s spot → ⊥
no_class classes class none s e f spot h = no_record classes class none spot (broken_moved s (scope_of classes class) e f spot h)
