-- In the table no class has a closed one for its parent, and behind it none has where that is asked. So a class that stands below a
-- closed one is that class itself.
use Rattle.std.proofs.Common.{◌≡◌, ℕ, zero, suc, ◌+◌, ◌<◌, inl, inr, Bool, true, false, not, List, [], ◌∷◌, length, Option, Some, None, Contains, slice_get, refl, sym, ap, subst, ◌∙◌, arith}
use Rattle.std.specs.Prelude.{option_map}
use Rattle.std.specs.List.{AllByRecursion}
use Rattle.std.specs.Option.{option_map_or}
use Rattle.std.proofs.lemmas.Bool.{cases_lt, false≢true}
use Rattle.std.proofs.lemmas.Option.{same_Some}
use Rattle.jk_model.specs.declared.identifiers.ClassId.{ClassId}
use Rattle.jk_model.specs.SystemTable.{SystemClass, parent_number, system_classes}
use Rattle.jk_model.proofs.EachItem.{all_at, all_from_test}
use Rattle.jk_model_classes.specs.declared.records.ClassRecord.{ClassRecord}
use Rattle.jk_model_classes.specs.Classes.{record_of, superclasses, AreOrdered, IsSubclass}
use Rattle.list_lemmas.proofs.ItemsByPlace.{item_there}
use Rattle.class_table.proofs.StandingAbove.{parent-lower, superclasses-cases}
use Rattle.system_facts.specs.ClosedClasses.{HaveOpenParents, IsClosedClass}
use Rattle.system_facts.specs.SystemTypes.{HaveSystemClasses}
use Rattle.system_facts.proofs.SystemEntries.{entry_of}

-- ---- The table.

abbrev is_open : Option SystemClass → Bool
is_open o = option_map_or (λ (class : SystemClass). not class.closed) o true

abbrev has_open_parent : SystemClass → Bool
has_open_parent class = option_map_or (λ (p : ℕ). is_open (slice_get system_classes p)) (parent_number class) true

parents_open : AllByRecursion (λ (class : SystemClass). has_open_parent class ≡ true) system_classes
parents_open =
    all_from_test (λ (class : SystemClass). has_open_parent class ≡ true) has_open_parent (λ class h. h) system_classes refl

closed_by : (c : ClassId) (o : Option SystemClass) → slice_get system_classes c.0 ≡ o
    → option_map_or (λ (class : SystemClass). class.closed) o false ≡ true → IsClosedClass c
closed_by c None at e = absurd (false≢true e)
closed_by c (Some class) at e = (class, at, e)

-- a class with the number of a closed one
pub closed_named : (n : ℕ) → option_map_or (λ (class : SystemClass). class.closed) (slice_get system_classes n) false ≡ true
    → (c : ClassId) → Some n ≡ Some c.0 → IsClosedClass c
closed_named n e c named =
    closed_by c (slice_get system_classes c.0) refl
    (subst (λ (k : ℕ). option_map_or (λ (class : SystemClass). class.closed) (slice_get system_classes k) false ≡ true) (same_Some n c.0 named) e)

module _ (classes : List ClassRecord) (ordered : AreOrdered classes) (system : HaveSystemClasses classes) (parents : HaveOpenParents classes) where
  listed_open : (c p : ClassId) (r : ClassRecord) → c.0 < length system_classes → record_of classes c ≡ Some r → r.parent ≡ Some p → IsClosedClass p → ⊥
  listed_open c p r low is parent (closed, at, yes_closed) =
      let entry = item_there system_classes c.0 low in
      let said = entry_of classes system c entry.0 r entry.1 is in
      let number : parent_number entry.0 ≡ Some p.0 = sym said.parent ∙ ap (λ (o : Option ClassId). option_map (λ (d : ClassId). d.0) o) parent in
      let open_parent : has_open_parent entry.0 ≡ true =
      all_at (λ (class : SystemClass). has_open_parent class ≡ true) system_classes c.0 entry.0 parents_open entry.1 in
      let found : has_open_parent entry.0 ≡ not closed.closed =
      ap (λ (o : Option ℕ). option_map_or (λ (n : ℕ). is_open (slice_get system_classes n)) o true) number ∙ ap is_open at in
      false≢true (sym (ap not yes_closed) ∙ sym found ∙ open_parent)

  no_closed_parent : (c p : ClassId) (r : ClassRecord) → record_of classes c ≡ Some r → r.parent ≡ Some p → IsClosedClass p → ⊥
  no_closed_parent c p r is parent closed = elim (cases_lt c.0 (length system_classes)) [
    | inl low ↦ listed_open c p r low is parent closed
    | inr high ↦ parents c p r high is parent closed
  ]

  parent_said : (r : ClassRecord) (o : Option ClassId) (p : ClassId) → r.parent ≡ o → option_map_or (λ (q : ClassId). q ∷ []) o [] ≡ p ∷ [] → r.parent ≡ Some p
  parent_said r None p is only = absurd cc
  parent_said r (Some q) p is only = let same : q ≡ p = cc in is ∙ ap (λ (c : ClassId). Some c) same

  closed_above_none : (c p : ClassId) (o : Option ClassRecord) → record_of classes c ≡ o
      → option_map_or (λ (r : ClassRecord). option_map_or (λ (q : ClassId). q ∷ []) r.parent []) o [] ≡ p ∷ [] → IsClosedClass p → ⊥
  closed_above_none c p None is only closed = absurd cc
  closed_above_none c p (Some r) is only closed = no_closed_parent c p r is (parent_said r r.parent p refl only) closed

  lowest_within : (h : ℕ) (c closed : ClassId) → c.0 < h → IsClosedClass closed → Contains (superclasses classes c) closed → c ≡ closed
  lowest_within zero c closed low is above = absurd (omega (arith, low))
  lowest_within (suc h) c closed low is above = elim (superclasses-cases classes ordered c closed above) [
    | inl same ↦ same
    | inr (p, only, higher) ↦
        let lower = parent-lower classes ordered c p only in
        let same : p ≡ closed = lowest_within h p closed (omega (arith, low, lower)) is higher in
        absurd (closed_above_none c p (record_of classes c) refl only (subst IsClosedClass (sym same) is))
  ]

  pub closed_is_lowest : (c closed : ClassId) → IsClosedClass closed → IsSubclass classes c closed → c ≡ closed
  closed_is_lowest c closed is below = lowest_within (c.0 + 1) c closed (omega arith) is below
