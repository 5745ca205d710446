-- A method overrides no final one of the folder's classes above it where none was met by its keys; and judging one class more
-- keeps what is known of those that were judged.
use Rattle.std.proofs.Common.{◌≡◌, ℕ, ◌+◌, ◌<◌, ◌≤◌, ◌⊎◌, inl, inr, List, [], ◌∷◌, Option, Some, None, refl, sym, ap, subst, ◌∙◌, arith}
use Rattle.std.specs.Prelude.{slice_get}
use Rattle.std.specs.BTreeMap.{BTreeMap}
use Rattle.std.specs.Option.{option_map_or}
use Rattle.std.proofs.lemmas.Option.{same_Some}
use Rattle.class_table.proofs.StandingAbove.{parent-lower, superclasses-cases, superclasses-lower}
use Rattle.jk_model.specs.declared.identifiers.ClassId.{ClassId}
use Rattle.jk_model_classes.specs.declared.records.ClassRecord.{ClassRecord}
use Rattle.jk_model_classes.specs.declared.records.MethodRecord.{MethodRecord}
use Rattle.jk_model_classes.specs.Classes.{AreOrdered, IsSubclass, parents_of, record_of}
use Rattle.jk_model_classes.specs.Lookups.{AreInOnePackage, IsPackageOf}
use Rattle.link_rules.specs.FinalMethods.{IsFinalFault, IsInside, OverridesWhere}
use Rattle.link_rules.specs.FolderFinals.{AreJudged, AreKept, AreMetAbove, AreMetFrom, AreNumbers, IsMetAt, IsReadyAt}
use Rattle.link_rules.specs.MetFinals.{Grows, IsKept, IsMet, IsPackageNumber, key_in}
use Rattle.link_rules.specs.declared.folder_finals.Above.{Above}
use Rattle.link_rules.specs.declared.met_finals.FinalKey.{FinalKey}
use Rattle.link_rules.specs.declared.spans.Span.{Span}
use Rattle.link_rules.proofs.MetByKeys.{kept_grows, kept_less, met_as}

-- ---- A method that overrides a final one was met.

named_alike : (package_number : ℕ) (final method : MethodRecord) → final.name ≡ method.name → final.kind ≡ method.kind
    → key_in package_number final ≡ key_in package_number method
named_alike package_number final method named typed = rw (named, typed) refl

-- classes of one package have one number for it
one_number : (classes : List ClassRecord) (c d : ClassId) (r q : ClassRecord) (m n : ℕ) → record_of classes c ≡ Some r → record_of classes d ≡ Some q
    → IsPackageNumber r.name m → IsPackageNumber q.name n → AreInOnePackage classes c d → n ≡ m
one_number classes c d r q m n at there of_c of_d one =
    let same_c : one.of_a ≡ r = same_Some one.of_a r (sym one.a_is ∙ at) in
    let same_d : one.of_b ≡ q = same_Some one.of_b q (sym one.b_is ∙ there) in
    of_d one.prefix (subst (λ (x : ClassRecord). IsPackageOf x.name one.prefix) same_d one.b_in)
    ∙ sym (of_c one.prefix (subst (λ (x : ClassRecord). IsPackageOf x.name one.prefix) same_c one.a_in))

pub overridden_met : (a : Above) (r : ClassRecord) → IsMetAt a r → (method : MethodRecord) → OverridesWhere (IsInside a.first) a.t.now a.class method
    → IsMet a.met.now (key_in 0 method) a.least ⊎ IsMet a.met.now (key_in a.package_number method) a.least
overridden_met a r known method (d, below, other, (inside, (i, (final, (q, at, there), named, typed, marked, over)))) =
    let (package_number, of_d, kept) = known.met_above d q below other inside at in
    let here = kept i final there marked in
    elim over [
      | inl wide ↦ inl (met_as a.met.now (key_in 0 final) (key_in 0 method) a.least (named_alike 0 final method named typed) (here.0 (inl wide)))
      | inr rest ↦ elim rest [
        | inl wide ↦ inl (met_as a.met.now (key_in 0 final) (key_in 0 method) a.least (named_alike 0 final method named typed) (here.0 (inr wide)))
        | inr (unmarked, one) ↦
            let number : package_number ≡ a.package_number =
            one_number a.t.now a.class d r q a.package_number package_number known.class_is at known.package_is of_d one in
            inr (met_as a.met.now (key_in package_number final) (key_in a.package_number method) a.least
            (named_alike package_number final method named typed ∙ ap (λ (p : ℕ). key_in p method) number) (here.1 unmarked))
      ]
    ]

-- ---- What was met above a class whose parent was judged.

kept_from : (met : BTreeMap FinalKey ℕ) (m n : ℕ) (r : ClassRecord) → m ≤ n → AreKept met n r → AreKept met m r
kept_from met m n r less (package_number, is, kept) = (package_number, is, λ i method at. kept_less met m n package_number method less (kept i method at))

kept_later : (old new : BTreeMap FinalKey ℕ) (n : ℕ) (r : ClassRecord) → Grows old new → AreKept old n r → AreKept new n r
kept_later old new n r grows (package_number, is, kept) =
    (package_number, is, λ i method at. kept_grows old new n package_number method grows (kept i method at))

only_parent : (o : Option ClassId) (p : ClassId) → option_map_or (λ (c : ClassId). c ∷ []) o [] ≡ p ∷ [] → o ≡ Some p
only_parent None p e = absurd cc
only_parent (Some q) p e = let same : q ≡ p = cc in ap (λ (c : ClassId). Some c) same

abbrev parents_by : Option ClassRecord → List ClassId
parents_by o = option_map_or (λ (r : ClassRecord). option_map_or (λ (c : ClassId). c ∷ []) r.parent []) o []

parent_of_record : (classes : List ClassRecord) (c p : ClassId) (r : ClassRecord) → record_of classes c ≡ Some r → parents_of classes c ≡ p ∷ []
    → r.parent ≡ Some p
parent_of_record classes c p r at only = only_parent r.parent p (ap parents_by (sym at) ∙ only)

abbrev of_number : ℕ → ClassId
of_number n = record { 0 = n }

module _ (classes : List ClassRecord) (ordered : AreOrdered classes) (first : ClassId) (spans : List Span) where
  pub met_above : (met : BTreeMap FinalKey ℕ) (numbers : List (Option (Option ℕ))) → AreJudged classes first spans met numbers → (class : ClassId)
      (r : ClassRecord) (span : Span) → record_of classes class ≡ Some r → IsReadyAt first spans numbers r.parent span
      → AreMetAbove classes first met span.until class
  met_above met numbers judged class r span at ready d q below other inside there =
      elim (superclasses-cases classes ordered class d below) [
        | inl same ↦ absurd (other (sym same))
        | inr (p, only, above) ↦
            let lower = superclasses-lower classes ordered p d above in
            let (place, number, outer, stands, has_number, has_span, ends) =
            ready.1 p (parent_of_record classes class p r at only) (omega (arith, lower, inside)) in
            kept_from met span.until outer.until q ends (judged.met_from p place number outer stands has_number has_span d q above inside there)
      ]

  pub met_less_above : (met : BTreeMap FinalKey ℕ) (m n : ℕ) (class : ClassId) → m ≤ n → AreMetAbove classes first met n class
      → AreMetAbove classes first met m class
  met_less_above met m n class less h d q below other inside there = kept_from met m n q less (h d q below other inside there)

  -- one class more
  pub judged_more : (old new : BTreeMap FinalKey ℕ) (before numbers : List (Option (Option ℕ))) (class : ClassId) (r : ClassRecord) (span : Span)
      (number : Option ℕ) (package_number : ℕ) (place : ℕ) → AreJudged classes first spans old before → record_of classes class ≡ Some r
      → class.0 ≡ first.0 + place → slice_get spans place ≡ Some span → AreMetAbove classes first old span.until class
      → IsFinalFault classes class number → IsPackageNumber r.name package_number → Grows old new
      → ((i : ℕ) (method : MethodRecord) → slice_get r.methods i ≡ Some method → IsKept new span.until package_number method)
      → ((k : ℕ) (n : Option ℕ) → slice_get numbers k ≡ Some (Some n)
      → (slice_get before k ≡ Some (Some n)) ⊎ ((class.0 ≡ first.0 + k) × (n ≡ number)))
      → AreJudged classes first spans new numbers
  judged_more old new before numbers class r span number package_number place judged at stands of_class above is of_name grows kept set =
      record { numbers_are = right; met_from = met }
    where
      one_class : (other : ClassId) (k : ℕ) → other.0 ≡ first.0 + k → class.0 ≡ first.0 + k → other ≡ class
      one_class other k there here =
          let same : other.0 ≡ class.0 = there ∙ sym here in
          ap of_number same

      right : AreNumbers classes first numbers
      right other k n there has = elim (set k n has) [
        | inl was ↦ judged.numbers_are other k n there was
        | inr (here, now) ↦
            subst (λ (c : ClassId). IsFinalFault classes c n) (sym (one_class other k there here))
            (subst (λ (m : Option ℕ). IsFinalFault classes class m) (sym now) is)
      ]

      own : AreMetFrom classes first new span.until class
      own d q below inside there = by_test (superclasses-cases classes ordered class d below)
        where
          by_test : (class ≡ d) ⊎ ((p : ClassId) × (parents_of classes class ≡ p ∷ []) × IsSubclass classes p d) → AreKept new span.until q
          by_test (inl same) =
              let one : r ≡ q = same_Some r q (sym at ∙ subst (λ (c : ClassId). record_of classes c ≡ Some q) (sym same) there) in
              subst (AreKept new span.until) one (package_number, of_name, kept)
          by_test (inr (p, only, h)) =
              let lower = superclasses-lower classes ordered p d h in
              let higher : p.0 < class.0 = parent-lower classes ordered class p only in
              let other : d ≡ class → ⊥ = λ e. let same : d.0 ≡ class.0 = ap (λ (c : ClassId). c.0) e in omega arith in
              kept_later old new span.until q grows (above d q below other inside there)

      met : (other : ClassId) (k : ℕ) (n : Option ℕ) (its : Span) → other.0 ≡ first.0 + k → slice_get numbers k ≡ Some (Some n)
          → slice_get spans k ≡ Some its → AreMetFrom classes first new its.until other
      met other k n its there has spanned = elim (set k n has) [
        | inl was ↦ λ d q below inside found. kept_later old new its.until q grows (judged.met_from other k n its there was spanned d q below inside found)
        | inr (here, now) ↦
            let places : k ≡ place = omega (arith, stands, here) in
            let same : span ≡ its = same_Some span its (sym of_class ∙ subst (λ (j : ℕ). slice_get spans j ≡ Some its) places spanned) in
            subst (λ (s : Span). AreMetFrom classes first new s.until other) same
            (subst (λ (c : ClassId). AreMetFrom classes first new span.until c) (sym (one_class other k there here)) own)
      ]

-- none was judged yet
pub judged_none : (classes : List ClassRecord) (first : ClassId) (spans : List Span) (met : BTreeMap FinalKey ℕ) (numbers : List (Option (Option ℕ)))
    → ((k : ℕ) (n : Option ℕ) → slice_get numbers k ≡ Some (Some n) → ⊥) → AreJudged classes first spans met numbers
judged_none classes first spans met numbers none = record {
  numbers_are = λ class place number stands at. absurd (none place number at);
  met_from = λ class place number span stands at spanned. absurd (none place number at);
}
