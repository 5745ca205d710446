-- A step upwards, to the parent or to the class that an entry jumps to, passes over nothing that is sought.
use Rattle.std.proofs.Common.{◌≡◌, ℕ, ◌<◌, ◌≤◌, ◌↔◌, Bool, eqb, IsTrue, List, [], ◌∷◌, Option, Some, None, MatchOption, slice_get, sym, ap, subst, ◌∙◌, inl, inr, arith}
use Rattle.std.proofs.lemmas.Bool.{eqb-true, eq-eqb}
use Rattle.jk_model.specs.declared.identifiers.ClassId.{ClassId}
use Rattle.jk_model_classes.specs.declared.records.ClassRecord.{ClassRecord}
use Rattle.jk_model_classes.specs.Classes.{AreOrdered, IsSubclass}
use Rattle.class_table.specs.declared.entry.Entry.{Entry}
use Rattle.class_table.specs.Entries.{IsTable, records}
use Rattle.class_table.proofs.EntriesAreRight.{parents-at, no_parents-at, jump_above-at, parent_lower-at, parent_above-at}
use Rattle.class_table.proofs.StandingAbove.{superclasses-cases, superclasses-trans, superclasses-chain, superclasses-lower, is-own_superclass}

module _ (entries : List Entry) (table : IsTable entries) (at to : ClassId) (e : Entry) (is : slice_get entries at.0 ≡ Some e) (above : to.0 < at.0) where
  pub step-jump : e.standing.jump.0 < at.0 → to.0 ≤ e.standing.jump.0
      → (e.standing.jump.0 < at.0) × (IsSubclass (records entries) at to ↔ IsSubclass (records entries) e.standing.jump to)
  step-jump lower order =
      let jump = e.standing.jump in
      let there = jump_above-at entries at e is table in (
        lower,
        (
          (λ sub. superclasses-chain (records entries) table.ordered at jump to there sub order),
          (λ sub. superclasses-trans (records entries) table.ordered at jump to there sub),
        ),
      )

  step-to_parent : (p : ClassId) → e.class.parent ≡ Some p → IsSubclass (records entries) at to → IsSubclass (records entries) p to
  step-to_parent p parent sub = elim (superclasses-cases (records entries) table.ordered at to sub) [
    | inl same ↦ let e : at.0 ≡ to.0 = ap (λ (d : ClassId). d.0) same in absurd (omega arith)
    | inr (q, only, qb) ↦
        let same : p ∷ [] ≡ q ∷ [] = sym (parents-at entries at e is p parent) ∙ only in
        let one : p ≡ q = cc in
        rw one qb
  ]

  step-no_parent : e.class.parent ≡ None → IsSubclass (records entries) at to → ⊥
  step-no_parent parent sub = elim (superclasses-cases (records entries) table.ordered at to sub) [
    | inl same ↦ let e : at.0 ≡ to.0 = ap (λ (d : ClassId). d.0) same in absurd (omega arith)
    | inr (q, only, qb) ↦
        let same : [] ≡ q ∷ [] = sym (no_parents-at entries at e is parent) ∙ only in
        absurd cc
  ]

  pub step-parent : (o : Option ClassId) → e.class.parent ≡ o → MatchOption o (IsSubclass (records entries) at to → ⊥)
      (λ next. (next.0 < at.0) × (IsSubclass (records entries) at to ↔ IsSubclass (records entries) next to))
  step-parent None parent = step-no_parent parent
  step-parent (Some p) parent = (
    parent_lower-at entries at e is table p parent,
    (step-to_parent p parent, λ sub. superclasses-trans (records entries) table.ordered at p to (parent_above-at entries at e is table p parent) sub),
  )

-- ---- The end of a search.

-- where the class that was reached has no higher number than the sought one, it is that class or the sought one isn't above
pub subclass-at_end : (classes : List ClassRecord) → AreOrdered classes → (a at b : ClassId) (same : Bool) → same ≡ eqb at.0 b.0 → at.0 ≤ b.0
    → (IsSubclass classes a b ↔ IsSubclass classes at b) → IsTrue same ↔ IsSubclass classes a b
subclass-at_end classes ordered a at b same test low both = (
  (λ yes.
      let e : at.0 ≡ b.0 = eqb-true at.0 b.0 (sym test ∙ yes) in
      let one : at ≡ b = ap (λ (n : ℕ). record { 0 = n }) e in
      both.1 (subst (λ (d : ClassId). IsSubclass classes at d) one (is-own_superclass classes ordered at))),
  (λ sub.
      let order = superclasses-lower classes ordered at b (both.0 sub) in
      let e : at.0 ≡ b.0 = omega arith in
      test ∙ eq-eqb at.0 b.0 e),
)
