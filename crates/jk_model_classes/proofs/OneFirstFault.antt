-- A class file has one first fault at most: the rules stand in an order, and so do the spots.
use Rattle.std.proofs.Common.{◌≡◌, ℕ, zero, suc, ◌<◌, List, slice_get, ◌⊎◌, inl, inr, refl, sym, ap, subst, ◌∙◌, arith}
use Rattle.std.proofs.lemmas.Option.{same_Some}
use Rattle.jk_model.specs.declared.class_file.ClassFile.{ClassFile}
use Rattle.jk_model.specs.declared.output.Rule.{Rule}
use Rattle.jk_model_classes.specs.Items.{Spot, Member, Entry, spot_number, IsBefore}
use Rattle.jk_model_classes.specs.OneClassRules.{one_class_rules, Breaks, IsFirstFault}

below_same_or_above : (m n : ℕ) → (m < n) ⊎ (m ≡ n) ⊎ (n < m)
below_same_or_above zero zero = inr (inl refl)
below_same_or_above zero (suc n) = inl (omega arith)
below_same_or_above (suc m) zero = inr (inr (omega arith))
below_same_or_above (suc m) (suc n) = elim (below_same_or_above m n) [
  | inl below ↦ inl (omega (arith, below))
  | inr (inl same) ↦ inr (inl (ap (λ (k : ℕ). suc k) same))
  | inr (inr above) ↦ inr (inr (omega (arith, above)))
]

before_same_or_after : (s t : Spot) → IsBefore s t ⊎ (s ≡ t) ⊎ IsBefore t s
before_same_or_after (Member m) (Entry j) = inl tt
before_same_or_after (Entry i) (Member n) = inr (inr tt)
before_same_or_after (Member m) (Member n) = elim (below_same_or_above m n) [
  | inl below ↦ inl below
  | inr (inl same) ↦ inr (inl (ap (λ (k : ℕ). Member k) same))
  | inr (inr above) ↦ inr (inr above)
]
before_same_or_after (Entry i) (Entry j) = elim (below_same_or_above i j) [
  | inl below ↦ inl below
  | inr (inl same) ↦ inr (inl (ap (λ (k : ℕ). Entry k) same))
  | inr (inr above) ↦ inr (inr above)
]

module _ (c : ClassFile) (path : List ℕ) (rule other : Rule) (m n : ℕ) (first : IsFirstFault c path rule m) (second : IsFirstFault c path other n) where
  same_rule : rule ≡ other
  same_rule = elim (below_same_or_above first.place second.place) [
    | inl below ↦ absurd (second.earlier rule (first.place, rule, below, first.listed, refl) first.spot first.broken)
    | inr (inl same) ↦
        same_Some rule other (sym first.listed ∙ ap (λ (k : ℕ). slice_get one_class_rules k) same ∙ second.listed)
    | inr (inr above) ↦ absurd (first.earlier other (second.place, other, above, second.listed, refl) second.spot second.broken)
  ]

  same_spot : rule ≡ other → first.spot ≡ second.spot
  same_spot same = elim (before_same_or_after first.spot second.spot) [
    | inl before ↦ absurd (second.least first.spot before (subst (λ (r : Rule). Breaks r c path first.spot) same first.broken))
    | inr (inl equal) ↦ equal
    | inr (inr after) ↦ absurd (first.least second.spot after (subst (λ (r : Rule). Breaks r c path second.spot) (sym same) second.broken))
  ]

  pub one_fault : (rule ≡ other) × (m ≡ n)
  one_fault = (same_rule, first.is_number ∙ ap (λ (s : Spot). spot_number s) (same_spot same_rule) ∙ sym second.is_number)

-- no spot comes before the class itself
pub nothing_before_the_class : (spot : Spot) → IsBefore spot (Member 0) → ⊥
nothing_before_the_class (Member n) before = omega (arith, before)
nothing_before_the_class (Entry i) before = before
