-- Of some rules one at most is the first that is broken, in one file and with one number.
use Rattle.std.proofs.Common.{◌≡◌, ℕ, ◌⊎◌, inl, inr, List, slice_get, refl, sym, ap, subst, ◌∙◌}
use Rattle.std.proofs.lemmas.Bool.{cases_order}
use Rattle.std.proofs.lemmas.Option.{same_Some}
use Rattle.list_lemmas.proofs.ItemsOfLists.{Contains-at as contained}
use Rattle.jk_model.specs.declared.output.Rule.{Rule}
use Rattle.jk_model_classes.specs.Items.{Spot, Member, Entry, spot_number, IsBefore}
use Rattle.jk_model_folders.specs.FolderRules.{BreaksAt, IsFirstBroken, NoneBroken}

spot_cases : (s t : Spot) → (s ≡ t) ⊎ (IsBefore s t ⊎ IsBefore t s)
spot_cases (Member m) (Entry j) = inr (inl tt)
spot_cases (Entry i) (Member n) = inr (inr tt)
spot_cases (Member m) (Member n) = elim (cases_order m n) [ inl same ↦ inl (ap (λ (k : ℕ). Member k) same) | inr other ↦ inr other ]
spot_cases (Entry i) (Entry j) = elim (cases_order i j) [ inl same ↦ inl (ap (λ (k : ℕ). Entry k) same) | inr other ↦ inr other ]

-- where none is broken, none is the first
pub none_is_first : (rules : List Rule) (A B : BreaksAt) → ((r : Rule) (i : ℕ) (spot : Spot) → A r i spot → B r i spot) → NoneBroken rules B
    → (rule : Rule) (i m : ℕ) → IsFirstBroken rules A rule i m → ⊥
none_is_first rules A B into none rule i m first =
    none rule i first.spot (contained rules first.place rule first.listed) (into rule i first.spot first.broken)

pub record SameFault (rule other : Rule) (i j m n : ℕ) : Type 0 where
  pub rule_is : rule ≡ other
  pub file_is : i ≡ j
  pub number_is : m ≡ n

-- The rules are read of two kinds of files that break the same.
module _ (rules : List Rule) (A B : BreaksAt) (into : (r : Rule) (i : ℕ) (spot : Spot) → A r i spot → B r i spot)
    (back : (r : Rule) (i : ℕ) (spot : Spot) → B r i spot → A r i spot) (rule other : Rule) (i j m n : ℕ)
    (first : IsFirstBroken rules A rule i m) (second : IsFirstBroken rules B other j n) where
  same_rule : rule ≡ other
  same_rule = elim (cases_order first.place second.place) [
    | inl same ↦ same_Some rule other (sym first.listed ∙ ap (λ (k : ℕ). slice_get rules k) same ∙ second.listed)
    | inr apart ↦ elim apart [
      | inl below ↦
          absurd (second.earlier_rules rule (first.place, rule, below, first.listed, refl) i first.spot (into rule i first.spot first.broken))
      | inr above ↦
          absurd (first.earlier_rules other (second.place, other, above, second.listed, refl) j second.spot (back other j second.spot second.broken))
    ]
  ]

  -- what the one breaks first is broken by the other, by that one's rule
  there : B other i first.spot
  there = subst (λ (r : Rule). B r i first.spot) same_rule (into rule i first.spot first.broken)

  here : A rule j second.spot
  here = subst (λ (r : Rule). A r j second.spot) (sym same_rule) (back other j second.spot second.broken)

  same_file : i ≡ j
  same_file = elim (cases_order i j) [
    | inl same ↦ same
    | inr apart ↦ elim apart [
      | inl below ↦ absurd (second.earlier_files i first.spot below there)
      | inr above ↦ absurd (first.earlier_files j second.spot above here)
    ]
  ]

  same_spot : first.spot ≡ second.spot
  same_spot = elim (spot_cases first.spot second.spot) [
    | inl same ↦ same
    | inr apart ↦ elim apart [
      | inl before ↦ absurd (second.least first.spot before (subst (λ (k : ℕ). B other k first.spot) same_file there))
      | inr after ↦ absurd (first.least second.spot after (subst (λ (k : ℕ). A rule k second.spot) (sym same_file) here))
    ]
  ]

  pub one_broken : SameFault rule other i j m n
  one_broken = record {
    rule_is = same_rule;
    file_is = same_file;
    number_is = first.is_number ∙ ap spot_number same_spot ∙ sym second.is_number;
  }
