-- The first rule that is broken is found rule by rule.
use Rattle.std.proofs.Common.{◌≡◌, ℕ, zero, suc, ◌<◌, List, [], ◌∷◌, ◌++◌, length, Option, Some, None, slice_get, refl, sym, subst, arith}
use Rattle.std.proofs.lemmas.Option.{same_Some, slice_get_within}
use Rattle.list_lemmas.proofs.ItemsOfLists.{Contains-at, place_of}
use Rattle.jk_model.specs.declared.output.Rule.{Rule}
use Rattle.jk_model_classes.specs.Items.{Spot, IsBefore, spot_number}
use Rattle.jk_model_folders.specs.FolderRules.{BreaksAt, IsFirstBroken, NoneBroken}
use Rattle.class_files.specs.declared.faults.FileFault.{FileFault}
use Rattle.placed_rules.specs.FirstFiles.{IsFirstFault}

-- ---- One rule.

-- the first file that breaks the rule, and the number of its least spot
pub record IsFirstOfRule (Broken : BreaksAt) (rule : Rule) (fault : FileFault) : Type 0 where
  pub rule_is : fault.rule ≡ rule
  pub earlier_files : (i : ℕ) (spot : Spot) → i < fault.file → Broken rule i spot → ⊥
  pub spot : Spot
  pub broken : Broken rule fault.file spot
  pub least : (other : Spot) → IsBefore other spot → Broken rule fault.file other → ⊥
  pub is_number : fault.number ≡ spot_number spot

abbrev pub IsUnbroken : BreaksAt → Rule → Type 0
IsUnbroken Broken rule = (i : ℕ) (spot : Spot) → Broken rule i spot → ⊥

abbrev pub IsRuleAnswer : BreaksAt → Rule → Option FileFault → Type 0
IsRuleAnswer Broken rule None = IsUnbroken Broken rule
IsRuleAnswer Broken rule (Some fault) = IsFirstOfRule Broken rule fault

-- ---- Several rules.

abbrev pub AreUnbroken : BreaksAt → List Rule → Type 0
AreUnbroken Broken [] = Unit {0}
AreUnbroken Broken (rule ∷ rules) = IsUnbroken Broken rule × AreUnbroken Broken rules

module _ (Broken : BreaksAt) where
  unbroken_at : (rules : List Rule) (k : ℕ) (rule : Rule) → AreUnbroken Broken rules → slice_get rules k ≡ Some rule → IsUnbroken Broken rule
  unbroken_at [] k rule h at = absurd cc
  unbroken_at (x ∷ rules) zero rule h at =
      let same : x ≡ rule = same_Some x rule at in
      subst (λ (r : Rule). IsUnbroken Broken r) same h.0
  unbroken_at (x ∷ rules) (suc k) rule h at = unbroken_at rules k rule h.1 at

  pub none_broken : (rules : List Rule) → AreUnbroken Broken rules → NoneBroken rules Broken
  none_broken rules h rule i spot listed =
      let at = place_of rules rule listed in
      unbroken_at rules at.0 rule h at.1 i spot

  pub all_unbroken : (rules : List Rule) → ((rule : Rule) (k : ℕ) → slice_get rules k ≡ Some rule → IsUnbroken Broken rule) → AreUnbroken Broken rules
  all_unbroken [] h = tt
  all_unbroken (x ∷ rules) h = (h x zero refl, all_unbroken rules (λ rule k at. h rule (suc k) at))

  pub unbroken_by : (rules : List Rule) → NoneBroken rules Broken → AreUnbroken Broken rules
  unbroken_by rules none = all_unbroken rules (λ rule k at i spot broken. none rule i spot (Contains-at rules k rule at) broken)

  listed_behind : (front : List Rule) (rule : Rule) (back : List Rule) → slice_get (front ++ rule ∷ back) (length front) ≡ Some rule
  listed_behind [] rule back = refl
  listed_behind (x ∷ front) rule back = listed_behind front rule back

  front_at : (front back : List Rule) (k : ℕ) (rule : Rule) → k < length front → slice_get (front ++ back) k ≡ Some rule → AreUnbroken Broken front
      → IsUnbroken Broken rule
  front_at [] back k rule less at h = absurd (omega (arith, less))
  front_at (x ∷ front) back zero rule less at h =
      let same : x ≡ rule = same_Some x rule at in
      subst (λ (r : Rule). IsUnbroken Broken r) same h.0
  front_at (x ∷ front) back (suc k) rule less at h = front_at front back k rule (omega (arith, less)) at h.1

  -- a rule is the first that is broken where those in front of it are not
  pub first_behind : (front : List Rule) (rule : Rule) (back : List Rule) (fault : FileFault) → AreUnbroken Broken front
      → IsFirstOfRule Broken rule fault → IsFirstBroken (front ++ rule ∷ back) Broken fault.rule fault.file fault.number
  first_behind front rule back fault none h =
      subst (λ (r : Rule). IsFirstBroken (front ++ rule ∷ back) Broken r fault.file fault.number) (sym h.rule_is) (record {
        place = length front;
        listed = listed_behind front rule back;
        earlier_rules = λ other before i spot broken.
            front_at front (rule ∷ back) before.0 before.1 before.2 before.3 none i spot
            (subst (λ (r : Rule). Broken r i spot) (sym before.4) broken);
        earlier_files = h.earlier_files;
        spot = h.spot;
        broken = h.broken;
        least = h.least;
        is_number = h.is_number;
      })

-- ---- One rule of a placed folder, asked of the classes in their order.

module _ (Broken : BreaksAt) (rule : Rule) (order : List ℕ) (Breaks : ℕ → Spot → Type 0)
    (once : (k l i : ℕ) → slice_get order k ≡ Some i → slice_get order l ≡ Some i → k ≡ l)
    (into : (i : ℕ) (spot : Spot) → Broken rule i spot → (k : ℕ) × (slice_get order k ≡ Some i) × Breaks k spot)
    (from : (k i : ℕ) (spot : Spot) → slice_get order k ≡ Some i → Breaks k spot → Broken rule i spot) where
  pub rule_answer : (found : Option FileFault) → IsFirstFault rule (length order) order Breaks found → IsRuleAnswer Broken rule found
  rule_answer None h = λ i spot broken.
      let at = into i spot broken in
      h at.0 i spot (slice_get_within order at.0 i at.1) at.1 at.2
  rule_answer (Some fault) h = record {
    rule_is = h.rule_is;
    earlier_files = λ i spot less broken.
        let at = into i spot broken in
        h.earlier at.0 i spot (slice_get_within order at.0 i at.1) at.1 less at.2;
    spot = h.spot;
    broken = from h.place fault.file h.spot h.there h.broken;
    least = λ other before broken.
        let at = into fault.file other broken in
        h.least other before (subst (λ (k : ℕ). Breaks k other) (once at.0 h.place fault.file at.1 h.there) at.2);
    is_number = h.is_number;
  }
