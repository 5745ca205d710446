-- Files are judged in turn, and the first fault so far is kept: that of the earliest rule, and of that rule the first file.
use Rattle.std.proofs.Common.{◌≡◌, ℕ, zero, suc, ◌+◌, ◌<◌, ◌≤◌, List, [], ◌∷◌, Option, Some, None, slice_get, refl, ap, ◌∙◌, arith}
use Rattle.std.specs.Prelude.{Result, Err, nat_lt}
use Rattle.std.proofs.lemmas.Bool.{cond_both, ltb-true, ltb-false}
use Rattle.std.proofs.lemmas.Option.{slice_get-get_or}
use Rattle.list_lemmas.proofs.AnswersTold.{up_to as upto}
use Rattle.jk_model.specs.declared.output.Rule.{Rule}
use Rattle.jk_model_classes.specs.Items.{HasItemBefore, Spot, IsBefore, spot_number}
use Rattle.jk_model_folders.specs.FolderRules.{BreaksAt, IsFirstBroken, NoneBroken}
use Rattle.class_files.specs.RuleOrder.{earlier_of, rank_of}
use Rattle.class_files.specs.declared.faults.ClassFilesError.{ClassFilesError}
use Rattle.class_files.specs.declared.faults.ClassFilesError.TheVariants.{Broken}
use Rattle.class_files.specs.declared.faults.FileFault.{FileFault}

-- ---- The rules stand in the order of all rules.

abbrev pub AreRankedFrom : ℕ → List Rule → Type 0
AreRankedFrom base [] = Unit {0}
AreRankedFrom base (r ∷ rules) = (rank_of r ≡ base) × AreRankedFrom (suc base) rules

pub ranked_at : (base : ℕ) (rules : List Rule) → AreRankedFrom base rules → (place : ℕ) (r : Rule) → slice_get rules place ≡ Some r
    → rank_of r ≡ base + place
ranked_at base [] h place r at = absurd cc
ranked_at base (x ∷ rules) h zero r at =
    let same : x ≡ r = cc in
    let rank : rank_of x ≡ rank_of r = ap rank_of same in
    omega (arith, h.0, rank)
ranked_at base (x ∷ rules) h (suc place) r at = omega (arith, ranked_at (suc base) rules h.1 place r at)

-- ---- What is found of one file, and of the files so far.

module _ (rules : List Rule) (Broken : BreaksAt) where
  -- the first rule that this file breaks, and the number of its least spot
  pub record IsFirstAt (file : ℕ) (rule : Rule) (number : ℕ) : Type 0 where
    pub place : ℕ
    pub listed : slice_get rules place ≡ Some rule
    pub earlier : (other : Rule) → HasItemBefore place (λ r. r ≡ other) rules → (spot : Spot) → Broken other file spot → ⊥
    pub spot : Spot
    pub broken : Broken rule file spot
    pub least : (other : Spot) → IsBefore other spot → Broken rule file other → ⊥
    pub is_number : number ≡ spot_number spot

  -- this file breaks none of the rules
  abbrev pub IsCleanAt : ℕ → Type 0
  IsCleanAt file = (place : ℕ) (rule : Rule) (spot : Spot) → slice_get rules place ≡ Some rule → Broken rule file spot → ⊥

  -- the first rule that one of the first n files breaks
  pub record IsFirstOf (n : ℕ) (fault : FileFault) : Type 0 where
    pub inside : fault.file < n
    pub place : ℕ
    pub listed : slice_get rules place ≡ Some fault.rule
    pub earlier_rules : (other : Rule) → HasItemBefore place (λ r. r ≡ other) rules → (i : ℕ) (spot : Spot) → i < n → Broken other i spot → ⊥
    pub earlier_files : (i : ℕ) (spot : Spot) → i < fault.file → Broken fault.rule i spot → ⊥
    pub spot : Spot
    pub broken : Broken fault.rule fault.file spot
    pub least : (other : Spot) → IsBefore other spot → Broken fault.rule fault.file other → ⊥
    pub is_number : fault.number ≡ spot_number spot

  abbrev pub IsFirstBelow : ℕ → Option FileFault → Type 0
  IsFirstBelow n None = (i : ℕ) → i < n → IsCleanAt i
  IsFirstBelow n (Some fault) = IsFirstOf n fault

  pub none_yet : IsFirstBelow 0 None
  none_yet i below = absurd (omega arith)

  -- ---- One file more.

  pub clean_next : (n : ℕ) (first : Option FileFault) → IsFirstBelow n first → IsCleanAt n → IsFirstBelow (n + 1) first
  clean_next n None h clean = upto n IsCleanAt h clean
  clean_next n (Some fault) h clean = record {
    inside = omega (arith, h.inside);
    place = h.place;
    listed = h.listed;
    earlier_rules = λ other before i spot below. upto n (λ k. Broken other k spot → ⊥) (λ k lt. h.earlier_rules other before k spot lt)
        (λ broken. clean before.0 other spot (before.3 ∙ ap Some before.4) broken) i below;
    earlier_files = h.earlier_files;
    spot = h.spot;
    broken = h.broken;
    least = h.least;
    is_number = h.is_number;
  }

  abbrev fault_of : ℕ → Rule → ℕ → FileFault
  fault_of file rule number = record { rule = rule; file = file; number = number }

  -- the new fault is of the earliest rule so far
  newest : (n : ℕ) (rule : Rule) (number : ℕ) (at : IsFirstAt n rule number)
      → ((other : Rule) → HasItemBefore at.place (λ r. r ≡ other) rules → (i : ℕ) (spot : Spot) → i < n → Broken other i spot → ⊥)
      → ((i : ℕ) (spot : Spot) → i < n → Broken rule i spot → ⊥) → IsFirstOf (n + 1) (fault_of n rule number)
  newest n rule number at before own = record {
    inside = omega arith;
    place = at.place;
    listed = at.listed;
    earlier_rules = λ other earlier i spot below. upto n (λ k. Broken other k spot → ⊥) (λ k lt. before other earlier k spot lt)
        (λ broken. at.earlier other earlier spot broken) i below;
    earlier_files = own;
    spot = at.spot;
    broken = at.broken;
    least = at.least;
    is_number = at.is_number;
  }

  -- the fault so far is of no later rule than the new one
  stays : (n : ℕ) (fault : FileFault) (rule : Rule) (number : ℕ) (h : IsFirstOf n fault) (at : IsFirstAt n rule number) → h.place ≤ at.place
      → IsFirstOf (n + 1) fault
  stays n fault rule number h at le = record {
    inside = omega (arith, h.inside);
    place = h.place;
    listed = h.listed;
    earlier_rules = λ other before i spot below. upto n (λ k. Broken other k spot → ⊥) (λ k lt. h.earlier_rules other before k spot lt)
        (λ broken. at.earlier other (before.0, before.1, omega (arith, before.2), before.3, before.4) spot broken) i below;
    earlier_files = h.earlier_files;
    spot = h.spot;
    broken = h.broken;
    least = h.least;
    is_number = h.is_number;
  }

  pub fault_next : (base n : ℕ) (first : Option FileFault) (rule : Rule) (number : ℕ) → AreRankedFrom base rules → IsFirstBelow n first
      → IsFirstAt n rule number → IsFirstOf (n + 1) (earlier_of first (fault_of n rule number))
  fault_next base n None rule number ranked h at =
      newest n rule number at (λ other before i spot below broken. h i below before.0 other spot (before.3 ∙ ap Some before.4) broken)
      (λ i spot below broken. h i below at.place rule spot at.listed broken)
  fault_next base n (Some fault) rule number ranked h at =
      let next = ranked_at base rules ranked at.place rule at.listed in
      let old = ranked_at base rules ranked h.place fault.rule h.listed in
      cond_both (nat_lt (rank_of rule) (rank_of fault.rule)) (fault_of n rule number) fault (λ (f : FileFault). IsFirstOf (n + 1) f)
      (λ less.
      let places : at.place < h.place = omega (arith, next, old, ltb-true (rank_of rule) (rank_of fault.rule) less) in
      newest n rule number at
      (λ other before i spot below broken. h.earlier_rules other (before.0, before.1, omega (arith, before.2), before.3, before.4) i spot below broken)
      (λ i spot below broken. h.earlier_rules rule (at.place, rule, places, at.listed, refl) i spot below broken))
      (λ not_less.
      let places : h.place ≤ at.place = omega (arith, next, old, ltb-false (rank_of rule) (rank_of fault.rule) not_less) in
      stays n fault rule number h at places)

  -- ---- All files.

  -- a rule is broken in none but the first n files
  abbrev pub AreBelow : ℕ → Type 0
  AreBelow n = (rule : Rule) (i : ℕ) (spot : Spot) → Broken rule i spot → i < n

  pub first_of_all : (n : ℕ) (fault : FileFault) → AreBelow n → IsFirstOf n fault → IsFirstBroken rules Broken fault.rule fault.file fault.number
  first_of_all n fault within h = record {
    place = h.place;
    listed = h.listed;
    earlier_rules = λ other before i spot broken. h.earlier_rules other before i spot (within other i spot broken) broken;
    earlier_files = h.earlier_files;
    spot = h.spot;
    broken = h.broken;
    least = h.least;
    is_number = h.is_number;
  }

  pub none_of_all : (n : ℕ) → AreBelow n → IsFirstBelow n None → NoneBroken rules Broken
  none_of_all n within h = λ rule i spot listed broken.
      h i (within rule i spot broken) listed.0 rule spot (slice_get-get_or rules listed.0 rule listed.1 ∙ ap Some listed.2) broken

-- one answer has one fault
pub same_fault : {T : Type 0} (a b : FileFault) → ◌≡◌ {A = Result T ClassFilesError} (Err (Broken a)) (Err (Broken b)) → a ≡ b
same_fault a b e = cc
