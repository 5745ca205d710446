-- The classes of a folder are asked in their order, and the fault of the earliest file is kept.
use Rattle.std.proofs.Common.{◌≡◌, ℕ, ◌+◌, ◌<◌, ◌≤◌, List, Option, Some, None, slice_get, refl, sym, ◌∙◌, arith}
use Rattle.std.specs.Prelude.{nat_lt}
use Rattle.std.proofs.lemmas.Bool.{cond_both, ltb-true, ltb-false}
use Rattle.std.proofs.lemmas.Option.{same_Some}
use Rattle.list_lemmas.proofs.AnswersTold.{up_to as upto}
use Rattle.jk_model.specs.declared.output.Rule.{Rule}
use Rattle.jk_model_classes.specs.Items.{Spot}
use Rattle.class_files.specs.declared.faults.FileFault.{FileFault}
use Rattle.link_rules.specs.LinkFaults.{IsLeastNumber}
use Rattle.placed_rules.specs.FirstFiles.{IsFirstFault, IsFirstFile, first_file}

module _ (rule : Rule) (order : List ℕ) (Breaks : ℕ → Spot → Type 0) where
  pub none_yet : IsFirstFault rule 0 order Breaks None
  none_yet k i spot below there broken = absurd (omega (arith, below))

  -- no class before n whose file comes before this one breaks the rule
  abbrev AreClean : ℕ → ℕ → Type 0
  AreClean n file = (k i : ℕ) (spot : Spot) → k < n → slice_get order k ≡ Some i → i < file → Breaks k spot → ⊥

  clean_more : (n file : ℕ) → AreClean n file → ((i : ℕ) (spot : Spot) → slice_get order n ≡ Some i → i < file → Breaks n spot → ⊥)
      → AreClean (n + 1) file
  clean_more n file before here k i spot below there less broken =
      upto n (λ k. (i : ℕ) (spot : Spot) → slice_get order k ≡ Some i → i < file → Breaks k spot → ⊥)
      (λ k lt i spot there less broken. before k i spot lt there less broken) here k below i spot there less broken

  pub clean_next : (n : ℕ) (best : Option FileFault) → IsFirstFault rule n order Breaks best → ((spot : Spot) → Breaks n spot → ⊥)
      → IsFirstFault rule (n + 1) order Breaks best
  clean_next n None h clean = λ k i spot below there broken.
      upto n (λ k. (i : ℕ) (spot : Spot) → slice_get order k ≡ Some i → Breaks k spot → ⊥)
      (λ k lt i spot there broken. h k i spot lt there broken) (λ i spot there broken. clean spot broken) k below i spot there broken
  clean_next n (Some fault) h clean = record {
    rule_is = h.rule_is;
    place = h.place;
    inside = omega (arith, h.inside);
    there = h.there;
    spot = h.spot;
    broken = h.broken;
    least = h.least;
    is_number = h.is_number;
    earlier = clean_more n fault.file h.earlier (λ i spot there less broken. clean spot broken);
  }

  -- the new fault is that of the earliest file so far
  newest : (n file number : ℕ) → slice_get order n ≡ Some file → IsLeastNumber (Breaks n) (Some number) → AreClean n file
      → IsFirstFile rule (n + 1) order Breaks (record { rule = rule; file = file; number = number })
  newest n file number at h clean = record {
    rule_is = refl;
    place = n;
    inside = omega arith;
    there = at;
    spot = h.0;
    broken = h.1;
    least = h.2;
    is_number = h.3;
    earlier = clean_more n file clean (λ i spot there less broken.
        let same : i ≡ file = same_Some i file (sym there ∙ at) in
        absurd (omega (arith, less, same)));
  }

  -- the fault so far is that of no later file
  stays : (n file : ℕ) (best : FileFault) → slice_get order n ≡ Some file → IsFirstFile rule n order Breaks best → best.file ≤ file
      → IsFirstFile rule (n + 1) order Breaks best
  stays n file best at h le = record {
    rule_is = h.rule_is;
    place = h.place;
    inside = omega (arith, h.inside);
    there = h.there;
    spot = h.spot;
    broken = h.broken;
    least = h.least;
    is_number = h.is_number;
    earlier = clean_more n best.file h.earlier (λ i spot there less broken.
        let same : i ≡ file = same_Some i file (sym there ∙ at) in
        absurd (omega (arith, less, same, le)));
  }

  pub fault_next : (n file number : ℕ) (best : Option FileFault) → slice_get order n ≡ Some file → IsFirstFault rule n order Breaks best
      → IsLeastNumber (Breaks n) (Some number)
      → IsFirstFile rule (n + 1) order Breaks (first_file best (record { rule = rule; file = file; number = number }))
  fault_next n file number None at h least = newest n file number at least (λ k i spot below there less broken. h k i spot below there broken)
  fault_next n file number (Some best) at h least =
      cond_both (nat_lt file best.file) (record { rule = rule; file = file; number = number }) best
      (λ (f : FileFault). IsFirstFile rule (n + 1) order Breaks f)
      (λ less.
      let before : file < best.file = ltb-true file best.file less in
      newest n file number at least (λ k i spot below there lt broken. h.earlier k i spot below there (omega (arith, lt, before)) broken))
      (λ not_less.
      let after : best.file ≤ file = ltb-false file best.file not_less in
      stays n file best at h after)
