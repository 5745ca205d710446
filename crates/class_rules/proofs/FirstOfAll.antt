-- Rules that are asked one after the other: where all before one hold, its least spot is the first fault, and
-- where all hold, there is none.
use Rattle.std.proofs.Common.{◌≡◌, ℕ, suc, ◌<◌, ◌≤◌, List, Some, None, slice_get, inl, inr, refl, sym, ap, subst, ◌∙◌, arith}
use Rattle.std.specs.Prelude.{Option, Result, Ok, Err, IfOk, IfSome}
use Rattle.std.proofs.lemmas.Option.{same_Some, none-some}
use Rattle.std.proofs.Math.Nat.{eq-or-lt_of_le}
use Rattle.jk_model.specs.declared.class_file.ClassFile.{ClassFile}
use Rattle.jk_model.specs.declared.class_file.PoolEntry.{PoolEntry}
use Rattle.jk_model.specs.declared.output.Rule.{Rule}
use Rattle.jk_model.specs.declared.output.Rule.TheVariants.{L1, L2, L3, L4, L5, L6, L7, L8, C1, C2, C3, C4, C5, C6, C7, C8, C9, C10, C11, C12, C13, C14, C15, C16, C17, C18, C19, C20, C21, C22, C23, C24, C25, C26, C27}
use Rattle.jk_model_classes.specs.Items.{Spot}
use Rattle.jk_model_classes.specs.OneClassRules.{one_class_rules, Breaks, IsFirstFault, HasNoFault}
use Rattle.class_rules.specs.Answers.{IsLeastSpot}
use Rattle.class_rules.specs.Order.{HoldBefore, IsFaultBefore}
use Rattle.class_rules.specs.Texts.{AreFacts}
use Rattle.jk_model_classes.specs.declared.sharing.ClassFault.{ClassFault}
use Rattle.class_rules.specs.declared.texts.TextFacts.{TextFacts}

module _ (c : ClassFile) (path : List ℕ) where
  pub hold_before_none : HoldBefore c path 0
  hold_before_none rule item = absurd (omega (arith, item.2))

  -- a rule that is broken nowhere joins those that hold
  pub hold_with_next : (place : ℕ) (rule : Rule) → slice_get one_class_rules place ≡ Some rule → HoldBefore c path place
      → IsLeastSpot (Breaks rule c path) None → HoldBefore c path (suc place)
  hold_with_next place rule listed before none other (i, r, below, at, same) =
      let most : i ≤ place = omega (arith, below) in
      elim (eq-or-lt_of_le most) [
        | inl last ↦
            let found : r ≡ rule = same_Some r rule (sym at ∙ ap (λ (k : ℕ). slice_get one_class_rules k) last ∙ listed) in
            λ spot broken. none spot (subst (λ (x : Rule). Breaks x c path spot) (sym same ∙ found) broken)
        | inr earlier ↦ before other (i, r, earlier, at, same)
      ]

  -- the least spot of the next one is the first fault
  pub first_is : (place : ℕ) (rule : Rule) (n : ℕ) → slice_get one_class_rules place ≡ Some rule → HoldBefore c path place
      → IsLeastSpot (Breaks rule c path) (Some n) → IsFirstFault c path rule n
  first_is place rule n listed before (spot, broken, least, is) = record {
    place = place;
    listed = listed;
    earlier = before;
    spot = spot;
    broken = broken;
    least = least;
    is_number = is;
  }

  -- the same of what the pass for the rule answered
  pub fault_at : (place : ℕ) (rule : Rule) (n : ℕ) (number : Option ℕ) → slice_get one_class_rules place ≡ Some rule → HoldBefore c path place
      → IsLeastSpot (Breaks rule c path) number → number ≡ Some n → IsFirstFault c path rule n
  fault_at place rule n number listed before least is =
      first_is place rule n listed before (subst (λ (m : Option ℕ). IsLeastSpot (Breaks rule c path) m) is least)

  pub hold_after : (place : ℕ) (rule : Rule) (number : Option ℕ) → slice_get one_class_rules place ≡ Some rule → HoldBefore c path place
      → IsLeastSpot (Breaks rule c path) number → number ≡ None → HoldBefore c path (suc place)
  hold_after place rule number listed before least is =
      hold_with_next place rule listed before (subst (λ (m : Option ℕ). IsLeastSpot (Breaks rule c path) m) is least)

  holds_at : (rule : Rule) → HoldBefore c path 12 → (i : ℕ) → i < 12 → slice_get one_class_rules i ≡ Some rule
      → (spot : Spot) → Breaks rule c path spot → ⊥
  holds_at rule all i within at = all rule (i, rule, within, at, refl)

  -- where all hold, nothing is broken
  pub nothing_is_broken : HoldBefore c path 12 → HasNoFault c path
  nothing_is_broken all C6 = holds_at C6 all 0 (omega arith) refl
  nothing_is_broken all C7 = holds_at C7 all 1 (omega arith) refl
  nothing_is_broken all C8 = holds_at C8 all 2 (omega arith) refl
  nothing_is_broken all C9 = holds_at C9 all 3 (omega arith) refl
  nothing_is_broken all C10 = holds_at C10 all 4 (omega arith) refl
  nothing_is_broken all C11 = holds_at C11 all 5 (omega arith) refl
  nothing_is_broken all C12 = holds_at C12 all 6 (omega arith) refl
  nothing_is_broken all C13 = holds_at C13 all 7 (omega arith) refl
  nothing_is_broken all C14 = holds_at C14 all 8 (omega arith) refl
  nothing_is_broken all C15 = holds_at C15 all 9 (omega arith) refl
  nothing_is_broken all C16 = holds_at C16 all 10 (omega arith) refl
  nothing_is_broken all C17 = holds_at C17 all 11 (omega arith) refl
  nothing_is_broken all L1 = λ spot broken. broken
  nothing_is_broken all L2 = λ spot broken. broken
  nothing_is_broken all L3 = λ spot broken. broken
  nothing_is_broken all L4 = λ spot broken. broken
  nothing_is_broken all L5 = λ spot broken. broken
  nothing_is_broken all L6 = λ spot broken. broken
  nothing_is_broken all L7 = λ spot broken. broken
  nothing_is_broken all L8 = λ spot broken. broken
  nothing_is_broken all C1 = λ spot broken. broken
  nothing_is_broken all C2 = λ spot broken. broken
  nothing_is_broken all C3 = λ spot broken. broken
  nothing_is_broken all C4 = λ spot broken. broken
  nothing_is_broken all C5 = λ spot broken. broken
  nothing_is_broken all C18 = λ spot broken. broken
  nothing_is_broken all C19 = λ spot broken. broken
  nothing_is_broken all C20 = λ spot broken. broken
  nothing_is_broken all C21 = λ spot broken. broken
  nothing_is_broken all C22 = λ spot broken. broken
  nothing_is_broken all C23 = λ spot broken. broken
  nothing_is_broken all C24 = λ spot broken. broken
  nothing_is_broken all C25 = λ spot broken. broken
  nothing_is_broken all C26 = λ spot broken. broken
  nothing_is_broken all C27 = λ spot broken. broken

  -- ---- What is answered once all rules were asked.

  pub its_fault : {E : Type 0} (r : Result (Option ClassFault) E) → IfOk r (λ found. IsFaultBefore c path 12 found)
      → IfOk r (λ found. IfSome found (λ fault. IsFirstFault c path fault.rule fault.number))
  its_fault (Ok (Some fault)) h = h
  its_fault (Ok None) h = tt
  its_fault (Err e) h = tt

  pub its_none : {E : Type 0} (r : Result (Option ClassFault) E) → IfOk r (λ found. IsFaultBefore c path 12 found)
      → IfOk r (λ found. found ≡ None → HasNoFault c path)
  its_none (Ok (Some fault)) h = λ e. absurd (none-some _ (sym e))
  its_none (Ok None) h = λ e. nothing_is_broken h
  its_none (Err e) h = tt

-- a table of what is known is of the pool that it was made from
pub own_facts : (pool own : List PoolEntry) (table facts : List (Option TextFacts)) → pool ≡ own → facts ≡ table → AreFacts pool table
    → AreFacts own facts
own_facts pool own table facts e f h =
    subst (λ (xs : List (Option TextFacts)). AreFacts own xs) (sym f) (subst (λ (p : List PoolEntry). AreFacts p table) e h)
