-- A table has a true at the place of each instruction that was marked, and at no other.
use Rattle.std.proofs.Common.{◌≡◌, ℕ, zero, suc, ◌+◌, ◌<◌, ◌≤◌, inl, inr, ◌↔◌, Bool, true, false, IsTrue, ℤ, pos, List, [], ◌∷◌, length, replicate, Some, refl, sym, ◌∙◌, ap, subst, arith}
use Rattle.std.specs.Prelude.{slice_get}
use Rattle.std.proofs.Math.ListN.{get_or, set}
use Rattle.std.proofs.lemmas.Bool.{cases_eq, cases_lt}
use Rattle.std.proofs.lemmas.Option.{slice_get_within, slice_get_read, same_Some}
use Rattle.list_lemmas.proofs.ItemsRead.{none_marked as never_true}
use Rattle.jk_model.specs.declared.instructions.Instr.{Instr}
use Rattle.jk_model.specs.declared.class_file.Code.{Code}
use Rattle.jk_model.specs.declared.instructions.SwitchCase.{SwitchCase}
use Rattle.jk_model_classes.specs.MemberCode.{BeginsAt}
use Rattle.jk_model_classes.specs.Items.{HasItem, HasItemBefore}
use Rattle.class_rules.specs.Codes.{HasPlace, ArePlacesOf, ArePlaces, IsBadBranch, LeadsOut}

-- the instructions before this one are marked
abbrev pub AreMarked : List Instr → ℕ → List Bool → Type 0
AreMarked instrs k places = (i : ℕ) → (slice_get places i ≡ Some true) ↔ HasItemBefore k (λ (x : Instr). x.at ≡ i) instrs

pub none_marked : (instrs : List Instr) (places : List Bool) (n : ℕ) → places ≡ replicate n false → AreMarked instrs 0 places
none_marked instrs places n e i = (
  λ t. absurd (never_true n i (subst (λ (xs : List Bool). slice_get xs i ≡ Some true) e t)),
  λ (j, x, below, at, same). absurd (omega arith),
)

get_set_same : (xs : List Bool) (a : ℕ) (b : Bool) → a < length xs → slice_get (set xs a b) a ≡ Some b
get_set_same [] a b within = absurd (omega arith)
get_set_same (x ∷ xs) zero b within = refl
get_set_same (x ∷ xs) (suc a) b within = get_set_same xs a b (omega arith)

get_set_other : (xs : List Bool) (a i : ℕ) (b : Bool) → (i ≡ a → ⊥) → slice_get (set xs a b) i ≡ slice_get xs i
get_set_other [] a i b other = refl
get_set_other (x ∷ xs) zero zero b other = absurd (other refl)
get_set_other (x ∷ xs) zero (suc i) b other = refl
get_set_other (x ∷ xs) (suc a) zero b other = refl
get_set_other (x ∷ xs) (suc a) (suc i) b other = get_set_other xs a i b (λ e. other (ap suc e))

marked_here : (instrs : List Instr) (places : List Bool) (k : ℕ) (x : Instr) (i : ℕ) → slice_get instrs k ≡ Some x → x.at < length places
    → i ≡ x.at → (slice_get (set places x.at true) i ≡ Some true) ↔ HasItemBefore (k + 1) (λ (y : Instr). y.at ≡ i) instrs
marked_here instrs places k x i at within here = (
  λ t. (k, x, omega arith, at, sym here),
  λ h. subst (λ (n : ℕ). slice_get (set places x.at true) n ≡ Some true) (sym here) (get_set_same places x.at true within),
)

before_more : (instrs : List Instr) (k : ℕ) (x : Instr) (i : ℕ) → slice_get instrs k ≡ Some x → (i ≡ x.at → ⊥)
    → HasItemBefore (k + 1) (λ (y : Instr). y.at ≡ i) instrs → HasItemBefore k (λ (y : Instr). y.at ≡ i) instrs
before_more instrs k x i at other (j, y, below, found, same) =
    elim (cases_lt j k) [
      | inl less ↦ (j, y, less, found, same)
      | inr least ↦
          let here : j ≡ k = omega arith in
          let one : y ≡ x = same_Some y x (sym found ∙ subst (λ (n : ℕ). slice_get instrs n ≡ Some x) (sym here) at) in
          absurd (other (sym same ∙ ap (λ (z : Instr). z.at) one))
    ]

marked_elsewhere : (instrs : List Instr) (places : List Bool) (k : ℕ) (x : Instr) (i : ℕ) → slice_get instrs k ≡ Some x → (i ≡ x.at → ⊥)
    → AreMarked instrs k places → (slice_get (set places x.at true) i ≡ Some true) ↔ HasItemBefore (k + 1) (λ (y : Instr). y.at ≡ i) instrs
marked_elsewhere instrs places k x i at other marked = (
  λ t. let (j, y, below, found, same) = (marked i).0 (sym (get_set_other places x.at i true other) ∙ t) in (j, y, omega arith, found, same),
  λ h. get_set_other places x.at i true other ∙ (marked i).1 (before_more instrs k x i at other h),
)

pub one_more_marked : (instrs : List Instr) (places : List Bool) (k : ℕ) (x : Instr) → k < length instrs → x ≡ get_or instrs k x → x.at < length places
    → AreMarked instrs k places → AreMarked instrs (k + 1) (set places x.at true)
one_more_marked instrs places k x here is within marked i =
    let at = slice_get_read instrs (length instrs) k x refl here is in
    elim (cases_eq i x.at) [
      | inl same ↦ marked_here instrs places k x i at within same
      | inr other ↦ marked_elsewhere instrs places k x i at other marked
    ]

pub all_marked : (instrs : List Instr) (places : List Bool) (k : ℕ) → length instrs ≤ k → AreMarked instrs k places → ArePlacesOf instrs places
all_marked instrs places k all marked place = (
  λ (i, e, t). let (j, x, below, found, same) = (marked i).0 t in (j, x, found, ap pos same ∙ sym e),
  λ (j, x, found, e). (x.at, sym e, (marked x.at).1 (j, x, omega (arith, slice_get_within instrs j x found), found, refl)),
)

-- ---- What is asked of the table.

same_pos : (i j : ℕ) → pos i ≡ pos j → i ≡ j
same_pos i j e = cc

pub same_place : (r : Bool) (code : Code) (places : List Bool) (place i : ℕ) → ArePlaces code places → i ≡ place
    → (IsTrue r ↔ (slice_get places i ≡ Some true)) → IsTrue r ↔ BeginsAt code (pos place)
same_place r code places place i all same (to, from) = (
  λ t. (all (pos place)).0 (i, ap pos (sym same), to t),
  λ b. let (j, e, at) = (all (pos place)).1 b in
      from (subst (λ (n : ℕ). slice_get places n ≡ Some true) (sym (same ∙ same_pos place j e)) at),
)

pub bad_branch_leads_out : (places : List Bool) (instr : Instr) → IsBadBranch places instr → IsTrue true ↔ LeadsOut places instr
bad_branch_leads_out places instr (branch, none) = (λ t. (instr.a, inl (branch, refl), none), λ h. refl)

leads_by_case : (places : List Bool) (instr : Instr) → (IsBadBranch places instr → ⊥) → LeadsOut places instr
    → HasItem (λ (s : SwitchCase). HasPlace places s.target → ⊥) instr.cases
leads_by_case places instr good (place, inl (branch, e), none) =
    absurd (good (branch, λ h. none (subst (λ (z : ℤ). HasPlace places z) (sym e) h)))
leads_by_case places instr good (place, inr (i, s, at, e), none) = (i, s, at, λ h. none (subst (λ (z : ℤ). HasPlace places z) (sym e) h))

pub case_leads_out : (r : Bool) (places : List Bool) (instr : Instr) → (IsBadBranch places instr → ⊥)
    → (IsTrue r ↔ HasItem (λ (s : SwitchCase). HasPlace places s.target → ⊥) instr.cases) → IsTrue r ↔ LeadsOut places instr
case_leads_out r places instr good (to, from) = (
  λ t. let (i, s, at, none) = to t in (s.target, inr (i, s, at, refl), none),
  λ h. from (leads_by_case places instr good h),
)
