-- The place of an owner among the owners is the place of its range, the only one that it owns.
use Rattle.std.proofs.Common.{◌≡◌, ℕ, suc, ◌+◌, Bool, true, false, cond, List, [], ◌∷◌, length, map, find, Option, Some, None, nat_eq, nat_lt, refl, sym, ◌∙◌, ap, arith, option_map, not}
use Rattle.std.specs.List.{position, position_or_len, AllByRecursion, IsDistinct}
use Rattle.std.proofs.lemmas.Bool.Decides.{nat_tests}
use Rattle.std.proofs.lemmas.Bool.{eqb-true}
use Rattle.std.proofs.lemmas.Map.Keys.{IsDistinct-head, IsDistinct-tail}
use Rattle.jk_model.specs.declared.identifiers.DomainId.{DomainId}
use Rattle.jk_model.specs.Capabilities.{Range, is_owned_by}
use Rattle.capability_table.specs.Places.{IsOnlyAt, owner_number}
use Rattle.capability_table.proofs.OneRangePasses.{IsPlaceOf}

position-step_no : (t : Bool) (p : ℕ) → cond t (Some (1 + p)) None ≡ option_map (λ i. 1 + i) (cond t (Some p) None)
position-step_no true p = refl
position-step_no false p = refl

lt_suc : (p n : ℕ) → nat_lt (1 + p) (suc n) ≡ nat_lt p n
lt_suc p n = grind (arith, nat_tests)

lt_zero : (n : ℕ) → nat_lt 0 (suc n) ≡ true
lt_zero n = grind (arith, nat_tests)

position-step : (b : Bool) (p n : ℕ)
    → cond (nat_lt (cond (not b) (1 + p) 0) (suc n)) (Some (cond (not b) (1 + p) 0)) None ≡ cond b (Some 0)
    (option_map (λ i. 1 + i) (cond (nat_lt p n) (Some p) None))
position-step true p n = rw lt_zero refl
position-step false p n = rw lt_suc (position-step_no (nat_lt p n) p)

pub position-cons : (test : ℕ → Bool) (n : ℕ) (ns : List ℕ) → position test (n ∷ ns) ≡ cond (test n) (Some 0) (option_map (λ i. 1 + i) (position test ns))
position-cons test n ns = position-step (test n) (position_or_len test ns) (length ns)

pub eq_sym : (a b : ℕ) → nat_eq a b ≡ nat_eq b a
eq_sym a b = grind (arith, nat_tests)

place-cons : (test : Range → Bool) (x : Range) (xs : List Range) (b : Bool) (place : Option ℕ) → test x ≡ b
    → (b ≡ true → find test xs ≡ None) → IsPlaceOf test xs place
    → IsPlaceOf test (x ∷ xs) (cond b (Some 0) (option_map (λ i. 1 + i) place))
place-cons test x xs true place e none h = (x, (refl, e, none refl))
place-cons test x xs false None e none h = rw e h
place-cons test x xs false (Some i) e none (r, only) =
    let next : 1 + i ≡ suc i = omega arith in
    let at : IsOnlyAt test (x ∷ xs) (suc i) r = (e, only) in
    rw next (r, at)

not_owned : (owner : DomainId) (n : ℕ) (xs : List Range) → n ≡ owner.0
    → AllByRecursion (λ m. nat_eq n m ≡ false) (map owner_number xs) → find (is_owned_by owner) xs ≡ None
not_owned owner n [] e h = refl
not_owned owner n (x ∷ xs) e h =
    let other : nat_eq x.owner.0 owner.0 ≡ false = eq_sym x.owner.0 owner.0 ∙ ap (λ m. nat_eq m x.owner.0) (sym e) ∙ h.0 in
    rw other (not_owned owner n xs e h.1)

pub owner-place : (owner : DomainId) (xs : List Range) → IsDistinct nat_eq (map owner_number xs)
    → IsPlaceOf (is_owned_by owner) xs (position (nat_eq owner.0) (map owner_number xs))
owner-place owner [] h = refl
owner-place owner (x ∷ xs) h =
    let others = IsDistinct-head nat_eq x.owner.0 (map owner_number xs) h in
    let rest = owner-place owner xs (IsDistinct-tail nat_eq x.owner.0 (map owner_number xs) h) in
    let none : nat_eq owner.0 x.owner.0 ≡ true → find (is_owned_by owner) xs ≡ None =
    λ same. not_owned owner x.owner.0 xs (sym (eqb-true owner.0 x.owner.0 same)) others in
    let place = position (nat_eq owner.0) (map owner_number xs) in
    rw position-cons (place-cons (is_owned_by owner) x xs (nat_eq owner.0 x.owner.0) place (eq_sym x.owner.0 owner.0) none rest)
