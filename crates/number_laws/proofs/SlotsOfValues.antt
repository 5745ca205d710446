-- How many entries take so many slots.
use Rattle.std.proofs.Common.{◌≡◌, ℤ, ◌+◌, ◌≤◌, ◌⊎◌, inl, inr, List, [], ◌∷◌, ◌++◌, length, refl, ap, arith}
use Rattle.std.proofs.lemmas.List.Sums.{sum_by-cons}
use Rattle.jk_model.specs.declared.values.Value.{Value}
use Rattle.jk_model.specs.declared.values.Value.TheVariants.{Int, Long, Null, Obj, Cap, Unset}
use Rattle.jk_model_domains.specs.NumberRows.{value_slots, values_slots}

pub one_or_long : (v : Value) → (value_slots v ≡ 1) ⊎ ((n : ℤ) × (v ≡ Long n))
one_or_long (Int n) = inl refl
one_or_long (Long n) = inr (n, refl)
one_or_long Null = inl refl
one_or_long (Obj a) = inl refl
one_or_long (Cap k) = inl refl
one_or_long Unset = inl refl

pub at_least_one : (v : Value) → 1 ≤ value_slots v
at_least_one (Int n) = omega arith
at_least_one (Long n) = omega arith
at_least_one Null = omega arith
at_least_one (Obj a) = omega arith
at_least_one (Cap k) = omega arith
at_least_one Unset = omega arith

cons : (v : Value) (vs : List Value) → values_slots (v ∷ vs) ≡ value_slots v + values_slots vs
cons v vs = sum_by-cons value_slots v vs

pub one_slot : (taken : List Value) → values_slots taken ≡ 1 → (v : Value) × (taken ≡ v ∷ []) × (value_slots v ≡ 1)
one_slot [] e = absurd (omega (arith, e))
one_slot (v ∷ []) e = (v, refl, omega (arith, e, cons v []))
one_slot (v ∷ w ∷ vs) e = absurd (omega (arith, e, cons v (w ∷ vs), cons w vs, at_least_one v, at_least_one w))

pub two_slots : (taken : List Value) → values_slots taken ≡ 2 → ((n : ℤ) × (taken ≡ Long n ∷ []))
    ⊎ ((v : Value) × (w : Value) × (taken ≡ v ∷ w ∷ []) × (value_slots v ≡ 1) × (value_slots w ≡ 1))
two_slots [] e = absurd (omega (arith, e))
two_slots (v ∷ []) e =
    elim (one_or_long v) [
      | inl one ↦ absurd (omega (arith, e, one, cons v []))
      | inr long ↦ inl (long.0, ap (λ (x : Value). x ∷ []) long.1)
    ]
two_slots (v ∷ w ∷ []) e =
    let first : value_slots v ≡ 1 = omega (arith, e, cons v (w ∷ []), cons w [], at_least_one v, at_least_one w) in
    let second : value_slots w ≡ 1 = omega (arith, e, cons v (w ∷ []), cons w [], at_least_one v, at_least_one w) in
    inr (v, w, refl, first, second)
two_slots (v ∷ w ∷ x ∷ vs) e =
    absurd (omega (arith, e, cons v (w ∷ x ∷ vs), cons w (x ∷ vs), cons x vs, at_least_one v, at_least_one w, at_least_one x))

-- ---- Entries at the end of a list are told by their slots.

more_slots : (c d : List Value) → values_slots d ≤ values_slots (c ++ d)
more_slots [] d = omega arith
more_slots (v ∷ c) d = omega (arith, more_slots c d, cons v (c ++ d))

pub same_length : (a b c d : List Value) → a ++ b ≡ c ++ d → values_slots b ≡ values_slots d → length b ≡ length d
same_length [] b [] d e n = ap length e
same_length [] b (y ∷ c) d e n =
    absurd (omega (arith, n, ap values_slots e, cons y (c ++ d), more_slots c d, at_least_one y))
same_length (x ∷ a) b [] d e n =
    absurd (omega (arith, n, ap values_slots e, cons x (a ++ b), more_slots a b, at_least_one x))
same_length (x ∷ a) b (y ∷ c) d e n =
    let rest : a ++ b ≡ c ++ d = cc in
    same_length a b c d rest n
