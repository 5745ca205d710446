-- What tests and orders of numbers say.
use Rattle.std.proofs.Common.{◌≡◌, ◌≢◌, ℕ, zero, suc, ◌+◌, ◌<◌, ◌≤◌, ◌⊎◌, inl, inr, Bool, true, false, not, IsTrue, ◌&&◌, Option, Some, None, pos, refl, sym, ap, ◌∙◌, arith}
use Rattle.std.specs.Prelude.{option_map}
use Rattle.std.specs.BTreeMap.{is_at}
use Rattle.std.specs.Ordering.{is_eq, nat_cmp}
use Rattle.std.specs.declared.cmp.Ordering.{Ordering}
use Rattle.std.specs.declared.cmp.Ordering.TheVariants.{Less, Equal, Greater}
use Rattle.std.proofs.lemmas.Cmp.{tied_itself, nat_cmp_total}

pub not_true : (b : Bool) → not b ≡ true → b ≡ false
not_true true e = absurd cc
not_true false e = refl

pub so_not : (b : Bool) → not b ≡ true → b ≡ true → ⊥
so_not true e f = cc
so_not false e f = cc

pub both_true : (a b : Bool) → IsTrue a → IsTrue b → IsTrue (a && b)
both_true true true h k = refl
both_true true false h k = k
both_true false b h k = h

pub equal_by : (o : Ordering) → is_eq o ≡ true → o ≡ Equal
equal_by Less e = absurd cc
equal_by Equal e = refl
equal_by Greater e = absurd cc

pub found_itself : (n m : ℕ) → n ≡ m → is_at (nat_cmp n) m ≡ true
found_itself n m same = ap (λ (k : ℕ). is_eq (nat_cmp n k)) (sym same) ∙ ap is_eq (tied_itself nat_cmp_total n)

pub same_pos : (m n : ℕ) → pos m ≡ pos n → m ≡ n
same_pos m n e = cc

pub same_or_not : (m n : ℕ) → (m ≡ n) ⊎ (m ≢ n)
same_or_not zero zero = inl refl
same_or_not zero (suc n) = inr (λ e. absurd cc)
same_or_not (suc m) zero = inr (λ e. absurd cc)
same_or_not (suc m) (suc n) = elim (same_or_not m n) [
  | inl e ↦ inl (ap suc e)
  | inr differ ↦ inr (λ e. differ (omega (arith, e)))
]

pub less_or_same : (m n : ℕ) → m < n + 1 → (m < n) ⊎ (m ≡ n)
less_or_same m n h = elim (same_or_not m n) [
  | inl e ↦ inr e
  | inr differ ↦ inl (omega (arith, h, differ))
]

pub same_third : (k m n : ℕ) → k ≡ m → k ≡ n → m ≡ n
same_third k m n e f = cc

pub at_most_both : (k m n : ℕ) → k ≤ m → m ≤ n → k ≤ n
at_most_both k m n h i = omega (arith, h, i)

-- what a mapped option holds comes from what the option holds
pub mapped_option : {X Y : Type 0} (f : X → Y) (o : Option X) (y : Y) → option_map f o ≡ Some y → (x : X) × (o ≡ Some x) × (f x ≡ y)
mapped_option f None y e = absurd cc
mapped_option f (Some x) y e = (x, refl, cc)
