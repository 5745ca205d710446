-- Sums of a function below a number, when the function changes at one place, or at two by the same.
use Rattle.std.proofs.Common.{◌≡◌, ◌≢◌, ℕ, zero, suc, ◌+◌, ◌<◌, ◌≤◌, cond, nat_eq, refl, sym, ap, arith, inl, inr, ◌∙◌}
use Rattle.std.proofs.lemmas.Bool.{cases_eq}
use Rattle.std.proofs.lemmas.Bool.Decides.{eqb_tells}
use Rattle.number_table.specs.Chains.{sum_below}

pub sum_below-same : (f g : ℕ → ℕ) (n : ℕ) → ((k : ℕ) → k < n → g k ≡ f k) → sum_below g n ≡ sum_below f n
sum_below-same f g zero h = refl
sum_below-same f g (suc n) h =
    let here : g n ≡ f n = h n (omega arith) in
    let rest : sum_below g n ≡ sum_below f n = sum_below-same f g n (λ k lt. h k (omega arith)) in
    omega arith

pub sum_below-change : (f g : ℕ → ℕ) (i n : ℕ) → i < n → ((k : ℕ) → k < n → k ≢ i → g k ≡ f k) → sum_below g n + f i ≡ sum_below f n + g i
sum_below-change f g i zero lt h = absurd (omega arith)
sum_below-change f g i (suc n) lt h =
    elim (cases_eq i n) [
      | inl e ↦
          let rest : sum_below g n ≡ sum_below f n = sum_below-same f g n (λ k lt. h k (omega arith) (omega arith)) in
          let a : f i ≡ f n = ap f e in
          let b : g i ≡ g n = ap g e in
          omega arith
      | inr ne ↦
          let here : g n ≡ f n = h n (omega arith) (λ e. ne (sym e)) in
          let rest : sum_below g n + f i ≡ sum_below f n + g i = sum_below-change f g i n (omega arith) (λ k lt. h k (omega arith)) in
          omega arith
    ]

pub le_sum_below : (f : ℕ → ℕ) (i n : ℕ) → i < n → f i ≤ sum_below f n
le_sum_below f i zero lt = absurd (omega arith)
le_sum_below f i (suc n) lt =
    elim (cases_eq i n) [
      | inl e ↦ let a : f i ≡ f n = ap f e in omega arith
      | inr ne ↦ let rest : f i ≤ sum_below f n = le_sum_below f i n (omega arith) in omega arith
    ]

pub sum_below-le : (f g : ℕ → ℕ) (n : ℕ) → ((k : ℕ) → k < n → f k ≤ g k) → sum_below f n ≤ sum_below g n
sum_below-le f g zero h = omega arith
sum_below-le f g (suc n) h =
    let here : f n ≤ g n = h n (omega arith) in
    let rest : sum_below f n ≤ sum_below g n = sum_below-le f g n (λ k lt. h k (omega arith)) in
    omega arith

pub sum_below-none : (f : ℕ → ℕ) (n : ℕ) → ((k : ℕ) → k < n → f k ≡ 0) → sum_below f n ≡ 0
sum_below-none f zero h = refl
sum_below-none f (suc n) h =
    let here : f n ≡ 0 = h n (omega arith) in
    let rest : sum_below f n ≡ 0 = sum_below-none f n (λ k lt. h k (omega arith)) in
    omega arith

-- the value at one place, and the function's elsewhere
put : (ℕ → ℕ) → ℕ → ℕ → ℕ → ℕ
put f i v k = cond (nat_eq k i) v (f k)

put-same : (f : ℕ → ℕ) (i v : ℕ) → put f i v i ≡ v
unfolding put
put-same f i v = elim (eqb_tells i i) [ inl y ↦ rw (y.0) refl | inr n ↦ absurd (n.1 refl) ]

put-other : (f : ℕ → ℕ) (i v k : ℕ) → k ≢ i → put f i v k ≡ f k
unfolding put
put-other f i v k ne = elim (eqb_tells k i) [ inl y ↦ absurd (ne (y.1)) | inr n ↦ rw (n.0) refl ]

pub sum_below-moves : (f g : ℕ → ℕ) (i j n : ℕ) → i < n → j < n → i ≢ j → g i + 1 ≡ f i → g j ≡ f j + 1
    → ((k : ℕ) → k < n → k ≢ i → k ≢ j → g k ≡ f k) → sum_below g n ≡ sum_below f n
sum_below-moves f g i j n a b ne less more h =
    let one : sum_below (put f i (g i)) n + f i ≡ sum_below f n + put f i (g i) i =
    sum_below-change f (put f i (g i)) i n a (λ k _ d. put-other f i (g i) k d) in
    let two : sum_below g n + put f i (g i) j ≡ sum_below (put f i (g i)) n + g j =
    sum_below-change (put f i (g i)) g j n b (λ k lt d. elim (cases_eq k i) [
      | inl e ↦ ap g e ∙ sym (put-same f i (g i)) ∙ sym (ap (put f i (g i)) e)
      | inr d2 ↦ h k lt d2 d ∙ sym (put-other f i (g i) k d2)
    ]) in
    let at_i : put f i (g i) i ≡ g i = put-same f i (g i) in
    let at_j : put f i (g i) j ≡ f j = put-other f i (g i) j (λ e. ne (sym e)) in
    omega arith
