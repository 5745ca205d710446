-- Lists of what a function has at the numbers below one.
use Rattle.std.proofs.Common.{◌≡◌, ◌≢◌, ℕ, zero, suc, ◌+◌, ◌<◌, ◌≤◌, List, [], ◌∷◌, ◌++◌, length, set, replicate, Some, slice_get, refl, sym, ap, append_assoc, arith, inl, inr, ◌∙◌}
use Rattle.std.proofs.lemmas.Bool.{cases_eq}
use Rattle.std.proofs.lemmas.List.{append-nil, length_push}
use Rattle.jk_model_frames.specs.Frames.{FrameState, head_chunks, frames_chunks}
use Rattle.std.proofs.lemmas.List.Sums.{sum_by_push}
use Rattle.number_table.specs.Chains.{sum_below}
use Rattle.frame_store.specs.FrameBlocks.{build}

pub build-same : {X : Type 0} (f g : ℕ → X) (n : ℕ) → ((k : ℕ) → k < n → g k ≡ f k) → build g n ≡ build f n
build-same f g zero h = refl
build-same f g (suc n) h =
    let here = h n (omega arith) in
    let rest = build-same f g n (λ k lt. h k (omega arith)) in
    rw (here, rest) refl

pub length-build : {X : Type 0} (f : ℕ → X) (n : ℕ) → length (build f n) ≡ n
length-build f zero = refl
length-build f (suc n) = omega (arith, length_push (build f n) (f n), length-build f n)

set_front : {X : Type 0} (xs : List X) (y v : X) (i : ℕ) → i < length xs → set (xs ++ y ∷ []) i v ≡ set xs i v ++ y ∷ []
set_front [] y v i lt = absurd (omega arith)
set_front (x ∷ xs) y v zero lt = refl
set_front (x ∷ xs) y v (suc i) lt = rw (set_front xs y v i (omega arith)) refl

set_last : {X : Type 0} (xs : List X) (y v : X) (i : ℕ) → i ≡ length xs → set (xs ++ y ∷ []) i v ≡ xs ++ v ∷ []
set_last [] y v zero e = refl
set_last [] y v (suc i) e = absurd (omega arith)
set_last (x ∷ xs) y v zero e = absurd (omega arith)
set_last (x ∷ xs) y v (suc i) e = rw (set_last xs y v i (omega arith)) refl

get_front : {X : Type 0} (xs : List X) (y : X) (i : ℕ) → i < length xs → slice_get (xs ++ y ∷ []) i ≡ slice_get xs i
get_front [] y i lt = absurd (omega arith)
get_front (x ∷ xs) y zero lt = refl
get_front (x ∷ xs) y (suc i) lt = get_front xs y i (omega arith)

get_last : {X : Type 0} (xs : List X) (y : X) (i : ℕ) → i ≡ length xs → slice_get (xs ++ y ∷ []) i ≡ Some y
get_last [] y zero e = refl
get_last [] y (suc i) e = absurd (omega arith)
get_last (x ∷ xs) y zero e = absurd (omega arith)
get_last (x ∷ xs) y (suc i) e = get_last xs y i (omega arith)

pub get-build : {X : Type 0} (f : ℕ → X) (n k : ℕ) → k < n → slice_get (build f n) k ≡ Some (f k)
get-build f zero k lt = absurd (omega arith)
get-build f (suc n) k lt =
    elim (cases_eq k n) [
      | inl e ↦ get_last (build f n) (f n) k (e ∙ sym (length-build f n)) ∙ ap (λ j. Some (f j)) (sym e)
      | inr ne ↦ get_front (build f n) (f n) k (omega (arith, length-build f n)) ∙ get-build f n k (omega arith)
    ]

pub build-set : {X : Type 0} (f g : ℕ → X) (n i : ℕ) (v : X) → i < n → g i ≡ v → ((k : ℕ) → k < n → k ≢ i → g k ≡ f k) → build g n ≡ set (build f n) i v
build-set f g zero i v lt e h = absurd (omega arith)
build-set f g (suc n) i v lt e h =
    elim (cases_eq i n) [
      | inl at ↦
          let rest = build-same f g n (λ k k_lt. h k (omega arith) (omega arith)) in
          let here : g n ≡ v = ap g (sym at) ∙ e in
          let set_is = set_last (build f n) (f n) v i (at ∙ sym (length-build f n)) in
          rw (rest, here) (sym set_is)
      | inr ne ↦
          let here : g n ≡ f n = h n (omega arith) (λ e2. ne (sym e2)) in
          let rest = build-set f g n i v (omega arith) e (λ k k_lt. h k (omega arith)) in
          let set_is = set_front (build f n) (f n) v i (omega (arith, length-build f n)) in
          rw (rest, here) (sym set_is)
    ]

replicate_push : {X : Type 0} (n : ℕ) (v : X) → replicate n v ++ v ∷ [] ≡ replicate (suc n) v
replicate_push zero v = refl
replicate_push (suc n) v = rw (replicate_push n v) refl

pub build-replicate : {X : Type 0} (f : ℕ → X) (n : ℕ) (v : X) → ((k : ℕ) → k < n → f k ≡ v) → build f n ≡ replicate n v
build-replicate f zero v h = refl
build-replicate f (suc n) v h =
    let here = h n (omega arith) in
    let rest = build-replicate f n v (λ k lt. h k (omega arith)) in
    rw (here, rest) (replicate_push n v)

pub build-more : {X : Type 0} (f : ℕ → X) (n m : ℕ) → m ≡ n + 1 → build f m ≡ build f n ++ f n ∷ []
build-more f n zero e = absurd (omega arith)
build-more f n (suc m) e = let at : m ≡ n = omega arith in ap (λ k. build f k ++ f k ∷ []) at

pub build-split : {X : Type 0} (f : ℕ → X) (n m total : ℕ) → total ≡ n + m → build f total ≡ build f n ++ build (λ k. f (n + k)) m
build-split f n zero total e = let same : total ≡ n = omega (arith, e) in ap (build f) same ∙ sym (append-nil (build f n))
build-split f n (suc m) zero e = absurd (omega (arith, e))
build-split f n (suc m) (suc total) e =
    let less : total ≡ n + m = omega (arith, e) in
    let rest = build-split f n m total less in
    ap (λ xs. xs ++ f total ∷ []) rest ∙ append_assoc (build f n) (build (λ k. f (n + k)) m) (f total ∷ [])
    ∙ ap (λ k. build f n ++ (build (λ j. f (n + j)) m ++ f k ∷ [])) less

pub chunks-build : (f : ℕ → FrameState) (n : ℕ) → frames_chunks (build f n) ≡ sum_below (λ k. head_chunks (f k).head) n
chunks-build f zero = refl
chunks-build f (suc n) =
    sum_by_push (λ (x : FrameState). head_chunks x.head) (build f n) (f n) ∙ ap (λ s. s + head_chunks (f n).head) (chunks-build f n)

pub le_count : (f : ℕ → ℕ) (n : ℕ) → ((k : ℕ) → k < n → 1 ≤ f k) → n ≤ sum_below f n
le_count f zero h = omega arith
le_count f (suc n) h =
    let here = h n (omega arith) in
    let rest = le_count f n (λ k lt. h k (omega arith)) in
    omega arith
