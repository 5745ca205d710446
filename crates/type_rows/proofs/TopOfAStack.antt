-- How many slots the top of a stack has, from each place on.
use Rattle.std.proofs.Common.{◌≡◌, ℕ, zero, suc, ◌+◌, ◌<◌, ◌≤◌, ◌⊎◌, inl, inr, List, [], ◌∷◌, length, take, drop, Some, slice_get, sym, ap, ◌∙◌, arith}
use Rattle.std.proofs.Math.Seq.{drop-append_seam}
use Rattle.std.proofs.lemmas.List.{take-append-drop, length-take-le}
use Rattle.std.proofs.lemmas.List.Sums.{sum_by-cons}
use Rattle.jk_model_typing.specs.declared.frames.VType.{VType}
use Rattle.jk_model_typing.specs.FrameTypes.{slots, slots_of}
use Rattle.type_rows.proofs.EntriesTaken.{drop_at}
use Rattle.type_rows.specs.Steps.{HasNoTop, IsTopAt}

below_whole : (xs : List VType) (j : ℕ) → slots (drop j xs) ≤ slots xs
below_whole xs zero = omega arith
below_whole [] (suc j) = omega arith
below_whole (x ∷ xs) (suc j) = omega (arith, below_whole xs j, sum_by-cons slots_of x xs)

pub fewer : (xs : List VType) (i j : ℕ) → i ≤ j → slots (drop j xs) ≤ slots (drop i xs)
fewer xs zero j h = below_whole xs j
fewer xs (suc i) zero h = absurd (omega arith)
fewer [] (suc i) (suc j) h = omega arith
fewer (x ∷ xs) (suc i) (suc j) h = fewer xs i j (omega arith)

pub from_one_before : (xs : List VType) (k j : ℕ) (x : VType) → slice_get xs j ≡ Some x → k ≡ j + 1
    → slots (drop j xs) ≡ slots_of x + slots (drop k xs)
from_one_before xs k j x at e =
    ap slots (drop_at xs j x at ∙ ap (λ (n : ℕ). x ∷ drop n xs) (sym e)) ∙ sum_by-cons slots_of x (drop k xs)

-- the slots jump over the number that is looked for
pub none_between : (stack : List VType) (n k : ℕ) → slots (drop k stack) < n → ((j : ℕ) → k ≡ j + 1 → n < slots (drop j stack))
    → HasNoTop stack n
none_between stack n k under over below top whole same =
    let cut : drop (length below) stack ≡ top = ap (drop (length below)) whole ∙ drop-append_seam below top in
    let is : slots (drop (length below) stack) ≡ n = ap slots cut ∙ same in
    elim (side (length below) k) [
      | inl low ↦ (let after = over low.0 low.1 in let more = fewer stack (length below) low.0 low.2 in omega (arith, after, more, is))
      | inr high ↦ (let more = fewer stack k (length below) high in omega (arith, under, more, is))
    ]
  where
    side : (i k : ℕ) → ((j : ℕ) × (k ≡ j + 1) × (i ≤ j)) ⊎ (k ≤ i)
    side i zero = inr (omega arith)
    side zero (suc k) = inl (k, omega arith, omega arith)
    side (suc i) (suc k) =
        elim (side i k) [
          | inl low ↦ inl (suc low.0, omega (arith, low.1), omega (arith, low.2))
          | inr high ↦ inr (omega (arith, high))
        ]

pub is_top : (stack : List VType) (n k : ℕ) → k ≤ length stack → slots (drop k stack) ≡ n → IsTopAt stack n k
is_top stack n k h e = record {
  below = take k stack;
  top = drop k stack;
  stack_is = sym (take-append-drop k stack);
  place = sym (length-take-le k stack h);
  slots_are = e;
}
