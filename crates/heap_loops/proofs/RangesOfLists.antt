-- A range of a list takes the places of a range of another, item by item from either end: the item that is put, and what stands where
-- the next one is read.
use Rattle.std.proofs.Common.{◌≡◌, ℕ, ◌+◌, ◌-◌, ◌<◌, ◌≤◌, List, ◌∷◌, ◌++◌, length, take, drop, get_or, slice_set, sym, ap, ◌∙◌, append_assoc, add-one, arith}
use Rattle.std.proofs.Math.Seq.{paste}
use Rattle.std.proofs.lemmas.List.{drop_more, get_or-append_right, get_or-drop, get_or-take, get_or_append_left, length-append, length-drop, length-take-le, set_at, take_more}
use Rattle.std.proofs.lemmas.List.Edits.{paste_more}

module _ {X : Type 0} (xs ys : List X) where
  front_length : (from to i : ℕ) → to + i ≤ length ys → from + i ≤ length xs → length (take to ys ++ take i (drop from xs)) ≡ to + i
  front_length from to i into has =
      let front = length-take-le to ys (omega arith) in
      let taken = length-take-le i (drop from xs) (omega (arith, length-drop from xs)) in
      omega (arith, length-append (take to ys) (take i (drop from xs)))

  pub range_length : (from to i : ℕ) → to + i ≤ length ys → from + i ≤ length xs → length (paste ys to (drop from xs) i) ≡ length ys
  range_length from to i into has =
      let front = front_length from to i into has in
      omega (arith, length-append (take to ys ++ take i (drop from xs)) (drop (to + i) ys), length-drop (to + i) ys)

  -- ---- From the front on.

  pub put_after : (from to i : ℕ) (d : X) → from + i < length xs → to + i < length ys
      → slice_set (paste ys to (drop from xs) i) (to + i) (get_or xs (from + i) d) ≡ paste ys to (drop from xs) (i + 1)
  put_after from to i d has into =
      let next : i < length (drop from xs) = omega (arith, length-drop from xs) in
      ap (slice_set (paste ys to (drop from xs) i) (to + i)) (sym (get_or-drop from xs i d)) ∙ paste_more ys to (drop from xs) i d into next

  -- what stands at a later place is as before
  pub later_is_same : (from to i : ℕ) (d : X) → to ≤ from → from + i ≤ length xs → to + i ≤ length ys
      → get_or (paste ys to (drop from xs) i) (from + i) d ≡ get_or ys (from + i) d
  later_is_same from to i d later has into =
      let front = front_length from to i into has in
      let place : to + i + (from + i - (to + i)) ≡ from + i = omega arith in
      get_or-append_right (take to ys ++ take i (drop from xs)) (drop (to + i) ys) (to + i) (from + i) d front (omega arith)
      ∙ get_or-drop (to + i) ys (from + i - (to + i)) d
      ∙ ap (λ (n : ℕ). get_or ys n d) place

  -- ---- From the end on.

  pub put_before : (from to i : ℕ) (d : X) → from < length xs → to < length ys
      → slice_set (paste ys (to + 1) (drop (from + 1) xs) i) to (get_or xs from d) ≡ paste ys to (drop from xs) (i + 1)
  put_before from to i d has into =
      let x = get_or xs from d in
      let y = get_or ys to d in
      let middle = take i (drop (from + 1) xs) in
      let rest = drop (to + 1 + i) ys in
      let before : paste ys (to + 1) (drop (from + 1) xs) i ≡ take to ys ++ (y ∷ (middle ++ rest)) =
      ap (λ (l : List X). l ++ middle ++ rest) (take_more ys to d into) ∙ simp append_assoc in
      let put = set_at (take to ys) y (middle ++ rest) x to (length-take-le to ys (omega arith)) in
      let taken : take (i + 1) (drop from xs) ≡ x ∷ middle = ap (take (i + 1)) (drop_more xs from d has) ∙ rw add-one in
      let end : to + (i + 1) ≡ to + 1 + i = omega arith in
      let after : paste ys to (drop from xs) (i + 1) ≡ take to ys ++ (x ∷ (middle ++ rest)) =
      ap (λ (l : List X). take to ys ++ l ++ drop (to + (i + 1)) ys) taken
      ∙ ap (λ (n : ℕ). take to ys ++ (x ∷ middle) ++ drop n ys) end
      ∙ simp append_assoc in
      ap (λ (l : List X). slice_set l to x) before ∙ put ∙ sym after

  -- what stands at an earlier place is as before
  pub earlier_is_same : (from to i : ℕ) (d : X) → from ≤ to → to < length ys
      → get_or (paste ys (to + 1) (drop (from + 1) xs) i) from d ≡ get_or ys from d
  earlier_is_same from to i d earlier into =
      let front = length-take-le (to + 1) ys (omega arith) in
      get_or_append_left (take (to + 1) ys ++ take i (drop (from + 1) xs)) (drop (to + 1 + i) ys) d from
      (omega (arith, length-append (take (to + 1) ys) (take i (drop (from + 1) xs))))
      ∙ get_or_append_left (take (to + 1) ys) (take i (drop (from + 1) xs)) d from (omega arith)
      ∙ get_or-take (to + 1) ys from d (omega arith)
