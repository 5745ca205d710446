-- Parts of bytes are bytes, and so are bytes and what is put after them, zeros among it.
use Rattle.std.proofs.Common.{◌≡◌, ℕ, suc, ◌+◌, ◌-◌, ◌<◌, List, [], ◌∷◌, ◌++◌, length, get_or, take, drop, replicate, refl, ap, subst, ◌∙◌, arith, inl, inr}
use Rattle.std.specs.List.{AllByRecursion}
use Rattle.std.proofs.lemmas.Bool.{cases_lt}
use Rattle.std.proofs.lemmas.List.{length-take, length-replicate, get_or-drop, get_or-take, get_or_past, get_or_append_left, get_or-append_right, get_or-replicate, drop_at}
use Rattle.byte_fields.specs.Layouts.{IsBytes}

-- ---- Parts of bytes.

pub IsBytes-drop : (n : ℕ) (bytes : List ℕ) → IsBytes bytes → IsBytes (drop n bytes)
IsBytes-drop n bytes h i = rw get_or-drop (h (n + i))

pub IsBytes-take : (n : ℕ) (bytes : List ℕ) → IsBytes bytes → IsBytes (take n bytes)
IsBytes-take n bytes h i =
    elim (cases_lt i n) [
      | inl lt ↦ rw (get_or-take n bytes i 0 lt) (h i)
      | inr le ↦ rw (get_or_past (take n bytes) i 0 (omega (arith, length-take n bytes))) (omega arith)
    ]

pub IsBytes-append : (a b : List ℕ) → IsBytes a → IsBytes b → IsBytes (a ++ b)
IsBytes-append a b h k i =
    elim (cases_lt i (length a)) [
      | inl lt ↦ rw (get_or_append_left a b 0 i lt) (h i)
      | inr le ↦ rw (get_or-append_right a b (length a) i 0 refl le) (k (i - length a))
    ]

-- what stands after bytes that were taken
pub IsBytes-after : (bytes front rest : List ℕ) → bytes ≡ front ++ rest → IsBytes bytes → IsBytes rest
IsBytes-after bytes front rest e h =
    let at : drop (length front) (front ++ rest) ≡ rest = drop_at front rest (length front) refl in
    subst IsBytes (ap (λ (xs : List ℕ). drop (length front) xs) e ∙ at) (IsBytes-drop (length front) bytes h)

pub are_bytes : (bytes : List ℕ) → IsBytes bytes → AllByRecursion (λ b. b < 256) bytes
are_bytes [] h = tt
are_bytes (b ∷ bytes) h = (h 0, are_bytes bytes (λ i. h (suc i)))

-- ---- Zeros, with which bytes are filled up.

abbrev pub zeros : ℕ → List ℕ
zeros n = replicate n 0

pub length-zeros : (n : ℕ) → length (zeros n) ≡ n
length-zeros n = let zero : ℕ = 0 in length-replicate n zero

zeros_get : (n i : ℕ) → i < n → get_or (zeros n) i 0 ≡ 0
zeros_get n i lt = let zero : ℕ = 0 in get_or-replicate n i zero zero lt

pub IsBytes-zeros : (n : ℕ) → IsBytes (zeros n)
IsBytes-zeros n i =
    elim (cases_lt i n) [
      | inl lt ↦ rw (zeros_get n i lt) (omega arith)
      | inr le ↦ rw (get_or_past (zeros n) i 0 (omega (arith, length-zeros n))) (omega arith)
    ]
