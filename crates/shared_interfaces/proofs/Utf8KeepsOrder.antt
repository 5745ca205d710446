-- UTF-8 keeps the order of characters.
use Rattle.std.proofs.Common.{◌≡◌, ℕ, ◌+◌, ◌/◌, ◌%◌, ◌<◌, ◌≤◌, inl, inr, List, [], ◌∷◌, ◌++◌, refl, sym, ◌∙◌, ap, ap₂, subst₂, append_assoc, arith}
use Rattle.std.proofs.Math.Utf8.{encode, encodes, next}
use Rattle.std.proofs.lemmas.Bool.{cases_lt}
use Rattle.std.proofs.lemmas.Bool.Decides.{nat_tests}
use native.Mathlib.Nat.{div-div-eq-div-mul}
use Rattle.shared_interfaces.proofs.EncodingsKeepOrder.{DifferUpwards, IsEncoding, first_less}

-- ---- A number in digits, the last of which has six bits.

abbrev lead : ℕ → ℕ → List ℕ
lead base x = (base + x) ∷ []

abbrev with_next : (ℕ → List ℕ) → ℕ → List ℕ
with_next digits x = digits (x / 64) ++ next x ∷ []

abbrev KeepsOrder : (ℕ → List ℕ) → Type 0
KeepsOrder digits = (x y : ℕ) → x < y → DifferUpwards (digits x) (digits y)

lead_keeps : (base : ℕ) → KeepsOrder (lead base)
lead_keeps base x y h = first_less (base + x) (base + y) [] [] (omega arith)

next_keeps : (digits : ℕ → List ℕ) → KeepsOrder digits → KeepsOrder (with_next digits)
next_keeps digits keeps x y h = elim (cases_lt (x / 64) (y / 64)) [
  | inl less ↦
      let before = keeps (x / 64) (y / 64) less in (
        before.0,
        before.1,
        before.2,
        before.3 ++ next x ∷ [],
        before.4 ++ next y ∷ [],
        ap (λ (l : List ℕ). l ++ next x ∷ []) before.5 ∙ append_assoc before.0 (before.1 ∷ before.3) (next x ∷ []),
        ap (λ (l : List ℕ). l ++ next y ∷ []) before.6 ∙ append_assoc before.0 (before.2 ∷ before.4) (next y ∷ []),
        before.7,
      )
  | inr more ↦
      let same : x / 64 ≡ y / 64 = omega arith in
      let less : 128 + x % 64 < 128 + y % 64 = omega arith in
      (digits (x / 64), next x, next y, [], [], refl, ap (λ (q : ℕ). digits q ++ next y ∷ []) (sym same), less)
]

-- ---- The four lengths.

one_byte : (c : ℕ) → c < 128 → encode c ≡ c ∷ []
unfolding encode
one_byte c h = grind (arith, nat_tests)

two_bytes : (c : ℕ) → 128 ≤ c → c < 2048 → encode c ≡ with_next (lead 192) c
unfolding encode
two_bytes c h g = grind (arith, nat_tests)

three_bytes : (c : ℕ) → 2048 ≤ c → c < 65536 → encode c ≡ with_next (with_next (lead 224)) c
unfolding encode
three_bytes c h g =
    let bytes : encode c ≡ (224 + c / 4096) ∷ next (c / 64) ∷ next c ∷ [] = grind (arith, nat_tests) in
    bytes ∙ ap (λ (q : ℕ). (224 + q) ∷ next (c / 64) ∷ next c ∷ []) (sym (div-div-eq-div-mul c 64 64))

four_bytes : (c : ℕ) → 65536 ≤ c → encode c ≡ with_next (with_next (with_next (lead 240))) c
unfolding encode
four_bytes c h =
    let bytes : encode c ≡ (240 + c / 262144) ∷ next (c / 4096) ∷ next (c / 64) ∷ next c ∷ [] = grind (arith, nat_tests) in
    let second : c / 4096 ≡ c / 64 / 64 = sym (div-div-eq-div-mul c 64 64) in
    let first : c / 262144 ≡ c / 64 / 64 / 64 = sym (div-div-eq-div-mul (c / 64) 64 64 ∙ div-div-eq-div-mul c 64 4096) in
    bytes ∙ ap₂ (λ (p q : ℕ). (240 + p) ∷ next q ∷ next (c / 64) ∷ next c ∷ []) first second

-- ---- Two characters.

told : (c d : ℕ) (xs ys : List ℕ) → encode c ≡ xs → encode d ≡ ys → DifferUpwards xs ys → DifferUpwards (encode c) (encode d)
told c d xs ys e f h = subst₂ DifferUpwards (sym e) (sym f) h

tells : (c d : ℕ) → c < d → DifferUpwards (encode c) (encode d)
tells c d h = elim (cases_lt d 128) [
  | inl d_one ↦ told c d _ _ (one_byte c (omega arith)) (one_byte d d_one) (first_less c d [] [] h)
  | inr d_more ↦ elim (cases_lt c 128) [
    | inl c_one ↦ above_one (one_byte c c_one) d_more c_one
    | inr c_more ↦ elim (cases_lt d 2048) [
      | inl d_two ↦ told c d _ _ (two_bytes c c_more (omega arith)) (two_bytes d d_more d_two) (next_keeps (lead 192) (lead_keeps 192) c d h)
      | inr d_above ↦ elim (cases_lt c 2048) [
        | inl c_two ↦ above_two (two_bytes c c_more c_two) d_above c_two
        | inr c_above ↦ elim (cases_lt d 65536) [
          | inl d_three ↦
              told c d _ _ (three_bytes c c_above (omega arith)) (three_bytes d d_above d_three)
              (next_keeps (with_next (lead 224)) (next_keeps (lead 224) (lead_keeps 224)) c d h)
          | inr d_four ↦ elim (cases_lt c 65536) [
            | inl c_three ↦
                let below : c / 64 / 64 < 16 = omega arith in
                told c d _ _ (three_bytes c c_above c_three) (four_bytes d d_four) (first_less _ _ _ _ (omega arith))
            | inr c_four ↦
                told c d _ _ (four_bytes c c_four) (four_bytes d d_four)
                (next_keeps (with_next (with_next (lead 240))) (next_keeps (with_next (lead 240)) (next_keeps (lead 240) (lead_keeps 240))) c d h)
          ]
        ]
      ]
    ]
  ]
]
  where
    above_one : encode c ≡ c ∷ [] → 128 ≤ d → c < 128 → DifferUpwards (encode c) (encode d)
    above_one e more one = elim (cases_lt d 2048) [
      | inl two ↦ told c d _ _ e (two_bytes d more two) (first_less _ _ _ _ (omega arith))
      | inr above ↦ elim (cases_lt d 65536) [
        | inl three ↦ told c d _ _ e (three_bytes d above three) (first_less _ _ _ _ (omega arith))
        | inr four ↦ told c d _ _ e (four_bytes d four) (first_less _ _ _ _ (omega arith))
      ]
    ]

    above_two : encode c ≡ with_next (lead 192) c → 2048 ≤ d → c < 2048 → DifferUpwards (encode c) (encode d)
    above_two e above two =
        let below : c / 64 < 32 = omega arith in
        elim (cases_lt d 65536) [
          | inl three ↦ told c d _ _ e (three_bytes d above three) (first_less _ _ _ _ (omega arith))
          | inr four ↦ told c d _ _ e (four_bytes d four) (first_less _ _ _ _ (omega arith))
        ]

something : (c : ℕ) → (u : ℕ) × (rest : List ℕ) × (encode c ≡ u ∷ rest)
something c = elim (cases_lt c 128) [
  | inl one ↦ (c, [], one_byte c one)
  | inr more ↦ elim (cases_lt c 2048) [
    | inl two ↦ (192 + c / 64, next c ∷ [], two_bytes c more two)
    | inr above ↦ elim (cases_lt c 65536) [
      | inl three ↦ (224 + c / 64 / 64, next (c / 64) ∷ next c ∷ [], three_bytes c above three)
      | inr four ↦ (240 + c / 64 / 64 / 64, next (c / 64 / 64) ∷ next (c / 64) ∷ next c ∷ [], four_bytes c four)
    ]
  ]
]

pub utf8_encodes : IsEncoding encode encodes
utf8_encodes = record {
  nothing = refl;
  next = λ c cs. refl;
  something = something;
  tells = λ c d is_c is_d h. tells c d h;
}
