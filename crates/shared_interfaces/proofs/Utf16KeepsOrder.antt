-- UTF-16 keeps the order of characters where surrogates rank above all other units.
use Rattle.std.proofs.Common.{◌≡◌, ℕ, ◌+◌, ◌-◌, ◌/◌, ◌%◌, ◌<◌, ◌≤◌, ◌⊎◌, inl, inr, true, List, [], ◌∷◌, map, refl, sym, ◌∙◌, ap, ap₂, subst₂, arith}
use Rattle.std.specs.Char.Escape.{encode_utf16}
use Rattle.std.specs.List.{flat_map}
use Rattle.std.proofs.Math.Utf8.{scalar, scalar_cases}
use Rattle.std.proofs.lemmas.Bool.{cases_lt}
use Rattle.std.proofs.lemmas.Bool.Decides.{nat_tests}
use Rattle.std.proofs.lemmas.List.{map-append}
use Rattle.std.proofs.lemmas.List.Concat.{flat_map-cons}
use Rattle.jk_model_classes.specs.SharedRules.{rank_of}
use Rattle.shared_interfaces.proofs.EncodingsKeepOrder.{DifferUpwards, IsEncoding, first_less}

rank_of_plain : (u : ℕ) → (u < 0xd800) ⊎ (0xe000 ≤ u) → rank_of u ≡ u
rank_of_plain u (inl low) = grind (arith, nat_tests)
rank_of_plain u (inr high) = grind (arith, nat_tests)

rank_of_surrogate : (u : ℕ) → 0xd800 ≤ u → u < 0xe000 → rank_of u ≡ u + 0x10000
rank_of_surrogate u low high = grind (arith, nat_tests)

one_unit : (c : ℕ) → c < 0x10000 → encode_utf16 c ≡ c ∷ []
one_unit c h = grind (arith, nat_tests)

two_units : (c : ℕ) → 0x10000 ≤ c → encode_utf16 c ≡ (0xd800 + (c - 0x10000) / 0x400) ∷ (0xdc00 + (c - 0x10000) % 0x400) ∷ []
two_units c h = grind (arith, nat_tests)

-- ---- The ranks of the units of a character, and of a text.

abbrev pub ranks : ℕ → List ℕ
ranks c = map rank_of (encode_utf16 c)

abbrev pub all_ranks : List ℕ → List ℕ
all_ranks cs = map rank_of (flat_map encode_utf16 cs)

low_ranks : (c : ℕ) → scalar c ≡ true → c < 0x10000 → ranks c ≡ c ∷ []
low_ranks c is h =
    ap (map rank_of) (one_unit c h)
    ∙ ap (λ (u : ℕ). u ∷ []) (rank_of_plain c (elim (scalar_cases c is) [ inl below ↦ inl below | inr above ↦ inr above.0 ]))

high_ranks : (c : ℕ) → scalar c ≡ true → 0x10000 ≤ c → ranks c ≡ (0x1d800 + (c - 0x10000) / 0x400) ∷ (0x1dc00 + (c - 0x10000) % 0x400) ∷ []
high_ranks c is h =
    let below : c < 0x110000 = elim (scalar_cases c is) [ inl low ↦ omega arith | inr high ↦ high.1 ] in
    let few : (c - 0x10000) / 0x400 < 0x400 = omega arith in
    let first : rank_of (0xd800 + (c - 0x10000) / 0x400) ≡ 0x1d800 + (c - 0x10000) / 0x400 =
    rank_of_surrogate (0xd800 + (c - 0x10000) / 0x400) (omega arith) (omega arith) ∙ omega arith in
    let second : rank_of (0xdc00 + (c - 0x10000) % 0x400) ≡ 0x1dc00 + (c - 0x10000) % 0x400 =
    rank_of_surrogate (0xdc00 + (c - 0x10000) % 0x400) (omega arith) (omega arith) ∙ omega arith in
    ap (map rank_of) (two_units c h) ∙ ap₂ (λ (p q : ℕ). p ∷ q ∷ []) first second

told : (c d : ℕ) (xs ys : List ℕ) → ranks c ≡ xs → ranks d ≡ ys → DifferUpwards xs ys → DifferUpwards (ranks c) (ranks d)
told c d xs ys e f h = subst₂ DifferUpwards (sym e) (sym f) h

pair : ℕ → ℕ → List ℕ
pair q r = (0x1d800 + q) ∷ (0x1dc00 + r) ∷ []

pairs : (p q r s : ℕ) → (p < q) ⊎ ((p ≡ q) × (r < s)) → DifferUpwards (pair p r) (pair q s)
unfolding pair
pairs p q r s (inl less) = first_less _ _ _ _ (omega arith)
pairs p q r s (inr (same, less)) =
    ((0x1d800 + p) ∷ [], 0x1dc00 + r, 0x1dc00 + s, [], [], refl, ap (λ (x : ℕ). (0x1d800 + x) ∷ (0x1dc00 + s) ∷ []) (sym same), omega arith)

apart : (x y : ℕ) → x < y → (x / 0x400 < y / 0x400) ⊎ ((x / 0x400 ≡ y / 0x400) × (x % 0x400 < y % 0x400))
apart x y h = elim (cases_lt (x / 0x400) (y / 0x400)) [ inl less ↦ inl less | inr more ↦ inr (omega arith, omega arith) ]

tells : (c d : ℕ) → scalar c ≡ true → scalar d ≡ true → c < d → DifferUpwards (ranks c) (ranks d)
unfolding pair
tells c d is_c is_d h = elim (cases_lt d 0x10000) [
  | inl d_low ↦ told c d _ _ (low_ranks c is_c (omega arith)) (low_ranks d is_d d_low) (first_less c d [] [] h)
  | inr d_high ↦ elim (cases_lt c 0x10000) [
    | inl c_low ↦ told c d _ _ (low_ranks c is_c c_low) (high_ranks d is_d d_high) (first_less _ _ _ _ (omega arith))
    | inr c_high ↦ told c d _ _ (high_ranks c is_c c_high) (high_ranks d is_d d_high) (pairs _ _ _ _ (apart (c - 0x10000) (d - 0x10000) (omega arith)))
  ]
]

something : (c : ℕ) → (u : ℕ) × (rest : List ℕ) × (ranks c ≡ u ∷ rest)
something c = elim (cases_lt c 0x10000) [
  | inl low ↦ (rank_of c, [], ap (map rank_of) (one_unit c low))
  | inr high ↦ (rank_of (0xd800 + (c - 0x10000) / 0x400), rank_of (0xdc00 + (c - 0x10000) % 0x400) ∷ [], ap (map rank_of) (two_units c high))
]

pub utf16_encodes : IsEncoding ranks all_ranks
utf16_encodes = record {
  nothing = refl;
  next = λ c cs. ap (map rank_of) (flat_map-cons encode_utf16 c cs) ∙ map-append rank_of (encode_utf16 c) (flat_map encode_utf16 cs);
  something = something;
  tells = tells;
}
