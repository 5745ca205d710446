-- A value that is cut at a cap, digit by digit, is within bounds below the cap where the value of all digits is.
use Rattle.std.proofs.Common.{◌≡◌, ℕ, ◌+◌, ◌-◌, ◌*◌, ◌^◌, ◌<◌, ◌≤◌, ◌⊎◌, true, List, [], ◌∷◌, refl, arith, min, fold, Some, None}
use Rattle.jk_model.specs.ScriptGrammar.{is_numeral, numeral_value, number_within}
use Rattle.script_reader.specs.Numbers.{capped_value}

one_more : (a b d cap : ℕ) → min a cap ≡ min b cap → min (min a cap * 10 + d) cap ≡ min (b * 10 + d) cap
one_more a b d cap e = omega arith

folds_same : (cap : ℕ) (digits : List ℕ) (a b : ℕ) → min a cap ≡ min b cap
    → min (fold (λ value digit. min value cap * 10 + (digit - 48)) a digits) cap ≡ min (fold (λ value digit. value * 10 + (digit - 48)) b digits) cap
folds_same cap [] a b e = e
folds_same cap (x ∷ xs) a b e = folds_same cap xs (min a cap * 10 + (x - 48)) (b * 10 + (x - 48)) (one_more a b (x - 48) cap e)

same_value : (word : List ℕ) → min (capped_value word) 4294967296 ≡ min (numeral_value word) 4294967296
same_value word = folds_same 4294967296 word 0 0 refl

pub within : (low high value : ℕ) (word : List ℕ) → high < 2 ^ 32 → is_numeral word ≡ true → value ≡ capped_value word
    → low ≤ value → value ≤ high → Some value ≡ number_within low high word
within low high value word small numeral is above below =
    let same : numeral_value word ≡ value = omega (arith, same_value word) in
    grind (arith, same)

pub outside : (low high value : ℕ) (word : List ℕ) → high < 2 ^ 32 → value ≡ capped_value word
    → (value < low) ⊎ (high < value) → None ≡ number_within low high word
outside low high value word small is out = grind (arith, same_value word)
