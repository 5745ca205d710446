-- A word writes one count at most, so of a word that writes another one, what is asked of a count doesn't hold.
use Rattle.std.proofs.Common.{◌≡◌, ℕ, ◌≤◌, inl, inr, pos, List, sym, ◌∙◌, subst, arith}
use Rattle.jk_model.specs.Instructions.{IsKind}
use Rattle.asm_reader.specs.Numbers.{decimal_of}
use Rattle.asm_reader.proofs.NumbersAreWrittenOneWay.{one_decimal, count_is_long}

pub one_count : (m n : ℕ) → m ≤ 65535 → n ≤ 65535 → decimal_of (pos m) ≡ decimal_of (pos n) → m ≡ n
one_count m n small little e =
    let same : pos m ≡ pos n = one_decimal (pos m) (pos n) (count_is_long m small) (count_is_long n little) e in
    cc

pub kind_small : (kind : ℕ) → IsKind kind → kind ≤ 65535
kind_small kind (inl four) = omega (arith, four)
kind_small kind (inr (inl five)) = omega (arith, five)
kind_small kind (inr (inr range)) = omega (arith, range.1)

pub no_kind : (word : List ℕ) (n : ℕ) → n ≤ 65535 → word ≡ decimal_of (pos n) → (IsKind n → ⊥)
    → (kind : ℕ) → IsKind kind → word ≡ decimal_of (pos kind) → ⊥
no_kind word n small e never kind is f = never (subst IsKind (sym (one_count n kind small (kind_small kind is) (sym e ∙ f))) is)

pub no_dimensions : (word : List ℕ) (n : ℕ) → n ≤ 65535 → word ≡ decimal_of (pos n) → (1 ≤ n → n ≤ 255 → ⊥)
    → (dims : ℕ) → 1 ≤ dims → dims ≤ 255 → word ≡ decimal_of (pos dims) → ⊥
no_dimensions word n small e never dims low high f =
    let same : n ≡ dims = one_count n dims small (omega arith) (sym e ∙ f) in
    never (omega arith) (omega arith)
