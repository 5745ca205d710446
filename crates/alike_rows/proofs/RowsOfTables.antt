-- A table with different opcodes has one row of an opcode.
use Rattle.std.proofs.Common.{◌≡◌, ◌⊎◌, ℕ, ◌==◌, ◌||◌, ◌&&◌, not, Bool, true, false, IsTrue, List, [], ◌∷◌, inl, inr, refl, sym, ap, ◌∙◌, arith}
use Rattle.std.proofs.lemmas.Bool.{or_right}
use Rattle.std.proofs.lemmas.Grind.{common_steps}
use Rattle.list_lemmas.proofs.ItemsOfLists.{Contains-cases, Contains-none}
use Rattle.jk_model_domains.specs.NumberRows.{HasRow}

abbrev is_opcode_of : {X : Type 0} → List (ℕ × X) → ℕ → Bool
is_opcode_of [] op = false
is_opcode_of (r ∷ rows) op = r.0 == op || is_opcode_of rows op

-- no row has the opcode of one before it
abbrev pub are_different : {X : Type 0} → List (ℕ × X) → Bool
are_different [] = true
are_different (r ∷ rows) = not (is_opcode_of rows r.0) && are_different rows

at_first : (k op : ℕ) (b : Bool) → k ≡ op → (k == op || b) ≡ true
at_first k op b e = grind (arith, common_steps)

first_of : (a b : Bool) → (not a && b) ≡ true → a ≡ true → ⊥
first_of true b e t = absurd cc
first_of false b e t = absurd cc

rest_of : (a b : Bool) → (not a && b) ≡ true → b ≡ true
rest_of true b e = absurd cc
rest_of false b e = e

module _ {X : Type 0} where
  has_opcode : (rows : List (ℕ × X)) (op : ℕ) (x : X) → HasRow rows op x → is_opcode_of rows op ≡ true
  has_opcode [] op x h = absurd (Contains-none (op, x) h)
  has_opcode (r ∷ rows) op x h = elim (Contains-cases (op, x) r rows h) [
    | inl first ↦ at_first r.0 op (is_opcode_of rows op) (ap (λ (p : ℕ × X). p.0) first)
    | inr later ↦ or_right (r.0 == op) (is_opcode_of rows op) (has_opcode rows op x later)
  ]

  -- the first row's opcode is in none of the rows after it
  not_again : (r : ℕ × X) (rows : List (ℕ × X)) (op : ℕ) (x y : X) → are_different (r ∷ rows) ≡ true → r ≡ (op, x) → HasRow rows op y → ⊥
  not_again r rows op x y different first later =
      first_of (is_opcode_of rows r.0) (are_different rows) different
      (ap (is_opcode_of rows) (ap (λ (p : ℕ × X). p.0) first) ∙ has_opcode rows op y later)

  pub one_row : (rows : List (ℕ × X)) (op : ℕ) (x y : X) → are_different rows ≡ true → HasRow rows op x → HasRow rows op y → x ≡ y
  one_row [] op x y different h k = absurd (Contains-none (op, x) h)
  one_row (r ∷ rows) op x y different h k = elim (Contains-cases (op, x) r rows h) [
    | inl first ↦ elim (Contains-cases (op, y) r rows k) [
      | inl same ↦ sym (ap (λ (p : ℕ × X). p.1) first) ∙ ap (λ (p : ℕ × X). p.1) same
      | inr later ↦ absurd (not_again r rows op x y different first later)
    ]
    | inr before ↦ elim (Contains-cases (op, y) r rows k) [
      | inl same ↦ absurd (not_again r rows op y x different same before)
      | inr later ↦ one_row rows op x y (rest_of (is_opcode_of rows r.0) (are_different rows) different) before later
    ]
  ]

pub two_ways : (op a b : ℕ) → IsTrue (op == a || op == b) → (op ≡ a) ⊎ (op ≡ b)
two_ways op a b h = grind (arith, common_steps)

pub three_ways : (op a b c : ℕ) → IsTrue (op == a || op == b || op == c) → (op ≡ a) ⊎ ((op ≡ b) ⊎ (op ≡ c))
three_ways op a b c h = grind (arith, common_steps)
