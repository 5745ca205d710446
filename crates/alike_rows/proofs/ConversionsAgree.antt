-- A conversion makes one value of a value.
use Rattle.std.proofs.Common.{◌≡◌, inl, inr, ℕ, List, [], ◌∷◌, ℤ, pos, refl, sym, subst, arith}
use Rattle.std.specs.Int.{int_rem_euclid, int_wrap, int_wrapping_neg, w8, w16, w32, w64}
use Rattle.jk_model.specs.declared.opcodes.TheConstants.{I2B, I2C, I2L, I2S, INEG, L2I, LNEG}
use Rattle.jk_model.specs.declared.values.Value.{Value}
use Rattle.jk_model.specs.declared.values.Value.TheVariants.{Int, Long}
use Rattle.jk_model_domains.specs.NumberRows.{HasRow, IsConversion}
use Rattle.alike_rows.proofs.RowsOfTables.{one_row}

-- what an int becomes, and what a long
abbrev of_int : ℤ → List (ℕ × Value)
of_int x =
    (INEG, Int (int_wrapping_neg w32 x)) ∷ (I2L, Long x) ∷ (I2B, Int (int_wrap w8 x)) ∷ (I2C, Int (int_rem_euclid x (pos 65536)))
    ∷ (I2S, Int (int_wrap w16 x)) ∷ []

abbrev of_long : ℤ → List (ℕ × Value)
of_long x = (LNEG, Long (int_wrapping_neg w64 x)) ∷ (L2I, Int (int_wrap w32 x)) ∷ []

-- a row at this place
row_at : (rows : List (ℕ × Value)) (op : ℕ) (w : Value) (r : ℕ × Value) → HasRow rows r.0 r.1 → op ≡ r.0 → w ≡ r.1 → HasRow rows op w
row_at rows op w r h e is =
    subst (λ (n : ℕ). HasRow rows n w) (sym e) (subst (λ (v : Value). HasRow rows r.0 v) (sym is) h)

int_row : (x : ℤ) (op : ℕ) (w : Value) → IsConversion op (Int x) w → HasRow (of_int x) op w
int_row x op w (inl h) = row_at (of_int x) op w (INEG, Int (int_wrapping_neg w32 x)) (0, omega arith, refl) h.0 h.1
int_row x op w (inr (inl h)) = row_at (of_int x) op w (I2L, Long x) (1, omega arith, refl) h.0 h.1
int_row x op w (inr (inr (inl h))) = row_at (of_int x) op w (I2B, Int (int_wrap w8 x)) (2, omega arith, refl) h.0 h.1
int_row x op w (inr (inr (inr (inl h)))) = row_at (of_int x) op w (I2C, Int (int_rem_euclid x (pos 65536))) (3, omega arith, refl) h.0 h.1
int_row x op w (inr (inr (inr (inr h)))) = row_at (of_int x) op w (I2S, Int (int_wrap w16 x)) (4, omega arith, refl) h.0 h.1

long_row : (x : ℤ) (op : ℕ) (w : Value) → IsConversion op (Long x) w → HasRow (of_long x) op w
long_row x op w (inl h) = row_at (of_long x) op w (LNEG, Long (int_wrapping_neg w64 x)) (0, omega arith, refl) h.0 h.1
long_row x op w (inr h) = row_at (of_long x) op w (L2I, Int (int_wrap w32 x)) (1, omega arith, refl) h.0 h.1

of_one : (op : ℕ) (v w z : Value) → IsConversion op v w → IsConversion op v z → w ≡ z
of_one op (Int x) w z h k = one_row (of_int x) op w z refl (int_row x op w h) (int_row x op z k)
of_one op (Long x) w z h k = one_row (of_long x) op w z refl (long_row x op w h) (long_row x op z k)
of_one op v w z h k = absurd h

pub one_conversion : (op : ℕ) (v u w z : Value) → v ≡ u → IsConversion op v w → IsConversion op u z → w ≡ z
one_conversion op v u w z e h k = of_one op v w z h (subst (λ (x : Value). IsConversion op x z) (sym e) k)
