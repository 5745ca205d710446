-- What instructions of arithmetic push, from the operations of their rows.
use Rattle.std.proofs.Common.{◌≡◌, ◌≢◌, ℕ, ℤ, pos, List, [], ◌∷◌, IsTrue, refl, ap, ◌∙◌, inl, inr, lit<}
use Rattle.std.specs.Int.{int_wrapping_div, w32, w64}
use Rattle.std.specs.Prelude.{int_rem}
use Rattle.jk_model.specs.declared.identifiers.SegmentNo.{SegmentNo}
use Rattle.jk_model.specs.declared.values.Value.{Value}
use Rattle.jk_model.specs.declared.values.Value.TheVariants.{Int, Long}
use Rattle.jk_model_domains.specs.NumberRows.{Calculates, DividesByZero, HasRow, IsConversion, compared, int_divisions, int_operations, long_divisions, long_operations, long_shifts}
use Rattle.frame_store.specs.FrameContents.{FrameContent}
use Rattle.number_laws.specs.NumberOpcodes.{int_division_opcodes, is_among, long_division_opcodes}
use Rattle.number_ops.specs.TopChanges.{OnTopWithRoom, Turns}
use Rattle.number_laws.proofs.EachOpcode.{each_among}
use Rattle.number_ops.proofs.EntriesOnTop.{taken_with_room_is}

-- an operation of a table's row
abbrev pub HasResult : List (ℕ × (ℤ → ℤ → ℤ)) → ℕ → ℤ → ℤ → ℤ → Type 0
HasResult rows op x y r = (f : ℤ → ℤ → ℤ) × HasRow rows op f × (r ≡ f x y)

-- the same of equal numbers
pub same_result : (rows : List (ℕ × (ℤ → ℤ → ℤ))) (op : ℕ) (x y r x' y' r' : ℤ) → HasResult rows op x y r → x ≡ x' → y ≡ y' → r' ≡ r
    → HasResult rows op x' y' r'
same_result rows op x y r x' y' r' h ex ey er =
    (h.0, h.1, er ∙ h.2 ∙ ap (λ (z : ℤ). h.0 z y) ex ∙ ap (h.0 x') ey)

pub ints : (op : ℕ) (x y r : ℤ) → HasResult int_operations op x y r → Calculates op (Int x ∷ Int y ∷ []) (Int r ∷ [])
ints op x y r h = inl (h.0, x, y, h.1, refl, ap (λ (z : ℤ). Int z ∷ []) h.2)

pub int_quotients : (op : ℕ) (x y r : ℤ) → y ≢ pos 0 → HasResult int_divisions op x y r
    → Calculates op (Int x ∷ Int y ∷ []) (Int r ∷ [])
int_quotients op x y r n h = inr (inl (h.0, x, y, h.1, n, refl, ap (λ (z : ℤ). Int z ∷ []) h.2))

pub longs : (op : ℕ) (x y r : ℤ) → HasResult long_operations op x y r → Calculates op (Long x ∷ Long y ∷ []) (Long r ∷ [])
longs op x y r h = inr (inr (inl (h.0, x, y, h.1, refl, ap (λ (z : ℤ). Long z ∷ []) h.2)))

pub long_quotients : (op : ℕ) (x y r : ℤ) → y ≢ pos 0 → HasResult long_divisions op x y r
    → Calculates op (Long x ∷ Long y ∷ []) (Long r ∷ [])
long_quotients op x y r n h = inr (inr (inr (inl (h.0, x, y, h.1, n, refl, ap (λ (z : ℤ). Long z ∷ []) h.2))))

pub shifts : (op : ℕ) (x n r : ℤ) → HasResult long_shifts op x n r → Calculates op (Long x ∷ Int n ∷ []) (Long r ∷ [])
shifts op x n r h = inr (inr (inr (inr (inl (h.0, x, n, h.1, refl, ap (λ (z : ℤ). Long z ∷ []) h.2)))))

pub comparison : (x y r : ℤ) → r ≡ compared x y → Calculates 0x94 (Long x ∷ Long y ∷ []) (Int r ∷ [])
comparison x y r h = inr (inr (inr (inr (inr (inl (x, y, refl, refl, ap (λ (z : ℤ). Int z ∷ []) h))))))

pub conversion : (op : ℕ) (v w : Value) → IsConversion op v w → Calculates op (v ∷ []) (w ∷ [])
conversion op v w h = inr (inr (inr (inr (inr (inr (v, w, h, refl, refl))))))

-- ---- Divisions.

pub no_int_quotient : (op : ℕ) (x y : ℤ) → IsTrue (is_among int_division_opcodes op) → y ≡ pos 0 → DividesByZero op (Int x ∷ Int y ∷ [])
no_int_quotient op x y among zero =
    let row = each_among (λ k. (f : ℤ → ℤ → ℤ) × HasRow int_divisions k f) int_division_opcodes op
    ((int_wrapping_div w32, (0, lit< tt, refl)), ((int_rem, (1, lit< tt, refl)), tt)) among in
    inl (row.0, x, row.1, ap (λ (z : ℤ). Int x ∷ Int z ∷ []) zero)

pub no_long_quotient : (op : ℕ) (x y : ℤ) → IsTrue (is_among long_division_opcodes op) → y ≡ pos 0
    → DividesByZero op (Long x ∷ Long y ∷ [])
no_long_quotient op x y among zero =
    let row = each_among (λ k. (f : ℤ → ℤ → ℤ) × HasRow long_divisions k f) long_division_opcodes op
    ((int_wrapping_div w64, (0, lit< tt, refl)), ((int_rem, (1, lit< tt, refl)), tt)) among in
    inr (row.0, x, row.1, ap (λ (z : ℤ). Long x ∷ Long z ∷ []) zero)

-- the divisor that was looked at is the one that is taken
pub same_divisor : (c d : FrameContent) (s : SegmentNo) (K : ℤ → Value) (v : Value) (y z top : ℤ) (n : ℕ)
    → OnTopWithRoom c s (v ∷ K y ∷ []) n → Turns c d s (K z ∷ []) [] → top ≡ y → ((a b : ℤ) → K a ≡ K b → a ≡ b) → top ≡ z
same_divisor c d s K v y z top n h turns is one =
    let lists : (K y ∷ []) ≡ (K z ∷ []) = taken_with_room_is c d s (v ∷ []) (K y ∷ []) (K z ∷ []) n h turns refl in
    let values : K y ≡ K z = cc in
    is ∙ one y z values

pub one_int : (a b : ℤ) → Int a ≡ Int b → a ≡ b
one_int a b e = cc

pub one_long : (a b : ℤ) → Long a ≡ Long b → a ≡ b
one_long a b e = cc
