-- What a reader says of the bytes that it reads: how values are spelled, and where bytes end early.
use Rattle.std.specs.Prelude.{◌≡◌, ◌≢◌, ℕ, ◌<◌, List, [], ◌∷◌, ◌++◌, length, Option, Some, None, slice_index}
use Rattle.std.specs.List.{flat_map, AllByRecursion}
use Rattle.std.specs.Int.{Width, to_be_bytes}
use Rattle.jk_model.specs.ClassFile.{u2, IsU2, AreBytes}

-- each item is a byte
abbrev pub IsBytes : List ℕ → Type 0
IsBytes bytes = (i : ℕ) → slice_index bytes i < 256

-- what a reader took from the front, and what it left
pub record Takes (bytes text rest : List ℕ) : Type 0 where
  pub parts : bytes ≡ text ++ rest
  pub rest_fits : IsBytes rest

-- a reader of the values that fit, each by its one spelling
pub record IsReader {A : Type 0} (read : List ℕ → Option (A × List ℕ)) (spell : A → List ℕ) (Fits : A → Type 0) : Type 0 where
  pub takes : (bytes : List ℕ) (x : A × List ℕ) → IsBytes bytes → read bytes ≡ Some x → Takes bytes (spell x.0) x.1 × Fits x.0
  pub again : (a : A) (rest : List ℕ) → Fits a → read (spell a ++ rest) ≡ Some (a, rest)

-- the bytes are a proper beginning of the spelling of a value that fits
pub record Completes {A : Type 0} (spell : A → List ℕ) (Fits : A → Type 0) (bytes : List ℕ) : Type 0 where
  pub value : A
  pub fits : Fits value
  pub more : List ℕ
  pub some : more ≢ []
  pub spelled : bytes ++ more ≡ spell value

-- a reader that fails only where the bytes end early, and one value that fits
pub record FailsWithin {A : Type 0} (read : List ℕ → Option (A × List ℕ)) (spell : A → List ℕ) (Fits : A → Type 0) : Type 0 where
  pub one : A
  pub one_fits : Fits one
  pub cut : (bytes : List ℕ) → IsBytes bytes → read bytes ≡ None → Completes spell Fits bytes

-- ---- Spellings.

-- a number of one byte
abbrev pub u1 : ℕ → List ℕ
u1 b = b ∷ []

abbrev pub IsU1 : ℕ → Type 0
IsU1 b = b < 256

-- two numbers of two bytes
abbrev pub pair_bytes : ℕ × ℕ → List ℕ
pair_bytes p = u2 p.0 ++ u2 p.1

abbrev pub IsPair : ℕ × ℕ → Type 0
IsPair p = IsU2 p.0 × IsU2 p.1

-- so many bytes
abbrev pub AreBytesOf : ℕ → List ℕ → Type 0
AreBytesOf n t = (length t ≡ n) × AreBytes t

-- bytes after their length, which is a number of this width
abbrev pub block_bytes : Width → List ℕ → List ℕ
block_bytes w t = to_be_bytes w (length t) ++ t

-- bytes whose length is below this limit
abbrev pub IsBlock : ℕ → List ℕ → Type 0
IsBlock limit t = (length t < limit) × AreBytes t

-- so many values
abbrev pub AreMany : {A : Type 0} → (A → Type 0) → ℕ → List A → Type 0
AreMany F n xs = (length xs ≡ n) × AllByRecursion F xs

-- a count of two bytes, and the values one after another
abbrev pub counted_bytes : {A : Type 0} → (A → List ℕ) → List A → List ℕ
counted_bytes s xs = u2 (length xs) ++ flat_map s xs

-- values as many as a count of two bytes allows
abbrev pub AreCounted : {A : Type 0} → (A → Type 0) → List A → Type 0
AreCounted F xs = IsU2 (length xs) × AllByRecursion F xs
