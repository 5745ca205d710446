-- Operands are read back: what is read stands in front, and what stands in front is read.
use Rattle.std.proofs.Common.{◌≡◌, ℕ, ◌⊎◌, inl, inr, List, [], ◌∷◌, ◌++◌, length, Option, Some, None, Ok, Err, refl, arith}
use Rattle.std.specs.Int.{w32, from_be_bytes}
use Rattle.std.proofs.lemmas.Bool.{le-ltb}
use Rattle.byte_fields.specs.Layouts.{IsBytes}
use Rattle.byte_fields.specs.Reading.{number_at, bytes_at}
use Rattle.byte_fields.specs.OneReading.{u4_reader, bytes_reader}
use Rattle.jk_model.specs.ClassFile.{u4, IsU4}
use Rattle.jk_model.specs.Instructions.{signed_int, short}
use Rattle.jk_opcodes.specs.declared.errors.Stop.TheVariants.{CutInstruction}
use Rattle.jk_opcodes.specs.Plain.{u2_at}
use Rattle.jk_opcodes.specs.Reading.{int_at}

-- ---- Numbers by their bytes.

pub u2_again : (m n : ℕ) (rest : List ℕ) → u2_at (m ∷ n ∷ rest) ≡ Ok (short m n, rest)
u2_again m n rest = rw (le-ltb (length (m ∷ n ∷ rest)) 2 (omega arith)) refl

pub u4_again : (k l m n : ℕ) (rest : List ℕ)
    → int_at (k ∷ l ∷ m ∷ n ∷ rest) ≡ Ok (signed_int (from_be_bytes w32 (k ∷ l ∷ m ∷ n ∷ [])), rest)
u4_again k l m n rest = rw (le-ltb (length (k ∷ l ∷ m ∷ n ∷ rest)) 4 (omega arith)) refl

-- ---- Signed numbers of four bytes.

pub int_again : (n : ℕ) (rest : List ℕ) → IsU4 n → int_at (u4 n ++ rest) ≡ Ok (signed_int n, rest)
int_again n rest fits = rw (u4_reader.again n rest fits) refl

pub record Number (bytes : List ℕ) : Type 0 where
  pub number : ℕ
  pub rest : List ℕ
  pub parts : bytes ≡ u4 number ++ rest
  pub fits : IsU4 number
  pub rest_fits : IsBytes rest
  pub gives : int_at bytes ≡ Ok (signed_int number, rest)

int_cases_of : (bytes : List ℕ) (r : Option (ℕ × List ℕ)) → number_at w32 bytes ≡ r → IsBytes bytes
    → Number bytes ⊎ (int_at bytes ≡ Err CutInstruction)
int_cases_of bytes None e fits = inr (rw e refl)
int_cases_of bytes (Some x) e fits =
    let h = u4_reader.takes bytes x fits e in
    inl record { number = x.0; rest = x.1; parts = h.0.parts; fits = h.1; rest_fits = h.0.rest_fits; gives = rw e refl }

pub int_cases : (bytes : List ℕ) → IsBytes bytes → Number bytes ⊎ (int_at bytes ≡ Err CutInstruction)
int_cases bytes fits = int_cases_of bytes (number_at w32 bytes) refl fits

-- ---- So many bytes.

pub record Taken (k : ℕ) (bytes : List ℕ) : Type 0 where
  pub front : List ℕ
  pub rest : List ℕ
  pub parts : bytes ≡ front ++ rest
  pub long : length front ≡ k
  pub rest_fits : IsBytes rest
  pub gives : bytes_at k bytes ≡ Some (front, rest)

bytes_cases_of : (k : ℕ) (bytes : List ℕ) (r : Option (List ℕ × List ℕ)) → bytes_at k bytes ≡ r → IsBytes bytes
    → Taken k bytes ⊎ (bytes_at k bytes ≡ None)
bytes_cases_of k bytes None e fits = inr e
bytes_cases_of k bytes (Some x) e fits =
    let h = (bytes_reader k).takes bytes x fits e in
    inl record { front = x.0; rest = x.1; parts = h.0.parts; long = h.1.0; rest_fits = h.0.rest_fits; gives = e }

pub bytes_cases : (k : ℕ) (bytes : List ℕ) → IsBytes bytes → Taken k bytes ⊎ (bytes_at k bytes ≡ None)
bytes_cases k bytes fits = bytes_cases_of k bytes (bytes_at k bytes) refl fits
