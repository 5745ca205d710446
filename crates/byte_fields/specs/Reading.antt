-- Reading fields from left to right: a value and the bytes after it, or none where the bytes end early.
use Rattle.std.specs.Prelude.{◌≡◌, ℕ, zero, suc, List, [], ◌∷◌, length, take, drop, Option, Some, None, Result, Ok, Err, nat_lt, if◌then◌else◌}
use Rattle.std.specs.Int.{Width, w16, byte_len, from_be_bytes}
use Rattle.byte_fields.specs.declared.errors.EndsEarly.{EndsEarly}
use Rattle.byte_fields.specs.declared.errors.ReadError.{ReadError}
use Rattle.byte_fields.specs.declared.errors.ReadError.TheVariants as errors

infixl 10 ◌>>=◌
abbrev pub ◌>>=◌ : {A B : Type 0} → Option A → (A → Option B) → Option B
(Some x) >>= f = f x
None >>= f = None

-- What a function returned, seen by view, is what reading gives.
abbrev pub Gives : {X Y : Type 0} → (X → Y) → Result X EndsEarly → Option Y → Type 0
Gives view (Ok x) read = read ≡ Some (view x)
Gives view (Err e) read = read ≡ None

-- What a function failed with is what reading gives, unless memory ran out.
abbrev pub FailsInMemory : {Y : Type 0} → ReadError → Option Y → Type 0
FailsInMemory errors.EndsEarly read = read ≡ None
FailsInMemory errors.OutOfMemory read = Unit {0}

-- What a function returned, seen by view, is what reading gives, unless memory ran out.
abbrev pub GivesInMemory : {X Y : Type 0} → (X → Y) → Result X ReadError → Option Y → Type 0
GivesInMemory view (Ok x) read = read ≡ Some (view x)
GivesInMemory view (Err e) read = FailsInMemory e read

-- ---- How readers are joined.

-- one field, and then one that may hang on it
abbrev pub then_at : {A B : Type 0} → (List ℕ → Option (A × List ℕ)) → (A → List ℕ → Option (B × List ℕ)) → List ℕ → Option ((A × B) × List ℕ)
then_at first second bytes = first bytes >>= λ x. second x.0 x.1 >>= λ y. Some ((x.0, y.0), y.1)

-- the value that f makes of what is read
abbrev pub mapped_at : {A B : Type 0} → (A → B) → (List ℕ → Option (A × List ℕ)) → List ℕ → Option (B × List ℕ)
mapped_at f read bytes = read bytes >>= λ x. Some (f x.0, x.1)

-- so many, one after another
abbrev pub many_at : {A : Type 0} → (List ℕ → Option (A × List ℕ)) → ℕ → List ℕ → Option (List A × List ℕ)
many_at read zero bytes = Some ([], bytes)
many_at read (suc n) bytes = read bytes >>= λ first. many_at read n first.1 >>= λ others. Some (first.0 ∷ others.0, others.1)

-- ---- Numbers, bytes, and what stands after a length or a count.

-- a number of one byte
abbrev pub byte_at : List ℕ → Option (ℕ × List ℕ)
byte_at [] = None
byte_at (b ∷ bytes) = Some (b, bytes)

-- a number of this width
abbrev pub number_at : Width → List ℕ → Option (ℕ × List ℕ)
number_at w bytes = if nat_lt (length bytes) (byte_len w) then None else Some (from_be_bytes w (take (byte_len w) bytes), drop (byte_len w) bytes)

-- so many bytes
abbrev pub bytes_at : ℕ → List ℕ → Option (List ℕ × List ℕ)
bytes_at n bytes = if nat_lt (length bytes) n then None else Some (take n bytes, drop n bytes)

-- two numbers of two bytes
unfoldable pub pair_at : List ℕ → Option ((ℕ × ℕ) × List ℕ)
pair_at bytes = then_at (number_at w16) (λ _. number_at w16) bytes

-- a length of this width, and so many bytes
unfoldable pub block_at : Width → List ℕ → Option (List ℕ × List ℕ)
block_at w bytes = mapped_at (λ p. p.1) (then_at (number_at w) bytes_at) bytes

-- a count of two bytes, and so many
unfoldable pub counted_at : {A : Type 0} → (List ℕ → Option (A × List ℕ)) → List ℕ → Option (List A × List ℕ)
counted_at read bytes = mapped_at (λ p. p.1) (then_at (number_at w16) (many_at read)) bytes
