-- What a call that gives what a reader does returns is laid out in the bytes; and it answers that the bytes
-- end early exactly where they are a proper beginning of a value's.
use Rattle.std.proofs.Common.{◌≡◌, ℕ, ◌<◌, List, ◌++◌, length, take, Option, Some, None, Result, Ok, Err, refl, sym, ap, subst, ◌∙◌}
use Rattle.std.specs.Prelude.{◌↔◌, IsErr}
use Rattle.std.specs.Int.{Width, w16, byte_len, from_be_bytes, to_be_bytes}
use Rattle.std.proofs.lemmas.List.{take_at}
use Rattle.byte_fields.specs.declared.errors.EndsEarly.{EndsEarly}
use Rattle.byte_fields.specs.declared.errors.ReadError.{ReadError}
use Rattle.byte_fields.specs.declared.errors.ReadError.TheVariants as errors
use Rattle.byte_fields.specs.Reading.{Gives, FailsInMemory, number_at, bytes_at, block_at, counted_at}
use Rattle.byte_fields.specs.Layouts.{IsBytes, IsReader, Completes, FailsWithin, block_bytes, IsBlock}
use Rattle.byte_fields.specs.PartsAreBytes.{IsBytes-take}
use Rattle.byte_fields.specs.OneNumber.{IsWide}
use Rattle.byte_fields.specs.OneReading.{block_reader}
use Rattle.byte_fields.specs.CutIsBeginning.{never_both, block_cut}

-- ---- Calls that take no memory.

err_is_cut : {X A : Type 0} (view : X → A × List ℕ) (r : List ℕ → Option (A × List ℕ)) (s : A → List ℕ) (F : A → Type 0)
    → IsReader r s F → FailsWithin r s F → (bytes : List ℕ) (result : Result X EndsEarly) → IsBytes bytes
    → Gives view result (r bytes) → IsErr result ↔ Completes s F bytes
err_is_cut view r s F p c bytes (Ok x) fits h = (λ e. absurd cc, λ k. absurd (never_both r s F p bytes (view x) fits h k))
err_is_cut view r s F p c bytes (Err e) fits h = (λ _. c.cut bytes fits h, λ _. refl)

-- what a number of this width was made of is its spelling
pub number_layout : (w : Width) (limit : ℕ) → IsWide w limit → (bytes front rest : List ℕ) (n : ℕ) → IsBytes bytes → bytes ≡ front ++ rest
    → length front ≡ byte_len w → n ≡ from_be_bytes w front → bytes ≡ to_be_bytes w n ++ rest
number_layout w limit wide bytes front rest n fits parts len is =
    let taken : take (byte_len w) bytes ≡ front = ap (λ (t : List ℕ). take (byte_len w) t) parts ∙ take_at front rest (byte_len w) len in
    let front_fits = subst IsBytes taken (IsBytes-take (byte_len w) bytes fits) in
    let spelled : to_be_bytes w n ≡ front = ap (λ (m : ℕ). to_be_bytes w m) is ∙ wide.back front len front_fits in
    parts ∙ ap (λ (t : List ℕ). t ++ rest) (sym spelled)

no_length : (w : Width) (bytes : List ℕ) → number_at w bytes ≡ None → block_at w bytes ≡ None
unfolding block_at
no_length w bytes e = rw e refl

-- bytes that end within the length go on as a block
pub length_is_cut : (w : Width) (limit : ℕ) → IsWide w limit → 0 < limit → (bytes : List ℕ) → IsBytes bytes → number_at w bytes ≡ None
    → Completes (block_bytes w) (IsBlock limit) bytes
length_is_cut w limit wide some bytes fits e = (block_cut w limit wide some).cut bytes fits (no_length w bytes e)

block_gives : {X : Type 0} (view : X → List ℕ × List ℕ) (w : Width) (bytes rest : List ℕ) (len : ℕ) (result : Result X EndsEarly)
    → number_at w bytes ≡ Some (len, rest) → Gives view result (bytes_at len rest) → Gives view result (block_at w bytes)
unfolding block_at
block_gives view w bytes rest len (Ok x) e h = rw (e, h) refl
block_gives view w bytes rest len (Err x) e h = rw (e, h) refl

-- and where the length is read, the bytes after it end early exactly where all of them do
pub block_is_cut : {X : Type 0} (view : X → List ℕ × List ℕ) (w : Width) (limit : ℕ) → IsWide w limit → 0 < limit
    → (bytes rest : List ℕ) (len : ℕ) (result : Result X EndsEarly) → IsBytes bytes
    → number_at w bytes ≡ Some (len, rest) → Gives view result (bytes_at len rest) → IsErr result ↔ Completes (block_bytes w) (IsBlock limit) bytes
block_is_cut view w limit wide some bytes rest len result fits e h =
    err_is_cut view (block_at w) (block_bytes w) (IsBlock limit) (block_reader w limit wide) (block_cut w limit wide some) bytes result fits
    (block_gives view w bytes rest len result e h)

-- ---- Calls that take memory.

pub early_is_cut : {A : Type 0} (r : List ℕ → Option (A × List ℕ)) (s : A → List ℕ) (F : A → Type 0) → FailsWithin r s F
    → (bytes : List ℕ) (e : ReadError) → IsBytes bytes → FailsInMemory e (r bytes) → e ≡ errors.EndsEarly → Completes s F bytes
early_is_cut r s F c bytes errors.EndsEarly fits h same = c.cut bytes fits h
early_is_cut r s F c bytes errors.OutOfMemory fits h same = absurd cc

pub err_is : {X E : Type 0} (e d : E) → (let r : Result X E = Err e in r ≡ Err d) → e ≡ d
err_is e d h = cc

-- ---- After a count.

pub no_count : {A : Type 0} (r : List ℕ → Option (A × List ℕ)) (bytes : List ℕ) → number_at w16 bytes ≡ None → counted_at r bytes ≡ None
unfolding counted_at
no_count r bytes e = rw e refl
