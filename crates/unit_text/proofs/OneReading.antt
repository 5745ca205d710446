-- Bytes that are read unit after unit, and the one place at which they stop being a text.
use Rattle.std.proofs.Common.{◌≡◌, ℕ, ◌+◌, ◌-◌, ◌*◌, ◌<◌, ◌≤◌, ◌⊎◌, inl, inr, List, [], ◌∷◌, ◌++◌, length, refl, sym, ◌∙◌, ap, arith, length-append, take, drop, slice_index_or, append-nil, append_assoc, Result, Ok, Err, MatchResult}
use Rattle.std.proofs.lemmas.List.{take_all}
use Rattle.jk_model.specs.Text.{IsUnit, Spells, BeginsWithUnit, IsBadEncoding}
use Rattle.model_lemmas.proofs.OneReading.{encoding_some, one_reading, same_encoding}
use Rattle.unit_text.specs.declared.units.UnitsError.{UnitsError}
use Rattle.unit_text.specs.declared.units.UnitsError.TheVariants.{BadForm, OutOfMemory}
use Rattle.unit_text.specs.Encodings.{BeginsWith, BeginsNoUnit}
use Rattle.unit_text.specs.UnitsOrFault.{IsAnswer}

-- what is known once some units are read
abbrev pub IsSoFar : List ℕ → List ℕ → List ℕ → Type 0
IsSoFar bytes rest units = (front : List ℕ) × (bytes ≡ front ++ rest) × Spells front units

spells_one : (front encoding units : List ℕ) (u : ℕ) → Spells front units → IsUnit encoding u → Spells (front ++ encoding) (units ++ u ∷ [])
spells_one front encoding [] u h one = (encoding, [], one, rw h (sym (append-nil encoding)), refl)
spells_one front encoding (v ∷ units) u (f, rest, first, e, h) one =
    (f, rest ++ encoding, first, rw e (append_assoc f rest encoding), spells_one rest encoding units u h one)

pub after_unit : (bytes rest after units : List ℕ) (u : ℕ) → IsSoFar bytes rest units
    → (encoding : List ℕ) × IsUnit encoding u × (rest ≡ encoding ++ after) → IsSoFar bytes after (units ++ u ∷ [])
after_unit bytes rest after units u (front, e, h) (encoding, one, e') =
    (front ++ encoding, e ∙ rw e' (sym (append_assoc front encoding after)), spells_one front encoding units u h one)

pub all_read : (bytes rest units : List ℕ) → IsSoFar bytes rest units → rest ≡ [] → Spells bytes units
all_read bytes rest units (front, e, h) none =
    let whole : bytes ≡ front = e ∙ rw none (append-nil front) in
    rw whole h

pub at_bad_encoding : (bytes rest units : List ℕ) → IsSoFar bytes rest units → (rest ≡ [] → ⊥) → BeginsNoUnit rest
    → IsBadEncoding bytes (length bytes - length rest)
at_bad_encoding bytes rest units (front, e, h) some never =
    (front, rest, units, e, h, rw e (omega (arith, length-append front rest)), some, λ (encoding, u, after, one, begins). never encoding u after one begins)

-- ---- There is one reading.

-- bytes that stop being a text have no reading
no_reading : (front rest us bytes vs : List ℕ) → Spells front us → bytes ≡ front ++ rest → (rest ≡ [] → ⊥) → (BeginsWithUnit rest → ⊥) → Spells bytes vs → ⊥
no_reading front rest [] bytes [] h e some never k =
    let none : rest ≡ [] = sym (ap (λ xs. xs ++ rest) h) ∙ sym e ∙ k in
    some none
no_reading front rest [] bytes (v ∷ vs) h e some never (g, s, hg, eg, hs) =
    let whole : rest ≡ g ++ s = sym (ap (λ xs. xs ++ rest) h) ∙ sym e ∙ eg in
    never (g, v, s, hg, whole)
no_reading front rest (u ∷ us) bytes [] (f, r, hf, ef, hr) e some never k =
    let whole : bytes ≡ f ++ (r ++ rest) = e ∙ rw ef (append_assoc f r rest) in
    encoding_some f (r ++ rest) u hf (sym whole ∙ k)
no_reading front rest (u ∷ us) bytes (v ∷ vs) (f, r, hf, ef, hr) e some never (g, s, hg, eg, hs) =
    let whole : bytes ≡ f ++ (r ++ rest) = e ∙ rw ef (append_assoc f r rest) in
    let same = same_encoding f g u v (r ++ rest) s hf hg (sym whole ∙ eg) in
    no_reading r rest us s vs hr (sym same.rests) some never hs

-- bytes stop being a text at one place
one_place : (front rest us : List ℕ) (front2 rest2 vs : List ℕ) → Spells front us → (BeginsWithUnit rest → ⊥) → Spells front2 vs
    → (BeginsWithUnit rest2 → ⊥) → front ++ rest ≡ front2 ++ rest2 → length front ≡ length front2
one_place front rest [] front2 rest2 [] h never h2 never2 e = ap length (h ∙ sym h2)
one_place front rest [] front2 rest2 (v ∷ vs) h never (g, s, hg, eg, hs) never2 e =
    let whole : rest ≡ g ++ (s ++ rest2) = sym (ap (λ xs. xs ++ rest) h) ∙ e ∙ rw eg (append_assoc g s rest2) in
    absurd (never (g, v, s ++ rest2, hg, whole))
one_place front rest (u ∷ us) front2 rest2 [] (f, r, hf, ef, hr) never h2 never2 e =
    let whole : rest2 ≡ f ++ (r ++ rest) = sym (ap (λ xs. xs ++ rest2) h2) ∙ sym e ∙ rw ef (append_assoc f r rest) in
    absurd (never2 (f, u, r ++ rest, hf, whole))
one_place front rest (u ∷ us) front2 rest2 (v ∷ vs) (f, r, hf, ef, hr) never (g, s, hg, eg, hs) never2 e =
    let left : front ++ rest ≡ f ++ (r ++ rest) = rw ef (append_assoc f r rest) in
    let right : front2 ++ rest2 ≡ g ++ (s ++ rest2) = rw eg (append_assoc g s rest2) in
    let same = same_encoding f g u v (r ++ rest) (s ++ rest2) hf hg (sym left ∙ e ∙ right) in
    let others : length r ≡ length s = one_place r rest us s rest2 vs hr never hs never2 same.rests in
    rw (ef, eg) (omega (arith, length-append f r, length-append g s, same.long, others))

-- ---- What one answer says of each text and each place.

pub only_text : (bytes : List ℕ) (result : Result (List ℕ) UnitsError) → IsAnswer bytes result → (units : List ℕ)
    → Spells bytes units → MatchResult result (λ found. found ≡ units) (λ e. e ≡ OutOfMemory)
only_text bytes (Ok found) h units k = one_reading bytes found units h k
only_text bytes (Err (BadForm place)) (front, rest, us, e, read, long, some, never) units k = absurd (no_reading front rest us bytes units read e some never k)
only_text bytes (Err OutOfMemory) h units k = refl

pub only_place : (bytes : List ℕ) (result : Result (List ℕ) UnitsError) → IsAnswer bytes result → (place : ℕ)
    → IsBadEncoding bytes place → MatchResult result (λ _. ⊥) (λ e. (e ≡ BadForm place) ⊎ (e ≡ OutOfMemory))
only_place bytes (Ok found) h place (front, rest, us, e, read, long, some, never) = no_reading front rest us bytes found read e some never h
only_place bytes (Err (BadForm found)) (front2, rest2, vs, e2, read2, long2, some2, never2) place (front, rest, us, e, read, long, some, never) =
    let same : length front2 ≡ length front = one_place front2 rest2 vs front rest us read2 never2 read never (sym e2 ∙ e) in
    inl (ap (λ n. BadForm n) (sym long2 ∙ same ∙ long))
only_place bytes (Err OutOfMemory) h place k = inr refl

-- ---- The encodings that bytes begin with.

pub one_at : (bytes : List ℕ) (u : ℕ) → 1 ≤ length bytes → 1 ≤ slice_index_or bytes 0 0 → slice_index_or bytes 0 0 < 0x80
    → u ≡ slice_index_or bytes 0 0 → BeginsWith bytes u (take (length bytes - 1) (drop 1 bytes))
one_at [] u len low high e = absurd (omega arith)
one_at (a ∷ rest) u len low high e = (a ∷ [], (low, omega (arith, high), e), ap (λ xs. a ∷ xs) (sym (take_all (length (a ∷ rest) - 1) rest (omega arith))))

pub two_at : (bytes : List ℕ) (u : ℕ) → 2 ≤ length bytes → 0xc0 ≤ slice_index_or bytes 0 0 → slice_index_or bytes 0 0 < 0xe0
    → 0x80 ≤ slice_index_or bytes 1 0 → slice_index_or bytes 1 0 < 0xc0
    → u ≡ (slice_index_or bytes 0 0 - 0xc0) * 64 + (slice_index_or bytes 1 0 - 0x80) → BeginsWith bytes u (take (length bytes - 2) (drop 2 bytes))
two_at [] u len low high low2 high2 e = absurd (omega arith)
two_at (a ∷ []) u len low high low2 high2 e = absurd (omega arith)
two_at (a ∷ b ∷ rest) u len low high low2 high2 e = (
  a ∷ b ∷ [],
  (low, omega (arith, high), low2, omega (arith, high2), e),
  ap (λ xs. a ∷ b ∷ xs) (sym (take_all (length (a ∷ b ∷ rest) - 2) rest (omega arith))),
)

pub three_at : (bytes : List ℕ) (u : ℕ) → 3 ≤ length bytes → 0xe0 ≤ slice_index_or bytes 0 0 → slice_index_or bytes 0 0 < 0xf0
    → 0x80 ≤ slice_index_or bytes 1 0 → slice_index_or bytes 1 0 < 0xc0 → 0x80 ≤ slice_index_or bytes 2 0
    → slice_index_or bytes 2 0 < 0xc0
    → u ≡ (slice_index_or bytes 0 0 - 0xe0) * 4096 + (slice_index_or bytes 1 0 - 0x80) * 64 + (slice_index_or bytes 2 0 - 0x80)
    → BeginsWith bytes u (take (length bytes - 3) (drop 3 bytes))
three_at [] u len low high low2 high2 low3 high3 e = absurd (omega arith)
three_at (a ∷ []) u len low high low2 high2 low3 high3 e = absurd (omega arith)
three_at (a ∷ b ∷ []) u len low high low2 high2 low3 high3 e = absurd (omega arith)
three_at (a ∷ b ∷ c ∷ rest) u len low high low2 high2 low3 high3 e = (
  a ∷ b ∷ c ∷ [],
  (low, omega (arith, high), low2, omega (arith, high2), low3, omega (arith, high3), e),
  ap (λ xs. a ∷ b ∷ c ∷ xs) (sym (take_all (length (a ∷ b ∷ c ∷ rest) - 3) rest (omega arith))),
)
