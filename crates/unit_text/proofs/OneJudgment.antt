-- Bytes are a text, or they stop being one at one place: never both, and never at two places.
use Rattle.std.proofs.Common.{◌≡◌, ℕ, ◌-◌, inl, inr, Bool, true, false, List, [], ◌∷◌, ◌++◌, length, Option, Some, None, Ok, Err, sym, ◌∙◌, ap}
use Rattle.std.proofs.lemmas.Bool.{eqb-true}
use Rattle.std.proofs.lemmas.List.{nil_from_length}
use Rattle.std.specs.Prelude.{◌↔◌, ◌==◌}
use Rattle.jk_model.specs.Text.{IsUnit, IsModifiedUtf8, IsBadEncoding}
use Rattle.unit_text.specs.declared.units.UnitsError.TheVariants.{BadForm}
use Rattle.jk_model.proofs.EmptyByLength.{not_nil_from_test}
use Rattle.unit_text.specs.Encodings.{BeginsNoUnit}
use Rattle.unit_text.proofs.OneReading.{IsSoFar, after_unit, all_read, at_bad_encoding, only_place}

-- the bytes before what is left spell some units
abbrev pub IsPassed : List ℕ → List ℕ → Type 0
IsPassed bytes rest = (units : List ℕ) × IsSoFar bytes rest units

pub one_further : (bytes rest after : List ℕ) (u : ℕ) → IsPassed bytes rest → (encoding : List ℕ) × IsUnit encoding u × (rest ≡ encoding ++ after)
    → IsPassed bytes after
one_further bytes rest after u (units, passed) begins = (units ++ (u ∷ []), after_unit bytes rest after units u passed begins)

-- ---- No bytes are both.

not_both : (bytes : List ℕ) (place : ℕ) → IsModifiedUtf8 bytes → IsBadEncoding bytes place → ⊥
not_both bytes place (units, spells) bad = only_place bytes (Ok units) spells place bad

same_place : (bytes : List ℕ) (found place : ℕ) → IsBadEncoding bytes found → IsBadEncoding bytes place → found ≡ place
same_place bytes found place h bad = elim (only_place bytes (Err (BadForm found)) h place bad) [ inl same ↦ cc | inr memory ↦ absurd cc ]

-- ---- What an answer says of the bytes, both ways.

abbrev at_place : ℕ → Option ℕ
at_place place = Some place

abbrev nowhere : Option ℕ
nowhere = None

pub text_is_bad_nowhere : (bytes : List ℕ) → IsModifiedUtf8 bytes → (place : ℕ) → (nowhere ≡ at_place place) ↔ IsBadEncoding bytes place
text_is_bad_nowhere bytes text place = (λ e. absurd cc, λ bad. absurd (not_both bytes place text bad))

pub bad_is_no_text : (bytes : List ℕ) (found : ℕ) → IsBadEncoding bytes found → (at_place found ≡ nowhere) ↔ IsModifiedUtf8 bytes
bad_is_no_text bytes found h = (λ e. absurd cc, λ text. absurd (not_both bytes found text h))

pub bad_at_one_place : (bytes : List ℕ) (found : ℕ) → IsBadEncoding bytes found → (place : ℕ)
    → (at_place found ≡ at_place place) ↔ IsBadEncoding bytes place
bad_at_one_place bytes found h place =
    (λ e. let same : found ≡ place = cc in rw (sym same) h, λ bad. ap (λ (n : ℕ). at_place n) (same_place bytes found place h bad))

-- ---- Where the walk ends, or stops.

pub ends : (r : Bool) (bytes rest : List ℕ) → IsPassed bytes rest → r ≡ (length rest == 0) → r ≡ true → IsModifiedUtf8 bytes
ends r bytes rest (units, passed) e h = (units, all_read bytes rest units passed (nil_from_length rest (eqb-true (length rest) 0 (sym e ∙ h))))

pub stops : (r : Bool) (bytes rest : List ℕ) → IsPassed bytes rest → r ≡ (length rest == 0) → r ≡ false → BeginsNoUnit rest
    → IsBadEncoding bytes (length bytes - length rest)
stops r bytes rest (units, passed) e h never = at_bad_encoding bytes rest units passed (not_nil_from_test rest r e h) never
