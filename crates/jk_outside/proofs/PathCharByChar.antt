-- The UTF-16 of a path is that of its characters, one after another.
use Rattle.std.proofs.Common.{◌≡◌, ℕ, List, [], ◌∷◌, ◌++◌, refl, sym, ap, ◌∙◌, append_assoc, append-nil}
use Rattle.std.specs.Prelude.{flat_map, chars, encode_utf8}
use Rattle.std.specs.Str.{IsUtf8}
use Rattle.std.specs.Char.Escape.{encode_utf16}
use Rattle.std.proofs.lemmas.List.Concat.{flat_map-append}
use Rattle.std.proofs.lemmas.Str.{chars-nil, chars_past_char, IsUtf8-past_char}
use Rattle.jk_model.specs.Text.{shown, shown_unit, utf16_of}

-- A path up to some place was put, and this is left of it.
pub record IsPut (path left put : List ℕ) : Type 0 where
  pub done : List ℕ
  pub all : chars path ≡ done ++ chars left
  pub utf8 : IsUtf8 left
  pub text : put ≡ shown (flat_map encode_utf16 done)

pub IsPut-nil : (path left : List ℕ) → IsUtf8 path → left ≡ path → IsPut path left []
IsPut-nil path left utf8 whole =
    record { done = []; all = ap chars (sym whole); utf8 = rw whole utf8; text = refl }

shown-append : (xs ys : List ℕ) → shown (flat_map encode_utf16 (xs ++ ys)) ≡ shown (flat_map encode_utf16 xs) ++ shown (flat_map encode_utf16 ys)
shown-append xs ys =
    ap shown (flat_map-append encode_utf16 xs ys) ∙ flat_map-append shown_unit (flat_map encode_utf16 xs) (flat_map encode_utf16 ys)

shown_one : (c : ℕ) → shown (flat_map encode_utf16 (c ∷ [])) ≡ shown (encode_utf16 c)
shown_one c = ap shown (append-nil (encode_utf16 c))

-- one more character
pub IsPut-append : (path left put rest units : List ℕ) (c : ℕ) → IsPut path left put → left ≡ encode_utf8 c ++ rest → units ≡ encode_utf16 c
    → IsPut path rest (put ++ shown units)
IsPut-append path left put rest units c is splits encoded =
    record {
      done = is.done ++ c ∷ [];
      all = is.all ∙ ap (λ (t : List ℕ). is.done ++ t) (chars_past_char left rest c is.utf8 splits) ∙ sym (append_assoc is.done (c ∷ []) (chars rest));
      utf8 = IsUtf8-past_char left rest c is.utf8 splits;
      text = ap (λ (t : List ℕ). t ++ shown units) is.text ∙ ap (λ (t : List ℕ). shown (flat_map encode_utf16 is.done) ++ shown t) encoded
          ∙ ap (λ (t : List ℕ). shown (flat_map encode_utf16 is.done) ++ t) (sym (shown_one c)) ∙ sym (shown-append is.done (c ∷ []));
    }

-- what was put, and what is left
pub IsPut-splits : (path left put : List ℕ) → IsPut path left put → shown (utf16_of path) ≡ put ++ shown (utf16_of left)
IsPut-splits path left put is =
    ap (λ (t : List ℕ). shown (flat_map encode_utf16 t)) is.all ∙ shown-append is.done (chars left)
    ∙ ap (λ (t : List ℕ). t ++ shown (utf16_of left)) (sym is.text)

-- all of it
pub IsPut-all : (path left put : List ℕ) → IsPut path left put → left ≡ [] → put ≡ shown (utf16_of path)
IsPut-all path left put is none =
    sym (append-nil put) ∙ ap (λ (t : List ℕ). put ++ shown (flat_map encode_utf16 t)) (sym (ap chars none ∙ chars-nil))
    ∙ sym (IsPut-splits path left put is)
