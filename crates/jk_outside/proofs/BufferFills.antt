-- Bytes that fit into the buffer are held after the others, and go out as one piece when they fill it.
use Rattle.std.proofs.Common.{◌≡◌, ℕ, ◌+◌, ◌-◌, ◌<◌, ◌≤◌, List, [], ◌∷◌, ◌++◌, Option, length, take, drop, set, sym, ap, ◌∙◌, subst, arith, length-append, length-drop}
use Rattle.std.proofs.lemmas.List.{take_more_set, take_all, length-take-le}
use Rattle.std.proofs.lemmas.Slice.{take-put_mid}
use borrow.Rule.Slice.PartMut.{put_mid, mid_of, same_len_mid}
use Rattle.jk_model.specs.Outside.{Appends, AppendsPart}
use Rattle.jk_outside.specs.CutTexts.{whole_pieces, rest_of_pieces, Sends, BreaksOff}
use Rattle.jk_outside.proofs.CutIsWholeAndRest.{whole_pieces-one, rest_of_pieces-one, whole_pieces-short, rest_of_pieces-short}
use Rattle.jk_outside.proofs.SentInOrder.{Sends-nil, Sends-one, BreaksOff-one}

-- the first n of 256 bytes are held
pub record IsHeld (bytes held : List ℕ) (n : ℕ) : Type 0 where
  pub size : length bytes ≡ 256
  pub within : n < 256
  pub front : take n bytes ≡ held

pub length_held : (bytes held : List ℕ) (n : ℕ) → IsHeld bytes held n → length held ≡ n
length_held bytes held n h =
    sym (ap length h.front) ∙ length-take-le n bytes (omega (arith, h.size, h.within))

-- A copy of a text was put after the held bytes, in the place of k others.
pub record Fits (bytes held text copy : List ℕ) (n k : ℕ) : Type 0 where
  pub before : IsHeld bytes held n
  pub copied : copy ≡ text
  pub count : k ≡ length text
  pub room : n + k ≤ 256

-- a copy that lies where the held bytes end
pub fits_at : (bytes held text copy : List ℕ) (n : ℕ) → IsHeld bytes held n → copy ≡ text → length held + length text ≤ 256
    → Fits bytes held text copy n (n + length text - n)
fits_at bytes held text copy n h copied room =
    record { before = h; copied = copied; count = omega arith; room = omega (arith, length_held bytes held n h) }

held_more : (bytes held text copy : List ℕ) (n k : ℕ) → Fits bytes held text copy n k → take (n + k) (put_mid n k bytes copy) ≡ held ++ text
held_more bytes held text copy n k fits =
    let size : n + k ≡ n + length copy = omega (arith, fits.count, ap length fits.copied) in
    let room : n ≤ length bytes = omega (arith, fits.before.size, fits.before.within) in
    take-put_mid n k bytes copy (n + k) size room
    ∙ ap (λ (t : List ℕ). t ++ copy) fits.before.front
    ∙ ap (λ (t : List ℕ). held ++ t) fits.copied

length_more : (bytes held text copy : List ℕ) (n k : ℕ) → Fits bytes held text copy n k → length (held ++ text) ≡ n + k
length_more bytes held text copy n k fits =
    omega (arith, length-append held text, length_held bytes held n fits.before, fits.count)

held_all : (bytes held text copy : List ℕ) (n k : ℕ) → Fits bytes held text copy n k → n + k ≡ 256 → put_mid n k bytes copy ≡ held ++ text
held_all bytes held text copy n k fits full =
    let mid : length (mid_of n k bytes) ≡ k =
    length-take-le k (drop n bytes) (omega (arith, length-drop n bytes, fits.before.size, fits.room)) in
    let same : length copy ≡ length (mid_of n k bytes) = ap length fits.copied ∙ sym fits.count ∙ sym mid in
    let size : length (put_mid n k bytes copy) ≤ n + k =
    omega (arith, same_len_mid n k bytes copy same, fits.before.size) in
    sym (take_all (n + k) (put_mid n k bytes copy) size) ∙ held_more bytes held text copy n k fits

pub full_sends : (a b : Option (List ℕ)) (p q : List (List ℕ)) (bytes held text copy : List ℕ) (n k : ℕ) → Fits bytes held text copy n k
    → n + k ≡ 256 → q ≡ p ++ put_mid n k bytes copy ∷ [] → Appends a b (put_mid n k bytes copy) → Sends a b p q (whole_pieces (held ++ text))
full_sends a b p q bytes held text copy n k fits full handed taken =
    let P : List (List ℕ) → Type 0 = λ t. Sends a b p q t in
    let one : put_mid n k bytes copy ∷ [] ≡ whole_pieces (held ++ text) =
    ap (λ (t : List ℕ). t ∷ []) (held_all bytes held text copy n k fits full)
    ∙ sym (whole_pieces-one (held ++ text) (length_more bytes held text copy n k fits ∙ full)) in
    subst P one (Sends-one a b p q (put_mid n k bytes copy) handed taken)

pub full_breaks : (a b : Option (List ℕ)) (p q : List (List ℕ)) (bytes held text copy : List ℕ) (n k : ℕ) → Fits bytes held text copy n k
    → n + k ≡ 256 → q ≡ p ++ put_mid n k bytes copy ∷ [] → AppendsPart a b (put_mid n k bytes copy) → BreaksOff a b p q (whole_pieces (held ++ text))
full_breaks a b p q bytes held text copy n k fits full handed part =
    let P : List (List ℕ) → Type 0 = λ t. BreaksOff a b p q t in
    let one : put_mid n k bytes copy ∷ [] ≡ whole_pieces (held ++ text) =
    ap (λ (t : List ℕ). t ∷ []) (held_all bytes held text copy n k fits full)
    ∙ sym (whole_pieces-one (held ++ text) (length_more bytes held text copy n k fits ∙ full)) in
    subst P one (BreaksOff-one a b p q (put_mid n k bytes copy) handed part)

pub full_rest : (bytes held text copy : List ℕ) (n k : ℕ) → Fits bytes held text copy n k → n + k ≡ 256 → [] ≡ rest_of_pieces (held ++ text)
full_rest bytes held text copy n k fits full =
    sym (rest_of_pieces-one (held ++ text) (length_more bytes held text copy n k fits ∙ full))

pub short_sends : (a : Option (List ℕ)) (p : List (List ℕ)) (bytes held text copy : List ℕ) (n k : ℕ) → Fits bytes held text copy n k → n + k < 256
    → Sends a a p p (whole_pieces (held ++ text))
short_sends a p bytes held text copy n k fits short =
    let few : length (held ++ text) < 256 = omega (arith, length_more bytes held text copy n k fits) in
    rw (whole_pieces-short (held ++ text) few) (Sends-nil a p)

pub short_rest : (bytes held text copy : List ℕ) (n k m : ℕ) → Fits bytes held text copy n k → m < 256 → m ≡ n + k
    → take m (put_mid n k bytes copy) ≡ rest_of_pieces (held ++ text)
short_rest bytes held text copy n k m fits short is =
    let few : length (held ++ text) < 256 = omega (arith, length_more bytes held text copy n k fits) in
    ap (λ (i : ℕ). take i (put_mid n k bytes copy)) is ∙ held_more bytes held text copy n k fits ∙ sym (rest_of_pieces-short (held ++ text) few)

with_byte : (bytes held : List ℕ) (n byte : ℕ) → IsHeld bytes held n → take (n + 1) (set bytes n byte) ≡ held ++ byte ∷ []
with_byte bytes held n byte h =
    let within : n < length bytes = omega (arith, h.size, h.within) in
    take_more_set bytes n byte within ∙ ap (λ (t : List ℕ). t ++ byte ∷ []) h.front

-- the line feed goes out with all that is held
pub line_breaks : (a b : Option (List ℕ)) (p q : List (List ℕ)) (bytes held : List ℕ) (n byte : ℕ) → IsHeld bytes held n
    → q ≡ p ++ take (n + 1) (set bytes n byte) ∷ [] → AppendsPart a b (take (n + 1) (set bytes n byte)) → BreaksOff a b p q ((held ++ byte ∷ []) ∷ [])
line_breaks a b p q bytes held n byte h handed part =
    let P : List ℕ → Type 0 = λ t. BreaksOff a b p q (t ∷ []) in
    subst P (with_byte bytes held n byte h) (BreaksOff-one a b p q (take (n + 1) (set bytes n byte)) handed part)

pub line_sends : (a b : Option (List ℕ)) (p q : List (List ℕ)) (bytes held : List ℕ) (n byte : ℕ) → IsHeld bytes held n
    → q ≡ p ++ take (n + 1) (set bytes n byte) ∷ [] → Appends a b (take (n + 1) (set bytes n byte)) → Sends a b p q ((held ++ byte ∷ []) ∷ [])
line_sends a b p q bytes held n byte h handed taken =
    let P : List ℕ → Type 0 = λ t. Sends a b p q (t ∷ []) in
    subst P (with_byte bytes held n byte h) (Sends-one a b p q (take (n + 1) (set bytes n byte)) handed taken)
