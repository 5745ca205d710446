-- Bytes from 1 to 127 are modified UTF-8 and spell themselves, and a text of one byte is such a byte.
use Rattle.std.proofs.Common.{◌≡◌, ℕ, ◌<◌, ◌≤◌, Bool, true, ◌&&◌, List, [], ◌∷◌, ◌++◌, refl, arith}
use Rattle.std.specs.Prelude.{nat_le}
use Rattle.std.specs.List.{AllByRecursion, list_all}
use Rattle.jk_model.specs.ClassFile.{AreBytes}
use Rattle.jk_model.specs.Text.{IsUnit, Spells, IsModifiedUtf8}
use Rattle.jk_model.proofs.EachItem.{all_from_test, all_weaker}

-- from 1 to 127
abbrev pub is_plain : ℕ → Bool
is_plain b = nat_le 1 b && nat_le b 127

abbrev IsPlain : ℕ → Type 0
IsPlain b = (1 ≤ b) × (b ≤ 127)

plain_byte : (b : ℕ) → is_plain b ≡ true → IsPlain b
plain_byte b h = (grind arith, grind arith)

plain_text : (text : List ℕ) → list_all is_plain text ≡ true → AllByRecursion IsPlain text
plain_text text h = all_from_test IsPlain is_plain plain_byte text h

bytes_of_plain : (text : List ℕ) → AllByRecursion IsPlain text → AreBytes text
bytes_of_plain text h = all_weaker IsPlain (λ b. b < 256) text (λ b plain. omega (arith, plain.1)) h

spells_of_plain : (text : List ℕ) → AllByRecursion IsPlain text → Spells text text
spells_of_plain [] h = refl
spells_of_plain (b ∷ text) h = (b ∷ [], text, (h.0.0, h.0.1, refl), refl, spells_of_plain text h.1)

pub plain_is_bytes : (text : List ℕ) → list_all is_plain text ≡ true → AreBytes text
plain_is_bytes text h = bytes_of_plain text (plain_text text h)

pub plain_is_text : (text : List ℕ) → list_all is_plain text ≡ true → IsModifiedUtf8 text
plain_is_text text h = (text, spells_of_plain text (plain_text text h))

-- ---- A text of one byte is plain.

unit_of_one : (b u : ℕ) (front rest : List ℕ) → IsUnit front u → (b ∷ []) ≡ front ++ rest → IsPlain b
unit_of_one b u [] rest h e = absurd h
unit_of_one b u (a ∷ []) rest h e =
    let same : b ≡ a = cc in
    (omega (arith, h.0), omega (arith, h.1))
unit_of_one b u (a ∷ c ∷ more) rest h e = absurd cc

spelled_by_one : (b : ℕ) (units : List ℕ) → Spells (b ∷ []) units → IsPlain b
spelled_by_one b [] h = absurd cc
spelled_by_one b (u ∷ units) h = unit_of_one b u h.0 h.1 h.2 h.3

pub text_of_one : (b : ℕ) → IsModifiedUtf8 (b ∷ []) → (1 ≤ b) × (b ≤ 127)
text_of_one b h = spelled_by_one b h.0 h.1
