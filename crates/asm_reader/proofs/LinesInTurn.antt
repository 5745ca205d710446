-- How lines read, one after another.
use Rattle.std.proofs.Common.{◌≡◌, ℕ, List, [], ◌∷◌, ◌++◌, refl, sym, append_assoc}
use Rattle.std.proofs.lemmas.List.{append-nil}
use Rattle.asm_reader.specs.declared.items.Item.{Item}
use Rattle.asm_reader.specs.declared.items.LineReading.{LineReading}
use Rattle.asm_reader.specs.declared.items.LineReading.TheVariants.{Bad}
use Rattle.asm_reader.specs.declared.words.Word.{Word}
use Rattle.asm_reader.specs.Items.{IsItem}
use Rattle.asm_reader.specs.Readings.{AreReadings, IsReading}
use Rattle.asm_reader.specs.Words.{HasWords, IsEmptyLine, text_lines}
use Rattle.asm_reader.proofs.OneSplitIntoWords.{one_words}

-- words that are no item
pub no_item : (line : List ℕ) (words : List Word) → (IsEmptyLine line → ⊥) → HasWords line words
    → ((i : Item) → IsItem words i → ⊥) → IsReading line Bad
no_item line words some has none =
    (some, λ i short h. let same : h.1.0 ≡ words = one_words line h.1.0 words h.1.1 has in none i (rw same at h.1.2))

-- the readings of the lines in front of the rest
abbrev pub AreSoFar : List ℕ → List ℕ → List LineReading → Type 0
AreSoFar text rest readings =
    (before : List (List ℕ)) × (text_lines text ≡ before ++ text_lines rest) × AreReadings before readings

pub none_yet : (text : List ℕ) → AreSoFar text text []
none_yet text = ([], refl, tt)

reading_after : (lines : List (List ℕ)) (readings : List LineReading) (line : List ℕ) (reading : LineReading)
    → AreReadings lines readings → IsReading line reading → AreReadings (lines ++ line ∷ []) (readings ++ reading ∷ [])
reading_after [] [] line reading h r = (r, tt)
reading_after [] (_ ∷ _) line reading h r = absurd h
reading_after (_ ∷ _) [] line reading h r = absurd h
reading_after (l ∷ lines) (x ∷ readings) line reading h r = (h.0, reading_after lines readings line reading h.1 r)

pub one_more : (text rest after line : List ℕ) (readings : List LineReading) (reading : LineReading)
    → AreSoFar text rest readings → text_lines rest ≡ line ∷ text_lines after → IsReading line reading
    → AreSoFar text after (readings ++ reading ∷ [])
one_more text rest after line readings reading h e r =
    (h.0 ++ line ∷ [], rw (h.1, e) (sym (append_assoc h.0 (line ∷ []) (text_lines after))), reading_after h.0 readings line reading h.2 r)

pub all_read : (text rest : List ℕ) (readings : List LineReading) → AreSoFar text rest readings → text_lines rest ≡ []
    → AreReadings (text_lines text) readings
all_read text rest readings h e = rw (h.1, e, append-nil) h.2
