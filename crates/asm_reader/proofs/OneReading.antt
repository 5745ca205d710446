-- Lines read in one way.
use Rattle.std.proofs.Common.{◌≡◌, ℕ, Bool, true, false, List, [], ◌∷◌, refl, sym, ap, ◌∙◌}
use Rattle.std.specs.List.{list_all}
use Rattle.asm_reader.specs.declared.items.Item.{Item}
use Rattle.asm_reader.specs.declared.items.LineReading.{LineReading}
use Rattle.asm_reader.specs.declared.items.LineReading.TheVariants.{Empty, Short, Long, Bad}
use Rattle.asm_reader.specs.Readings.{AreReadings, IsItemLine, IsReading}
use Rattle.asm_reader.specs.Words.{is_short_word}
use Rattle.asm_reader.proofs.OneItem.{one_item}
use Rattle.asm_reader.proofs.OneSplitIntoWords.{one_words}

one_item_line : (line : List ℕ) (i j : Item) (s t : Bool) → IsItemLine line i s → IsItemLine line j t → (i ≡ j) × (s ≡ t)
one_item_line line i j s t h k =
    let same : h.1.0 ≡ k.1.0 = one_words line h.1.0 k.1.0 h.1.1 k.1.1 in
    (one_item h.1.0 i j h.1.2 (rw same k.1.2), sym h.1.3 ∙ ap (list_all is_short_word) same ∙ k.1.3)

one_line : (line : List ℕ) (a b : LineReading) → IsReading line a → IsReading line b → a ≡ b
one_line line Empty Empty h k = refl
one_line line Empty (Short j) h k = absurd (k.0 h)
one_line line Empty (Long j) h k = absurd (k.0 h)
one_line line Empty Bad h k = absurd (k.0 h)
one_line line (Short i) Empty h k = absurd (h.0 k)
one_line line (Short i) (Short j) h k = ap Short (one_item_line line i j true true h k).0
one_line line (Short i) (Long j) h k = let same = one_item_line line i j true false h k in cc
one_line line (Short i) Bad h k = absurd (k.1 i true h)
one_line line (Long i) Empty h k = absurd (h.0 k)
one_line line (Long i) (Short j) h k = let same = one_item_line line i j false true h k in cc
one_line line (Long i) (Long j) h k = ap Long (one_item_line line i j false false h k).0
one_line line (Long i) Bad h k = absurd (k.1 i false h)
one_line line Bad Empty h k = absurd (h.0 k)
one_line line Bad (Short j) h k = absurd (h.1 j true k)
one_line line Bad (Long j) h k = absurd (h.1 j false k)
one_line line Bad Bad h k = refl

pub one_reading : (lines : List (List ℕ)) (a b : List LineReading) → AreReadings lines a → AreReadings lines b → a ≡ b
one_reading [] [] [] h k = refl
one_reading [] [] (y ∷ ys) h k = absurd k
one_reading [] (x ∷ xs) b h k = absurd h
one_reading (line ∷ lines) [] b h k = absurd h
one_reading (line ∷ lines) (x ∷ xs) [] h k = absurd k
one_reading (line ∷ lines) (x ∷ xs) (y ∷ ys) h k =
    let first : x ≡ y = one_line line x y h.0 k.0 in
    let others : xs ≡ ys = one_reading lines xs ys h.1 k.1 in
    cc
