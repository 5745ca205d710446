-- How the lines of a text read, each by itself.
use Rattle.std.specs.Prelude.{◌≡◌, ℕ, ⊤, Bool, true, false, List, [], ◌∷◌}
use Rattle.std.specs.List.{list_all}
use Rattle.asm_reader.specs.declared.items.Item.{Item}
use Rattle.asm_reader.specs.declared.items.LineReading.{LineReading}
use Rattle.asm_reader.specs.declared.items.LineReading.TheVariants.{Empty, Short, Long, Bad}
use Rattle.asm_reader.specs.declared.words.Word.{Word}
use Rattle.asm_reader.specs.Items.{IsItem}
use Rattle.asm_reader.specs.Words.{HasWords, IsEmptyLine, is_short_word}

-- The line is this item, and each of its words is short, or not.
abbrev pub IsItemLine : List ℕ → Item → Bool → Type 0
IsItemLine line i short =
    (IsEmptyLine line → ⊥)
    × ((words : List Word) × HasWords line words × IsItem words i × (list_all is_short_word words ≡ short))

abbrev pub IsReading : List ℕ → LineReading → Type 0
IsReading line Empty = IsEmptyLine line
IsReading line (Short i) = IsItemLine line i true
IsReading line (Long i) = IsItemLine line i false
IsReading line Bad = (IsEmptyLine line → ⊥) × ((i : Item) (short : Bool) → IsItemLine line i short → ⊥)

-- the readings of lines, in order
abbrev pub AreReadings : List (List ℕ) → List LineReading → Type 0
AreReadings [] [] = ⊤
AreReadings (line ∷ lines) (reading ∷ readings) = IsReading line reading × AreReadings lines readings
AreReadings _ _ = ⊥
