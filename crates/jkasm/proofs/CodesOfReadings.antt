-- The code lines up to the end of a method, line by line of its text.
use Rattle.std.proofs.Common.{◌≡◌, ℕ, suc, List, [], ◌∷◌, drop, refl, ap, ◌∙◌, drop-cons, Some, slice_get, get_or}
use Rattle.std.proofs.lemmas.Option.{slice_get_within, get_or_from_slice_get}
use Rattle.asm_reader.specs.declared.items.CodeLine.{CodeLine}
use Rattle.asm_reader.specs.declared.items.Item.{Item}
use Rattle.asm_reader.specs.declared.items.Item.TheVariants.{Class, Field, Method, Code, Catch, End}
use Rattle.asm_reader.specs.declared.items.LineReading.{LineReading}
use Rattle.asm_reader.specs.declared.items.LineReading.TheVariants.{Empty, Short, Long, Bad}
use Rattle.jkasm.specs.Outline.{items_of, codes_to_end}

-- the code lines of an item and of what comes after it
abbrev pub with_item : Item → List CodeLine → List CodeLine
with_item (Code line) later = line ∷ later
with_item End later = []
with_item item later = later

-- the same of a line's reading
abbrev pub with_reading : LineReading → List CodeLine → List CodeLine
with_reading (Short item) later = with_item item later
with_reading (Long item) later = with_item item later
with_reading reading later = later

with_item_in_front : (item : Item) (items : List Item) → codes_to_end (item ∷ items) ≡ with_item item (codes_to_end items)
with_item_in_front (Class line) items = refl
with_item_in_front (Field line) items = refl
with_item_in_front (Method line) items = refl
with_item_in_front (Code line) items = refl
with_item_in_front (Catch line) items = refl
with_item_in_front End items = refl

-- a line in front of others
pub codes_to_end-cons : (reading : LineReading) (later : List LineReading)
    → codes_to_end (items_of (reading ∷ later)) ≡ with_reading reading (codes_to_end (items_of later))
codes_to_end-cons Empty later = refl
codes_to_end-cons (Short item) later = with_item_in_front item (items_of later)
codes_to_end-cons (Long item) later = with_item_in_front item (items_of later)
codes_to_end-cons Bad later = refl

-- The code lines from a line on, by how it reads and those after it. `with_reading` computes at each kind of line.
pub codes_to_end-at : (readings : List LineReading) (i : ℕ) (reading : LineReading) → slice_get readings i ≡ Some reading
    → codes_to_end (items_of (drop i readings)) ≡ with_reading reading (codes_to_end (items_of (drop (suc i) readings)))
codes_to_end-at readings i reading h =
    let below = slice_get_within readings i reading h in
    let here : get_or readings i reading ≡ reading = get_or_from_slice_get readings i reading reading h in
    let front : drop i readings ≡ reading ∷ drop (suc i) readings = rw (drop-cons readings i reading below, here) refl in
    ap (λ rs. codes_to_end (items_of rs)) front ∙ codes_to_end-cons reading (drop (suc i) readings)
