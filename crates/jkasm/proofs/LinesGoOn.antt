-- Whether a method's lines go on, line by line of its text.
use Rattle.std.proofs.Common.{◌≡◌, ℕ, suc, Bool, true, false, List, ◌∷◌, drop, refl, ap, ◌∙◌, drop-cons, Some, slice_get, get_or}
use Rattle.std.proofs.lemmas.Option.{slice_get_within, get_or_from_slice_get}
use Rattle.asm_reader.specs.declared.items.Item.TheVariants as item
use Rattle.asm_reader.specs.declared.items.LineReading.{LineReading}
use Rattle.asm_reader.specs.declared.items.LineReading.TheVariants as reading
use Rattle.jkasm.specs.Constants.{goes_on}

-- what a line says of this, with what those after it say
abbrev pub with_line : LineReading → Bool → Bool
with_line reading.Empty later = later
with_line (reading.Short item.End) later = false
with_line _ later = true

with_line_in_front : (r : LineReading) (later : List LineReading) → goes_on (r ∷ later) ≡ with_line r (goes_on later)
with_line_in_front reading.Empty later = refl
with_line_in_front (reading.Short item.End) later = refl
with_line_in_front (reading.Short (item.Class line)) later = refl
with_line_in_front (reading.Short (item.Field line)) later = refl
with_line_in_front (reading.Short (item.Method line)) later = refl
with_line_in_front (reading.Short (item.Code line)) later = refl
with_line_in_front (reading.Short (item.Catch line)) later = refl
with_line_in_front (reading.Long i) later = refl
with_line_in_front reading.Bad later = refl

pub goes_on-at : (readings : List LineReading) (i : ℕ) (r : LineReading) → slice_get readings i ≡ Some r
    → goes_on (drop i readings) ≡ with_line r (goes_on (drop (suc i) readings))
goes_on-at readings i r h =
    let below = slice_get_within readings i r h in
    let here : get_or readings i r ≡ r = get_or_from_slice_get readings i r r h in
    let front : drop i readings ≡ r ∷ drop (suc i) readings = rw (drop-cons readings i r below, here) refl in
    ap (λ rs. goes_on rs) front ∙ with_line_in_front r (drop (suc i) readings)
