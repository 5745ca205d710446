-- Lines one after another: the place after them all, and where a label stands.
use Rattle.std.proofs.Common.{◌≡◌, ℕ, ◌+◌, Bool, true, false, List, [], ◌∷◌, ◌++◌, refl, Option, Some, None, if◌then◌else◌}
use Rattle.std.specs.Option.{option_or}
use Rattle.asm_reader.specs.declared.items.CodeLine.{CodeLine}
use Rattle.jkasm.specs.CodePlaces.{line_size, place_after, is_label, label_place}

pub place_after-append : (at : ℕ) (xs ys : List CodeLine) → place_after at (xs ++ ys) ≡ place_after (place_after at xs) ys
place_after-append at [] ys = refl
place_after-append at (x ∷ xs) ys = place_after-append (at + line_size at x.statement) xs ys

-- one more line at the end
pub place_after-push : (at : ℕ) (xs : List CodeLine) (line : CodeLine)
    → place_after at (xs ++ line ∷ []) ≡ place_after at xs + line_size (place_after at xs) line.statement
place_after-push at xs line = place_after-append at xs (line ∷ [])

or_if : (b : Bool) (here : Option ℕ) (rest other : Option ℕ) (e : rest ≡ option_or here other) (at : ℕ)
    → (if b then Some at else rest) ≡ option_or (if b then Some at else here) other
or_if true here rest other e at = refl
or_if false here rest other e at = e

-- A label stands where it does in the first lines, or else where it does in those after them.
pub label_place-append : (at : ℕ) (xs ys : List CodeLine) (label : List ℕ)
    → label_place at (xs ++ ys) label ≡ option_or (label_place at xs label) (label_place (place_after at xs) ys label)
label_place-append at [] ys label = refl
label_place-append at (x ∷ xs) ys label =
    let next = at + line_size at x.statement in
    or_if (is_label x.label label) (label_place next xs label) (label_place next (xs ++ ys) label)
    (label_place (place_after next xs) ys label) (label_place-append next xs ys label) at

-- one more line at the end
pub label_place-push : (at : ℕ) (xs : List CodeLine) (line : CodeLine) (label : List ℕ)
    → label_place at (xs ++ line ∷ []) label
    ≡ option_or (label_place at xs label) (if is_label line.label label then Some (place_after at xs) else None)
label_place-push at xs line label = label_place-append at xs (line ∷ []) label

-- what has a place keeps it, whatever lines come after
pub label_place-kept : (at : ℕ) (xs ys : List CodeLine) (label : List ℕ) (place : ℕ)
    → label_place at xs label ≡ Some place → label_place at (xs ++ ys) label ≡ Some place
label_place-kept at xs ys label place h = rw (label_place-append at xs ys label, h) refl

-- what has none gets one from the lines after
pub label_place-later : (at : ℕ) (xs ys : List CodeLine) (label : List ℕ)
    → label_place at xs label ≡ None → label_place at (xs ++ ys) label ≡ label_place (place_after at xs) ys label
label_place-later at xs ys label h = rw (label_place-append at xs ys label, h) refl
