-- Each label of lines stands where these begin or after, and at most at the place after them.
use Rattle.std.proofs.Common.{◌≡◌, ℕ, ◌+◌, ◌≤◌, Bool, true, false, List, [], ◌∷◌, Option, Some, arith, if◌then◌else◌}
use Rattle.asm_reader.specs.declared.items.CodeLine.{CodeLine}
use Rattle.jkasm.specs.CodePlaces.{line_size, place_after, is_label, label_place}

pub after_at : (at : ℕ) (codes : List CodeLine) → at ≤ place_after at codes
after_at at [] = omega arith
after_at at (line ∷ lines) =
    let rest = after_at (at + line_size at line.statement) lines in
    omega (arith, rest)

within_choice : (b : Bool) (at p end : ℕ) (rest : Option ℕ) → at ≤ end → (rest ≡ Some p → p ≤ end)
    → (if b then Some at else rest) ≡ Some p → p ≤ end
within_choice true at p end rest low later is = let same : at ≡ p = cc in omega arith
within_choice false at p end rest low later is = later is

pub place_within : (at : ℕ) (codes : List CodeLine) (label : List ℕ) (p : ℕ) → label_place at codes label ≡ Some p → p ≤ place_after at codes
place_within at [] label p is = absurd cc
place_within at (line ∷ lines) label p is =
    let next = at + line_size at line.statement in
    let low : at ≤ place_after at (line ∷ lines) = after_at at (line ∷ lines) in
    within_choice (is_label line.label label) at p (place_after at (line ∷ lines)) (label_place next lines label) low
    (place_within next lines label p) is
