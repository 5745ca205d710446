-- What is known of the labels of a method: the place of each, or that it is too far away for any code.
use Rattle.std.specs.Prelude.{◌≡◌, ℕ, ◌^◌, List, Option, Some, None, min}
use Rattle.asm_reader.specs.declared.items.CodeLine.{CodeLine}
use Rattle.jkasm.specs.CodePlaces.{label_place}

-- A place that no code has. All that lie after it count as this one.
abbrev pub FAR : ℕ
FAR = 2 ^ 20

-- where the place of a label is known to be
abbrev pub IsKnownPlace : Option ℕ → Option ℕ → Type 0
IsKnownPlace None known = known ≡ None
IsKnownPlace (Some place) known = known ≡ Some (min place FAR)

-- this is known of a label in a code of these lines
abbrev pub IsKnownLabel : List CodeLine → List ℕ → Option ℕ → Type 0
IsKnownLabel codes label known = IsKnownPlace (label_place 0 codes label) known
