-- The first line of a text that is at fault: it isn't of its form at its place, it names a label that doesn't
-- stand in its method, repeats one that does, jumps too far, ends a method that has lines and no instruction, or
-- passes a limit. A text that ends too early is at fault at the line after its last.
use Rattle.std.specs.Prelude.{◌≡◌, ℕ, suc, ◌<◌, ◌⊎◌, ⊤, ℤ, IsSome, List, [], ◌∷◌, ◌++◌, length, map, take, drop, slice_get, Option, Some, None}
use Rattle.std.specs.List.{AllByRecursion}
use Rattle.asm_reader.specs.declared.items.CodeLine.{CodeLine}
use Rattle.asm_reader.specs.declared.items.Item.{Item}
use Rattle.asm_reader.specs.declared.items.Item.TheVariants.{Code, Catch, End}
use Rattle.asm_reader.specs.declared.items.LineReading.{LineReading}
use Rattle.asm_reader.specs.declared.items.LineReading.TheVariants as reading
use Rattle.asm_reader.specs.declared.items.Statement.{Statement}
use Rattle.asm_reader.specs.declared.items.Statement.TheVariants.{Jump, Switch}
use Rattle.asm_reader.specs.declared.items.SwitchLine.{SwitchLine}
use Rattle.asm_reader.specs.Readings.{AreReadings}
use Rattle.asm_reader.specs.Words.{text_lines}
use Rattle.jkasm.specs.CodePlaces.{place_after, label_place, IsOffset, IsShortOffset}
use Rattle.jkasm.specs.Constants.{needed_first}
use Rattle.jkasm.specs.Limits.{IsWithinLimits, FitPool}
use Rattle.jkasm.specs.Outline.{MethodText, Outline, after_item, outline, items_of, codes_to_end}

-- ---- Labels.

-- the labels that an instruction names
abbrev pub names_of : Option Statement → List (List ℕ)
names_of (Some (Jump op label)) = label ∷ []
names_of (Some (Switch default cases)) = default ∷ map (λ (c : SwitchLine). c.label) cases
names_of _ = []

-- each of these labels stands in a code of these lines
abbrev pub AllStand : List CodeLine → List (List ℕ) → Type 0
AllStand codes labels = AllByRecursion (λ label. IsSome (label_place 0 codes label)) labels

abbrev pub IsNew : List CodeLine → Option (List ℕ) → Type 0
IsNew before None = ⊤
IsNew before (Some label) = label_place 0 before label ≡ None

-- a jump leads no further than 16 bits reach
abbrev pub ReachesLabel : List CodeLine → ℕ → Option Statement → Type 0
ReachesLabel codes at (Some (Jump op label)) = (offset : ℤ) → IsOffset codes at label offset → IsShortOffset offset
ReachesLabel codes at _ = ⊤

-- what is asked of the labels of a code line after others, and before more, of its method
pub record HasGoodLabels (before : List CodeLine) (line : CodeLine) (later : List CodeLine) : Type 0 where
  pub stand : AllStand (before ++ line ∷ later) (names_of line.statement)
  pub new : IsNew before line.label
  pub reach : ReachesLabel (before ++ line ∷ later) (place_after 0 before) line.statement

-- A method has an instruction, or no lines at all.
abbrev pub HasCodeOrNothing : MethodText → Type 0
HasCodeOrNothing m = ((m.codes ≡ []) × (m.catches ≡ [])) ⊎ (0 < place_after 0 m.codes)

-- what is asked of an item in an unfinished method, which has these code lines still to come
abbrev pub IsGoodInMethod : MethodText → Item → List CodeLine → Type 0
IsGoodInMethod m (Code line) later = HasGoodLabels m.codes line later
IsGoodInMethod m (Catch line) later = AllStand (m.codes ++ later) (line.from ∷ line.to ∷ line.handler ∷ [])
IsGoodInMethod m End later = HasCodeOrNothing m
IsGoodInMethod m item later = ⊤

abbrev pub IsGoodInUnfinished : Option MethodText → Item → List CodeLine → Type 0
IsGoodInUnfinished None item later = ⊤
IsGoodInUnfinished (Some m) item later = IsGoodInMethod m item later

-- ---- Lines.

-- The item may stand at line i, after the items before it, and passes no limit.
pub record IsGoodItem (readings : List LineReading) (i : ℕ) (item : Item) : Type 0 where
  pub so_far : Outline
  pub before : outline (items_of (take i readings)) ≡ Some so_far
  pub next : Outline
  pub stands : after_item so_far item ≡ Some next
  pub labels : IsGoodInUnfinished so_far.unfinished item (codes_to_end (items_of (drop (suc i) readings)))
  pub limits : IsWithinLimits next
  pub pool : FitPool (needed_first (suc i) readings)

abbrev pub IsGoodReading : List LineReading → ℕ → Option LineReading → Type 0
IsGoodReading readings i (Some reading.Empty) = ⊤
IsGoodReading readings i (Some (reading.Short item)) = IsGoodItem readings i item
IsGoodReading readings i _ = ⊥

-- the line at this place, counted from 0, is there and is not at fault by itself
abbrev pub IsGoodLine : List LineReading → ℕ → Type 0
IsGoodLine readings i = IsGoodReading readings i (slice_get readings i)

abbrev pub AreGoodBefore : List LineReading → ℕ → Type 0
AreGoodBefore readings n = (i : ℕ) → i < n → IsGoodLine readings i

-- a class was said, and no method is unfinished
abbrev pub IsComplete : Outline → Type 0
IsComplete o = IsSome o.class × (o.unfinished ≡ None)

abbrev pub EndsWell : List LineReading → Type 0
EndsWell readings = (o : Outline) × (outline (items_of readings) ≡ Some o) × IsComplete o

-- ---- The first line at fault; lines are counted from 1.

abbrev pub IsFirstFaulty : List LineReading → ℕ → Type 0
IsFirstFaulty readings n =
    (i : ℕ) × (n ≡ suc i) × AreGoodBefore readings i
    × (((i < length readings) × (IsGoodLine readings i → ⊥)) ⊎ ((i ≡ length readings) × (EndsWell readings → ⊥)))

-- this is the line that a text is refused for
abbrev pub IsRefusedAt : List ℕ → ℕ → Type 0
IsRefusedAt text n = (readings : List LineReading) × AreReadings (text_lines text) readings × IsFirstFaulty readings n
