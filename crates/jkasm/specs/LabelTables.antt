-- What tables have of labels: one of all places in a method, and one of the labels that were met so far.
use Rattle.std.specs.Prelude.{◌≡◌, ℕ, ◌+◌, Bool, List, Option, Some, None, is_some, min, if◌then◌else◌}
use Rattle.std.specs.Option.{option_or}
use Rattle.std.specs.Ordering.{nat_cmp}
use Rattle.std.specs.Cmp.Lexicographic.{slice_cmp}
use Rattle.std.specs.BTreeMap.{get_by}
use Rattle.std.specs.BTreeSet.{contains_by}
use Rattle.asm_reader.specs.declared.items.CodeLine.{CodeLine}
use Rattle.asm_reader.specs.declared.items.Item.{Item}
use Rattle.asm_reader.specs.declared.items.Item.TheVariants.{Code, End}
use Rattle.asm_reader.specs.declared.items.LineReading.{LineReading}
use Rattle.asm_reader.specs.declared.items.LineReading.TheVariants.{Short, Long}
use Rattle.jkasm.specs.declared.labels.Labels.{Labels}
use Rattle.jkasm.specs.declared.labels.SeenLabels.{SeenLabels}
use Rattle.jkasm.specs.CodePlaces.{line_size, is_label, label_place}
use Rattle.jkasm.specs.Labels.{FAR, IsKnownLabel}

-- ---- The table of all places.

-- what the table has of a label
abbrev pub known : Labels → List ℕ → Option ℕ
known table label = get_by (λ k. slice_cmp nat_cmp label k.items) table.places

-- the table has of each label what is known of it in a code of these lines
abbrev pub IsLabelsOf : List CodeLine → Labels → Type 0
IsLabelsOf codes table = (label : List ℕ) → IsKnownLabel codes label (known table label)

-- ---- The set of those met.

-- whether the set has a label
abbrev pub has_label : SeenLabels → List ℕ → Bool
has_label seen label = contains_by (λ k. slice_cmp nat_cmp label k.items) seen.labels

-- the set has exactly the labels that have a place in these lines
abbrev pub AreSeenOf : List CodeLine → SeenLabels → Type 0
AreSeenOf codes seen = (label : List ℕ) → has_label seen label ≡ is_some (label_place 0 codes label)

-- ---- How the table of places grows, line by line.

-- The label of a line at this place is put to the table, unless it is there. All others stay as they are.
abbrev pub Notes : Labels → Option (List ℕ) → ℕ → Labels → Type 0
Notes old own at new =
    (label : List ℕ) → known new label ≡ option_or (known old label) (if is_label own label then Some at else None)

abbrev pub IsSame : Labels → Labels → Type 0
IsSame old new = (label : List ℕ) → known new label ≡ known old label

-- What an item at this place puts to the table, and the place after it. There is none after the end of a method.
abbrev pub ReadsItem : Labels → ℕ → Item → Labels → Option ℕ → Type 0
ReadsItem old at (Code line) new next = Notes old line.label at new × (next ≡ Some (min (at + line_size at line.statement) FAR))
ReadsItem old at End new next = IsSame old new × (next ≡ None)
ReadsItem old at item new next = IsSame old new × (next ≡ Some at)

-- the same of a line
abbrev pub Reads : Labels → ℕ → LineReading → Labels → Option ℕ → Type 0
Reads old at (Short item) new next = ReadsItem old at item new next
Reads old at (Long item) new next = ReadsItem old at item new next
Reads old at reading new next = IsSame old new × (next ≡ Some at)
