-- The tables of labels grow line by line: the first place of a label stays, and the labels met are those with a place.
use Rattle.std.proofs.Common.{◌≡◌, ℕ, ◌+◌, ◌≤◌, ◌||◌, Bool, true, false, cond, List, [], ◌∷◌, ◌++◌, refl, sym, ap, ◌∙◌, subst, arith, Option, Some, None, is_some, bytes_eq, if◌then◌else◌, min, inl, inr}
use Rattle.std.specs.Option.{option_or}
use Rattle.std.proofs.lemmas.Bool.{cases_Bool}
use Rattle.std.proofs.lemmas.Slice.Eq.{bytes_eq-Decides}
use Rattle.asm_reader.specs.declared.items.CodeLine.{CodeLine}
use Rattle.asm_reader.specs.declared.items.Item.{Item}
use Rattle.asm_reader.specs.declared.items.Item.TheVariants.{Class, Field, Method, Code, Catch, End}
use Rattle.asm_reader.specs.declared.items.LineReading.{LineReading}
use Rattle.asm_reader.specs.declared.items.LineReading.TheVariants.{Empty, Short, Long, Bad}
use Rattle.jkasm.specs.declared.labels.Labels.{Labels}
use Rattle.jkasm.specs.declared.labels.SeenLabels.{SeenLabels}
use Rattle.jkasm.specs.CodePlaces.{line_size, is_label, label_place}
use Rattle.jkasm.specs.Labels.{FAR}
use Rattle.jkasm.specs.LabelTables.{known, has_label, IsLabelsOf, AreSeenOf, Notes, IsSame, ReadsItem, Reads}
use Rattle.jkasm.proofs.CodesOfReadings.{with_item, with_reading}
use Rattle.jkasm.proofs.FarPlaces.{known_place, known_here, known_place-min, known_from_near}
use Rattle.jkasm.proofs.PlacesInTurn.{label_place-push}

pub or_none : (o : Option ℕ) → option_or o None ≡ o
or_none None = refl
or_none (Some x) = refl

-- ---- A label is put to others.

none_from_test : (o : Option ℕ) → is_some o ≡ false → o ≡ None
none_from_test None h = refl
none_from_test (Some x) h = absurd cc

-- where it has no place yet
pub notes_new : (old new : Labels) (own : List ℕ) (at : ℕ) → is_some (known old own) ≡ false
    → ((label : List ℕ) → known new label ≡ cond (bytes_eq own label) (Some at) (known old label)) → Notes old (Some own) at new
notes_new old new own at missing updates label = updates label ∙ elim (cases_Bool (bytes_eq own label)) [
  | inl same ↦
      let none : known old label ≡ None =
      ap (λ bs. known old bs) (sym ((bytes_eq-Decides own label).0 same)) ∙ none_from_test (known old own) missing in
      rw (same, none) refl
  | inr other ↦ rw other (sym (or_none (known old label)))
]

-- ---- The table of the lines so far, and what is known of those left.

-- what is known of a label is what the table has, or else what is known of the rest, from a place on
abbrev pub IsToldBy : List CodeLine → List CodeLine → ℕ → Labels → Type 0
IsToldBy all rest at table = (label : List ℕ) → known_place 0 all label ≡ option_or (known table label) (known_place at rest label)

or_parts : (b : Bool) (have : Option ℕ) (at : ℕ) (rest : Option ℕ)
    → option_or have (if b then Some at else rest) ≡ option_or (option_or have (if b then Some at else None)) rest
or_parts true None at rest = refl
or_parts false None at rest = refl
or_parts true (Some x) at rest = refl
or_parts false (Some x) at rest = refl

-- a line is taken
told_after_line : (all rest : List CodeLine) (at : ℕ) (line : CodeLine) (old new : Labels) → at ≤ FAR → IsToldBy all (line ∷ rest) at old
    → Notes old line.label at new → IsToldBy all rest (min (at + line_size at line.statement) FAR) new
told_after_line all rest at line old new within told notes label =
    let next = at + line_size at line.statement in
    let here : min at FAR ≡ at = omega arith in
    let split = known_here (is_label line.label label) at (label_place next rest label) in
    let later = known_place-min next rest label in
    told label
    ∙ ap (λ o. option_or (known old label) o) (split ∙ ap (λ n. if is_label line.label label then Some n else known_place next rest label) here)
    ∙ or_parts (is_label line.label label) (known old label) at (known_place next rest label)
    ∙ ap (λ o. option_or o (known_place next rest label)) (sym (notes label))
    ∙ ap (λ o. option_or (known new label) o) (sym later)

-- a line without code is taken
told_after_same : (all rest : List CodeLine) (at : ℕ) (old new : Labels) (next : Option ℕ) (n : ℕ) → at ≤ FAR → IsToldBy all rest at old
    → IsSame old new × (next ≡ Some at) → next ≡ Some n → (n ≤ FAR) × IsToldBy all rest n new
told_after_same all rest at old new next n within told (same, stays) is =
    let here : at ≡ n = cc in
    let kept : IsToldBy all rest at new = λ label. told label ∙ ap (λ o. option_or o (known_place at rest label)) (sym (same label)) in
    (omega arith, subst (λ m. IsToldBy all rest m new) here kept)

-- what an item leaves, where the method goes on after it
told_after_item : (all rest : List CodeLine) (at : ℕ) (item : Item) (old new : Labels) (next : Option ℕ) (n : ℕ) → at ≤ FAR
    → IsToldBy all (with_item item rest) at old → ReadsItem old at item new next → next ≡ Some n → (n ≤ FAR) × IsToldBy all rest n new
told_after_item all rest at (Code line) old new next n within told reads is =
    let same : min (at + line_size at line.statement) FAR ≡ n = cc (reads.1, is) in
    (omega arith, subst (λ m. IsToldBy all rest m new) same (told_after_line all rest at line old new within told reads.0))
told_after_item all rest at End old new next n within told reads is = absurd (cc (reads.1, is))
told_after_item all rest at (Class line) old new next n within told reads is = told_after_same all rest at old new next n within told reads is
told_after_item all rest at (Field line) old new next n within told reads is = told_after_same all rest at old new next n within told reads is
told_after_item all rest at (Method line) old new next n within told reads is = told_after_same all rest at old new next n within told reads is
told_after_item all rest at (Catch line) old new next n within told reads is = told_after_same all rest at old new next n within told reads is

-- the same of any line
pub told_after_reading : (all rest : List CodeLine) (at : ℕ) (reading : LineReading) (old new : Labels) (next : Option ℕ) (n : ℕ) → at ≤ FAR
    → IsToldBy all (with_reading reading rest) at old → Reads old at reading new next → next ≡ Some n → (n ≤ FAR) × IsToldBy all rest n new
told_after_reading all rest at Empty old new next n within told reads is = told_after_same all rest at old new next n within told reads is
told_after_reading all rest at (Short item) old new next n within told reads is = told_after_item all rest at item old new next n within told reads is
told_after_reading all rest at (Long item) old new next n within told reads is = told_after_item all rest at item old new next n within told reads is
told_after_reading all rest at Bad old new next n within told reads is = told_after_same all rest at old new next n within told reads is

-- no line is left
pub told_all : (all : List CodeLine) (at : ℕ) (table : Labels) → IsToldBy all [] at table → IsLabelsOf all table
told_all all at table told label = known_from_near (label_place 0 all label) (known table label) (sym (told label ∙ or_none (known table label)))

-- ---- The labels that were met.

or_some : (o p : Option ℕ) → is_some (option_or o p) ≡ (is_some o || is_some p)
or_some None p = refl
or_some (Some x) p = refl

if_some : (b : Bool) (at : ℕ) → is_some (if b then Some at else None) ≡ b
if_some true at = refl
if_some false at = refl

-- a label has a place after one more line where it had one, or is that of the line
pub has_place-push : (at : ℕ) (codes : List CodeLine) (line : CodeLine) (label : List ℕ)
    → is_some (label_place at (codes ++ line ∷ []) label) ≡ (is_some (label_place at codes label) || is_label line.label label)
has_place-push at codes line label = rw (label_place-push at codes line label, or_some, if_some) refl

or_false : (b : Bool) → (b || false) ≡ b
or_false true = refl
or_false false = refl

-- a line without a label
pub seen_unlabelled : (codes : List CodeLine) (line : CodeLine) (seen : SeenLabels) → AreSeenOf codes seen → line.label ≡ None
    → AreSeenOf (codes ++ line ∷ []) seen
seen_unlabelled codes line seen are none label =
    are label ∙ sym (rw (has_place-push 0 codes line label, none) (or_false (is_some (label_place 0 codes label))))

-- a line whose label was met before
pub seen_again : (codes : List CodeLine) (line : CodeLine) (seen : SeenLabels) (own : List ℕ) → AreSeenOf codes seen → line.label ≡ Some own
    → has_label seen own ≡ true → AreSeenOf (codes ++ line ∷ []) seen
seen_again codes line seen own are is had label = elim (cases_Bool (bytes_eq own label)) [
  | inl same ↦
      let have : has_label seen label ≡ true = ap (λ bs. has_label seen bs) (sym ((bytes_eq-Decides own label).0 same)) ∙ had in
      let place : is_some (label_place 0 codes label) ≡ true = sym (are label) ∙ have in
      have ∙ sym (rw (has_place-push 0 codes line label, place) refl)
  | inr other ↦ are label ∙ sym (rw (has_place-push 0 codes line label, is, other) (or_false (is_some (label_place 0 codes label))))
]

or_cond : (b c : Bool) → cond c true b ≡ (b || c)
or_cond true true = refl
or_cond true false = refl
or_cond false true = refl
or_cond false false = refl

-- a line whose label is put to them
pub seen_new : (codes : List CodeLine) (line : CodeLine) (old new : SeenLabels) (own : List ℕ) → AreSeenOf codes old → line.label ≡ Some own
    → ((label : List ℕ) → has_label new label ≡ cond (bytes_eq own label) true (has_label old label)) → AreSeenOf (codes ++ line ∷ []) new
seen_new codes line old new own are is updates label =
    updates label
    ∙ or_cond (has_label old label) (bytes_eq own label)
    ∙ ap (λ b. b || bytes_eq own label) (are label)
    ∙ sym (rw (has_place-push 0 codes line label, is) refl)
