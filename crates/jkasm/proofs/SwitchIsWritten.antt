-- A switch is written right where its offsets are right, each place from FAR on counting as FAR.
use Rattle.std.proofs.Common.{◌≡◌, ℕ, ◌+◌, ◌*◌, ◌≤◌, ◌<◌, List, [], ◌∷◌, ◌++◌, Option, Some, None, IsSome, length, refl, sym, ap, ◌∙◌, arith, length-append, ℤ, pos, ◌-ℤ◌, min, append_assoc, take, get_or}
use Rattle.std.specs.Prelude.{map, flat_map, replicate, unwrap_or}
use Rattle.std.specs.Int.{w32, cast_unsigned}
use Rattle.std.proofs.Math.ListN.{length-replicate}
use Rattle.std.proofs.lemmas.List.{take_more, flat_map_more}
use Rattle.list_lemmas.proofs.EndsOfLists.{length_of_four as size_of_four}
use Rattle.jk_model.specs.declared.class_file.PoolEntry.{PoolEntry}
use Rattle.jk_model.specs.declared.opcodes.TheConstants.{LOOKUPSWITCH}
use Rattle.jk_model.specs.ClassFile.{u4}
use Rattle.jk_model.specs.Instructions.{gap}
use Rattle.jk_model.proofs.EachItem.{all_push}
use Rattle.asm_reader.specs.declared.items.CodeLine.{CodeLine}
use Rattle.asm_reader.specs.declared.items.Statement.TheVariants.{Switch}
use Rattle.asm_reader.specs.declared.items.SwitchLine.{SwitchLine}
use Rattle.jkasm.specs.CodePlaces.{place_after, label_place, IsOffset}
use Rattle.jkasm.specs.GoodLines.{AllStand}
use Rattle.jkasm.specs.Labels.{FAR}
use Rattle.jkasm.specs.LineWriting.{Writes}
use Rattle.jkasm.specs.OperandWriting.{DoStand, known_offset, offset_bytes, case_bytes, switch_bytes}
use Rattle.jkasm.specs.Written.{AreCasesWritten}
use Rattle.jkasm.proofs.InstructionIsWritten.{writes}
use Rattle.jkasm.proofs.PlacesWithinCode.{place_within}
use Rattle.jkasm.proofs.TakesInTurn.{takes_none}

-- ---- Part by part.

in_turn : (old op zeros first count table a b c d e : List ℕ) → a ≡ old ++ op → b ≡ a ++ zeros → c ≡ b ++ first → d ≡ c ++ count → e ≡ d ++ table
    → e ≡ old ++ (op ++ zeros ++ first ++ count ++ table)
in_turn old op zeros first count table a b c d e ha hb hc hd he = rw (he, hd, hc, hb, ha) (simp append_assoc)

pub switch_in_turn : (codes : List CodeLine) (at n : ℕ) (default : List ℕ) (cases : List SwitchLine) (old a b c d e : List ℕ) → n ≡ at
    → a ≡ old ++ LOOKUPSWITCH ∷ [] → b ≡ a ++ replicate (gap n) 0 → c ≡ b ++ offset_bytes codes n default → d ≡ c ++ u4 (length cases)
    → e ≡ d ++ flat_map (case_bytes codes n) cases → e ≡ old ++ switch_bytes codes at default cases
switch_in_turn codes at n default cases old a b c d e same ha hb hc hd he =
    rw (← same) (in_turn old (LOOKUPSWITCH ∷ []) (replicate (gap n) 0) (offset_bytes codes n default) (u4 (length cases)) (flat_map (case_bytes codes n) cases)
    a b c d e ha hb hc hd he)

-- the case that a loop is at
pub record IsCaseAt (cases : List SwitchLine) (i : ℕ) (c : SwitchLine) : Type 0 where
  pub within : i < length cases
  pub is : c ≡ get_or cases i c

one_more : (cases : List SwitchLine) (i : ℕ) (c : SwitchLine) → IsCaseAt cases i c → take (i + 1) cases ≡ take i cases ++ c ∷ []
one_more cases i c h = take_more cases i c h.within ∙ ap (λ (x : SwitchLine). take i cases ++ x ∷ []) (sym h.is)

-- a key and an offset were put after those of the cases before
pub case_in_turn : (codes : List CodeLine) (at : ℕ) (cases : List SwitchLine) (i : ℕ) (c : SwitchLine) (old before key new : List ℕ) → IsCaseAt cases i c
    → before ≡ old ++ flat_map (case_bytes codes at) (take i cases) → key ≡ before ++ u4 (cast_unsigned w32 c.key)
    → new ≡ key ++ offset_bytes codes at c.label → new ≡ old ++ flat_map (case_bytes codes at) (take (i + 1) cases)
case_in_turn codes at cases i c old before key new h hb hk hn =
    let glued : new ≡ before ++ case_bytes codes at c = rw (hn, hk) (append_assoc before (u4 (cast_unsigned w32 c.key)) (offset_bytes codes at c.label)) in
    rw (one_more cases i c h) (glued ∙ ap (λ (bs : List ℕ). bs ++ case_bytes codes at c) hb
    ∙ flat_map_more (case_bytes codes at) old (take i cases) c)

pub stands_too : (codes : List CodeLine) (cases : List SwitchLine) (i : ℕ) (c : SwitchLine) → IsCaseAt cases i c → DoStand codes (take i cases)
    → IsSome (label_place 0 codes c.label) → DoStand codes (take (i + 1) cases)
stands_too codes cases i c h stand there =
    rw (one_more cases i c h) (all_push (λ (x : SwitchLine). IsSome (label_place 0 codes x.label)) (take i cases) c stand there)

-- ---- What is known of a label's place is its place, in a code that isn't too long.

offset_at : (place : Option ℕ) (at : ℕ) → IsSome place → ((p : ℕ) → place ≡ Some p → p ≤ 65535)
    → (p : ℕ) × (place ≡ Some p) × (unwrap_or (known_offset at place) (pos 0) ≡ pos p -ℤ pos at)
offset_at None at there low = absurd cc
offset_at (Some p) at there low =
    let short = low p refl in
    let same : min p FAR ≡ p = omega (arith, short) in
    (p, refl, ap (λ (n : ℕ). pos n -ℤ pos at) same)

abbrev written_offset : List CodeLine → ℕ → List ℕ → ℤ
written_offset codes at label = unwrap_or (known_offset at (label_place 0 codes label)) (pos 0)

is_offset : (codes : List CodeLine) (at : ℕ) (label : List ℕ) → place_after 0 codes ≤ 65535 → IsSome (label_place 0 codes label)
    → IsOffset codes at label (written_offset codes at label)
is_offset codes at label short there =
    offset_at (label_place 0 codes label) at there (λ p is. let within = place_within 0 codes label p is in omega (arith, within, short))

cases_written : (codes : List CodeLine) (at : ℕ) (cases : List SwitchLine) → place_after 0 codes ≤ 65535 → DoStand codes cases
    → AreCasesWritten codes at cases (flat_map (case_bytes codes at) cases)
cases_written codes at [] short stand = refl
cases_written codes at (c ∷ cases) short stand = (
  written_offset codes at c.label,
  flat_map (case_bytes codes at) cases,
  is_offset codes at c.label short stand.0,
  cases_written codes at cases short stand.1,
  refl,
)

-- ---- Sizes.

cases_size : (codes : List CodeLine) (at : ℕ) (cases : List SwitchLine) → length (flat_map (case_bytes codes at) cases) ≡ 8 * length cases
cases_size codes at [] = refl
cases_size codes at (c ∷ cases) =
    let rest = cases_size codes at cases in
    let whole = length-append (case_bytes codes at c) (flat_map (case_bytes codes at) cases) in
    omega (arith, rest, whole)

switch_size : (codes : List CodeLine) (at : ℕ) (default : List ℕ) (cases : List SwitchLine)
    → length (switch_bytes codes at default cases) ≡ 9 + gap at + 8 * length cases
switch_size codes at default cases =
    let zeros : List ℕ = replicate (gap at) 0 in
    let zeros_size : length zeros ≡ gap at = length-replicate (gap at) 0 in
    let table_size = cases_size codes at cases in
    let whole = size_of_four (LOOKUPSWITCH ∷ zeros) (offset_bytes codes at default) (u4 (length cases)) (flat_map (case_bytes codes at) cases) in
    omega (arith, zeros_size, table_size, whole)

-- ---- All of it.

labels_stand : (codes : List CodeLine) (cases : List SwitchLine) → DoStand codes cases → AllStand codes (map (λ (c : SwitchLine). c.label) cases)
labels_stand codes [] h = tt
labels_stand codes (c ∷ cases) h = (h.0, labels_stand codes cases h.1)

pub cases_stand : (codes : List CodeLine) (cases : List SwitchLine) → AllStand codes (map (λ (c : SwitchLine). c.label) cases) → DoStand codes cases
cases_stand codes [] h = tt
cases_stand codes (c ∷ cases) h = (h.0, cases_stand codes cases h.1)

pub writes_switch : (codes : List CodeLine) (pool : List PoolEntry) (old new default : List ℕ) (cases : List SwitchLine)
    → length old + (9 + gap (length old) + 8 * length cases) ≤ 65535 → new ≡ old ++ switch_bytes codes (length old) default cases
    → IsSome (label_place 0 codes default) → DoStand codes cases → Writes codes pool pool old new (Some (Switch default cases))
writes_switch codes pool old new default cases room is there stand =
    let at = length old in
    writes codes pool pool old new (switch_bytes codes at default cases) (Switch default cases)
    (record { appended = is; size = switch_size codes at default cases; room = room })
    (record {
      right = λ short. (
        written_offset codes at default,
        flat_map (case_bytes codes at) cases,
        is_offset codes at default short there,
        cases_written codes at cases short stand,
        refl,
      );
    })
    (record { stand = (there, labels_stand codes cases stand); reach = tt }) (takes_none pool)
