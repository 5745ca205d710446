-- A jump is written just if 16 bits reach its label: its offset is the only one, and a far place stays out of reach.
use Rattle.std.proofs.Common.{◌≡◌, ℕ, ◌+◌, ◌≤◌, List, ◌∷◌, ◌++◌, Option, Some, None, length, refl, sym, ap, ◌∙◌, arith, ℤ, pos, ◌-ℤ◌, min, inl, inr}
use Rattle.std.proofs.lemmas.Bool.{cases_lt}
use Rattle.std.proofs.lemmas.Int.{ints}
use Rattle.std.specs.Prelude.{FitsSigned}
use Rattle.std.specs.Int.{w16, cast_unsigned}
use mir.Val.{SFits}
use Rattle.jk_model.specs.declared.class_file.PoolEntry.{PoolEntry}
use Rattle.jk_model.specs.ClassFile.{u2}
use Rattle.asm_reader.specs.declared.items.CodeLine.{CodeLine}
use Rattle.asm_reader.specs.declared.items.Statement.TheVariants.{Jump}
use Rattle.jkasm.specs.CodePlaces.{label_place, IsOffset, IsShortOffset}
use Rattle.jkasm.specs.Labels.{FAR}
use Rattle.jkasm.specs.LineWriting.{Writes}
use Rattle.jkasm.specs.OperandWriting.{JumpsTo, known_offset}
use Rattle.jkasm.proofs.InstructionIsWritten.{writes}
use Rattle.jkasm.proofs.TakesInTurn.{takes_none}

capped_short : (place at : ℕ) → at ≤ 65535 → IsShortOffset (pos place -ℤ pos at) → IsShortOffset (pos (min place FAR) -ℤ pos at)
capped_short place at low h = elim (cases_lt place FAR) [
  | inl below ↦ let same : min place FAR ≡ place = omega arith in rw same h
  | inr far ↦ let high = h.1 in absurd (omega (arith, ints, high))
]

short_at : (place : Option ℕ) (at : ℕ) (offset : ℤ) → known_offset at place ≡ Some offset → at ≤ 65535
    → ((o : ℤ) → ((p : ℕ) × (place ≡ Some p) × (o ≡ pos p -ℤ pos at)) → IsShortOffset o) → IsShortOffset offset
short_at None at offset is low reach = absurd cc
short_at (Some place) at offset is low reach =
    let same : pos (min place FAR) -ℤ pos at ≡ offset = cc in
    rw (← same) (capped_short place at low (reach (pos place -ℤ pos at) (place, refl, refl)))

-- where all offsets to a label are short, the one that is known is
pub known_is_short : (codes : List CodeLine) (at : ℕ) (label : List ℕ) (offset : ℤ) → known_offset at (label_place 0 codes label) ≡ Some offset
    → at ≤ 65535 → ((o : ℤ) → IsOffset codes at label o → IsShortOffset o) → IsShortOffset offset
known_is_short codes at label offset is low reach = short_at (label_place 0 codes label) at offset is low reach

-- ---- The offsets of 16 bits are those that fit the code's number.

fits_short : (offset : ℤ) → FitsSigned w16 offset → IsShortOffset offset
fits_short offset fits = let f : SFits w16 offset = fits in (omega (arith, ints, f), omega (arith, ints, f))

short_fits : (offset : ℤ) → IsShortOffset offset → FitsSigned w16 offset
short_fits offset h = let low = h.0 in let high = h.1 in omega (arith, ints, low, high)

-- this is the offset that is known, from a place in a code that isn't too long
pub record IsRead (codes : List CodeLine) (at : ℕ) (label : List ℕ) (offset : ℤ) : Type 0 where
  pub low : at ≤ 65535
  pub known : known_offset at (label_place 0 codes label) ≡ Some offset

pub reads : (codes : List CodeLine) (at n : ℕ) (label : List ℕ) (o : Option ℤ) (offset : ℤ) → n ≡ at → at ≤ 65535
    → o ≡ known_offset n (label_place 0 codes label) → o ≡ Some offset → IsRead codes at label offset
reads codes at n label o offset same low is there = record { low = low; known = rw (← same) (sym is ∙ there) }

pub out_of_reach : (codes : List CodeLine) (at : ℕ) (label : List ℕ) (offset : ℤ) → IsRead codes at label offset
    → (FitsSigned w16 offset → ⊥) → ((o : ℤ) → IsOffset codes at label o → IsShortOffset o) → ⊥
out_of_reach codes at label offset h long reach = long (short_fits offset (known_is_short codes at label offset h.known h.low reach))

near_place : (place : Option ℕ) (at : ℕ) (offset : ℤ) → known_offset at place ≡ Some offset → at ≤ 65535 → IsShortOffset offset
    → (p : ℕ) × (place ≡ Some p) × (offset ≡ pos p -ℤ pos at)
near_place None at offset is low short = absurd cc
near_place (Some place) at offset is low short =
    let same : pos (min place FAR) -ℤ pos at ≡ offset = cc in
    elim (cases_lt place FAR) [
      | inl below ↦
          let here : min place FAR ≡ place = omega arith in
          (place, refl, sym same ∙ ap (λ (n : ℕ). pos n -ℤ pos at) here)
      | inr far ↦
          let here : min place FAR ≡ FAR = omega arith in
          let high = short.1 in
          absurd (omega (arith, ints, same, here, high))
    ]

pub in_reach : (codes : List CodeLine) (old new : List ℕ) (op : ℕ) (label : List ℕ) (read offset : ℤ) → IsRead codes (length old) label read
    → FitsSigned w16 read → offset ≡ read → new ≡ old ++ op ∷ u2 (cast_unsigned w16 offset) → JumpsTo codes (length old) old new op label
in_reach codes old new op label read offset h fits same is =
    let short = fits_short read fits in
    record {
      offset = offset;
      is_offset = rw same (near_place (label_place 0 codes label) (length old) read h.known h.low short);
      short = rw same short;
      appended = is;
    }

-- ---- Such a jump is written.

one_offset : (codes : List CodeLine) (at : ℕ) (label : List ℕ) (a b : ℤ) → IsOffset codes at label a → IsOffset codes at label b → a ≡ b
one_offset codes at label a b (p, there, is) (q, there2, is2) =
    let same : p ≡ q = cc in
    is ∙ ap (λ (n : ℕ). pos n -ℤ pos at) same ∙ sym is2

pub writes_jump : (codes : List CodeLine) (pool : List PoolEntry) (old new : List ℕ) (op : ℕ) (label : List ℕ) → length old + 3 ≤ 65535
    → JumpsTo codes (length old) old new op label → Writes codes pool pool old new (Some (Jump op label))
writes_jump codes pool old new op label room h =
    writes codes pool pool old new (op ∷ u2 (cast_unsigned w16 h.offset)) (Jump op label)
    (record { appended = h.appended; size = refl; room = room })
    (record { right = λ _. (h.offset, h.is_offset, h.short, refl) })
    (record {
      stand = (let there = h.is_offset.1 in rw there refl, tt);
      reach = λ o other. rw (one_offset codes (length old) label o h.offset other h.is_offset) h.short;
    })
    (takes_none pool)
