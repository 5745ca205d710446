-- An instruction without cases is read as its bytes mean: what is read is what they mean, and what they mean is read.
use Rattle.std.proofs.Common.{◌≡◌, ℕ, ◌⊎◌, inl, inr, true, false, List, [], ◌∷◌, ◌++◌, Ok, Err, refl, sym, ap, ◌∙◌, arith}
use Rattle.std.proofs.lemmas.Bool.{false≢true, cases_Bool, eq-eqb, ne_eqb}
use Rattle.std.proofs.lemmas.Bool.Decides.{nat_tests, eqb_tells}
use Rattle.jk_model.specs.declared.instructions.Instr.{Instr}
use Rattle.jk_model.specs.declared.opcodes.TheConstants.{LDC_W}
use Rattle.jk_model.specs.Instructions as def
use Rattle.jk_model.specs.Instructions.{Format, Means, Refuses, plain, IsKind, IsFloatKind, WideFormat, WideMeans, WideRefuses, wide_format_of}
use Rattle.jk_opcodes.specs.declared.errors.Stop.{Stop}
use Rattle.jk_opcodes.specs.declared.errors.Stop.TheVariants as stops
use Rattle.jk_opcodes.specs.Errors.{stop_of}
use Rattle.jk_opcodes.specs.Plain.{Read, byte_constant_at, short_constant_at, byte_index_at, short_index_at, increment_at, jump_at, far_jump_at, interface_call_at, array_of_kind_at, many_dimensions_at, wide_increment_at, widened_at, wide_at, is_kind, is_float_kind}
use Rattle.byte_fields.specs.Layouts.{IsBytes}
use Rattle.jk_opcodes.proofs.OperandsReadBack.{u2_again, u4_again}
use Rattle.jk_opcodes.proofs.SameFormats.{same_wide_format}

-- what may stop an instruction of a format
abbrev pub StopsAt : Format → ℕ → List ℕ → Stop → Type 0
StopsAt format at after stops.CutInstruction = Unit {0}
StopsAt format at after stops.IllegalOpcode = Refuses format at after def.Fault.IllegalOpcode
StopsAt format at after stops.BadSwitch = Refuses format at after def.Fault.BadSwitch
StopsAt format at after stops.BadOperand = Refuses format at after def.Fault.BadOperand
StopsAt format at after stops.FloatOpcode = Refuses format at after def.Fault.FloatOpcode
StopsAt format at after stops.Subroutine = Refuses format at after def.Fault.Subroutine
StopsAt format at after stops.Monitor = Refuses format at after def.Fault.Monitor

-- what reading an instruction of a format may give
abbrev pub Sound : Format → ℕ → ℕ → List ℕ → Read → Type 0
Sound format at op after (Ok x) = (front : List ℕ) × Means format at op front x.0 × (after ≡ front ++ x.1)
Sound format at op after (Err stop) = StopsAt format at after stop

-- ---- Constants, indices and jumps.

pub byte_constant_sound : (at op : ℕ) (after : List ℕ) → Sound Format.ByteConstant at op after (byte_constant_at at after)
unfolding byte_constant_at
byte_constant_sound at op [] = tt
byte_constant_sound at op (n ∷ rest) = (n ∷ [], refl, refl)

pub byte_constant_again : (at op : ℕ) (front rest : List ℕ) (i : Instr) → Means Format.ByteConstant at op front i
    → byte_constant_at at (front ++ rest) ≡ Ok (i, rest)
unfolding byte_constant_at
byte_constant_again at op [] rest i h = absurd h
byte_constant_again at op (n ∷ []) rest i h = rw h refl
byte_constant_again at op (n ∷ m ∷ more) rest i h = absurd h

pub short_constant_sound : (at op : ℕ) (after : List ℕ) → Sound Format.ShortConstant at op after (short_constant_at at after)
unfolding short_constant_at
short_constant_sound at op [] = tt
short_constant_sound at op (m ∷ []) = tt
short_constant_sound at op (m ∷ n ∷ rest) = rw (u2_again m n rest) (m ∷ n ∷ [], refl, refl)

pub short_constant_again : (at op : ℕ) (front rest : List ℕ) (i : Instr) → Means Format.ShortConstant at op front i
    → short_constant_at at (front ++ rest) ≡ Ok (i, rest)
unfolding short_constant_at
short_constant_again at op [] rest i h = absurd h
short_constant_again at op (m ∷ []) rest i h = absurd h
short_constant_again at op (m ∷ n ∷ []) rest i h = rw (u2_again m n rest, h) refl
short_constant_again at op (m ∷ n ∷ other ∷ more) rest i h = absurd h

pub local_index_sound : (at op : ℕ) (after : List ℕ) → Sound Format.LocalIndex at op after (byte_index_at at op after)
unfolding byte_index_at
local_index_sound at op [] = tt
local_index_sound at op (n ∷ rest) = (n ∷ [], refl, refl)

pub local_index_again : (at op : ℕ) (front rest : List ℕ) (i : Instr) → Means Format.LocalIndex at op front i
    → byte_index_at at op (front ++ rest) ≡ Ok (i, rest)
unfolding byte_index_at
local_index_again at op [] rest i h = absurd h
local_index_again at op (n ∷ []) rest i h = rw h refl
local_index_again at op (n ∷ other ∷ more) rest i h = absurd h

pub byte_pool_index_sound : (at op : ℕ) (after : List ℕ) → Sound Format.BytePoolIndex at op after (byte_index_at at LDC_W after)
unfolding byte_index_at
byte_pool_index_sound at op [] = tt
byte_pool_index_sound at op (n ∷ rest) = (n ∷ [], refl, refl)

pub byte_pool_index_again : (at op : ℕ) (front rest : List ℕ) (i : Instr) → Means Format.BytePoolIndex at op front i
    → byte_index_at at LDC_W (front ++ rest) ≡ Ok (i, rest)
unfolding byte_index_at
byte_pool_index_again at op [] rest i h = absurd h
byte_pool_index_again at op (n ∷ []) rest i h = rw h refl
byte_pool_index_again at op (n ∷ other ∷ more) rest i h = absurd h

pub pool_index_sound : (at op : ℕ) (after : List ℕ) → Sound Format.PoolIndex at op after (short_index_at at op after)
unfolding short_index_at
pool_index_sound at op [] = tt
pool_index_sound at op (m ∷ []) = tt
pool_index_sound at op (m ∷ n ∷ rest) = rw (u2_again m n rest) (m ∷ n ∷ [], refl, refl)

pub pool_index_again : (at op : ℕ) (front rest : List ℕ) (i : Instr) → Means Format.PoolIndex at op front i
    → short_index_at at op (front ++ rest) ≡ Ok (i, rest)
unfolding short_index_at
pool_index_again at op [] rest i h = absurd h
pool_index_again at op (m ∷ []) rest i h = absurd h
pool_index_again at op (m ∷ n ∷ []) rest i h = rw (u2_again m n rest, h) refl
pool_index_again at op (m ∷ n ∷ other ∷ more) rest i h = absurd h

pub increment_sound : (at op : ℕ) (after : List ℕ) → Sound Format.Increment at op after (increment_at at op after)
unfolding increment_at
increment_sound at op [] = tt
increment_sound at op (m ∷ []) = tt
increment_sound at op (m ∷ n ∷ rest) = (m ∷ n ∷ [], refl, refl)

pub increment_again : (at op : ℕ) (front rest : List ℕ) (i : Instr) → Means Format.Increment at op front i
    → increment_at at op (front ++ rest) ≡ Ok (i, rest)
unfolding increment_at
increment_again at op [] rest i h = absurd h
increment_again at op (m ∷ []) rest i h = absurd h
increment_again at op (m ∷ n ∷ []) rest i h = rw h refl
increment_again at op (m ∷ n ∷ other ∷ more) rest i h = absurd h

pub jump_sound : (at op : ℕ) (after : List ℕ) → Sound Format.Jump at op after (jump_at at op after)
unfolding jump_at
jump_sound at op [] = tt
jump_sound at op (m ∷ []) = tt
jump_sound at op (m ∷ n ∷ rest) = rw (u2_again m n rest) (m ∷ n ∷ [], refl, refl)

pub jump_again : (at op : ℕ) (front rest : List ℕ) (i : Instr) → Means Format.Jump at op front i → jump_at at op (front ++ rest) ≡ Ok (i, rest)
unfolding jump_at
jump_again at op [] rest i h = absurd h
jump_again at op (m ∷ []) rest i h = absurd h
jump_again at op (m ∷ n ∷ []) rest i h = rw (u2_again m n rest, h) refl
jump_again at op (m ∷ n ∷ other ∷ more) rest i h = absurd h

pub far_jump_sound : (at op : ℕ) (after : List ℕ) → Sound Format.FarJump at op after (far_jump_at at after)
unfolding far_jump_at
far_jump_sound at op [] = tt
far_jump_sound at op (k ∷ []) = tt
far_jump_sound at op (k ∷ l ∷ []) = tt
far_jump_sound at op (k ∷ l ∷ m ∷ []) = tt
far_jump_sound at op (k ∷ l ∷ m ∷ n ∷ rest) = rw (u4_again k l m n rest) (k ∷ l ∷ m ∷ n ∷ [], refl, refl)

pub far_jump_again : (at op : ℕ) (front rest : List ℕ) (i : Instr) → Means Format.FarJump at op front i → far_jump_at at (front ++ rest) ≡ Ok (i, rest)
unfolding far_jump_at
far_jump_again at op [] rest i h = absurd h
far_jump_again at op (k ∷ []) rest i h = absurd h
far_jump_again at op (k ∷ l ∷ []) rest i h = absurd h
far_jump_again at op (k ∷ l ∷ m ∷ []) rest i h = absurd h
far_jump_again at op (k ∷ l ∷ m ∷ n ∷ []) rest i h = rw (u4_again k l m n rest, h) refl
far_jump_again at op (k ∷ l ∷ m ∷ n ∷ other ∷ more) rest i h = absurd h

-- ---- Operands that are judged.

interface_call_long : (at op m n count last : ℕ) (more : List ℕ)
    → Sound Format.InterfaceCall at op (m ∷ n ∷ count ∷ last ∷ more) (interface_call_at at op (m ∷ n ∷ count ∷ last ∷ more))
unfolding interface_call_at
interface_call_long at op m n count last more =
    elim (eqb_tells count 0) [
      | inl none ↦ rw (u2_again m n (count ∷ last ∷ more), none.0) (inl none.1, refl)
      | inr some ↦ elim (eqb_tells last 0) [
        | inl zero ↦ rw (u2_again m n (count ∷ last ∷ more), some.0, zero.0) (m ∷ n ∷ count ∷ last ∷ [], (some.1, zero.1, refl), refl)
        | inr other ↦ rw (u2_again m n (count ∷ last ∷ more), some.0, other.0) (inr other.1, refl)
      ]
    ]

pub interface_call_sound : (at op : ℕ) (after : List ℕ) → Sound Format.InterfaceCall at op after (interface_call_at at op after)
unfolding interface_call_at
interface_call_sound at op [] = tt
interface_call_sound at op (m ∷ []) = tt
interface_call_sound at op (m ∷ n ∷ []) = tt
interface_call_sound at op (m ∷ n ∷ count ∷ []) =
    elim (eqb_tells count 0) [
      | inl none ↦ rw none.0 (none.1, refl)
      | inr some ↦ rw some.0 tt
    ]
interface_call_sound at op (m ∷ n ∷ count ∷ last ∷ more) = interface_call_long at op m n count last more

pub interface_call_again : (at op : ℕ) (front rest : List ℕ) (i : Instr) → Means Format.InterfaceCall at op front i
    → interface_call_at at op (front ++ rest) ≡ Ok (i, rest)
unfolding interface_call_at
interface_call_again at op [] rest i h = absurd h
interface_call_again at op (m ∷ []) rest i h = absurd h
interface_call_again at op (m ∷ n ∷ []) rest i h = absurd h
interface_call_again at op (m ∷ n ∷ count ∷ []) rest i h = absurd h
interface_call_again at op (m ∷ n ∷ count ∷ last ∷ []) rest i h =
    rw (u2_again m n (count ∷ last ∷ rest), ne_eqb count 0 h.0, eq-eqb last 0 h.1, h.2) refl
interface_call_again at op (m ∷ n ∷ count ∷ last ∷ other ∷ more) rest i h = absurd h

pub interface_call_refused : (at op : ℕ) (after : List ℕ) (f : def.Fault) → Refuses Format.InterfaceCall at after f
    → interface_call_at at op after ≡ Err (stop_of f)
unfolding interface_call_at
interface_call_refused at op [] f h = absurd h
interface_call_refused at op (m ∷ []) f h = absurd h
interface_call_refused at op (m ∷ n ∷ []) f h = absurd h
interface_call_refused at op (m ∷ n ∷ count ∷ []) f h = rw (eq-eqb count 0 h.0, h.1) refl
interface_call_refused at op (m ∷ n ∷ count ∷ last ∷ more) f h =
    elim (eqb_tells count 0) [
      | inl none ↦ rw (u2_again m n (count ∷ last ∷ more), none.0, h.1) refl
      | inr some ↦ elim (h.0) [
        | inl none ↦ absurd (some.1 none)
        | inr other ↦ rw (u2_again m n (count ∷ last ∷ more), some.0, ne_eqb last 0 other, h.1) refl
      ]
    ]

pub many_dimensions_sound : (at op : ℕ) (after : List ℕ) → Sound Format.ManyDimensions at op after (many_dimensions_at at op after)
unfolding many_dimensions_at
many_dimensions_sound at op [] = tt
many_dimensions_sound at op (m ∷ []) = tt
many_dimensions_sound at op (m ∷ n ∷ []) = tt
many_dimensions_sound at op (m ∷ n ∷ dims ∷ rest) =
    elim (eqb_tells dims 0) [
      | inl none ↦ rw (u2_again m n (dims ∷ rest), none.0) (none.1, refl)
      | inr some ↦ rw (u2_again m n (dims ∷ rest), some.0) (m ∷ n ∷ dims ∷ [], (some.1, refl), refl)
    ]

pub many_dimensions_again : (at op : ℕ) (front rest : List ℕ) (i : Instr) → Means Format.ManyDimensions at op front i
    → many_dimensions_at at op (front ++ rest) ≡ Ok (i, rest)
unfolding many_dimensions_at
many_dimensions_again at op [] rest i h = absurd h
many_dimensions_again at op (m ∷ []) rest i h = absurd h
many_dimensions_again at op (m ∷ n ∷ []) rest i h = absurd h
many_dimensions_again at op (m ∷ n ∷ dims ∷ []) rest i h = rw (u2_again m n (dims ∷ rest), ne_eqb dims 0 h.0, h.1) refl
many_dimensions_again at op (m ∷ n ∷ dims ∷ other ∷ more) rest i h = absurd h

pub many_dimensions_refused : (at op : ℕ) (after : List ℕ) (f : def.Fault) → Refuses Format.ManyDimensions at after f
    → many_dimensions_at at op after ≡ Err (stop_of f)
unfolding many_dimensions_at
many_dimensions_refused at op [] f h = absurd h
many_dimensions_refused at op (m ∷ []) f h = absurd h
many_dimensions_refused at op (m ∷ n ∷ []) f h = absurd h
many_dimensions_refused at op (m ∷ n ∷ dims ∷ more) f h = rw (u2_again m n (dims ∷ more), eq-eqb dims 0 h.0, h.1) refl

-- ---- Kinds of arrays.

pub record AllowedKind (k : ℕ) : Type 0 where
  pub kind : IsKind k
  pub tested : is_kind k ≡ true

pub record FloatKind (k : ℕ) : Type 0 where
  pub kind : IsFloatKind k
  pub other : is_kind k ≡ false
  pub tested : is_float_kind k ≡ true

pub record NoKind (k : ℕ) : Type 0 where
  pub kind : IsKind k → ⊥
  pub float : IsFloatKind k → ⊥
  pub other : is_kind k ≡ false
  pub tested : is_float_kind k ≡ false

is_kind_yes : (k : ℕ) → IsKind k → is_kind k ≡ true
is_kind_yes k h = grind (arith, nat_tests)

is_kind_says : (k : ℕ) → is_kind k ≡ true → IsKind k
is_kind_says k h = grind (arith, nat_tests)

is_float_kind_yes : (k : ℕ) → IsFloatKind k → is_float_kind k ≡ true
is_float_kind_yes k h = grind (arith, nat_tests)

is_float_kind_says : (k : ℕ) → is_float_kind k ≡ true → IsFloatKind k
is_float_kind_says k h = grind (arith, nat_tests)

not_both : (k : ℕ) → IsFloatKind k → is_kind k ≡ false
not_both k h = grind (arith, nat_tests)

kind_cases : (k : ℕ) → AllowedKind k ⊎ (FloatKind k ⊎ NoKind k)
kind_cases k =
    elim (cases_Bool (is_kind k)) [
      | inl holds ↦ inl record { kind = is_kind_says k holds; tested = holds }
      | inr fails ↦ elim (cases_Bool (is_float_kind k)) [
        | inl holds ↦ inr (inl record { kind = is_float_kind_says k holds; other = fails; tested = holds })
        | inr none ↦ inr (inr record {
          kind = λ h. false≢true (sym fails ∙ is_kind_yes k h);
          float = λ h. false≢true (sym none ∙ is_float_kind_yes k h);
          other = fails;
          tested = none;
        })
      ]
    ]

pub array_of_kind_sound : (at op : ℕ) (after : List ℕ) → Sound Format.ArrayOfKind at op after (array_of_kind_at at op after)
unfolding array_of_kind_at
array_of_kind_sound at op [] = tt
array_of_kind_sound at op (k ∷ rest) =
    elim (kind_cases k) [
      | inl a ↦ rw a.tested (k ∷ [], (a.kind, refl), refl)
      | inr (inl f) ↦ rw (f.other, f.tested) (inl (f.kind, refl))
      | inr (inr n) ↦ rw (n.other, n.tested) (inr (n.kind, n.float, refl))
    ]

pub array_of_kind_again : (at op : ℕ) (front rest : List ℕ) (i : Instr) → Means Format.ArrayOfKind at op front i
    → array_of_kind_at at op (front ++ rest) ≡ Ok (i, rest)
unfolding array_of_kind_at
array_of_kind_again at op [] rest i h = absurd h
array_of_kind_again at op (k ∷ []) rest i h = rw (is_kind_yes k h.0, h.1) refl
array_of_kind_again at op (k ∷ other ∷ more) rest i h = absurd h

pub array_of_kind_refused : (at op : ℕ) (after : List ℕ) (f : def.Fault) → Refuses Format.ArrayOfKind at after f
    → array_of_kind_at at op after ≡ Err (stop_of f)
unfolding array_of_kind_at
array_of_kind_refused at op [] f h = absurd h
array_of_kind_refused at op (k ∷ more) f h =
    elim h [
      | inl float ↦ rw (not_both k float.0, is_float_kind_yes k float.0, float.1) refl
      | inr none ↦ elim (kind_cases k) [
        | inl a ↦ absurd (none.0 a.kind)
        | inr (inl g) ↦ absurd (none.1 g.kind)
        | inr (inr n) ↦ rw (n.other, n.tested, none.2) refl
      ]
    ]

-- ---- After wide.

abbrev WideStops : WideFormat → Stop → Type 0
WideStops format stops.CutInstruction = Unit {0}
WideStops format stops.IllegalOpcode = WideRefuses format def.Fault.IllegalOpcode
WideStops format stops.BadSwitch = WideRefuses format def.Fault.BadSwitch
WideStops format stops.BadOperand = WideRefuses format def.Fault.BadOperand
WideStops format stops.FloatOpcode = WideRefuses format def.Fault.FloatOpcode
WideStops format stops.Subroutine = WideRefuses format def.Fault.Subroutine
WideStops format stops.Monitor = WideRefuses format def.Fault.Monitor

abbrev WideSound : WideFormat → ℕ → ℕ → List ℕ → Read → Type 0
WideSound format at op after (Ok x) = (front : List ℕ) × WideMeans format at op front x.0 × (after ≡ front ++ x.1)
WideSound format at op after (Err stop) = WideStops format stop

wide_local_sound : (at op : ℕ) (after : List ℕ) → WideSound WideFormat.WideLocal at op after (short_index_at at op after)
unfolding short_index_at
wide_local_sound at op [] = tt
wide_local_sound at op (m ∷ []) = tt
wide_local_sound at op (m ∷ n ∷ rest) = rw (u2_again m n rest) (m ∷ n ∷ [], refl, refl)

wide_increment_sound : (at op : ℕ) (after : List ℕ) → WideSound WideFormat.WideIncrement at op after (wide_increment_at at op after)
unfolding wide_increment_at
wide_increment_sound at op [] = tt
wide_increment_sound at op (k ∷ []) = tt
wide_increment_sound at op (k ∷ l ∷ []) = tt
wide_increment_sound at op (k ∷ l ∷ m ∷ []) = tt
wide_increment_sound at op (k ∷ l ∷ m ∷ n ∷ rest) =
    rw (u2_again k l (m ∷ n ∷ rest), u2_again m n rest) (k ∷ l ∷ m ∷ n ∷ [], refl, refl)

widened_sound : (format : WideFormat) (at op : ℕ) (after : List ℕ) → WideSound format at op after (widened_at format at op after)
widened_sound WideFormat.WideLocal at op after = wide_local_sound at op after
widened_sound WideFormat.WideIncrement at op after = wide_increment_sound at op after
widened_sound WideFormat.WideFloat at op after = refl
widened_sound WideFormat.WideSubroutine at op after = refl
widened_sound WideFormat.NotWide at op after = refl

after_wide : (at op widened : ℕ) (rest : List ℕ) (r : Read) → WideSound (wide_format_of widened) at widened rest r
    → Sound Format.Wide at op (widened ∷ rest) r
after_wide at op widened rest (Ok x) (front, means, e) = (widened ∷ front, means, ap (λ (xs : List ℕ). widened ∷ xs) e)
after_wide at op widened rest (Err stops.CutInstruction) h = tt
after_wide at op widened rest (Err stops.IllegalOpcode) h = h
after_wide at op widened rest (Err stops.BadSwitch) h = h
after_wide at op widened rest (Err stops.BadOperand) h = h
after_wide at op widened rest (Err stops.FloatOpcode) h = h
after_wide at op widened rest (Err stops.Subroutine) h = h
after_wide at op widened rest (Err stops.Monitor) h = h

pub wide_sound : (at op : ℕ) (after : List ℕ) → IsBytes after → Sound Format.Wide at op after (wide_at at after)
unfolding wide_at
wide_sound at op [] fits = tt
wide_sound at op (widened ∷ rest) fits =
    rw (same_wide_format widened (fits 0)) (after_wide at op widened rest (widened_at (wide_format_of widened) at widened rest)
    (widened_sound (wide_format_of widened) at widened rest))

widened_again : (format : WideFormat) (at op : ℕ) (front rest : List ℕ) (i : Instr) → WideMeans format at op front i
    → widened_at format at op (front ++ rest) ≡ Ok (i, rest)
unfolding short_index_at wide_increment_at
widened_again WideFormat.WideLocal at op [] rest i h = absurd h
widened_again WideFormat.WideLocal at op (m ∷ []) rest i h = absurd h
widened_again WideFormat.WideLocal at op (m ∷ n ∷ []) rest i h = rw (u2_again m n rest, h) refl
widened_again WideFormat.WideLocal at op (m ∷ n ∷ other ∷ more) rest i h = absurd h
widened_again WideFormat.WideIncrement at op [] rest i h = absurd h
widened_again WideFormat.WideIncrement at op (k ∷ []) rest i h = absurd h
widened_again WideFormat.WideIncrement at op (k ∷ l ∷ []) rest i h = absurd h
widened_again WideFormat.WideIncrement at op (k ∷ l ∷ m ∷ []) rest i h = absurd h
widened_again WideFormat.WideIncrement at op (k ∷ l ∷ m ∷ n ∷ []) rest i h =
    rw (u2_again k l (m ∷ n ∷ rest), u2_again m n rest, h) refl
widened_again WideFormat.WideIncrement at op (k ∷ l ∷ m ∷ n ∷ other ∷ more) rest i h = absurd h
widened_again WideFormat.WideFloat at op front rest i h = absurd h
widened_again WideFormat.WideSubroutine at op front rest i h = absurd h
widened_again WideFormat.NotWide at op front rest i h = absurd h

pub wide_again : (at op : ℕ) (front rest : List ℕ) (i : Instr) → IsBytes (front ++ rest) → Means Format.Wide at op front i
    → wide_at at (front ++ rest) ≡ Ok (i, rest)
unfolding wide_at
wide_again at op [] rest i fits h = absurd h
wide_again at op (widened ∷ front) rest i fits h =
    rw (same_wide_format widened (fits 0)) (widened_again (wide_format_of widened) at widened front rest i h)

widened_refused : (format : WideFormat) (at op : ℕ) (after : List ℕ) (f : def.Fault) → WideRefuses format f → widened_at format at op after ≡ Err (stop_of f)
widened_refused WideFormat.WideLocal at op after f h = absurd h
widened_refused WideFormat.WideIncrement at op after f h = absurd h
widened_refused WideFormat.WideFloat at op after f h = rw h refl
widened_refused WideFormat.WideSubroutine at op after f h = rw h refl
widened_refused WideFormat.NotWide at op after f h = rw h refl

pub wide_refused : (at op : ℕ) (after : List ℕ) (f : def.Fault) → IsBytes after → Refuses Format.Wide at after f → wide_at at after ≡ Err (stop_of f)
unfolding wide_at
wide_refused at op [] f fits h = absurd h
wide_refused at op (widened ∷ rest) f fits h =
    rw (same_wide_format widened (fits 0)) (widened_refused (wide_format_of widened) at widened rest f h)
