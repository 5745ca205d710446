-- A text is assembled, or is refused at one line, and not both.
use Rattle.std.proofs.Common.{◌≡◌, ℕ, suc, ◌+◌, ◌<◌, ◌≤◌, ◌⊎◌, inl, inr, List, [], ◌∷◌, length, Some, Result, Ok, Err, IfOk, MatchResult, IsSome, refl, sym, ◌∙◌, ap, subst, arith, ◌==◌}
use Rattle.std.specs.List.{slice_split}
use Rattle.std.proofs.lemmas.List.Splits.{length-slice_split}
use Rattle.std.proofs.lemmas.List.Sums.{count_by-le-length}
use Rattle.std.proofs.lemmas.Bool.{cases_lt}
use Rattle.std.proofs.Math.Seq.{take-length}
use Rattle.jk_model.specs.declared.class_file.ClassFile.{ClassFile}
use Rattle.jk_model.specs.ClassFile.{IsClass, class_bytes}
use Rattle.asm_reader.specs.declared.items.LineReading.{LineReading}
use Rattle.asm_reader.specs.Readings.{AreReadings}
use Rattle.asm_reader.specs.Words.{text_lines}
use Rattle.asm_reader.proofs.OneReading.{one_reading}
use Rattle.jkasm.specs.declared.assembler.AsmError.{AsmError}
use Rattle.jkasm.specs.declared.assembler.AsmError.TheVariants as error
use Rattle.jkasm.specs.declared.class_builder.ClassBuilder.{ClassBuilder}
use Rattle.jkasm.specs.Assembled.{IsAssembled}
use Rattle.jkasm.specs.Constants.{needed_first}
use Rattle.jkasm.specs.GoodLines.{IsGoodLine, AreGoodBefore, IsComplete, EndsWell, IsFirstFaulty, IsRefusedAt}
use Rattle.jkasm.specs.Outline.{outline, items_of}
use Rattle.jkasm.specs.WholeText.{IsBuiltSoFar, SaysOutline}

-- ---- How many lines there are.

abbrev without_last : List (List ℕ) → List (List ℕ)
without_last [] = []
without_last ([] ∷ []) = []
without_last (line ∷ lines) = line ∷ without_last lines

no_more : (lines : List (List ℕ)) → length (without_last lines) ≤ length lines
no_more [] = omega arith
no_more ([] ∷ []) = omega arith
no_more ([] ∷ line ∷ lines) =
    let rest = no_more (line ∷ lines) in
    omega arith
no_more ((b ∷ bs) ∷ lines) =
    let rest = no_more lines in
    omega arith

few_lines : (text : List ℕ) → length (text_lines text) ≤ length text + 1
few_lines text =
    let parts = slice_split (λ b. b == 10) text in
    let same : text_lines text ≡ without_last parts = refl in
    omega (arith, ap length same, no_more parts, length-slice_split (λ b. b == 10) text, count_by-le-length (λ b. b == 10) text)

each_read : (lines : List (List ℕ)) (readings : List LineReading) → AreReadings lines readings → length readings ≡ length lines
each_read [] [] h = refl
each_read (line ∷ lines) (r ∷ readings) h =
    let rest = each_read lines readings h.1 in
    omega arith
each_read [] (r ∷ readings) h = absurd h
each_read (line ∷ lines) [] h = absurd h

pub few_readings : (text : List ℕ) (readings : List LineReading) → AreReadings (text_lines text) readings → length readings ≤ length text + 1
few_readings text readings h = omega (arith, each_read (text_lines text) readings h, few_lines text)

-- ---- After the last line.

module _ (readings : List LineReading) (b : ClassBuilder) (so : IsBuiltSoFar readings (length readings) b) where
  whole : outline (items_of readings) ≡ Some so.so_far
  whole = sym (ap (λ rs. outline (items_of rs)) (take-length readings)) ∙ so.outline_is

  pub ends_badly : (IsComplete so.so_far → ⊥) → IsFirstFaulty readings (suc (length readings))
  ends_badly bad = (
    length readings,
    refl,
    so.good,
    inr (
      refl,
      λ (o, is, complete).
          let same : o ≡ so.so_far = let e = sym is ∙ whole in cc in
          bad (subst IsComplete same complete),
    ),
  )

  pub assembled : (text bytes : List ℕ) (c : ClassFile) → AreReadings (text_lines text) readings → IsClass (class_bytes c) c
      → SaysOutline so.so_far (needed_first (length readings) readings) c → bytes ≡ class_bytes c → IsAssembled text bytes
  assembled text bytes c read is says e = record {
    readings = readings;
    read = read;
    good = so.good;
    outlined = so.so_far;
    outline_is = whole;
    line = says.line;
    class_is = says.class_is;
    ended = says.ended;
    class = c;
    is_class = rw e is;
    says = says.says;
  }

-- ---- One answer.

abbrev IsFault : List LineReading → ℕ → Type 0
IsFault readings i =
    ((i < length readings) × (IsGoodLine readings i → ⊥)) ⊎ ((i ≡ length readings) × (EndsWell readings → ⊥))

fault_within : (readings : List LineReading) (i : ℕ) → IsFault readings i → i ≤ length readings
fault_within readings i (inl h) = omega (arith, h.0)
fault_within readings i (inr h) = omega (arith, h.0)

first_only : (readings : List LineReading) (i j : ℕ) → AreGoodBefore readings j → IsFault readings i → IsFault readings j → i < j → ⊥
first_only readings i j good (inl h) other before = h.1 (good i before)
first_only readings i j good (inr h) other before = omega (arith, h.0, fault_within readings j other)

one_fault : (readings : List LineReading) (m n : ℕ) → IsFirstFaulty readings m → IsFirstFaulty readings n → m ≡ n
one_fault readings m n (i, e, before, fault) (j, f, first, other) =
    elim (cases_lt i j) [
      | inl less ↦ absurd (first_only readings i j first fault other less)
      | inr more ↦ elim (cases_lt j i) [
        | inl less ↦ absurd (first_only readings j i before other fault less)
        | inr no_more ↦ omega arith
      ]
    ]

one_line : (text : List ℕ) (m n : ℕ) → IsRefusedAt text m → IsRefusedAt text n → m ≡ n
one_line text m n (readings, read, faulty) (others, again, first) =
    let same : readings ≡ others = one_reading (text_lines text) readings others read again in
    one_fault readings m n faulty (rw same first)

not_both : (text bytes : List ℕ) (n : ℕ) → IsAssembled text bytes → IsRefusedAt text n → ⊥
not_both text bytes n a (readings, read, faulty) =
    let same : readings ≡ a.readings = one_reading (text_lines text) readings a.readings read a.read in
    at_fault (subst (λ rs. IsFirstFaulty rs n) same faulty)
  where
    at_fault : IsFirstFaulty a.readings n → ⊥
    at_fault (i, e, before, inl h) = h.1 (a.good i h.0)
    at_fault (i, e, before, inr h) =
        let said : IsSome a.outlined.class = rw a.class_is refl in
        h.1 (a.outlined, a.outline_is, (said, a.ended))

pub only_line : (text : List ℕ) (result : Result (List ℕ) AsmError) → IfOk result (λ bytes. IsAssembled text bytes)
    → ((n : ℕ) → result ≡ Err (error.Line n) → IsRefusedAt text n) → (n : ℕ) → IsRefusedAt text n
    → MatchResult result (λ bytes. ⊥) (λ e. (e ≡ error.Line n) ⊎ (e ≡ error.OutOfMemory))
only_line text (Ok bytes) good line n refused = not_both text bytes n good refused
only_line text (Err (error.Line m)) good line n refused = inl (ap error.Line (one_line text m n (line m refl) refused))
only_line text (Err error.OutOfMemory) good line n refused = inr refl
