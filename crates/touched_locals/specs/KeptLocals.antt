-- The locals of a code that are kept, as a list in their order, and instructions that name them by their places in it.
use Rattle.std.specs.Prelude.{◌≡◌, ℕ, ◌+◌, ◌-◌, ◌<◌, ◌≤◌, ◌⊎◌, Bool, true, false, pos, suc, ℤ, IsTrue, List, [], ◌∷◌, ◌++◌, length, replicate, Some, slice_get}
use Rattle.jk_model.specs.declared.instructions.Instr.{Instr}
use Rattle.touched_locals.specs.Narrowing.{names_local}

-- each is greater than those before it; they are from the first number on, and below the second
abbrev pub IsRising : ℕ → List ℕ → ℕ → Type 0
IsRising from [] to = from ≤ to
IsRising from (n ∷ kept) to = (from ≤ n) × IsRising (suc n) kept to

-- of so many locals these are kept, and so many first ones are among them
pub record AreKeptLocals (first count : ℕ) (kept : List ℕ) : Type 0 where
  pub rising : IsRising 0 kept count
  pub firsts : (n : ℕ) → n < first → slice_get kept n ≡ Some n

-- the marks of locals from this number on, up to the last number
abbrev pub marks_from : ℕ → List ℕ → ℕ → List Bool
marks_from from [] to = replicate (to - from) false
marks_from from (n ∷ kept) to = replicate (n - from) false ++ true ∷ marks_from (suc n) kept to

-- a local is kept under this number, and those beside it are kept too
pub record IsTouchedAmong (kept : List ℕ) (count local k : ℕ) : Type 0 where
  pub here : slice_get kept k ≡ Some local
  pub before : (m : ℕ) → suc m ≡ local → (j : ℕ) × (slice_get kept j ≡ Some m)
  pub after : local + 1 < count → (j : ℕ) × (slice_get kept j ≡ Some (local + 1))

abbrev pub IsOperandBy : List ℕ → ℕ → Instr → ℤ → Type 0
IsOperandBy kept count i a =
    ((names_local i.op ≡ false) × (a ≡ i.a))
    ⊎ (IsTrue (names_local i.op) × ((local : ℕ) × (k : ℕ) × (i.a ≡ pos local) × IsTouchedAmong kept count local k × (a ≡ pos k)))

abbrev pub IsRenamedBy : List ℕ → ℕ → Instr → Instr → Type 0
IsRenamedBy kept count i j = (a : ℤ) × IsOperandBy kept count i a × (j ≡ record i { a = a })

pub record AreRenamedBy (kept : List ℕ) (count : ℕ) (instrs renamed : List Instr) : Type 0 where
  pub as_many : length renamed ≡ length instrs
  pub each : (place : ℕ) (i j : Instr) → slice_get instrs place ≡ Some i → slice_get renamed place ≡ Some j → IsRenamedBy kept count i j
