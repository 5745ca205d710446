-- A code over some of its locals: the others are left out, and those that are kept are numbered anew, in their order.
use Rattle.std.specs.Prelude.{◌≡◌, ℕ, zero, suc, ◌<◌, ◌⊎◌, ◌==◌, ◌||◌, Bool, true, false, pos, IsTrue, List, [], ◌∷◌, ◌++◌, length, flat_map, map, Option, Some, option_map, slice_get}
use Rattle.jk_model.specs.declared.instructions.Instr.{Instr}
use Rattle.jk_model.specs.declared.opcodes.TheConstants.{ILOAD, LLOAD, ALOAD}
use Rattle.jk_model_classes.specs.declared.records.LinkedCode.{LinkedCode}
use Rattle.jk_model_typing.specs.declared.frames.VType.{VType}
use Rattle.jk_model_typing.specs.declared.frames.VType.TheVariants.{Unusable}
use Rattle.jk_model_typing.specs.declared.frames.FrameType.{FrameType}
use Rattle.jk_model_typing.specs.Scopes.{CodeScope, own_receiver, parameter_values}
use Rattle.jk_model_typing.specs.Typing.{as_locals, is_store}

-- ---- Marks: for each local of a code whether it is kept.

abbrev pub IsKept : List Bool → ℕ → Type 0
IsKept marks n = slice_get marks n ≡ Some true

abbrev pub kept_count : List Bool → ℕ
kept_count [] = 0
kept_count (true ∷ marks) = suc (kept_count marks)
kept_count (false ∷ marks) = kept_count marks

-- how many locals before this one are kept: the number of a kept local among those that are
abbrev pub rank : List Bool → ℕ → ℕ
rank [] n = 0
rank (m ∷ marks) zero = 0
rank (true ∷ marks) (suc n) = suc (rank marks n)
rank (false ∷ marks) (suc n) = rank marks n

-- the locals of the whole code, from those that are kept: in the others is nothing that could be used
abbrev pub widened : List Bool → List VType → List VType
widened [] vs = []
widened (false ∷ marks) vs = Unusable ∷ widened marks vs
widened (true ∷ marks) [] = Unusable ∷ widened marks []
widened (true ∷ marks) (v ∷ vs) = v ∷ widened marks vs

abbrev pub wide_frame : List Bool → FrameType → FrameType
wide_frame marks f = record f { locals = widened marks f.locals }

abbrev pub wide_frames : List Bool → List (Option FrameType) → List (Option FrameType)
wide_frames marks frames = map (option_map (wide_frame marks)) frames

-- ---- Instructions.

-- iload, lload, aload, istore, lstore, astore, iinc
abbrev pub names_local : ℕ → Bool
names_local op = op == ILOAD || op == LLOAD || op == ALOAD || is_store op

-- the local is kept, and so are those beside it: a store may cut a long that begins before it, and put the half of one after it
pub record IsTouched (marks : List Bool) (n : ℕ) : Type 0 where
  pub here : IsKept marks n
  pub before : (m : ℕ) → suc m ≡ n → IsKept marks m
  pub after : slice_get marks (suc n) ≡ Some false → ⊥

-- the same instruction, which names a local by its number among those that are kept
abbrev pub IsRenamed : List Bool → Instr → Instr → Type 0
IsRenamed marks i j =
    ((names_local i.op ≡ false) × (j ≡ i))
    ⊎ (IsTrue (names_local i.op) × ((n : ℕ) × (i.a ≡ pos n) × IsTouched marks n × (j ≡ record i { a = pos (rank marks n) })))

-- ---- Codes.

abbrev pub with_code : CodeScope → LinkedCode → CodeScope
with_code s code = record s { code = code }

-- the code over the kept locals. The receiver's and the parameters' are among them.
pub record IsNarrowed (s : CodeScope) (marks : List Bool) (code : LinkedCode) : Type 0 where
  pub marked : length marks ≡ s.code.max_locals
  pub locals : code.max_locals ≡ kept_count marks
  pub stack : code.max_stack ≡ s.code.max_stack
  pub handlers : code.handlers ≡ s.code.handlers
  pub as_many : length code.instrs ≡ length s.code.instrs
  pub each : (place : ℕ) (i j : Instr) → slice_get s.code.instrs place ≡ Some i → slice_get code.instrs place ≡ Some j → IsRenamed marks i j
  pub given : (n : ℕ) → n < length (own_receiver s ++ flat_map as_locals (parameter_values s s.method)) → n < length marks → IsKept marks n
