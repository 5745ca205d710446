-- Ranges of locals: what is noted of them for places, and which locals may differ after an instruction.
use Rattle.std.specs.Prelude.{◌≡◌, ◌≢◌, ℕ, suc, ◌+◌, ◌<◌, ◌≤◌, ◌⊎◌, pos, IsTrue, List, length, min, Some, slice_get}
use Rattle.jk_model.specs.declared.instructions.Instr.{Instr}
use Rattle.jk_model.specs.declared.opcodes.TheConstants.{NEW, INVOKESPECIAL}
use Rattle.jk_model_typing.specs.declared.frames.FrameType.{FrameType}
use Rattle.jk_model_typing.specs.Scopes.{CodeScope}
use Rattle.jk_model_typing.specs.Typing.{is_store}
use Rattle.type_frames.specs.FrameJoins.{FitOutside}
use Rattle.type_verifier.specs.declared.ranges.LocalRange.{LocalRange}

-- all of the first are of the second
abbrev pub IsWithin : LocalRange → LocalRange → Type 0
IsWithin q r = (r.first ≤ q.first) × (q.end ≤ r.end)

abbrev pub IsOutside : LocalRange → ℕ → Type 0
IsOutside r k = (k < r.first) ⊎ (r.end ≤ k)

-- the locals of each frame of a code
abbrev pub IsWhole : CodeScope → LocalRange → Type 0
IsWhole s r = (r.first ≡ 0) × (s.code.max_locals ≤ r.end)

abbrev pub RangeAt : List LocalRange → ℕ → LocalRange → Type 0
RangeAt rose place r = (q : LocalRange) → slice_get rose place ≡ Some q → r ≡ q

pub record IsNoteAt (old : List LocalRange) (place : ℕ) (r : LocalRange) (new : List LocalRange) : Type 0 where
  pub as_many : length new ≡ length old
  pub here : (q : LocalRange) → slice_get new place ≡ Some q → (q ≡ r) × ((k : LocalRange) × (slice_get old place ≡ Some k))
  pub others : (p : ℕ) (q : LocalRange) → p ≢ place → slice_get new p ≡ Some q → slice_get old p ≡ Some q

-- as far as there are so many locals
abbrev pub IsClipped : LocalRange → ℕ → LocalRange → Type 0
IsClipped q count r = (r.first ≡ q.first) × (r.end ≡ min q.end count)

-- the locals of a frame that rose: outside of the range they fit what was there, and the range has all that was noted
pub record RoseFrom (s : CodeScope) (g : FrameType) (q : LocalRange) (f : FrameType) (r : LocalRange) : Type 0 where
  pub within : IsWithin q r
  pub as_many : length g.locals ≡ length f.locals
  pub outside : FitOutside s.classes r.first r.end f.locals g.locals

-- outside of the range after an instruction are only locals from outside of the range before it, and none that it may change
pub record IsLeft (i : Instr) (q : LocalRange) (count : ℕ) (r : LocalRange) : Type 0 where
  pub within : r.end ≤ count
  pub kept : (k : ℕ) → k < count → IsOutside r k → IsOutside q k
  pub whole : q.first ≡ 0 → q.end ≡ count → (r.first ≡ 0) × (r.end ≡ count)
  pub store : IsTrue (is_store i.op) → (n k : ℕ) → i.a ≡ pos n → k < count → IsOutside r k → (suc k < n) ⊎ (n + 1 < k)
  pub calls : (i.op ≡ NEW) ⊎ (i.op ≡ INVOKESPECIAL) → (r.first ≡ 0) × (r.end ≡ count)
