-- The operand stack and the locals of a frame: one that is set, and one that is named twice.
use Rattle.std.proofs.Common.{◌≡◌, ℕ, ℤ, pos, List, set, refl}
use Rattle.jk_model.specs.declared.values.Value.{Value}
use Rattle.jk_model.specs.declared.values.Value.TheVariants.{Int, Long, Null, Obj, Cap, Unset}
use Rattle.jk_model_frames.specs.Frames.{FrameState}
use Rattle.jk_model_domains.specs.NumberRows.{with_value}

-- a frame with this stack
abbrev pub with_stack : FrameState → List Value → FrameState
with_stack f stack = record f { stack = stack }

pub same_index : (a : ℤ) (n k : ℕ) → a ≡ pos n → a ≡ pos k → n ≡ k
same_index a n k e f = cc

pub short_value : (ls : List Value) (k : ℕ) (v : Value) → ((n : ℤ) → v ≡ Long n → ⊥) → with_value ls k v ≡ set ls k v
short_value ls k (Long n) short = absurd (short n refl)
short_value ls k (Int n) short = refl
short_value ls k Null short = refl
short_value ls k (Obj a) short = refl
short_value ls k (Cap c) short = refl
short_value ls k Unset short = refl
