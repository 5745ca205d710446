-- Entries on top of the operand stack of a segment's top frame: which stand there, and what is made of them.
use Rattle.std.specs.Prelude.{◌≡◌, ℕ, ◌-◌, ◌<◌, ⊤, List, [], ◌∷◌, ◌++◌, length, Some, slice_get}
use Rattle.jk_model.specs.declared.identifiers.SegmentNo.{SegmentNo}
use Rattle.jk_model.specs.declared.values.Value.{Value}
use Rattle.jk_model.specs.declared.values.Value.TheVariants as Held
use Rattle.jk_model_frames.specs.Frames.{FrameState}
use Rattle.frame_store.specs.FrameContents.{FrameContent, SetsTop, TopFrame}

-- This value has so many above it.
pub record StandsBelow (c : FrameContent) (s : SegmentNo) (above : ℕ) (v : Value) : Type 0 where
  pub frame : FrameState
  pub top : TopFrame c s frame
  pub within : above < length frame.stack
  pub at : slice_get frame.stack (length frame.stack - 1 - above) ≡ Some v

-- null or the name of an object
abbrev pub IsNullOrName : Value → Type 0
IsNullOrName Held.Null = ⊤
IsNullOrName (Held.Obj a) = ⊤
IsNullOrName v = ⊥

-- There are so many entries.
pub record HasEntries (c : FrameContent) (s : SegmentNo) (count : ℕ) : Type 0 where
  pub frame : FrameState
  pub top : TopFrame c s frame
  pub below : List Value
  pub entries : List Value
  pub stack : frame.stack ≡ below ++ entries
  pub many : length entries ≡ count

-- so many entries are taken off, and nothing else changes
abbrev pub TakesOff : FrameContent → FrameContent → SegmentNo → ℕ → Type 0
TakesOff old new s count =
    (f : FrameState) (below taken : List Value) → TopFrame old s f → f.stack ≡ below ++ taken → length taken ≡ count
    → SetsTop old new s (record f { stack = below })

-- so many entries are taken off and a value is pushed, and nothing else changes
abbrev pub PutsFor : FrameContent → FrameContent → SegmentNo → ℕ → Value → Type 0
PutsFor old new s count v =
    (f : FrameState) (below taken : List Value) → TopFrame old s f → f.stack ≡ below ++ taken → length taken ≡ count
    → SetsTop old new s (record f { stack = below ++ v ∷ [] })
