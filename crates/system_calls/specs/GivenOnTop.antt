-- What a method is given, on top of the operand stack of the frame that calls it, and what is put in its place.
use Rattle.std.specs.Prelude.{◌≡◌, ◌≤◌, ℕ, List, ◌++◌, length, Option, Result, Ok, Err}
use Rattle.jk_model.specs.declared.identifiers.SegmentNo.{SegmentNo}
use Rattle.jk_model.specs.declared.steps.After.{After}
use Rattle.jk_model.specs.declared.steps.After.TheVariants as Next
use Rattle.jk_model.specs.declared.steps.Raise.{Raise}
use Rattle.jk_model.specs.declared.values.Value.{Value}
use Rattle.jk_model_frames.specs.Frames.{FrameState}
use Rattle.jk_model_domains.specs.NumberRows.{IsOnTop}
use Rattle.jk_model_heaps.specs.CalledFrames.{as_entries}
use Rattle.jk_model_system_rows.specs.declared.meanings.SystemMeaning.{SystemMeaning}
use Rattle.jk_model_system_rows.specs.declared.meanings.SystemMeaning.TheVariants as Means
use Rattle.frame_store.specs.FrameContents.{FrameContent, SetsTop, TopFrame}

-- how many values a method of a meaning is given
abbrev pub given_count : SystemMeaning → ℕ
given_count Means.NamesDomain = 0
given_count Means.CountsFreeWords = 0
given_count Means.TerminatesDomain = 0
given_count Means.GetsTask = 0
given_count Means.IsSame = 2
given_count Means.CharAt = 2
given_count Means.IsSameText = 2
given_count Means.Concat = 2
given_count Means.BufferInitialisesWith = 2
given_count (Means.Appends shown) = 2
given_count (Means.Prints shown) = 2
given_count Means.SetsMessage = 2
given_count Means.BindsName = 2
given_count Means.Substring = 3
given_count Means.CopiesArray = 5
given_count meaning = 1

-- These values are on top of the segment's top frame.
pub record IsGiven (c : FrameContent) (s : SegmentNo) (given : List Value) : Type 0 where
  pub frame : FrameState
  pub top : TopFrame c s frame
  pub on_top : IsOnTop frame given

-- so many values are
abbrev pub HasGiven : FrameContent → SegmentNo → ℕ → Type 0
HasGiven c s count = (given : List Value) × IsGiven c s given × (length given ≡ count)

-- the stack has room for an answer, or none, in the place of so many values
abbrev pub HasRoomAfter : FrameContent → SegmentNo → ℕ → Option Value → Type 0
HasRoomAfter c s count answer =
    (f : FrameState) (below given : List Value) → TopFrame c s f → f.stack ≡ below ++ given → length given ≡ count
    → length (below ++ as_entries answer) ≤ f.head.max_stack

-- so many values are taken off, and nothing else changes
abbrev pub TakesOff : FrameContent → FrameContent → SegmentNo → ℕ → Type 0
TakesOff old new s count =
    (f : FrameState) (below given : List Value) → TopFrame old s f → f.stack ≡ below ++ given → length given ≡ count
    → SetsTop old new s (record f { stack = below })

-- an answer, or none, takes the place of so many values, and nothing else changes
abbrev pub PutsFor : FrameContent → FrameContent → SegmentNo → ℕ → Option Value → Type 0
PutsFor old new s count answer =
    (f : FrameState) (below given : List Value) → TopFrame old s f → f.stack ≡ below ++ given → length given ≡ count
    → SetsTop old new s (record f { stack = below ++ as_entries answer })

-- ---- By what a method answers.

-- the frame goes on at this place, or this is raised
abbrev pub next_after : ℕ → Result (Option Value) Raise → After
next_after n (Ok v) = Next.Goto n
next_after n (Err r) = Next.Raise r

-- the answer is in the place of what was given, or all is as it was
abbrev pub FramesAfter : FrameContent → FrameContent → SegmentNo → ℕ → Result (Option Value) Raise → Type 0
FramesAfter old new s count (Ok v) = PutsFor old new s count v
FramesAfter old new s count (Err r) = new ≡ old
