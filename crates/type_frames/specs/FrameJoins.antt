-- The least frame that two frames fit, and what is asked of a frame of which a part alone is looked at.
use Rattle.std.specs.Prelude.{◌≡◌, ◌≢◌, ℕ, ◌<◌, ◌≤◌, ◌⊎◌, List, Some, length, slice_get}
use Rattle.std.specs.List.{AllByRecursion}
use Rattle.jk_model_classes.specs.declared.records.ClassRecord.{ClassRecord}
use Rattle.jk_model_typing.specs.declared.frames.VType.{VType}
use Rattle.jk_model_typing.specs.declared.frames.FrameType.{FrameType}
use Rattle.jk_model_typing.specs.FrameTypes.{Fits, EachFits, FrameFits, IsJoin, IsUsable}

-- both frames fit this one, and it fits each that both fit
pub record IsFrameJoin (classes : List ClassRecord) (a b c : FrameType) : Type 0 where
  pub left : FrameFits classes a c
  pub right : FrameFits classes b c
  pub least : (d : FrameType) → FrameFits classes a d → FrameFits classes b d → FrameFits classes c d

-- there is no frame that both fit
abbrev pub HaveNoJoin : List ClassRecord → FrameType → FrameType → Type 0
HaveNoJoin classes a b = (d : FrameType) → FrameFits classes a d → FrameFits classes b d → ⊥

-- outside of the places from `first` up to `end`, each type fits the one at its place
abbrev pub FitOutside : List ClassRecord → ℕ → ℕ → List VType → List VType → Type 0
FitOutside classes first end xs ys =
    (k : ℕ) (a b : VType) → slice_get xs k ≡ Some a → slice_get ys k ≡ Some b → (k < first) ⊎ (end ≤ k) → Fits classes a b

-- ---- The parts of a frame.

-- at this place stands the least type that the one there and this one fit, and elsewhere what stood there
pub record IsRaisedAt (classes : List ClassRecord) (i : ℕ) (from : VType) (old new : List VType) : Type 0 where
  pub length : length new ≡ length old
  pub here : (a b : VType) → slice_get old i ≡ Some a → slice_get new i ≡ Some b → IsJoin classes a from b
  pub others : (k : ℕ) → k ≢ i → slice_get new k ≡ slice_get old k

-- the least list whose entries the ones at their places fit, all of which can be used
pub record IsStackJoin (classes : List ClassRecord) (a b c : List VType) : Type 0 where
  pub left : EachFits classes a c
  pub right : EachFits classes b c
  pub usable : AllByRecursion IsUsable c
  pub least : (d : List VType) → EachFits classes a d → EachFits classes b d → EachFits classes c d

-- there is no stack that both fit, each entry of which can be used
abbrev pub HaveNoStack : List ClassRecord → List VType → List VType → Type 0
HaveNoStack classes a b = (d : List VType) → EachFits classes a d → EachFits classes b d → AllByRecursion IsUsable d → ⊥
