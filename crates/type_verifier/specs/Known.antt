-- What is known of a leader's frame that rose since its place was looked at: outside of a range its locals fit those of a frame
-- that is settled there, and that the place's node has seen.
use Rattle.std.specs.Prelude.{◌≡◌, ◌≢◌, ℕ, ◌⊎◌, Bool, List, length, Option, Some, slice_get}
use Rattle.jk_model_typing.specs.declared.frames.FrameType.{FrameType}
use Rattle.jk_model_typing.specs.Scopes.{CodeScope}
use Rattle.jk_model_typing.specs.Typing.{FrameAt}
use Rattle.type_frames.specs.FrameJoins.{FitOutside}
use Rattle.type_verifier.specs.declared.ranges.LocalRange.{LocalRange}
use Rattle.type_verifier.specs.Covers.{LeafFits, Nodes}
use Rattle.type_verifier.specs.Ranges.{IsWhole}
use Rattle.type_verifier.specs.Settling.{Settles}

-- outside of the range the locals fit those of a frame that is settled at the place
pub record FitsSettled (s : CodeScope) (leads : List Bool) (frames : List (Option FrameType)) (place : ℕ) (f : FrameType) (r : LocalRange) : Type 0 where
  pub frame : FrameType
  pub settled : Settles s leads frames place frame
  pub as_many : length frame.locals ≡ length f.locals
  pub outside : FitOutside s.classes r.first r.end f.locals frame.locals

-- in a walk: the same, or the range has all locals
abbrev pub DiffersIn : CodeScope → List Bool → List (Option FrameType) → ℕ → FrameType → LocalRange → Type 0
DiffersIn s leads frames place f r = ((r.first ≡ 0) × (r.end ≡ length f.locals)) ⊎ FitsSettled s leads frames place f r

abbrev pub IsKnown : CodeScope → List Bool → List (Option FrameType) → Nodes → ℕ → FrameType → LocalRange → Type 0
IsKnown s leads frames nodes place f r =
    IsWhole s r
    ⊎ ((o : FitsSettled s leads frames place f r) × LeafFits s nodes place o.frame.locals o.frame.fresh)

-- of all frames, with the ranges that are noted for their places
abbrev pub AreKnown : CodeScope → List Bool → List (Option FrameType) → List LocalRange → Nodes → Type 0
AreKnown s leads frames rose nodes =
    (place : ℕ) (f : FrameType) (r : LocalRange) → FrameAt frames place f → slice_get rose place ≡ Some r
    → IsKnown s leads frames nodes place f r

-- of all frames but that at one place
abbrev pub AreKnownBut : CodeScope → List Bool → List (Option FrameType) → List LocalRange → Nodes → ℕ → Type 0
AreKnownBut s leads frames rose nodes but =
    (place : ℕ) (f : FrameType) (r : LocalRange) → place ≢ but → FrameAt frames place f → slice_get rose place ≡ Some r
    → IsKnown s leads frames nodes place f r
