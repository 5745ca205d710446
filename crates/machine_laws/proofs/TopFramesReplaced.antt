-- The top frame of a segment is replaced by one of the same method that initialises what it initialises: what holds of the frames in a row.
use Rattle.std.proofs.Common.{List, [], ◌∷◌, ◌++◌}
use Rattle.std.specs.List.{AllByRecursion}
use Rattle.jk_model_domains.specs.Objects.{NamedObject}
use Rattle.jk_model_frames.specs.Frames.{FrameState}
use Rattle.jk_model_sealing.specs.FittingFrames.{InitialisesWell}
use Rattle.jk_model_sealing.specs.SealedInsides.{Surroundings}
use Rattle.jk_model_sealing.specs.SealedRuns.{AreSealedFrames, IsAtHome, NamesKnown}
use Rattle.row_laws.proofs.FramesInARow.{LooksAlike, fit_replaced}

module _ {X : Type 0} (P : X → Type 0) where
  each_replaced_by : (xs : List X) (x y : X) → (P x → P y) → AllByRecursion P (xs ++ x ∷ []) → AllByRecursion P (xs ++ y ∷ [])
  each_replaced_by [] x y turn h = (turn h.0, tt)
  each_replaced_by (z ∷ xs) x y turn h = (h.0, each_replaced_by xs x y turn h.1)

-- what it is to initialise well, and to be at home, stays; its values are known
pub frames_replaced : (around : Surroundings) (heap : List NamedObject) (A B : FrameState → Type 0) (callers : List FrameState) (f g : FrameState)
    → LooksAlike f g → (InitialisesWell around.classes f → InitialisesWell around.classes g) → (IsAtHome around.table f → IsAtHome around.table g)
    → (NamesKnown around.caps heap f → NamesKnown around.caps heap g) → B g → AreSealedFrames around A heap (callers ++ f ∷ [])
    → AreSealedFrames around B heap (callers ++ g ∷ [])
frames_replaced around heap A B callers f g same initialise at_home known b h = record {
  fit = fit_replaced around.classes heap A B callers f g same b h.fit;
  initialise = each_replaced_by (InitialisesWell around.classes) callers f g initialise h.initialise;
  at_home = each_replaced_by (IsAtHome around.table) callers f g at_home h.at_home;
  known = each_replaced_by (NamesKnown around.caps heap) callers f g known h.known;
}
