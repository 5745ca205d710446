-- The top frame of a segment has as many locals as its head says.
use Rattle.std.proofs.Common.{List, [], ◌∷◌, ◌++◌, subst}
use Rattle.std.specs.List.{AllByRecursion}
use Rattle.jk_model.specs.declared.identifiers.SegmentNo.{SegmentNo}
use Rattle.jk_model.proofs.EachItem.{all_back, all_front}
use Rattle.jk_model_frames.specs.Frames.{FrameState}
use Rattle.frame_store.specs.FrameContents.{FrameContent, IsContent, IsSized, TopFrame}

-- what holds of each item holds of those before the last one, and of that one
module _ {X : Type 0} (P : X → Type 0) where
  all-pop : (xs : List X) (y : X) → AllByRecursion P (xs ++ y ∷ []) → AllByRecursion P xs × P y
  all-pop xs y h = (all_front P xs (y ∷ []) h, (all_back P xs (y ∷ []) h).0)

pub top_sized : (c : FrameContent) (s : SegmentNo) (f : FrameState) → IsContent c → TopFrame c s f → IsSized f
top_sized c s f content top =
    let sized = content.sized s top.segment top.is_there in
    (all-pop IsSized top.lower f (subst (λ (l : List FrameState). AllByRecursion IsSized l) top.frames sized)).1
