-- Where the top frame of a segment stands, as it is looked up by its head.
use Rattle.std.proofs.Common.{◌≡◌, false, List, Option, Some, None, is_some, option_map, refl, sym, ap, subst, ◌∙◌}
use Rattle.std.specs.Prelude.{IfSome}
use Rattle.jk_model.specs.declared.frames.FrameHead.{FrameHead}
use Rattle.jk_model.specs.declared.identifiers.ClassId.{ClassId}
use Rattle.jk_model.specs.declared.identifiers.SegmentNo.{SegmentNo}
use Rattle.jk_model_classes.specs.declared.records.ClassRecord.{ClassRecord}
use Rattle.jk_model_frames.specs.Frames.{FrameState}
use Rattle.frame_store.specs.FrameContents.{FrameContent, TopFrame}
use Rattle.step_contents.specs.PlacesInCode.{PlaceInCode}
use Rattle.step_contents.specs.StandingFrames.{IsPlaceOf, place_of}
use Rattle.step_contents.specs.declared.places.StandsAt.{StandsAt}
use Rattle.step_contents.specs.StandingTops.{StandsThere}

pub none_there : (o : Option ClassId) → is_some o ≡ false → o ≡ None
none_there None e = refl
none_there (Some c) e = absurd cc

pub stood : (frames : FrameContent) (classes : List ClassRecord) (s : SegmentNo) (f : FrameState) → TopFrame frames s f → (head : FrameHead)
    → head ≡ f.head → head.need ≡ None → (o : Option StandsAt) → IsPlaceOf classes head (option_map place_of o)
    → IfSome o (λ (at : StandsAt). StandsThere frames classes s (place_of at))
stood frames classes s f top head is none None place = tt
stood frames classes s f top head is none (Some at) place = record {
  frame = f;
  top = top;
  head = place.0 ∙ is;
  no_need = ap (λ (h : FrameHead). h.need) place.0 ∙ none;
  place = place.1;
}

-- it stands there by its head as it is looked up again
pub stands_again : (frames : FrameContent) (classes : List ClassRecord) (s : SegmentNo) (f : FrameState) → TopFrame frames s f
    → f.head.need ≡ None → (at : PlaceInCode) → IsPlaceOf classes f.head (Some at) → (head : FrameHead) → head ≡ f.head
    → StandsThere frames classes s (record at { head = head })
stands_again frames classes s f top none at place head is =
    subst (λ (h : FrameHead). StandsThere frames classes s (record at { head = h })) (place.0 ∙ sym is)
    (record { frame = f; top = top; head = place.0; no_need = ap (λ (h : FrameHead). h.need) place.0 ∙ none; place = place.1 })
