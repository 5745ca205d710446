-- What fits locals outside of a range fits those above them too, and what a frame of a code fits is a frame of it.
use Rattle.std.proofs.Common.{◌≡◌, ℕ, ◌+◌, List, Some, sym, ap, ◌∙◌, arith}
use Rattle.jk_model_classes.specs.declared.records.ClassRecord.{ClassRecord}
use Rattle.jk_model_classes.specs.declared.records.LinkedCode.{LinkedCode}
use Rattle.jk_model_classes.specs.Classes.{AreOrdered}
use Rattle.jk_model_typing.specs.declared.frames.VType.{VType}
use Rattle.jk_model_typing.specs.declared.frames.VType.TheVariants.{Unusable, Long}
use Rattle.jk_model_typing.specs.declared.frames.FrameType.{FrameType}
use Rattle.jk_model_typing.specs.FrameTypes.{Fits, EachFits, FrameFits, IsFrameOf}
use Rattle.type_frames.specs.FrameJoins.{FitOutside}
use Rattle.type_frames.proofs.OrderOfTypes.{Fits-trans, Fits-unusable}
use Rattle.type_frames.proofs.OrderOfFrames.{EachFits-length, EachFits-left_at, EachFits-right_at, EachFits-slots}

-- outside of a range, what fits locals fits those above them
pub FitOutside-above : (classes : List ClassRecord) → AreOrdered classes → (first end : ℕ) (xs ys zs : List VType)
    → FitOutside classes first end xs ys → EachFits classes ys zs → FitOutside classes first end xs zs
FitOutside-above classes ordered first end xs ys zs out above k a c ea ec outside =
    let (b, eb, bc) = EachFits-left_at classes ys zs k c above ec in
    Fits-trans classes ordered a b c (out k a b ea eb outside) bc

-- only a long fits a long
Fits-long : (classes : List ClassRecord) (a : VType) → Fits classes a Long → a ≡ Long
Fits-long classes Long h = h
Fits-long classes a h = h

pub IsFrameOf-above : (classes : List ClassRecord) (code : LinkedCode) (f g : FrameType) → IsFrameOf code f → FrameFits classes f g
    → IsFrameOf code g
IsFrameOf-above classes code f g sized fits = record {
  locals = sym (EachFits-length classes f.locals g.locals fits.locals) ∙ sized.locals;
  stack = omega (arith, EachFits-slots classes f.stack g.stack fits.stack fits.usable, sized.stack);
  usable = fits.usable;
  halves = λ n e.
      let (a, ea, fit) = EachFits-left_at classes f.locals g.locals n Long fits.locals e in
      let half = sized.halves n (ea ∙ ap Some (Fits-long classes a fit)) in
      let (b, eb, unusable) = EachFits-right_at classes f.locals g.locals (n + 1) Unusable fits.locals half in
      eb ∙ ap Some (Fits-unusable classes b unusable);
}
