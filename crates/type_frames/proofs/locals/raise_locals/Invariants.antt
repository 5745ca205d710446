-- The places passed are joined, and the others are as before.
use Rattle.std.proofs.Common.{◌≡◌, ◌<◌, false, IsTrue, List, length}
use Rattle.jk_model_typing.specs.declared.frames.VType.{VType}
use Rattle.jk_model_typing.specs.FrameTypes.{EachFits}
use Rattle.type_frames.specs.FrameJoins.{FitOutside}
use Rattle.type_frames.specs.Heights.{heights}
use Rattle.type_frames.proofs.locals.raise_locals.Given as goal

abbrev pub invariant-loop-i : goal.invariant-loop-i
invariant-loop-i l = record {
  within : length l.into ≡ length l.from;
  left : EachFits l.t l.initial.into l.into;
  least : (d : List VType) → EachFits l.t l.initial.into d → EachFits l.t l.from d → EachFits l.t l.into d;
  outside : FitOutside l.t l.i l.end l.from l.into;
  same : l.changed ≡ false → l.into ≡ l.initial.into;
  falls : IsTrue l.changed → heights l.t l.into < heights l.t l.initial.into;
}
