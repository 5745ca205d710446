-- Frames that are kept rise by and by: moves compose, and what fits a frame at a place fits it after a move too.
use Rattle.std.proofs.Common.{◌≡◌, ℕ, List, Option, Some, refl, sym, ◌∙◌, inl, inr, arith}
use Rattle.std.proofs.lemmas.Option.{same_Some}
use Rattle.jk_model_classes.specs.Classes.{AreOrdered}
use Rattle.jk_model_typing.specs.declared.frames.FrameType.{FrameType}
use Rattle.jk_model_typing.specs.FrameTypes.{FrameFits}
use Rattle.jk_model_typing.specs.Scopes.{CodeScope}
use Rattle.jk_model_typing.specs.Typing.{FrameAt, FitsAt}
use Rattle.type_verifier.specs.declared.ranges.LocalRange.{LocalRange}
use Rattle.type_verifier.specs.declared.tasks.Task.{Task}
use Rattle.type_verifier.specs.Progress.{AreFrames, Moves, Notes}
use Rattle.type_verifier.specs.Ranges.{IsWhole, IsWithin, RoseFrom}
use Rattle.type_verifier.specs.Tasks.{scope_in}
use Rattle.type_verifier.proofs.PartsOfLocals.{FitOutside-refl, FitOutside-trans, FitOutside-wider}
use Rattle.type_frames.proofs.OrderOfFrames.{FrameFits-refl, FrameFits-trans}

-- a place has one frame
pub FrameAt-one : (frames : List (Option FrameType)) (place : ℕ) (f g : FrameType) → FrameAt frames place f → FrameAt frames place g
    → f ≡ g
FrameAt-one frames place f g a b = same_Some f g (same_Some (Some f) (Some g) (sym a ∙ b))

pub RoseFrom-refl : (s : CodeScope) (f : FrameType) (r : LocalRange) → RoseFrom s f r f r
RoseFrom-refl s f r = record {
  within = (omega arith, omega arith);
  as_many = refl;
  outside = FitOutside-refl s.classes r.first r.end f.locals;
}

pub IsWhole-wider : (s : CodeScope) (q r : LocalRange) → IsWithin q r → IsWhole s q → IsWhole s r
IsWhole-wider s q r within whole = (omega (arith, within.0, whole.0), omega (arith, within.1, whole.1))

-- nothing has moved
pub Moves-refl : (task : Task) (frames : List (Option FrameType)) (work : Notes) → AreFrames task frames
    → Moves (scope_in task) frames work frames work
Moves-refl task frames work are = record {
  grows = λ place f at. (f, at, FrameFits-refl (scope_in task).classes f (are.sized place f at).usable);
  pending = λ place. inl refl;
  kept = λ place h. h;
  as_many = refl;
  noted = λ place f r at there. inr (f, r, at, there, RoseFrom-refl (scope_in task) f r);
  cost = omega arith;
}

module _ (s : CodeScope) (ordered : AreOrdered s.classes) where
  -- what fits the frame at a place
  pub FitsAt-below : (frames : List (Option FrameType)) (place : ℕ) (f g : FrameType) → FrameFits s.classes f g
      → FitsAt s frames place g → FitsAt s frames place f
  FitsAt-below frames place f g fits (h, at, above) = (h, at, FrameFits-trans s.classes ordered f g h fits above)

  pub FitsAt-moves : (old : List (Option FrameType)) (old_work : Notes) (new : List (Option FrameType)) (new_work : Notes)
      (place : ℕ) (f : FrameType) → Moves s old old_work new new_work → FitsAt s old place f → FitsAt s new place f
  FitsAt-moves old old_work new new_work place f moves (g, at, fits) = FitsAt-below new place f g fits (moves.grows place g at)

  pub RoseFrom-trans : (h : FrameType) (p : LocalRange) (g : FrameType) (q : LocalRange) (f : FrameType) (r : LocalRange)
      → RoseFrom s h p g q → RoseFrom s g q f r → RoseFrom s h p f r
  RoseFrom-trans h p g q f r before later = record {
    within = (omega (arith, before.within.0, later.within.0), omega (arith, before.within.1, later.within.1));
    as_many = before.as_many ∙ later.as_many;
    outside = FitOutside-trans s.classes ordered r.first r.end f.locals g.locals h.locals later.as_many later.outside
        (FitOutside-wider s.classes q r g.locals h.locals later.within before.outside);
  }

  pub Moves-trans : (a : List (Option FrameType)) (a_work : Notes) (b : List (Option FrameType)) (b_work : Notes)
      (c : List (Option FrameType)) (c_work : Notes) → Moves s a a_work b b_work → Moves s b b_work c c_work → Moves s a a_work c c_work
  Moves-trans a a_work b b_work c c_work first second = record {
    grows = λ place f at. FitsAt-moves b b_work c c_work place f second (first.grows place f at);
    pending = λ place. elim (second.pending place) [
      | inr there ↦ inr there
      | inl same ↦ elim (first.pending place) [
        | inl before ↦ inl (same ∙ before)
        | inr there ↦ inr (second.kept place there)
      ]
    ];
    kept = λ place h. second.kept place (first.kept place h);
    as_many = second.as_many ∙ first.as_many;
    noted = λ place f r at there. elim (second.noted place f r at there) [
      | inl whole ↦ inl whole
      | inr (g, q, at_g, at_q, later) ↦ elim (first.noted place g q at_g at_q) [
        | inl whole ↦ inl (IsWhole-wider s q r later.within whole)
        | inr (h, p, at_h, at_p, before) ↦ inr (h, p, at_h, at_p, RoseFrom-trans h p g q f r before later)
      ]
    ];
    cost = omega (arith, first.cost, second.cost);
  }
