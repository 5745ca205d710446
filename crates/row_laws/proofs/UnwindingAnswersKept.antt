-- Calls stay answered where a segment is unwound to a frame that catches.
use Rattle.std.proofs.Common.{ℕ, List, [], ◌∷◌, ◌++◌, sym, subst}
use Rattle.jk_model_classes.specs.declared.records.Caught.{Caught}
use Rattle.jk_model_classes.specs.declared.records.ClassRecord.{ClassRecord}
use Rattle.jk_model_frames.specs.Frames.{FrameState}
use Rattle.jk_model_heaps.specs.Workings.{Run, Setting}
use Rattle.jk_model_sealing.specs.AnsweringFrames.{EachAnswers, FramesAnswer}
use Rattle.jk_model_unwinding.specs.Unwinding.{IsCaughtIn, at_handler}

-- frames in front of others, the last of which stands at a handler now
front_answers : (classes : List ClassRecord) (lower upper : List FrameState) (f : FrameState) (h : Caught) (a : ℕ)
    → EachAnswers classes (lower ++ f ∷ upper) → EachAnswers classes (lower ++ at_handler f h a ∷ [])
front_answers classes [] upper f h a each = tt
front_answers classes (g ∷ []) upper f h a each = (each.0, tt)
front_answers classes (g ∷ k ∷ lower) upper f h a each = (each.0, front_answers classes (k ∷ lower) upper f h a each.1)

lowest_answers : (classes : List ClassRecord) (lower upper : List FrameState) (f : FrameState) (h : Caught) (a : ℕ)
    → FramesAnswer classes (lower ++ f ∷ upper) → FramesAnswer classes (lower ++ at_handler f h a ∷ [])
lowest_answers classes [] upper f h a (plain, each) = (plain, tt)
lowest_answers classes (g ∷ lower) upper f h a (plain, each) = (plain, front_answers classes (g ∷ lower) upper f h a each)

pub caught_answers : (classes : List ClassRecord) (x : Setting) (old new : Run) (a : ℕ) → FramesAnswer classes old.frames
    → IsCaughtIn x old a new → FramesAnswer classes new.frames
caught_answers classes x old new a answers c =
    subst (FramesAnswer classes) (sym c.left)
    (lowest_answers classes c.lower c.upper c.catcher c.handler c.met (subst (FramesAnswer classes) c.are_frames answers))
