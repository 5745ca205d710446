-- What a segment keeps where a throwable unwinds it: the domain stays sealed, the frames that are left fit, classes are in progress by the
-- frames that initialise them, and no more chunks are used.
use Rattle.std.proofs.Common.{◌≡◌, ℕ, ◌+◌, ◌≤◌, List, [], ◌∷◌, ◌++◌, sym, ap, subst, ◌∙◌, arith}
use Rattle.std.specs.List.{AllByRecursion}
use Rattle.std.proofs.lemmas.List.Sums.{sum_by-append, sum_by-cons}
use Rattle.jk_model.specs.declared.identifiers.ClassId.{ClassId}
use Rattle.jk_model.specs.declared.identifiers.ThreadNo.{ThreadNo}
use Rattle.jk_model_classes.specs.declared.records.Caught.{Caught}
use Rattle.jk_model_classes.specs.declared.records.ClassRecord.{ClassRecord}
use Rattle.jk_model_frames.specs.Frames.{FrameState, frames_chunks, head_chunks}
use Rattle.jk_model_domains.specs.Objects.{NamedObject, Plain}
use Rattle.jk_model_heaps.specs.declared.shapes.Unwound.{Unwound}
use Rattle.jk_model_heaps.specs.declared.shapes.Unwound.TheVariants as Ended
use Rattle.jk_model_heaps.specs.Workings.{Run, Setting}
use Rattle.jk_model_sealing.specs.ClassesInProgress.{initialises, progress_by}
use Rattle.jk_model_sealing.specs.FittingFrames.{FitsAsTop, InitialisesWell}
use Rattle.jk_model_sealing.specs.SealedInsides.{Surroundings}
use Rattle.jk_model_sealing.specs.SealedRuns.{AreSealedFrames, IsAtHome, NamesKnown}
use Rattle.jk_model_unwinding.specs.Unwinding.{Catches, IsCaughtIn, Unwinds, at_handler}
use Rattle.heap_laws.proofs.StillFits.{frames_sealed, meets_raise}
use Rattle.heap_laws.specs.ClassesInProgress.{AreInProgress, count_initialisers}
use Rattle.heap_laws.specs.RaisableObjects.{IsThrowable, MayMeetRaise}
use Rattle.heap_laws.specs.RunningFrames.{IsKnownSetting}
use Rattle.heap_laws.specs.SoundCodes.{AreSoundCodes}
use Rattle.row_laws.specs.UnwoundFrames.{KeepsUnwound, MayUnwind}
use Rattle.row_laws.proofs.BrokenClasses.{one_if}
use Rattle.row_laws.proofs.ClassesLeft.{classes_left}
use Rattle.row_laws.proofs.UnwindingFramesLeft.{frames_left}
use Rattle.row_laws.proofs.HandlersFit.{frame_may, front_fit, handler_fits, MayCatch}

-- ---- Frames below one that catches, and the others.

count_in : (d : ClassId) (lower upper : List FrameState) (f : FrameState)
    → count_initialisers d (lower ++ f ∷ upper) ≡ count_initialisers d lower + (one_if (initialises d f) + count_initialisers d upper)
count_in d lower upper f =
    omega (
      arith,
      sum_by-append (λ (g : FrameState). one_if (initialises d g)) lower (f ∷ upper),
      sum_by-cons (λ (g : FrameState). one_if (initialises d g)) f upper,
    )

chunks_in : (lower upper : List FrameState) (f : FrameState)
    → frames_chunks (lower ++ f ∷ upper) ≡ frames_chunks lower + (head_chunks f.head + frames_chunks upper)
chunks_in lower upper f =
    omega (
      arith,
      sum_by-append (λ (g : FrameState). head_chunks g.head) lower (f ∷ upper),
      sum_by-cons (λ (g : FrameState). head_chunks g.head) f upper,
    )

-- what holds of each frame holds of each where the last one of some is replaced and the others are gone
front_all : (P : FrameState → Type 0) (lower upper : List FrameState) (f g : FrameState) → (P f → P g) → AllByRecursion P (lower ++ f ∷ upper)
    → AllByRecursion P (lower ++ g ∷ [])
front_all P [] upper f g turn h = (turn h.0, tt)
front_all P (k ∷ lower) upper f g turn h = (h.0, front_all P lower upper f g turn h.1)

module _ (around : Surroundings) (x : Setting) (known : IsKnownSetting around x) where
  catcher_fits : (heap : List NamedObject) (f : FrameState) (h : Caught) (a : ℕ) → IsThrowable around.classes heap a → Catches x heap f a h
      → MayCatch around.classes heap f → FitsAsTop around.classes heap (at_handler f h a)
  catcher_fits heap f h a throws catches may =
      let back = sym known.classes in
      subst (λ (cs : List ClassRecord). FitsAsTop cs heap (at_handler f h a)) known.classes
      (handler_fits x (subst AreSoundCodes back known.codes) heap f h a (subst (λ (cs : List ClassRecord). IsThrowable cs heap a) back throws) catches
      (subst (λ (cs : List ClassRecord). MayCatch cs heap f) back may))

  caught_sealed : (heap : List NamedObject) (lower upper : List FrameState) (f : FrameState) (h : Caught) (a : ℕ)
      → IsThrowable around.classes heap a → Catches x heap f a h
      → AreSealedFrames around (MayMeetRaise around.classes heap) heap (lower ++ f ∷ upper)
      → AreSealedFrames around (FitsAsTop around.classes heap) heap (lower ++ at_handler f h a ∷ [])
  caught_sealed heap lower upper f h a throws catches sealed =
      let g : FrameState = at_handler f h a in
      record {
        fit = front_fit around.classes heap lower upper f h a
            (catcher_fits heap f h a throws catches (frame_may around.classes heap lower upper f sealed.fit)) sealed.fit;
        initialise = front_all (InitialisesWell around.classes) lower upper f g (λ well. well) sealed.initialise;
        at_home = front_all (IsAtHome around.table) lower upper f g (λ home. home) sealed.at_home;
        known = front_all (NamesKnown around.caps heap) lower upper f g (λ names. (names.0, ((Plain throws.0 throws.1, throws.2), tt))) sealed.known;
      }

  module _ (t : ThreadNo) (old new : Run) (a : ℕ) (may : MayUnwind around x old a) (in_progress : AreInProgress t old) where
    uncaught_kept : (b : ℕ) → Unwinds x old a (Ended.Uncaught b) new → KeepsUnwound around x t old new (Ended.Uncaught b)
    uncaught_kept b (leaves, none) =
        let left = frames_left around x known old.frames old.inside new.inside a b may.sealed.inside may.throwable leaves in
        let counts = classes_left x t old.frames old.inside new.inside a b in_progress leaves in
        record {
          inside = left.inside;
          fits = (none, left.thrown);
          progress = record {
            own = λ d.
                let gone : count_initialisers d new.frames ≡ 0 = ap (count_initialisers d) none in
                omega (arith, gone, counts.own d);
            others = counts.others;
          };
          fewer = let gone : frames_chunks new.frames ≡ 0 = ap frames_chunks none in omega (arith, gone);
        }

    caught_kept : IsCaughtIn x old a new → KeepsUnwound around x t old new Ended.Caught
    caught_kept c =
        let all : (d : ClassId) → count_initialisers d old.frames
        ≡ count_initialisers d c.lower + (one_if (initialises d c.catcher) + count_initialisers d c.upper) =
        λ d. ap (count_initialisers d) c.are_frames ∙ count_in d c.lower c.upper c.catcher in
        let fewer : (d : ClassId) → count_initialisers d c.upper ≤ progress_by t old.inside.own d = λ d. omega (arith, in_progress d, all d) in
        let left = frames_left around x known c.upper old.inside new.inside a c.met may.sealed.inside may.throwable c.leaves in
        let counts = classes_left x t c.upper old.inside new.inside a c.met fewer c.leaves in
        let there = subst (AreSealedFrames around (MayMeetRaise around.classes old.inside.heap) old.inside.heap) c.are_frames may.sealed.frames in
        let now = frames_sealed old.inside.heap new.inside.heap left.inside.grown (MayMeetRaise around.classes old.inside.heap)
        (MayMeetRaise around.classes new.inside.heap) (meets_raise old.inside.heap new.inside.heap left.inside.grown around.classes) around
        (c.lower ++ c.catcher ∷ c.upper) there in
        record {
          inside = left.inside;
          fits = subst (AreSealedFrames around (FitsAsTop around.classes new.inside.heap) new.inside.heap) (sym c.left)
              (caught_sealed new.inside.heap c.lower c.upper c.catcher c.handler c.met left.thrown c.catches now);
          progress = record {
            own = λ d.
                let after : count_initialisers d new.frames ≡ count_initialisers d c.lower + (one_if (initialises d c.catcher) + 0) =
                ap (count_initialisers d) c.left ∙ count_in d c.lower [] (at_handler c.catcher c.handler c.met) in
                omega (arith, after, all d, counts.own d);
            others = counts.others;
          };
          fewer =
              let before : frames_chunks old.frames ≡ frames_chunks c.lower + (head_chunks c.catcher.head + frames_chunks c.upper) =
              ap frames_chunks c.are_frames ∙ chunks_in c.lower c.upper c.catcher in
              let after : frames_chunks new.frames ≡ frames_chunks c.lower + (head_chunks c.catcher.head + 0) =
              ap frames_chunks c.left ∙ chunks_in c.lower [] (at_handler c.catcher c.handler c.met) in
              omega (arith, before, after);
        }

    pub unwound_kept : (unwound : Unwound) → Unwinds x old a unwound new → KeepsUnwound around x t old new unwound
    unwound_kept Ended.Caught c = caught_kept c
    unwound_kept (Ended.Uncaught b) u = uncaught_kept b u
