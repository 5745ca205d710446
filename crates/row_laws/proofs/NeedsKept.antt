-- A class that is needed: what is kept where a step touches it, meets it broken, or where the need falls.
use Rattle.std.proofs.Common.{inl, inr, ◌≡◌, ◌≢◌, ◌≤◌, List, [], ◌∷◌, ◌++◌, Option, Some, None, refl, sym, ap, subst, ◌∙◌, arith}
use Rattle.std.proofs.lemmas.Option.{none-some}
use Rattle.jk_model.specs.declared.frames.FrameHead.{FrameHead}
use Rattle.jk_model.specs.declared.identifiers.ClassId.{ClassId}
use Rattle.jk_model.specs.declared.identifiers.ThreadNo.{ThreadNo}
use Rattle.jk_model_domains.specs.declared.states.ClassState.TheVariants as State
use Rattle.jk_model_domains.specs.Objects.{NamedObject}
use Rattle.jk_model_domains.specs.OwnStates.{state_of}
use Rattle.jk_model_frames.specs.Frames.{FrameState, head_chunks, new_frame}
use Rattle.jk_model_heaps.specs.Workings.{Inside, Run, Setting}
use Rattle.jk_model_running.specs.Initialising.{FrameNeeds, IsInitialiserHead}
use Rattle.jk_model_running.specs.LocalSteps.{TopFrame, begun, with_top, without_need}
use Rattle.jk_model_running.specs.Ways.{GoesOn}
use Rattle.jk_model_sealing.specs.ClassesInProgress.{progress_by}
use Rattle.jk_model_sealing.specs.FittingFrames.{FitsAsTop, InitialisesWell}
use Rattle.jk_model_sealing.specs.SealedInsides.{Surroundings}
use Rattle.heap_laws.proofs.GrownHeaps.{grown_self}
use Rattle.heap_laws.proofs.SealedStill.{state_sealed}
use Rattle.heap_laws.proofs.StillFits.{names_known}
use Rattle.heap_laws.specs.KeptInsides.{KeepsInside}
use Rattle.row_laws.specs.KeptRuns.{ActsWell, KeepsRun, RunOn}
use Rattle.row_laws.proofs.ActingSegments.{fits_top, known_top, replaced, replaced_keeps, stand, stand_in}
use Rattle.row_laws.proofs.ClassesBegunAndEnded.{begun_others, begun_own}
use Rattle.row_laws.proofs.FramesInARow.{Stand, chunks_push, count_push, is_for, one_if, top_covered, top_fits}
use Rattle.row_laws.proofs.InitialisersFit.{initialiser_fits, initialiser_known}
use Rattle.row_laws.proofs.NeededClassesKnown.{needs_known}

module _ (around : Surroundings) (x : Setting) (t : ThreadNo) (old : Run) (acts : ActsWell around x t old) (top : TopFrame old) where
  -- ---- It is untouched, and its initialiser frame is put on top.

  module _ (class : ClassId) (needs : FrameNeeds around.classes top.frame class) (untouched : state_of old.inside.own class ≡ State.Untouched)
      (head : FrameHead) (is : IsInitialiserHead around.classes class head) where
    abbrev A : FrameState → Type 0
    A = FitsAsTop around.classes old.inside.heap

    initialises_some : head.initialises ≢ None
    initialises_some none = none-some class (sym none ∙ is.initialises)

    initialiser_stands : RunOn around (begun t old class head)
    initialiser_stands =
        subst (λ (fs : List FrameState). Stand around A old.inside.heap (fs ++ new_frame head ∷ [])) (sym top.are_frames)
        (top_covered around old.inside.heap A top.callers top.frame (stand around x t old acts top) A (new_frame head)
        (inl (initialises_some, fits_top around x t old acts top)) (inl initialises_some)
        (initialiser_fits around acts.setting.codes old.inside.heap class head is)
        (initialiser_known around acts.setting.codes old.inside.heap class head is acts.setting.table
        (needs_known around.classes around.table acts.setting.table.closed top.frame class (known_top around x t old acts top).at_home needs)))

    pub touched : head_chunks head ≤ x.chunks → KeepsRun around x t old (begun t old class head) GoesOn
    touched room = record {
      inside = record {
        sealed = state_sealed around x.quota old.inside acts.sealed.inside class (State.InProgress t);
        grown = grown_self old.inside.heap;
        tasks = λ a n has. inl has;
        pages = (refl, refl);
      };
      fits = initialiser_stands;
      progress = record {
        own = λ c.
            let one : one_if (is_for c head.initialises) ≡ one_if (is_for c (Some class)) =
            ap (λ (o : Option ClassId). one_if (is_for c o)) is.initialises in
            omega (arith, count_push c old.frames (new_frame head), one, begun_own t old.inside.own class untouched c);
        others = begun_others t old.inside.own class untouched;
      };
      chunks = omega (arith, chunks_push old.frames (new_frame head), room);
    }

  -- ---- The need falls, and the frame stays.

  -- what fits without its need
  stays_top : (heap : List NamedObject) (f : FrameState) → f.head.method ≢ None → FitsAsTop around.classes heap f
      → FitsAsTop around.classes heap (without_need f)
  stays_top heap f some (inl empty) = absurd (some empty.no_method)
  stays_top heap f some (inr (well, (typing, holds))) =
      inr (
        inl refl,
        (
          record {
            method = typing.method;
            is_method = typing.is_method;
            scope = typing.scope;
            is_scope = typing.is_scope;
            room = typing.room;
            frames = typing.frames;
            is_least = typing.is_least;
            type = typing.type;
            stands = typing.stands;
          },
          record { locals = holds.locals; stack = holds.stack },
        ),
      )

  pub need_gone : (set : Inside) → KeepsInside around x old.inside set
      → ((u : ThreadNo) (c : ClassId) → progress_by u set.own c ≡ progress_by u old.inside.own c) → top.frame.head.method ≢ None
      → KeepsRun around x t old (with_top top.callers (without_need top.frame) set) GoesOn
  need_gone set keeps same some =
      let g : FrameState = without_need top.frame in
      let known = known_top around x t old acts top in
      let here : FitsAsTop around.classes set.heap top.frame =
      top_fits around set.heap (FitsAsTop around.classes set.heap) top.callers top.frame (stand_in around x t old acts top set keeps same) in
      replaced_keeps around x t old acts top set keeps same g (refl, refl) refl GoesOn
      (replaced around x t old acts top set keeps same (FitsAsTop around.classes set.heap) g (refl, refl) (stays_top set.heap top.frame some here)
      (record {
        initialises = known.initialises;
        at_home = (known.at_home.0, tt, known.at_home.2);
        known = names_known old.inside.heap set.heap keeps.grown around.caps top.frame known.known;
      }))

  -- a frame that initialises no class has a method
  pub plain_has_method : top.frame.head.initialises ≡ None → top.frame.head.method ≢ None
  plain_has_method none = by_case (known_top around x t old acts top).initialises
    where
      by_case : InitialisesWell around.classes top.frame → top.frame.head.method ≢ None
      by_case (inl (plain, some)) = some
      by_case (inr (inl (c, m, code, initialises, method, clinit))) = absurd (none-some c (sym none ∙ initialises))
      by_case (inr (inr (c, initialises, method, without))) = absurd (none-some c (sym none ∙ initialises))
