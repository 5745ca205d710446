-- A segment that acts: what is kept where its top frame is replaced, or is taken off because the class that it initialised is done.
use Rattle.std.proofs.Common.{inl, inr, ◌≡◌, ◌≢◌, ◌+◌, ◌≤◌, List, [], ◌∷◌, ◌++◌, Option, Some, refl, sym, ap, subst, ◌∙◌, arith}
use Rattle.std.proofs.lemmas.Bool.{eq-eqb}
use Rattle.std.proofs.lemmas.Option.{none-some}
use Rattle.list_lemmas.proofs.LastItems.{last_of}
use Rattle.jk_model.specs.declared.identifiers.ClassId.{ClassId}
use Rattle.jk_model.specs.declared.identifiers.ThreadNo.{ThreadNo}
use Rattle.jk_model_domains.specs.declared.states.ClassState.TheVariants as State
use Rattle.jk_model_frames.specs.Frames.{FrameState, frames_chunks, head_chunks}
use Rattle.jk_model_heaps.specs.Workings.{Inside, Run, Setting}
use Rattle.jk_model_running.specs.LocalSteps.{TopFrame, with_class, with_top}
use Rattle.jk_model_running.specs.Ways.{Went, GoesOn}
use Rattle.jk_model_sealing.specs.ClassesInProgress.{progress_by}
use Rattle.jk_model_sealing.specs.FittingFrames.{FitsAsCaller, FitsAsTop}
use Rattle.jk_model_sealing.specs.SealedInsides.{IsSealedInside, Surroundings}
use Rattle.heap_laws.proofs.GrownHeaps.{grown_self}
use Rattle.heap_laws.proofs.SealedStill.{state_sealed}
use Rattle.heap_laws.proofs.StillFits.{fits_as_top, frames_sealed}
use Rattle.heap_laws.specs.ClassesInProgress.{KeepsProgress, count_initialisers}
use Rattle.heap_laws.specs.KeptInsides.{KeepsInside}
use Rattle.heap_laws.specs.RaisableObjects.{MayMeetRaise}
use Rattle.row_laws.specs.KeptRuns.{ActsWell, FitsWent, KeepsRun}
use Rattle.row_laws.proofs.ClassesBegunAndEnded.{ended_others, ended_own}
use Rattle.row_laws.proofs.FramesInARow.{KnownFrame, LooksAlike, Stand, below_fits, chunks_push, count_push, count_same, is_for, one_if, top_fits, top_known, top_replaced, top_taken}
use Rattle.row_laws.proofs.RaisesKept.{MayRaise}

-- the domain's inside, with any states of classes
pub stays_inside : (around : Surroundings) (x : Setting) (inside : Inside) → IsSealedInside around x.quota inside
    → KeepsInside around x inside inside
stays_inside around x inside sealed =
    record { sealed = sealed; grown = grown_self inside.heap; tasks = λ a n is. inl is; pages = (refl, refl) }

module _ (around : Surroundings) (x : Setting) (t : ThreadNo) (old : Run) (acts : ActsWell around x t old) where
  pub may_raise : MayRaise around x t old
  may_raise = record {
    setting = acts.setting;
    inside = acts.sealed.inside;
    frames = (
      frames_sealed old.inside.heap old.inside.heap (grown_self old.inside.heap) (FitsAsTop around.classes old.inside.heap)
          (MayMeetRaise around.classes old.inside.heap) (λ f fits. inl fits) around old.frames acts.sealed.frames,
      acts.answers,
    );
    progress = acts.progress;
  }

  module _ (top : TopFrame old) where
    pub stand : Stand around (FitsAsTop around.classes old.inside.heap) old.inside.heap (top.callers ++ top.frame ∷ [])
    stand =
        subst (Stand around (FitsAsTop around.classes old.inside.heap) old.inside.heap) top.are_frames (acts.sealed.frames, acts.answers)

    pub fits_top : FitsAsTop around.classes old.inside.heap top.frame
    fits_top = top_fits around old.inside.heap (FitsAsTop around.classes old.inside.heap) top.callers top.frame stand

    pub known_top : KnownFrame around old.inside.heap top.frame
    known_top = top_known around old.inside.heap (FitsAsTop around.classes old.inside.heap) top.callers top.frame stand

    pub cost : frames_chunks old.frames ≡ frames_chunks top.callers + head_chunks top.frame.head
    cost = ap frames_chunks top.are_frames ∙ chunks_push top.callers top.frame

    pub counts : (c : ClassId) → count_initialisers c old.frames ≡ count_initialisers c (top.callers ++ top.frame ∷ [])
    counts c = ap (count_initialisers c) top.are_frames

    -- The domain is another one inside, but that its classes are in progress as before.
    module _ (set : Inside) (keeps : KeepsInside around x old.inside set)
        (same : (u : ThreadNo) (c : ClassId) → progress_by u set.own c ≡ progress_by u old.inside.own c) where
      pub stand_in : Stand around (FitsAsTop around.classes set.heap) set.heap (top.callers ++ top.frame ∷ [])
      stand_in = (
        frames_sealed old.inside.heap set.heap keeps.grown (FitsAsTop around.classes old.inside.heap) (FitsAsTop around.classes set.heap)
            (fits_as_top old.inside.heap set.heap keeps.grown around.classes) around (top.callers ++ top.frame ∷ []) stand.0,
        stand.1,
      )

      -- ---- The top frame is replaced.

      pub replaced : (B : FrameState → Type 0) (g : FrameState) → LooksAlike top.frame g → B g → KnownFrame around set.heap g
          → Stand around B set.heap (top.callers ++ g ∷ [])
      replaced B g alike b known =
          top_replaced around set.heap (FitsAsTop around.classes set.heap) top.callers top.frame stand_in B g alike b known

      pub replaced_progress : (g : FrameState) → LooksAlike top.frame g → KeepsProgress t old (with_top top.callers g set)
      replaced_progress g alike = record {
        own = λ c. omega (arith, counts c, count_same c top.callers top.frame g alike.0, same t c);
        others = λ u c apart. same u c;
      }

      pub replaced_keeps : (g : FrameState) → LooksAlike top.frame g → head_chunks g.head ≡ head_chunks top.frame.head → (went : Went)
          → FitsWent around old (with_top top.callers g set) went → KeepsRun around x t old (with_top top.callers g set) went
      replaced_keeps g alike size went fits = record {
        inside = keeps;
        fits = fits;
        progress = replaced_progress g alike;
        chunks = omega (arith, cost, chunks_push top.callers g, size);
      }

      -- ---- The class that it initialises is done.

      module _ (c : ClassId) (initialises : top.frame.head.initialises ≡ Some c) where
        one_of : (d : ClassId) → one_if (is_for d top.frame.head.initialises) ≡ one_if (is_for d (Some c))
        one_of d = ap (λ (o : Option ClassId). one_if (is_for d o)) initialises

        pub in_progress : 1 ≤ progress_by t set.own c
        in_progress =
            let one : one_if (is_for c (Some c)) ≡ 1 = ap one_if (eq-eqb c.0 c.0 refl) in
            omega (arith, acts.progress c, counts c, count_push c top.callers top.frame, one_of c, one, same t c)

        caller_fits : (below : FrameState) → FitsAsCaller around.classes set.heap below top.frame → FitsAsTop around.classes set.heap below
        caller_fits below (inl (some, fits)) = fits
        caller_fits below (inr (none, call)) = absurd (none-some c (sym none ∙ initialises))

        callers_stand : (lower : List FrameState) (below : FrameState) → top.callers ≡ lower ++ below ∷ []
            → Stand around (FitsAsTop around.classes set.heap) set.heap top.callers
        callers_stand lower below are =
            let A : FrameState → Type 0 = FitsAsTop around.classes set.heap in
            let whole : Stand around (FitsAsTop around.classes set.heap) set.heap ((lower ++ below ∷ []) ++ top.frame ∷ []) =
            subst (λ (fs : List FrameState). Stand around (FitsAsTop around.classes set.heap) set.heap (fs ++ top.frame ∷ [])) are stand_in in
            subst (Stand around (FitsAsTop around.classes set.heap) set.heap) (sym are)
            (top_taken around set.heap A lower below top.frame whole A
            (caller_fits below (below_fits around set.heap A lower below top.frame whole)))

        callers_by : (callers : List FrameState) → top.callers ≡ callers → top.callers ≢ []
            → Stand around (FitsAsTop around.classes set.heap) set.heap top.callers
        callers_by [] are some = absurd (some are)
        callers_by (f ∷ more) are some = let last = last_of f more in callers_stand last.0 last.1 (are ∙ last.2)

        pub class_done : top.callers ≢ [] → KeepsRun around x t old (record { inside = with_class c State.Done set; frames = top.callers }) GoesOn
        class_done some = record {
          inside = record {
            sealed = state_sealed around x.quota set keeps.sealed c State.Done;
            grown = keeps.grown;
            tasks = keeps.tasks;
            pages = keeps.pages;
          };
          fits = callers_by top.callers refl some;
          progress = record {
            own = λ d.
                omega (arith, counts d, count_push d top.callers top.frame, one_of d, ended_own t set.own c in_progress d, same t d);
            others = λ u d apart. ended_others t set.own c in_progress u d apart ∙ same u d;
          };
          chunks = omega (arith, cost);
        }
