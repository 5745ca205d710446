-- What is kept of a segment where an instruction of its top frame is done, by what it does next.
use Rattle.std.proofs.Common.{inl, inr, ◌≡◌, ℕ, ◌+◌, ◌≤◌, List, [], ◌∷◌, ◌++◌, Option, Some, None, refl, sym, ap, subst, ◌∙◌, arith, append_assoc}
use Rattle.std.specs.List.{AllByRecursion}
use Rattle.std.proofs.lemmas.Option.{none-some, same_Some}
use Rattle.list_lemmas.proofs.LastItems.{each-append}
use Rattle.class_lemmas.proofs.OneRecord.{one_method}
use Rattle.jk_model.specs.declared.frames.FrameHead.{FrameHead}
use Rattle.jk_model.specs.declared.identifiers.ClassId.{ClassId}
use Rattle.jk_model.specs.declared.identifiers.MemberId.{MemberId}
use Rattle.jk_model.specs.declared.identifiers.ThreadNo.{ThreadNo}
use Rattle.jk_model.specs.declared.steps.Raise.{Raise}
use Rattle.jk_model.specs.declared.values.Value.{Value}
use Rattle.jk_model_classes.specs.declared.records.MethodRecord.{MethodRecord}
use Rattle.jk_model_classes.specs.declared.records.TypeRef.{TypeRef}
use Rattle.jk_model_classes.specs.Lookups.{MethodIs}
use Rattle.jk_model_domains.specs.Objects.{NamedObject}
use Rattle.jk_model_frames.specs.Frames.{FrameState, frames_chunks, head_chunks}
use Rattle.jk_model_heaps.specs.CalledFrames.{as_entries, at_place, resumed}
use Rattle.jk_model_heaps.specs.RunningCode.{RunsCode}
use Rattle.jk_model_heaps.specs.Workings.{Outcome, Run, Setting, Working}
use Rattle.jk_model_heaps.specs.declared.shapes.Unwound.{Unwound}
use Rattle.jk_model_heaps.specs.declared.shapes.Unwound.TheVariants as Unwinding
use Rattle.jk_model_running.specs.LocalSteps.{Continues, TopFrame, with_top, asks, calls, crosses, ends, ends_initialiser, goes_on, raises, returns, says, terminates}
use Rattle.jk_model_running.specs.Raising.{RaisesIn, after_raising}
use Rattle.jk_model_running.specs.Ways.{Went}
use Rattle.jk_model_running.specs.Ways.{Asks as WentAsking, Crosses as WentAcross, Ended as WentOut, GoesOn as WentOn, Says as WentSaying, Terminates as WentDown}
use Rattle.jk_model_sealing.specs.AnsweringFrames.{AwaitsResult, GivesResult}
use Rattle.jk_model_sealing.specs.ClassesInProgress.{progress_by}
use Rattle.jk_model_sealing.specs.FittingFrames.{FitsAsCaller, FitsAsTop, FitsAtCall, FitsHere, InitialisesWell}
use Rattle.jk_model_sealing.specs.SealedInsides.{IsKnownValue, Surroundings}
use Rattle.jk_model_sealing.specs.SealedRuns.{IsAtHome}
use Rattle.heap_laws.specs.ClassesInProgress.{KeepsProgress, count_initialisers}
use Rattle.heap_laws.specs.FittingOutcomes.{FitsOutcome, IsCalledWell, IsResult}
use Rattle.heap_laws.specs.KeptInsides.{IsKept}
use Rattle.heap_laws.specs.RaisableObjects.{MayBeRaised, MayMeetRaise}
use Rattle.row_laws.proofs.CallersResume.{resumes}
use Rattle.row_laws.proofs.UnwindingFramesLeft.{keeps_after}
use Rattle.row_laws.specs.KeptRuns.{ActsWell, FitsWent, KeepsRun, LowestGives, RunOn}
use Rattle.row_laws.proofs.ActingSegments.{class_done, cost, counts, known_top, replaced, replaced_keeps, stand_in}
use Rattle.row_laws.proofs.ClassesBegunAndEnded.{taken_by}
use Rattle.row_laws.proofs.FramesInARow.{IsAnswered, KnownFrame, LooksAlike, Stand, below_answered, below_fits, chunks_push, count_push, count_same, is_for, one_if, top_covered, top_known, top_replaced, top_taken}
use Rattle.row_laws.proofs.RaisesKept.{MayRaise, raise_kept}

-- ---- Values that are answered.

pub value_known : (around : Surroundings) (heap : List NamedObject) (result : Option TypeRef) (v : Option Value) → IsResult around heap result v
    → AllByRecursion (IsKnownValue around.caps heap) (as_entries v)
value_known around heap (Some t) (Some v) is = (is.1, tt)
value_known around heap None (Some v) is = absurd is
value_known around heap result None is = tt

-- a frame with a method fits here as the top one where it has no need
here_as_top : (around : Surroundings) (heap : List NamedObject) (f : FrameState) → f.head.need ≡ None → FitsHere around.classes heap f
    → FitsAsTop around.classes heap f
here_as_top around heap f none here = inr (inl none, here)

module _ (around : Surroundings) (x : Setting) (t : ThreadNo) (old : Run) (acts : ActsWell around x t old) (top : TopFrame old)
    (code : RunsCode around.classes top.frame) (no_need : top.frame.head.need ≡ None) (w : Working)
    (kept : IsKept around x (record { inside = old.inside; frame = top.frame }) w) where
  abbrev A : FrameState → Type 0
  A = FitsAsTop around.classes w.inside.heap

  pub same : (u : ThreadNo) (c : ClassId) → progress_by u w.inside.own c ≡ progress_by u old.inside.own c
  same u c = ap (taken_by u) (kept.states c)

  need : w.frame.head.need ≡ None
  need = ap (λ (h : FrameHead). h.need) kept.head ∙ no_need

  alike : LooksAlike top.frame w.frame
  alike = (ap (λ (h : FrameHead). h.initialises) kept.head, ap (λ (h : FrameHead). h.method) kept.head)

  size : head_chunks w.frame.head ≡ head_chunks top.frame.head
  size = ap head_chunks kept.head

  pub was : (o : Option ClassId) → w.frame.head.initialises ≡ o → top.frame.head.initialises ≡ o
  was o e = sym alike.0 ∙ e

  known : KnownFrame around w.inside.heap w.frame
  known =
      let top_is = known_top around x t old acts top in
      record {
        initialises = subst (λ (h : FrameHead). InitialisesWell around.classes (record w.frame { head = h })) (sym kept.head) top_is.initialises;
        at_home = subst (λ (h : FrameHead). IsAtHome around.table (record w.frame { head = h })) (sym kept.head) top_is.at_home;
        known = kept.known;
      }

  known_at : (n : ℕ) → KnownFrame around w.inside.heap (at_place w.frame n)
  known_at n = record { initialises = known.initialises; at_home = known.at_home; known = known.known }

  left : (B : FrameState → Type 0) → B w.frame → Stand around B w.inside.heap (top.callers ++ w.frame ∷ [])
  left B b = replaced around x t old acts top w.inside kept.inside same B w.frame alike b known

  stays : (went : Went) → FitsWent around old (with_top top.callers w.frame w.inside) went
      → KeepsRun around x t old (with_top top.callers w.frame w.inside) went
  stays went fits = replaced_keeps around x t old acts top w.inside kept.inside same w.frame alike size went fits

  -- ---- The frame goes on.

  runs_on : (n : ℕ) → FitsHere around.classes w.inside.heap (at_place w.frame n) → RunOn around (with_top top.callers (at_place w.frame n) w.inside)
  runs_on n fits =
      replaced around x t old acts top w.inside kept.inside same A (at_place w.frame n) alike
      (here_as_top around w.inside.heap (at_place w.frame n) need fits) (known_at n)

  goes : (n : ℕ) (went : Went) → FitsWent around old (with_top top.callers (at_place w.frame n) w.inside) went
      → KeepsRun around x t old (with_top top.callers (at_place w.frame n) w.inside) went
  goes n went fits = replaced_keeps around x t old acts top w.inside kept.inside same (at_place w.frame n) alike size went fits

  -- ---- It calls.

  has_method : (called : FrameState) → called.head.need ≡ None → FitsAsTop around.classes w.inside.heap called
      → (m : MemberId) × (called.head.method ≡ Some m)
  has_method called none (inl empty) = absurd (empty.need none)
  has_method called none (inr (well, (typing, holds))) = (typing.method, typing.is_method)

  called_known : (called : FrameState) → IsCalledWell around w.inside.heap w.frame called → KnownFrame around w.inside.heap called
  called_known called well =
      let method = has_method called well.no_need well.fits in
      record {
        initialises = inl (well.plain, λ none. none-some method.0 (sym none ∙ method.1));
        at_home = well.at_home;
        known = well.known;
      }

  called_stands : (called : FrameState) → IsCalledWell around w.inside.heap w.frame called
      → Stand around A w.inside.heap ((top.callers ++ w.frame ∷ []) ++ called ∷ [])
  called_stands called well =
      let B : FrameState → Type 0 = FitsAtCall around.classes w.inside.heap in
      top_covered around w.inside.heap B top.callers w.frame (left B well.below) A called (inr (well.plain, well.below)) (inr well.answers) well.fits
      (called_known called well)

  called_kept : (called : FrameState) → IsCalledWell around w.inside.heap w.frame called → head_chunks called.head ≤ x.chunks
      → KeepsRun around x t old (record { inside = w.inside; frames = top.callers ++ w.frame ∷ called ∷ [] }) WentOn
  called_kept called well room =
      subst (λ (fs : List FrameState). KeepsRun around x t old (record { inside = w.inside; frames = fs }) WentOn)
      (append_assoc top.callers (w.frame ∷ []) (called ∷ []))
      (record {
        inside = kept.inside;
        fits = called_stands called well;
        progress = record {
          own = λ c.
              let none : one_if (is_for c called.head.initialises) ≡ 0 = ap (λ (o : Option ClassId). one_if (is_for c o)) well.plain in
              omega (
                arith,
                count_push c (top.callers ++ w.frame ∷ []) called,
                none,
                count_same c top.callers top.frame w.frame alike.0,
                counts around x t old acts top c,
                same t c,
              );
          others = λ u c apart. same u c;
        };
        chunks =
            omega (
              arith,
              cost around x t old acts top,
              chunks_push (top.callers ++ w.frame ∷ []) called,
              chunks_push top.callers w.frame,
              size,
              room,
            );
      })

  -- ---- It returns.

  -- what its method answers
  gives : GivesResult around.classes top.frame code.scope.method.result
  gives = (code.method, code.scope.method, code.is_method, (code.is_scope.class, code.is_scope.class_is, code.is_scope.method), refl)

  result_is : (result : Option TypeRef) → GivesResult around.classes top.frame result → code.scope.method.result ≡ result
  result_is result (m, method, is, there, answers) =
      let member : m ≡ code.method = same_Some m code.method (sym is ∙ code.is_method) in
      let here : MethodIs around.classes code.method method = subst (λ (k : MemberId). MethodIs around.classes k method) member there in
      let one : method ≡ code.scope.method =
      one_method around.classes code.method method code.scope.method here (code.is_scope.class, code.is_scope.class_is, code.is_scope.method) in
      sym (ap (λ (r : MethodRecord). r.result) one) ∙ answers

  module _ (v : Option Value) (answer : IsResult around w.inside.heap code.scope.method.result v) (lower : List FrameState) (below : FrameState)
      (plain : top.frame.head.initialises ≡ None) (are : top.callers ≡ lower ++ below ∷ []) where
    whole : Stand around (FitsAsTop around.classes w.inside.heap) w.inside.heap ((lower ++ below ∷ []) ++ top.frame ∷ [])
    whole =
        subst (λ (fs : List FrameState). Stand around (FitsAsTop around.classes w.inside.heap) w.inside.heap (fs ++ top.frame ∷ [])) are
        (stand_in around x t old acts top w.inside kept.inside same)

    at_call : FitsAtCall around.classes w.inside.heap below
    at_call = by_case (below_fits around w.inside.heap A lower below top.frame whole)
      where
        by_case : FitsAsCaller around.classes w.inside.heap below top.frame → FitsAtCall around.classes w.inside.heap below
        by_case (inl (some, fits)) = absurd (some plain)
        by_case (inr (none, call)) = call

    awaits : AwaitsResult around.classes below code.scope.method.result
    awaits = by_case (below_answered around w.inside.heap A lower below top.frame whole)
      where
        by_case : IsAnswered around.classes below top.frame → AwaitsResult around.classes below code.scope.method.result
        by_case (inl some) = absurd (some plain)
        by_case (inr (result, awaited, given)) = subst (AwaitsResult around.classes below) (sym (result_is result given)) awaited

    below_stands : Stand around (FitsAtCall around.classes w.inside.heap) w.inside.heap (lower ++ below ∷ [])
    below_stands = top_taken around w.inside.heap A lower below top.frame whole (FitsAtCall around.classes w.inside.heap) at_call

    resumed_known : KnownFrame around w.inside.heap (resumed v below)
    resumed_known =
        let was_known = top_known around w.inside.heap (FitsAtCall around.classes w.inside.heap) lower below below_stands in
        record {
          initialises = was_known.initialises;
          at_home = was_known.at_home;
          known = (
            was_known.known.0,
            each-append (IsKnownValue around.caps w.inside.heap) below.stack (as_entries v) was_known.known.1
                (value_known around w.inside.heap code.scope.method.result v answer),
          );
        }

    resumed_stands : Stand around A w.inside.heap (lower ++ resumed v below ∷ [])
    resumed_stands =
        top_replaced around w.inside.heap (FitsAtCall around.classes w.inside.heap) lower below below_stands A (resumed v below) (refl, refl)
        (here_as_top around w.inside.heap (resumed v below) at_call.no_need
        (resumes around acts.setting.codes w.inside.heap below at_call code.scope.method.result v awaits answer)) resumed_known

    pub returned_kept : KeepsRun around x t old (with_top lower (resumed v below) w.inside) WentOn
    returned_kept = record {
      inside = kept.inside;
      fits = resumed_stands;
      progress = record {
        own = λ c.
            let none : one_if (is_for c top.frame.head.initialises) ≡ 0 = ap (λ (o : Option ClassId). one_if (is_for c o)) plain in
            let callers : count_initialisers c top.callers ≡ count_initialisers c (lower ++ below ∷ []) = ap (count_initialisers c) are in
            omega (
              arith,
              counts around x t old acts top c,
              count_push c top.callers top.frame,
              none,
              callers,
              count_same c lower below (resumed v below) refl,
              same t c,
            );
        others = λ u c apart. same u c;
      };
      chunks =
          let callers : frames_chunks top.callers ≡ frames_chunks (lower ++ below ∷ []) = ap frames_chunks are in
          omega (arith, cost around x t old acts top, callers, chunks_push lower below, chunks_push lower (resumed v below));
    }

  -- the lowest frame returns
  lowest : (callers : List FrameState) → top.callers ≡ callers → callers ≡ [] → LowestGives around.classes old code.scope.method.result
  lowest callers is none = (top.frame, [], top.are_frames ∙ ap (λ (fs : List FrameState). fs ++ top.frame ∷ []) (is ∙ none), gives)

  ended_kept : (v : Option Value) → IsResult around w.inside.heap code.scope.method.result v → top.frame.head.initialises ≡ None
      → top.callers ≡ [] → KeepsRun around x t old (record { inside = w.inside; frames = [] }) (WentOut v)
  ended_kept v answer plain are = record {
    inside = kept.inside;
    fits = (refl, (code.scope.method.result, lowest top.callers refl are, answer));
    progress = record {
      own = λ c.
          let none : one_if (is_for c top.frame.head.initialises) ≡ 0 = ap (λ (o : Option ClassId). one_if (is_for c o)) plain in
          let callers : count_initialisers c top.callers ≡ 0 = ap (count_initialisers c) are in
          let gone : count_initialisers c [] ≡ 0 = refl in
          omega (arith, counts around x t old acts top c, count_push c top.callers top.frame, none, callers, gone, same t c);
      others = λ u c apart. same u c;
    };
    chunks = let gone : frames_chunks [] ≡ 0 = refl in omega (arith, gone);
  }

  -- ---- It raises something.

  module _ (r : Raise) (fits : FitsHere around.classes w.inside.heap w.frame) (can : MayBeRaised around.classes w.inside.heap r) where
    abbrev mid : Run
    mid = with_top top.callers w.frame w.inside

    progress : KeepsProgress t old mid
    progress = (stays WentOn (left A (here_as_top around w.inside.heap w.frame need fits))).progress

    pub may : MayRaise around x t mid
    may = record {
      setting = acts.setting;
      inside = kept.inside.sealed;
      frames = left (MayMeetRaise around.classes w.inside.heap) (inl (here_as_top around w.inside.heap w.frame need fits));
      progress = λ c. omega (arith, acts.progress c, progress.own c);
    }

    same_fits : (new : Run) (u : Unwound) → FitsWent around mid new (after_raising u) → FitsWent around old new (after_raising u)
    same_fits new Unwinding.Caught h = h
    same_fits new (Unwinding.Uncaught a) h = h

    pub raised_kept : (new : Run) (unwound : Unwound) → RaisesIn x mid r new unwound → KeepsRun around x t old new (after_raising unwound)
    raised_kept new unwound rises =
        let after = raise_kept around x t mid may r can new unwound rises in
        let first : frames_chunks mid.frames ≡ frames_chunks top.callers + head_chunks w.frame.head = chunks_push top.callers w.frame in
        record {
          inside = keeps_after around x old.inside w.inside new.inside kept.inside after.inside;
          fits = same_fits new unwound after.fits;
          progress = record {
            own = λ c. omega (arith, progress.own c, after.progress.own c);
            others = λ u c apart. after.progress.others u c apart ∙ same u c;
          };
          chunks = omega (arith, after.chunks, first, size, cost around x t old acts top);
        }

  -- ---- All of it.

  pub followed : (outcome : Outcome) (new : Run) (went : Went) → Continues x top.callers w outcome new went
      → FitsOutcome around x code.scope w outcome → KeepsRun around x t old new went
  followed outcome new went (goes_on n) h = goes n WentOn (runs_on n h)
  followed outcome new went (says text n) h = goes n (WentSaying text) (runs_on n h)
  followed outcome new went (calls called) h = called_kept called h.0 h.1
  followed outcome new went (ends_initialiser v c initialises state some) h =
      class_done around x t old acts top w.inside kept.inside same c (was (Some c) initialises) some
  followed outcome new went (returns v lower below plain are) h = returned_kept v h lower below (was None plain) are
  followed outcome new went (ends v plain are) h = ended_kept v h (was None plain) are
  followed outcome new went (raises r run unwound rises) h = raised_kept r h.0 h.1 run unwound rises
  followed outcome new went (crosses k m) h =
      stays (WentAcross k m)
      (left A (here_as_top around w.inside.heap w.frame need h.0), (record { callers = top.callers; frame = w.frame; are_frames = refl }, h.1))
  followed outcome new went (asks request) h =
      stays (WentAsking request)
      (left (FitsAtCall around.classes w.inside.heap) h.stands, (record { callers = top.callers; frame = w.frame; are_frames = refl }, h))
  followed outcome new went terminates h = stays WentDown (left A (here_as_top around w.inside.heap w.frame need h))
