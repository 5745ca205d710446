-- A throwable that leaves frames: each class that they initialised was in progress by the thread, and is so no more.
use Rattle.std.proofs.Common.{inl, inr, ◌≡◌, ◌≢◌, ℕ, ◌+◌, ◌≤◌, Bool, false, ◌==◌, List, [], ◌∷◌, Option, Some, None, refl, ap, ◌∙◌, arith}
use Rattle.std.proofs.lemmas.Bool.{eq-eqb}
use Rattle.std.proofs.lemmas.List.Sums.{sum_by-cons}
use Rattle.jk_model.specs.declared.identifiers.ClassId.{ClassId}
use Rattle.jk_model.specs.declared.identifiers.ThreadNo.{ThreadNo}
use Rattle.jk_model.specs.declared.steps.Raise.TheVariants as Raised
use Rattle.jk_model_frames.specs.Frames.{FrameState}
use Rattle.jk_model_domains.specs.declared.states.ClassState.TheVariants as State
use Rattle.jk_model_domains.specs.OwnStates.{OwnState, with_state}
use Rattle.jk_model_heaps.specs.Throwables.{IsRaised}
use Rattle.jk_model_heaps.specs.Workings.{Inside, Setting}
use Rattle.jk_model_sealing.specs.ClassesInProgress.{initialises, progress_by}
use Rattle.jk_model_unwinding.specs.Unwinding.{LeavesFrame, LeavesFrames, LeavesInitialiser}
use Rattle.heap_laws.specs.ClassesInProgress.{count_initialisers}
use Rattle.row_laws.proofs.BrokenClasses.{broken_others, broken_own, one_if}
use Rattle.row_laws.proofs.UnwindingFramesLeft.{broken_in}

-- ---- How many frames initialise a class.

abbrev is_for : ClassId → Option ClassId → Bool
is_for d o = elim o as (λ _. Bool) [ Some c ↦ c.0 == d.0 | None ↦ false ]

count_cons : (d : ClassId) (f : FrameState) (frames : List FrameState)
    → count_initialisers d (f ∷ frames) ≡ one_if (is_for d f.head.initialises) + count_initialisers d frames
count_cons d f frames = sum_by-cons (λ (x : FrameState). one_if (initialises d x)) f frames

-- ---- What is raised keeps the own state.

raised_own : (x : Setting) (old new : Inside) (c : ClassId) (b : ℕ) → IsRaised x old (Raised.Fresh c) new b → new.own ≡ old.own
raised_own x old new c b (inl (heap, makes, is)) = ap (λ (i : Inside). i.own) is
raised_own x old new c b (inr (lacks, same, is)) = ap (λ (i : Inside). i.own) same

initialiser_own : (x : Setting) (old new : Inside) (a b : ℕ) → LeavesInitialiser x old a new b → new.own ≡ old.own
initialiser_own x old new a b (inl (error, same, is)) = ap (λ (i : Inside). i.own) same
initialiser_own x old new a b (inr (other, raised)) = raised_own x old new _ b raised

module _ (x : Setting) (t : ThreadNo) where
  pub record LeftProgress (frames : List FrameState) (old new : OwnState) : Type 0 where
    pub own : (d : ClassId) → count_initialisers d frames + progress_by t new d ≡ progress_by t old d
    pub others : (u : ThreadNo) (d : ClassId) → u ≢ t → progress_by u new d ≡ progress_by u old d

  plain_left : (f : FrameState) (upper : List FrameState) (old mid new : OwnState) → LeftProgress upper old mid
      → f.head.initialises ≡ None → new ≡ mid → LeftProgress (f ∷ upper) old new
  plain_left f upper old mid new was plain same = record {
    own = λ d.
        let none : one_if (is_for d f.head.initialises) ≡ 0 = ap (λ (o : Option ClassId). one_if (is_for d o)) plain in
        let here : progress_by t new d ≡ progress_by t mid d = ap (λ (own : OwnState). progress_by t own d) same in
        omega (arith, count_cons d f upper, none, here, was.own d);
    others = λ u d apart. ap (λ (own : OwnState). progress_by u own d) same ∙ was.others u d apart;
  }

  broken_left : (f : FrameState) (upper : List FrameState) (old mid new : OwnState) (c : ClassId) → LeftProgress upper old mid
      → f.head.initialises ≡ Some c → ((d : ClassId) → count_initialisers d (f ∷ upper) ≤ progress_by t old d)
      → new ≡ with_state mid c State.Broken → LeftProgress (f ∷ upper) old new
  broken_left f upper old mid new c was initialises counts same =
      let of : (d : ClassId) → one_if (is_for d f.head.initialises) ≡ one_if (c.0 == d.0) =
      λ d. ap (λ (o : Option ClassId). one_if (is_for d o)) initialises in
      let one : one_if (c.0 == c.0) ≡ 1 = ap one_if (eq-eqb c.0 c.0 refl) in
      let some : 1 ≤ progress_by t mid c = omega (arith, counts c, count_cons c f upper, of c, one, was.own c) in
      record {
        own = λ d.
            let here : progress_by t new d ≡ progress_by t (with_state mid c State.Broken) d = ap (λ (own : OwnState). progress_by t own d) same in
            omega (arith, count_cons d f upper, of d, here, broken_own t mid c some d, was.own d);
        others = λ u d apart.
            ap (λ (own : OwnState). progress_by u own d) same ∙ broken_others t mid c some u d apart ∙ was.others u d apart;
      }

  next_left : (f : FrameState) (upper : List FrameState) (old mid new : Inside) (met b : ℕ) → LeftProgress upper old.own mid.own
      → ((d : ClassId) → count_initialisers d (f ∷ upper) ≤ progress_by t old.own d) → LeavesFrame x f mid met new b
      → LeftProgress (f ∷ upper) old.own new.own
  next_left f upper old mid new met b was counts (inl (plain, same, is)) =
      plain_left f upper old.own mid.own new.own was plain (ap (λ (i : Inside). i.own) same)
  next_left f upper old mid new met b was counts (inr (c, initialises, has, left)) =
      broken_left f upper old.own mid.own new.own c was initialises counts (initialiser_own x (broken_in mid c) new met b left)

  pub classes_left : (frames : List FrameState) (old new : Inside) (a b : ℕ)
      → ((d : ClassId) → count_initialisers d frames ≤ progress_by t old.own d) → LeavesFrames x frames old a new b
      → LeftProgress frames old.own new.own
  classes_left [] old new a b counts (same, is) = record {
    own = λ d.
        let here : progress_by t new.own d ≡ progress_by t old.own d = ap (λ (i : Inside). progress_by t i.own d) same in omega (arith, here);
    others = λ u d apart. ap (λ (i : Inside). progress_by u i.own d) same;
  }
  classes_left (f ∷ upper) old new a b counts (mid, met, leaves, not, leave) =
      next_left f upper old mid new met b
      (classes_left upper old mid a met (λ d. omega (arith, counts d, count_cons d f upper)) leaves) counts leave
