-- Something is raised in the top segment of a thread, as code does it: where no frame catches it, it leaves the segment.
use Rattle.std.proofs.Common.{◌≡◌, ◌⊎◌, inl, inr, arith, ℕ, suc, ◌+◌, ◌<◌, List, [], slice_get, slice_set, Contains, Option, Some, None, refl, sym, ap, subst, ◌∙◌}
use Rattle.std.proofs.lemmas.Option.{same_Some}
use Rattle.jk_model.specs.declared.identifiers.ThreadNo.{ThreadNo}
use Rattle.jk_model.specs.declared.output.Line.{Line}
use Rattle.jk_model.specs.declared.steps.Raise.{Raise}
use Rattle.jk_model.specs.declared.values.Value.{Value}
use Rattle.jk_model_classes.specs.declared.sharing.Stub.{Stub}
use Rattle.jk_model_sharing.specs.Segments.{SharedSegment, top_segment}
use Rattle.jk_model_sharing.specs.SharedStates.{SharedState}
use Rattle.jk_model_machine_state.specs.Machines.{Machine, Segment}
use Rattle.jk_model_machine_state.specs.Places.{LiveDomain}
use Rattle.jk_model_crossings.specs.Answers.{Returns}
use Rattle.jk_model_crossings.specs.Throwing.{RaisesInThread, Throws}
use Rattle.class_init.specs.KeptStates.{KeptState}
use Rattle.object_store.specs.HeapContents.{HeapContent}
use Rattle.frame_store.specs.FrameContents.{FrameContent}
use Rattle.heap_laws.specs.RaisableObjects.{MayBeRaised}
use Rattle.machine_laws.proofs.ThrowablesSealed.{has_thrown, one_running}
use Rattle.machine_parts.specs.FittingParts.{AreFittingParts}
use Rattle.machine_parts.specs.RunningParts.{StandsOnTop}
use Rattle.machine_parts.proofs.TopsOfThreads.{stands_on_top}
use Rattle.step_contents.specs.Conditions.{MayRaise}
use Rattle.step_contents.specs.Contents.{contents_of, here_at}
use Rattle.segment_steps.specs.RaisingHere.{RaisedHere}
use Rattle.segment_steps.specs.declared.meeting.Runs.{Runs}
use Rattle.segment_steps.specs.declared.went.Went.{Went}
use Rattle.segment_steps.specs.declared.went.Went.TheVariants as Goes
use Rattle.domain_crossing.specs.AskedOfCrossings.{MayLeave}
use Rattle.domain_crossing.specs.AskedOfCrossings.{MayRaise as MayRaiseAcross}
use Rattle.domain_crossing.specs.Crossings.{LeavesByReturn, LeavesByThrow}
use Rattle.domain_crossing.specs.declared.answers.Left.{Left}
use Rattle.domain_crossing.specs.declared.answers.Left.TheVariants as Became
use Rattle.domain_ends.specs.TidyParts.{AreTidyParts}
use Rattle.kernel_parts.specs.SoundKernels.{KernelContent, kernel_machine, parts_of}
use Rattle.kernel_turns.specs.declared.running.Running.{Running}
use Rattle.kernel_turns.specs.GoingDown.{ComesOf, IsDone, IsRaisable, MayGoDown, height}
use Rattle.kernel_turns.specs.LiveThreads.{AreApart, IsRunning}
use Rattle.kernel_turns.specs.RunningPlaces.{RunsAt, runs}
use Rattle.kernel_turns.specs.SteppedParts.{HasRoomsForLiterals}
use Rattle.kernel_turns.proofs.FramesOfThreads.{OwnAt, own_of}
use Rattle.kernel_turns.proofs.LeftBelow.{height_is, lower_so, returned_so, returns_on, stack_height, throws_on, thrown_so}
use Rattle.kernel_turns.proofs.RaisedOnce.{Came, came, may_be, may_here}
use Rattle.kernel_turns.proofs.RaisedWhereMet.{StandsWell, stands_well}
use Rattle.kernel_turns.proofs.SegmentsApart.{apart_in_shared}

-- ---- Where a segment was left, the parts are tidy again.

pub tidy_left : (k : KernelContent) (shared : SharedState) (heap : HeapContent) (frames : FrameContent) → AreTidyParts k
    → AreFittingParts (parts_of (record k { shared = shared; heap = heap; frames = frames })) → shared.stubs ≡ k.shared.stubs
    → AreTidyParts (record k { shared = shared; heap = heap; frames = frames })
tidy_left k shared heap frames tidy fitting stubs = record {
  fitting = fitting;
  world = tidy.world;
  few_classes = tidy.few_classes;
  rooms = tidy.rooms;
  main = tidy.main;
  stubs = λ s there. tidy.stubs s (subst (λ (ss : List Stub). Contains ss s) stubs there);
}

module _ (k : KernelContent) (t : ThreadNo) (tidy : AreTidyParts k) (left : Left) (shared : SharedState) (heap : HeapContent) (frames : FrameContent)
    (fitting : AreFittingParts (parts_of (record k { shared = shared; heap = heap; frames = frames }))) (stubs : shared.stubs ≡ k.shared.stubs) where
  abbrev new : KernelContent
  new = record k { shared = shared; heap = heap; frames = frames }

  -- by a throwable
  module _ (a : ℕ) (may : MayRaiseAcross (parts_of k) t a) (leaves : LeavesByThrow (kernel_machine k) t a left (kernel_machine new)) where
    pub thrown_down : MayGoDown new t left
    thrown_down = (
      tidy_left k shared heap frames tidy fitting stubs,
      thrown_so (kernel_machine k) t a may.cross.sealed may.cross.sound (has_thrown (kernel_machine k) t may.runs a may.left may.thrown) left
          (kernel_machine new) leaves,
    )

    pub thrown_comes : (n : ℕ) (lines : List Line) (last : Machine) → ComesOf (kernel_machine new) t left n lines last
        → Throws t (suc n) (kernel_machine k) a lines last
    thrown_comes n lines last comes = throws_on (kernel_machine k) t a left (kernel_machine new) leaves n lines last refl comes

    pub thrown_lower : (r : Raise) → left ≡ Became.Raised r → height t shared < height t k.shared
    thrown_lower r is =
        subst (λ (h : ℕ). h < height t k.shared) (height_is (parts_of new) t)
        (subst (λ (h : ℕ). stack_height t (kernel_machine new) < h) (height_is (parts_of k) t)
        (lower_so (kernel_machine k) t a may.cross.sealed may.cross.sound (has_thrown (kernel_machine k) t may.runs a may.left may.thrown) r left
        (kernel_machine new) is leaves))

  -- by a return
  module _ (v : Option Value) (may : MayLeave (parts_of k) t v) (leaves : LeavesByReturn (kernel_machine k) t v left (kernel_machine new)) where
    pub returned_down : MayGoDown new t left
    returned_down = (
      tidy_left k shared heap frames tidy fitting stubs,
      returned_so (kernel_machine k) t may.cross.sealed may.cross.sound
          (λ q. ap (λ (s : Segment). s.frames) (one_running (kernel_machine k) t may.runs q).0 ∙ may.left) v left (kernel_machine new) leaves,
    )

    pub returned_comes : (n : ℕ) (lines : List Line) (last : Machine) → ComesOf (kernel_machine new) t left n lines last
        → Returns (kernel_machine k) t v (suc n) lines last
    returned_comes n lines last comes = returns_on (kernel_machine k) t v left (kernel_machine new) leaves n lines last refl comes

-- ---- Something is raised on top.

module _ (k : KernelContent) (t : ThreadNo) (r : Raise) (tidy : AreTidyParts k) (can : IsRaisable (kernel_machine k) t r) where
  well : StandsWell (kernel_machine k) t r
  well = stands_well (kernel_machine k) t r can

  pub apart_there : AreApart k.shared.threads
  apart_there = apart_in_shared (parts_of k) well.apart

  stands : StandsOnTop (parts_of k) t well.place
  stands = stands_on_top (parts_of k) t well.place

  pub some_top : top_segment k.shared.threads t ≡ None → ⊥
  some_top none = (let both : None ≡ Some stands.segment = sym none ∙ stands.is_top in cc)

  lives : (s : SharedSegment) → top_segment k.shared.threads t ≡ Some s → LiveDomain (kernel_machine k) s.domain
  lives s is =
      subst (λ (x : SharedSegment). LiveDomain (kernel_machine k) x.domain) (same_Some stands.segment s (sym stands.is_top ∙ is))
      (subst (λ (x : Segment). LiveDomain (kernel_machine k) x.shared.domain) stands.runs
      (record {
        domain = well.place.home.domain;
        is_domain = well.place.home.is_domain;
        numbered = well.place.home.numbered;
        inside = well.place.home.inside;
        is_inside = well.place.home.is_inside;
      }))

  pub own_there : (s : SharedSegment) → top_segment k.shared.threads t ≡ Some s → OwnAt k s.domain
  own_there s is = own_of k s.domain tidy.fitting.domains (lives s is)

  module _ (x : Running) (is : IsRunning k.shared.threads t x) where
    abbrev pub at : RunsAt k t
    at = record {
      segment = is.segment;
      is_top = is.is_top;
      own = (own_there is.segment is.is_top).own;
      is_own = (own_there is.segment is.is_top).is_own;
    }

    -- what holds of the place holds of the one that code has
    there : (P : Runs → Type 0) → P (runs t is.segment) → P x.runs
    there P = subst P (sym is.runs_there)

    -- the own state that is there, as code has it
    pub own_is : slice_get k.owns x.runs.domain.0 ≡ Some (Some (own_there is.segment is.is_top).own)
    own_is =
        there (λ y. slice_get k.owns y.domain.0 ≡ Some (Some (own_there is.segment is.is_top).own)) (own_there is.segment is.is_top).is_own

    pub raise_may : (own : KeptState) × (slice_get k.owns x.runs.domain.0 ≡ Some (Some own)) × ((shared : SharedState)
        × MayRaise (contents_of k.heap k.frames own) (here_at k.world shared x.runs.domain x.runs.segment))
    raise_may = (
      (own_there is.segment is.is_top).own,
      own_is,
      (
        k.shared,
        there
            (λ y. MayRaise (contents_of k.heap k.frames (own_there is.segment is.is_top).own) (here_at k.world k.shared y.domain y.segment))
            (may_here k t r tidy can at),
      ),
    )

    pub raise_be : MayBeRaised k.world.classes (k.heap.heap x.runs.domain) r
    raise_be = there (λ y. MayBeRaised k.world.classes (k.heap.heap y.domain) r) (may_be k t r tidy can at)

    module _ (owns : List (Option KeptState)) (own : KeptState) (heap : HeapContent) (frames : FrameContent) (went : Went)
        (set : owns ≡ slice_set k.owns x.runs.domain.0 (Some own)) (rooms : HasRoomsForLiterals own)
        (raised : (shared : SharedState) → RaisedHere (contents_of k.heap k.frames (own_there is.segment is.is_top).own) (contents_of heap frames own)
        (here_at k.world shared x.runs.domain x.runs.segment) r went) where
      pub came_down : Came k (record k { owns = owns; heap = heap; frames = frames }) t r went
      came_down =
          let by_place : RaisedHere (contents_of k.heap k.frames (own_there is.segment is.is_top).own) (contents_of heap frames own)
          (here_at k.world k.shared is.segment.domain is.segment.number) r went =
          subst
          (λ (y : Runs). RaisedHere (contents_of k.heap k.frames (own_there is.segment is.is_top).own) (contents_of heap frames own)
          (here_at k.world k.shared y.domain y.segment) r went) is.runs_there (raised k.shared) in
          subst (λ (os : List (Option KeptState)). Came k (record k { owns = os; heap = heap; frames = frames }) t r went)
          (sym (set ∙ ap (λ (y : Runs). slice_set k.owns y.domain.0 (Some own)) is.runs_there))
          (came k t r tidy can at (contents_of heap frames own) went rooms by_place)

-- ---- It was caught there, or not.

one_left : (n : ℕ) → suc n ≡ 1 + n
one_left n = omega arith

pub left_once : (m : Machine) (t : ThreadNo) (r : Raise) (n : ℕ) (lines : List Line) (last : Machine) → RaisesInThread m t r (suc n) lines last
    → RaisesInThread m t r (1 + n) lines last
left_once m t r n lines last = subst (λ (x : ℕ). RaisesInThread m t r x lines last) (one_left n)

none_left : (n : ℕ) → n ≡ 0 + n
none_left n = omega arith

pub caught_on : (k mid : KernelContent) (t : ThreadNo) (r : Raise) (went : Went) → Came k mid t r went → ((a : ℕ) → went ≡ Goes.Left a → ⊥)
    → (n : ℕ) (lines : List Line) (last : Machine) → IsDone (kernel_machine mid) t Became.Delivered n lines last
    → RaisesInThread (kernel_machine k) t r (0 + n) lines last
caught_on k mid t r went down alone n lines last (zero_is, none, is) =
    subst (λ (x : ℕ). RaisesInThread (kernel_machine k) t r x lines last) (sym zero_is ∙ none_left n)
    (subst (λ (ls : List Line). RaisesInThread (kernel_machine k) t r 0 ls last) (sym none)
    (subst (RaisesInThread (kernel_machine k) t r 0 []) (sym is) (down.caught (goes down.either))))
  where
    goes : (went ≡ Goes.GoesOn) ⊎ ((a : ℕ) × (went ≡ Goes.Left a)) → went ≡ Goes.GoesOn
    goes (inl e) = e
    goes (inr (a, e)) = absurd (alone a e)
