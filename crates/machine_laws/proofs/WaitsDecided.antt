-- A segment of a known machine waits for a class that another thread initialises, or it doesn't.
use Rattle.std.proofs.Common.{inl, inr, ◌≡◌, ◌⊎◌, ℕ, List, [], ◌∷◌, None, refl, sym, ap, subst, ◌∙◌}
use Rattle.decided_lookups.proofs.DecidedParts.{number_decided}
use Rattle.jk_model.specs.declared.identifiers.ClassId.{ClassId}
use Rattle.jk_model.specs.declared.identifiers.ThreadNo.{ThreadNo}
use Rattle.jk_model_domains.specs.declared.states.ClassState.{ClassState}
use Rattle.jk_model_domains.specs.declared.states.ClassState.TheVariants as State
use Rattle.jk_model_domains.specs.OwnStates.{OwnState, state_of}
use Rattle.jk_model_frames.specs.Frames.{FrameState}
use Rattle.jk_model_heaps.specs.RunningCode.{RunsCode}
use Rattle.jk_model_running.specs.Initialising.{FrameNeeds, IsInProgressElsewhere}
use Rattle.jk_model_running.specs.LocalSteps.{TopFrame}
use Rattle.jk_model_sealing.specs.AnsweringFrames.{FramesAnswer}
use Rattle.jk_model_sealing.specs.FittingFrames.{FramesFit}
use Rattle.jk_model_machine_state.specs.Machines.{Machine}
use Rattle.jk_model_machine_state.specs.Places.{RunningSegment, run_of}
use Rattle.jk_model_runs.specs.AnsweredCalls.{SegmentsAnswer}
use Rattle.jk_model_runs.specs.Sealed.{SegmentsFit, TopFits}
use Rattle.jk_model_runs.specs.Steps.{Waits}
use Rattle.list_lemmas.proofs.ItemsOfLists.{Contains-at}
use Rattle.list_lemmas.proofs.LastItems.{last_of, one_last}
use Rattle.row_laws.proofs.StandsHere.{code_here}
use Rattle.row_laws.proofs.NeedsFound.{NeedsOne, frame_needs}
use Rattle.row_laws.proofs.FramesInARow.{fit_top}
use Rattle.machine_laws.specs.KnownMachines.{IsKnownMachine}
use Rattle.machine_laws.proofs.RunningSegmentsFit.{frames_at, lower_fit, thread_place, top_answers}

-- a state is in progress by another thread, or it isn't
elsewhere_by : (own : OwnState) (t : ThreadNo) (c : ClassId) (s : ClassState) → state_of own c ≡ s
    → IsInProgressElsewhere own t c ⊎ (IsInProgressElsewhere own t c → ⊥)
elsewhere_by own t c (State.InProgress u) is = elim (number_decided u.0 t.0) [
  | inl same ↦
      let of : ℕ → ThreadNo = λ n. record { 0 = n } in
      let mine : u ≡ t = ap of same in
      inr (λ (other, by, differ).
      let one : State.InProgress u ≡ State.InProgress other = sym is ∙ by in
      let them : u ≡ other = cc in
      differ (sym them ∙ mine))
  | inr other ↦ inl (u, is, λ same. other (ap (λ (v : ThreadNo). v.0) same))
]
elsewhere_by own t c State.Untouched is = inr (λ (other, by, differ). let never : State.Untouched ≡ State.InProgress other = sym is ∙ by in cc)
elsewhere_by own t c State.Done is = inr (λ (other, by, differ). let never : State.Done ≡ State.InProgress other = sym is ∙ by in cc)
elsewhere_by own t c State.Broken is = inr (λ (other, by, differ). let never : State.Broken ≡ State.InProgress other = sym is ∙ by in cc)

module _ (m : Machine) (t : ThreadNo) (p : RunningSegment m t) (known : IsKnownMachine m) where
  answers : FramesAnswer m.classes p.segment.frames
  answers =
      let place = thread_place m t p in
      top_answers m.classes p.lower p.segment
      (subst (SegmentsAnswer m.classes) p.are_segments (known.0.1.segments p.thread (Contains-at m.threads place.0 p.thread place.1)))

  top_by : (frames : List FrameState) → p.segment.frames ≡ frames → FramesAnswer m.classes frames → TopFrame (run_of p)
  top_by [] is some = absurd some
  top_by (f ∷ more) is some = let last = last_of f more in record { callers = last.0; frame = last.1; are_frames = is ∙ last.2 }

  abbrev Fits : FrameState → Type 0
  Fits f = TopFits m p.home.inside p.segment f

  fits : (top : TopFrame (run_of p)) → Fits top.frame
  fits top =
      let place = thread_place m t p in
      let row =
      (frames_at m (λ inside f. TopFits m inside p.segment f) p.segment p.home
      (lower_fit m p.lower p.segment
      (subst (SegmentsFit m) p.are_segments (known.0.0.threads.segments p.thread (Contains-at m.threads place.0 p.thread place.1))))).fit in
      fit_top m.classes p.home.inside.heap Fits top.callers top.frame
      (subst (FramesFit Fits m.classes p.home.inside.heap) top.are_frames row)

  code_of : (f : FrameState) → Fits f → f.head.need ≡ None → RunsCode m.classes f
  code_of f (inl (inl empty)) none = absurd (empty.need none)
  code_of f (inl (inr (stands, (typing, holds)))) none = code_here m.classes f typing
  code_of f (inr (revoked, call)) none = code_here m.classes f call.typing

  only_top : (a b : TopFrame (run_of p)) → a.frame ≡ b.frame
  only_top a b = (one_last a.callers b.callers a.frame b.frame (sym a.are_frames ∙ b.are_frames)).1

  by_need : (top : TopFrame (run_of p)) → NeedsOne m.classes top.frame ⊎ ((d : ClassId) → FrameNeeds m.classes top.frame d → ⊥)
      → Waits p ⊎ (Waits p → ⊥)
  by_need top (inl one) = elim (elsewhere_by p.home.inside.own t one.class (state_of p.home.inside.own one.class) refl) [
    | inl elsewhere ↦ inl (top, one.class, one.needs, elsewhere)
    | inr here ↦
        inr (λ (other, d, needs, elsewhere).
        let same : d ≡ one.class = one.only d (subst (λ (f : FrameState). FrameNeeds m.classes f d) (only_top other top) needs) in
        here (subst (IsInProgressElsewhere p.home.inside.own t) same elsewhere))
  ]
  by_need top (inr never) =
      inr (λ (other, d, needs, elsewhere). never d (subst (λ (f : FrameState). FrameNeeds m.classes f d) (only_top other top) needs))

  pub waits_or_not : Waits p ⊎ (Waits p → ⊥)
  waits_or_not =
      let top = top_by p.segment.frames refl answers in
      by_need top (frame_needs m.classes top.frame (code_of top.frame (fits top)))
