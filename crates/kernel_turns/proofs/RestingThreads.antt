-- Threads that rest: one that isn't live, one whose top segment is suspended or waits for a class, and one whose domain has no step left.
use Rattle.std.proofs.Common.{◌≡◌, ◌==◌, inl, inr, Bool, true, List, [], ◌∷◌, map, Option, Some, None, refl, sym, ap, subst, ◌∙◌}
use Rattle.std.specs.Prelude.{option_and_then}
use Rattle.std.proofs.lemmas.Option.{same_Some}
use Rattle.jk_model.specs.declared.identifiers.ClassId.{ClassId}
use Rattle.jk_model.specs.declared.identifiers.ThreadNo.{ThreadNo}
use Rattle.jk_model_frames.specs.Frames.{FrameState}
use Rattle.jk_model_running.specs.Initialising.{FrameNeeds, IsInProgressElsewhere}
use Rattle.jk_model_running.specs.LocalSteps.{TopFrame}
use Rattle.jk_model_sharing.specs.Segments.{SharedSegment, SharedThread, thread_numbered, top_of, top_segment}
use Rattle.jk_model_sharing.specs.SharedStates.{SharedDomain, domain_numbered}
use Rattle.jk_model_machine_state.specs.Places.{RunningSegment, run_of}
use Rattle.jk_model_runs.specs.Sealed.{IsSealed, SegmentsFit}
use Rattle.jk_model_runs.specs.Steps.{IsHeld, is_held, is_spent, not_live}
use Rattle.list_lemmas.proofs.FoundItems.{Finds, finds}
use Rattle.list_lemmas.proofs.ItemsOfLists.{Contains-at}
use Rattle.frame_store.specs.FrameContents.{StoredSegment}
use Rattle.frame_store.specs.FrameContents.{TopFrame as StoredTop}
use Rattle.heap_laws.proofs.MappedLists.{mapped}
use Rattle.machine_parts.specs.FittingParts.{AreFittingParts}
use Rattle.machine_parts.specs.MachineParts.{frames_in, segment_with_frames, thread_with_frames}
use Rattle.machine_parts.proofs.TopsOfThreads.{lives_in_both}
use Rattle.kernel_parts.specs.SoundKernels.{KernelContent, kernel_machine, parts_of}
use Rattle.kernel_turns.specs.RestingThreads.{IsResting}
use Rattle.kernel_turns.specs.RunningPlaces.{RunsAt}
use Rattle.domain_crossing.proofs.DomainsByPlace.{shared_found, shared_there}
use Rattle.kernel_turns.proofs.PlacedThreads.{own_at, place, stored}

-- ---- It isn't live.

module _ (k : KernelContent) (t : ThreadNo) where
  abbrev has_number : SharedThread → Bool
  has_number e = e.number.0 == t.0

  none_on_top : (e : SharedThread) → SegmentsFit (kernel_machine k) (map (segment_with_frames k.frames) e.segments) → top_of e.segments ≡ None → ⊥
  none_on_top e fits none = empty e.segments fits none
    where
      empty : (segments : List SharedSegment) → SegmentsFit (kernel_machine k) (map (segment_with_frames k.frames) segments) → top_of segments ≡ None → ⊥
      empty [] fits none = fits
      empty (s ∷ []) fits none = absurd cc
      empty (s ∷ above ∷ more) fits none = empty (above ∷ more) fits.1 none

  top_by : IsSealed (kernel_machine k) → (o : Option SharedThread) (e : SharedThread) → Finds has_number k.shared.threads o → o ≡ Some e
      → option_and_then (λ (x : SharedThread). top_of x.segments) o ≡ None → ⊥
  top_by sealed None e h is top = absurd cc
  top_by sealed (Some x) e h is top =
      none_on_top x
      (sealed.threads.segments (thread_with_frames k.frames x)
      (mapped (thread_with_frames k.frames) k.shared.threads x (Contains-at k.shared.threads h.0 x h.1))) top

  pub dead_rests : IsSealed (kernel_machine k) → top_segment k.shared.threads t ≡ None → IsResting (kernel_machine k) t
  dead_rests sealed none =
      not_live
      (λ live.
      let found = lives_in_both (parts_of k) t live in
      top_by sealed (thread_numbered k.shared.threads t) found.0 (finds has_number k.shared.threads) found.1 none)

-- ---- It is held, or its domain has no step left.

module _ (k : KernelContent) (t : ThreadNo) (at : RunsAt k t) (fit : AreFittingParts (parts_of k)) where
  abbrev p : RunningSegment (kernel_machine k) t
  p = place k t at fit.domains

  held_rests : IsHeld p → IsResting (kernel_machine k) t
  held_rests held = is_held p held

  pub suspended_rests : at.segment.suspended ≡ true → IsResting (kernel_machine k) t
  suspended_rests on = held_rests (inl on)

  -- the top frame in the store is that of the run
  top_of_run : (f : FrameState) → StoredTop k.frames at.segment.number f → (top : TopFrame (run_of p)) × (top.frame ≡ f)
  top_of_run f top =
      let same : top.segment ≡ record { domain = at.segment.domain; frames = frames_in k.frames at.segment.number } =
      same_Some top.segment (record { domain = at.segment.domain; frames = frames_in k.frames at.segment.number })
      (sym top.is_there ∙ stored k t at fit.domains fit.segments) in
      (record { callers = top.lower; frame = f; are_frames = ap (λ (g : StoredSegment). g.frames) (sym same) ∙ top.frames }, refl)

  pub waiting_rests : (f : FrameState) (c : ClassId) → StoredTop k.frames at.segment.number f → FrameNeeds k.world.classes f c
      → IsInProgressElsewhere at.own.state t c → IsResting (kernel_machine k) t
  waiting_rests f c top needs elsewhere =
      let run = top_of_run f top in
      held_rests (inr (run.0, c, subst (λ (g : FrameState). FrameNeeds k.world.classes g c) (sym run.1) needs, elsewhere))

  pub spent_rests : (IsHeld p → ⊥) → (s : SharedDomain) → domain_numbered k.shared at.segment.domain ≡ Some s → s.steps_left ≡ Some 0
      → IsResting (kernel_machine k) t
  spent_rests not_held s is none =
      let own = own_at k t at fit.domains in
      let there = shared_there (parts_of k) fit.domains at.segment.domain at.own.state own in
      let same : there.0 ≡ s =
      same_Some there.0 s (sym (shared_found (parts_of k) fit.domains at.segment.domain there.0 there.1) ∙ is) in
      is_spent p not_held (ap (λ (e : SharedDomain). e.steps_left) same ∙ none)
