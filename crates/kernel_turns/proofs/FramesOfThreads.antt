-- Where a live thread runs, and what it does where its steps stay in its frame.
use Rattle.std.proofs.Common.{◌≡◌, ◌==◌, find, List, [], ◌∷◌, map, slice_get, Option, Some, None, option_map, sym, ap, subst, ◌∙◌}
use Rattle.std.specs.Prelude.{option_and_then}
use Rattle.std.proofs.lemmas.Option.{same_Some}
use Rattle.list_lemmas.proofs.FoundItems.{Finds, finds}
use Rattle.list_lemmas.proofs.ItemsByPlace.{comes_from}
use Rattle.list_lemmas.proofs.ItemsOfLists.{Contains-at}
use Rattle.list_lemmas.proofs.TestsAndOrders.{mapped_option}
use Rattle.jk_model.specs.declared.identifiers.DomainId.{DomainId}
use Rattle.jk_model.specs.declared.identifiers.ThreadNo.{ThreadNo}
use Rattle.jk_model_sharing.specs.Segments.{SharedSegment, SharedThread, top_of, top_segment}
use Rattle.jk_model_machine_state.specs.Places.{LiveDomain}
use Rattle.jk_model_runs.specs.Sealed.{SegmentsFit}
use Rattle.class_init.specs.KeptStates.{KeptState}
use Rattle.heap_laws.proofs.MappedLists.{mapped}
use Rattle.kernel_parts.specs.SoundKernels.{AreKernelParts, KernelContent, kernel_machine, parts_of}
use Rattle.machine_laws.specs.KnownMachines.{IsKnownMachine}
use Rattle.machine_parts.specs.FittingParts.{HaveOneList}
use Rattle.machine_parts.specs.MachineParts.{segment_with_frames, thread_with_frames}
use Rattle.segment_steps.specs.declared.meeting.Runs.{Runs}
use Rattle.thread_segments.specs.Asked.{IsLiveDomain}
use Rattle.kernel_turns.specs.declared.running.Running.{Running}
use Rattle.kernel_turns.specs.LiveThreads.{IsRunning}
use Rattle.kernel_turns.specs.RunningPlaces.{RunsAt, runs}
use Rattle.domain_crossing.proofs.DomainsByPlace.{own_of_live, shared_found, shared_is_live, shared_there}
use Rattle.kernel_turns.proofs.PlacedThreads.{own_at}

-- ---- The own state of the domain in which a thread's top segment runs.

pub record OwnAt (k : KernelContent) (d : DomainId) : Type 0 where
  pub own : KeptState
  pub is_own : slice_get k.owns d.0 ≡ Some (Some own)

pub own_of : (k : KernelContent) (d : DomainId) → HaveOneList (parts_of k) → LiveDomain (kernel_machine k) d → OwnAt k d
own_of k d one live =
    let found = own_of_live (parts_of k) one d live in
    let from = comes_from (option_map (λ (own : KeptState). own.state)) k.owns d.0 (Some found.0) found.1 in
    let kept = mapped_option (λ (own : KeptState). own.state) from.from found.0 from.gives in
    record { own = kept.0; is_own = from.there ∙ ap Some kept.1 }

-- the top one of a thread's segments has a live domain
top_lives : (k : KernelContent) (s : SharedSegment) (segments : List SharedSegment) → top_of segments ≡ Some s
    → SegmentsFit (kernel_machine k) (map (segment_with_frames k.frames) segments) → LiveDomain (kernel_machine k) s.domain
top_lives k s [] is fits = absurd cc
top_lives k s (x ∷ []) is fits = subst (λ (y : SharedSegment). LiveDomain (kernel_machine k) y.domain) (same_Some x s is) fits.home
top_lives k s (x ∷ above ∷ more) is fits = top_lives k s (above ∷ more) is fits.1

module _ (k : KernelContent) (t : ThreadNo) (parts : AreKernelParts k) (known : IsKnownMachine (kernel_machine k)) where
  pub top_home : (s : SharedSegment) → top_segment k.shared.threads t ≡ Some s → LiveDomain (kernel_machine k) s.domain
  top_home s is = by (find (λ (e : SharedThread). e.number.0 == t.0) k.shared.threads)
      (finds (λ (e : SharedThread). e.number.0 == t.0) k.shared.threads) is
    where
      by : (o : Option SharedThread) → Finds (λ (e : SharedThread). e.number.0 == t.0) k.shared.threads o
          → option_and_then (λ (e : SharedThread). top_of e.segments) o ≡ Some s → LiveDomain (kernel_machine k) s.domain
      by None h top = absurd cc
      by (Some e) h top =
          let there = Contains-at k.shared.threads h.0 e h.1 in
          top_lives k s e.segments top
          (known.0.0.threads.segments (thread_with_frames k.frames e) (mapped (thread_with_frames k.frames) k.shared.threads e there))

  unfoldable pub runs_at : (s : SharedSegment) → top_segment k.shared.threads t ≡ Some s → RunsAt k t
  runs_at s is =
      let own = own_of k s.domain parts.sound.fitting.domains (top_home s is) in
      record { segment = s; is_top = is; own = own.own; is_own = own.is_own }

  -- ---- As code is told it.

  module _ (x : Running) (is : IsRunning k.shared.threads t x) where
    abbrev pub at : RunsAt k t
    at = runs_at is.segment is.is_top

    -- what holds of the place holds of the one that code has
    there : (P : Runs → Type 0) → P (runs t is.segment) → P x.runs
    there P = subst P (sym is.runs_there)

    pub lives : IsLiveDomain k.shared x.runs.domain
    unfolding runs_at
    lives =
        let one = parts.sound.fitting.domains in
        let own = own_at k t at one in
        let s = shared_there (parts_of k) one is.segment.domain at.own.state own in
        there (λ r. IsLiveDomain k.shared r.domain)
        (s.0, shared_found (parts_of k) one is.segment.domain s.0 s.1, shared_is_live (parts_of k) one is.segment.domain at.own.state own)
