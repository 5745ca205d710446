-- The place at which a thread of the machine runs, by the parts: its segment has the frames of the store, and its domain's inside is what the
-- stores and the own state have.
use Rattle.std.proofs.Common.{◌≡◌, ◌==◌, Bool, true, List, [], ◌∷◌, ◌++◌, slice_get, Contains, Option, Some, None, option_map, refl, sym, ap, ◌∙◌}
use Rattle.std.specs.Prelude.{option_and_then}
use Rattle.std.proofs.lemmas.Option.{same_Some}
use Rattle.jk_model.specs.declared.identifiers.ThreadNo.{ThreadNo}
use Rattle.jk_model_sharing.specs.Segments.{SharedSegment, SharedThread, thread_numbered, top_of}
use Rattle.jk_model_machine_state.specs.Machines.{Segment}
use Rattle.jk_model_machine_state.specs.Places.{LiveDomain, RunningSegment}
use Rattle.list_lemmas.proofs.FoundItems.{Finds, finds}
use Rattle.list_lemmas.proofs.ItemsByPlace.{mapped_at}
use Rattle.list_lemmas.proofs.ItemsOfLists.{Contains-at, Contains-there}
use Rattle.class_init.specs.KeptStates.{KeptState}
use Rattle.machine_parts.specs.FittingParts.{HaveOneList, HaveSegments}
use Rattle.machine_parts.specs.MachineParts.{frames_in, segment_with_frames}
use Rattle.machine_parts.specs.RunningParts.{StandsOnTop}
use Rattle.machine_parts.proofs.TopsOfThreads.{stands_on_top, top_runs}
use Rattle.kernel_parts.specs.SoundKernels.{KernelContent, kernel_machine, parts_of}
use Rattle.kernel_turns.specs.RunningPlaces.{RunsAt}
use Rattle.domain_crossing.proofs.DomainsByPlace.{home_of}

pub top_is_there : (segments : List SharedSegment) (s : SharedSegment) → top_of segments ≡ Some s → Contains segments s
top_is_there [] s is = absurd cc
top_is_there (x ∷ []) s is = (let same = same_Some x s is in Contains-at (x ∷ []) 0 s is)
top_is_there (x ∷ above ∷ more) s is = Contains-there s x (above ∷ more) (top_is_there (above ∷ more) s is)

module _ (k : KernelContent) (t : ThreadNo) (at : RunsAt k t) (one : HaveOneList (parts_of k)) where
  pub own_at : slice_get (parts_of k).owns at.segment.domain.0 ≡ Some (Some at.own.state)
  own_at = mapped_at (option_map (λ (own : KeptState). own.state)) k.owns at.segment.domain.0 (Some at.own) at.is_own

  abbrev pub home : LiveDomain (kernel_machine k) at.segment.domain
  home = home_of (parts_of k) one at.segment.domain at.own.state own_at

  pub on_top : RunningSegment (kernel_machine k) t
  on_top = top_runs (parts_of k) t at.segment at.is_top home

  pub stands : StandsOnTop (parts_of k) t on_top
  stands = stands_on_top (parts_of k) t on_top

  pub segment_is : on_top.segment ≡ segment_with_frames k.frames at.segment
  segment_is = stands.runs ∙ ap (segment_with_frames k.frames) (same_Some stands.segment at.segment (sym stands.is_top ∙ at.is_top))

  pub stack_is : on_top.thread.segments ≡ on_top.lower ++ segment_with_frames k.frames at.segment ∷ []
  stack_is = on_top.are_segments ∙ ap (λ (s : Segment). on_top.lower ++ s ∷ []) segment_is

  abbrev pub place : RunningSegment (kernel_machine k) t
  place = record {
    thread = on_top.thread;
    is_thread = on_top.is_thread;
    lower = on_top.lower;
    segment = segment_with_frames k.frames at.segment;
    are_segments = stack_is;
    home = home;
  }

  -- ---- What domains share of it.

  pub thread_found : (e : SharedThread) × Contains k.shared.threads e × Contains e.segments at.segment × (e.number.0 == t.0 ≡ true)
  thread_found = by (thread_numbered k.shared.threads t) refl (finds has_number k.shared.threads)
    where
      has_number : SharedThread → Bool
      has_number e = e.number.0 == t.0

      by : (o : Option SharedThread) → thread_numbered k.shared.threads t ≡ o → Finds has_number k.shared.threads o
          → (e : SharedThread) × Contains k.shared.threads e × Contains e.segments at.segment × (e.number.0 == t.0 ≡ true)
      by None is h =
          let never : None ≡ Some at.segment = sym (ap (option_and_then (λ (e : SharedThread). top_of e.segments)) is) ∙ at.is_top in
          absurd cc
      by (Some e) is h =
          let top : top_of e.segments ≡ Some at.segment =
          sym (ap (option_and_then (λ (x : SharedThread). top_of x.segments)) is) ∙ at.is_top in
          (e, Contains-at k.shared.threads h.0 e h.1, top_is_there e.segments at.segment top, h.2)

  pub stored : HaveSegments (parts_of k)
      → k.frames.segment at.segment.number ≡ Some (record { domain = at.segment.domain; frames = frames_in k.frames at.segment.number })
  stored segments = segments.each thread_found.0 at.segment thread_found.1 thread_found.2
