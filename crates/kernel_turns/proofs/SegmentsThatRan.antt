-- Parts in which the top segment of a thread has run over the contents of the stores.
use Rattle.std.proofs.Common.{◌≡◌, refl, sym, ap, subst, ◌∙◌}
use Rattle.std.proofs.lemmas.Option.{same_Some}
use Rattle.jk_model.specs.declared.identifiers.ThreadNo.{ThreadNo}
use Rattle.jk_model_classes.specs.Worlds.{DomainRecord}
use Rattle.jk_model_heaps.specs.Workings.{Run}
use Rattle.jk_model_machine_state.specs.Places.{RunningSegment, run_of, with_run}
use Rattle.machine_parts.specs.ChangedParts.{AreSegmentsApart}
use Rattle.machine_parts.specs.FittingParts.{AreFittingParts}
use Rattle.machine_parts.specs.MachineParts.{machine_of}
use Rattle.step_contents.specs.Contents.{Becomes, Contents}
use Rattle.kernel_parts.specs.SoundKernels.{KernelContent, kernel_machine, parts_of}
use Rattle.kernel_turns.specs.RunningPlaces.{RunsAt, contents_at, here_in}
use Rattle.domain_crossing.proofs.DomainsByPlace.{names_there}
use Rattle.kernel_turns.proofs.FittingRuns.{fits_after_run}
use Rattle.kernel_turns.proofs.KeptParts.{becoming, own_there}
use Rattle.kernel_turns.proofs.PlacedThreads.{own_at, place}
use Rattle.kernel_turns.proofs.RanParts.{after, has_run, owns_after}
use Rattle.kernel_turns.proofs.SegmentsApart.{apart_in_machine, apart_in_shared}

module _ (k : KernelContent) (t : ThreadNo) (at : RunsAt k t) (fit : AreFittingParts (parts_of k)) (apart : AreSegmentsApart (kernel_machine k))
    (left : Contents) (run : Run) (becomes : Becomes (contents_at at) left (here_in k at.segment) (run_of (place k t at fit.domains)) run) where
  abbrev pub ran : KernelContent
  ran = becoming k t at left.own k.shared left.heaps left.frames

  -- the parts for which it stands, one changed after the other
  parts_are : parts_of ran ≡ after k t at fit apart left (run_of (place k t at fit.domains)) run becomes
  parts_are = λ i. record {
    world = k.world;
    owns = owns_after k t at fit apart left (run_of (place k t at fit.domains)) run becomes i;
    shared = k.shared;
    heap = left.heaps;
    frames = left.frames;
  }

  pub is_ran : kernel_machine ran ≡ with_run (place k t at fit.domains) run
  is_ran = ap machine_of parts_are ∙ has_run k t at fit apart left (run_of (place k t at fit.domains)) run becomes

  pub fit_ran : AreFittingParts (parts_of ran)
  fit_ran =
      subst AreFittingParts (sym parts_are) (fits_after_run k t at fit apart left (run_of (place k t at fit.domains)) run refl becomes)

  pub apart_ran : AreSegmentsApart (kernel_machine ran)
  apart_ran = apart_in_machine (parts_of ran) (apart_in_shared (parts_of k) apart)

  abbrev pub at_ran : RunsAt ran t
  at_ran = record {
    segment = at.segment;
    is_top = at.is_top;
    own = left.own;
    is_own = own_there k t at left.own k.shared left.heaps left.frames;
  }

  abbrev pub place_ran : RunningSegment (kernel_machine ran) t
  place_ran = place ran t at_ran fit_ran.domains

  -- the domain has its name
  pub same_name : place_ran.home.domain.name ≡ (place k t at fit.domains).home.domain.name
  same_name =
      let one = names_there (parts_of ran) fit_ran.domains at.segment.domain left.own.state (own_at ran t at_ran fit_ran.domains) in
      let other = names_there (parts_of k) fit.domains at.segment.domain at.own.state (own_at k t at fit.domains) in
      ap (λ (names : DomainRecord). names.name) (same_Some one.0 other.0 (sym one.1 ∙ other.1))
