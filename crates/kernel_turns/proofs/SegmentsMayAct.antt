-- What a thread's top segment may rest on where it acts, or where something is raised in it, from what is known of the parts.
use Rattle.std.proofs.Common.{◌≡◌, false, Contains, List, Some, refl, sym, ap, subst, ◌∙◌}
use Rattle.std.specs.Prelude.{option_and_then}
use Rattle.jk_model.specs.declared.identifiers.CapId.{CapId}
use Rattle.jk_model.specs.declared.identifiers.ThreadNo.{ThreadNo}
use Rattle.jk_model_classes.specs.declared.records.ClassRecord.{ClassRecord}
use Rattle.jk_model_classes.specs.declared.sharing.Stub.{Stub}
use Rattle.jk_model_heaps.specs.Capabilities.{CapRange, OwnedCapability, capability_numbered}
use Rattle.jk_model_sealing.specs.FittingFrames.{FitsAsTop}
use Rattle.jk_model_sealing.specs.SealedInsides.{Surroundings}
use Rattle.jk_model_sealing.specs.SealedRuns.{IsSealedRun}
use Rattle.jk_model_sharing.specs.SharedStates.{SharedDomain, SharedState, stub_for}
use Rattle.jk_model_sharing.specs.SharedStates.{caps_of as shared_caps}
use Rattle.jk_model_machine_state.specs.Machines.{caps_of}
use Rattle.jk_model_machine_state.specs.Places.{run_of, setting_of}
use Rattle.jk_model_runs.specs.Sealed.{surroundings}
use Rattle.list_lemmas.proofs.ItemsByPlace.{comes_from}
use Rattle.list_lemmas.proofs.ItemsOfLists.{Contains-at}
use Rattle.heap_laws.specs.LaidOutObjects.{AreSmallNumbers}
use Rattle.row_laws.proofs.StatesOfFrames.{states_there}
use Rattle.machine_laws.proofs.RunningSegmentsFit.{acts_well}
use Rattle.machine_laws.specs.KnownMachines.{IsKnownMachine}
use Rattle.machine_laws.specs.SoundMachines.{HasSoundClasses}
use Rattle.machine_parts.specs.FittingParts.{HaveOneList, HaveStubs}
use Rattle.row_laws.specs.KeptRuns.{ActsWell}
use Rattle.step_contents.specs.Conditions.{KnowsDomain, SharesWell}
use Rattle.step_contents.specs.Contents.{Holds}
use Rattle.segment_steps.specs.ActingSegments.{MayAct}
use Rattle.domain_crossing.proofs.CalleesMet.{created}
use Rattle.domain_crossing.proofs.DomainsByPlace.{caps_are_shared, names_there, shared_found, shared_is_live, shared_there}
use Rattle.domain_ends.specs.TidyParts.{AreTidyParts}
use Rattle.kernel_parts.specs.SoundKernels.{KernelContent, kernel_machine, parts_of}
use Rattle.kernel_turns.specs.RunningPlaces.{RunsAt, contents_at, here_in}
use Rattle.kernel_turns.proofs.PlacedThreads.{home, own_at, place, stored}
use Rattle.kernel_turns.proofs.SmallNumbers.{small_numbers}

-- a capability that was given out has a stub
stub_made : (classes : List ClassRecord) (s : SharedState) (k : CapId) (known : OwnedCapability) → HaveStubs classes s
    → capability_numbered (shared_caps s) k ≡ Some known → (stub : Stub) × (stub_for s known.capability.class ≡ Some stub)
stub_made classes s k known have is =
    let at = created (shared_caps s) k known is in
    let from = comes_from (λ (e : SharedDomain). e.caps) s.domains at.place at.range at.is_range in
    have.made from.from known.capability (Contains-at s.domains at.place from.from from.there)
    (subst (λ (r : CapRange). Contains r.made known.capability) (sym from.gives) at.made)

module _ (k : KernelContent) (t : ThreadNo) (at : RunsAt k t) (tidy : AreTidyParts k) (sound : HasSoundClasses (kernel_machine k))
    (small : AreSmallNumbers (caps_of (kernel_machine k))) where
  abbrev pub fit_domains : HaveOneList (parts_of k)
  fit_domains = tidy.fitting.domains

  pub shares_well : SharesWell k.world.classes k.shared at.segment.domain
  shares_well =
      let d = at.segment.domain in
      let own = own_at k t at fit_domains in
      let s = shared_there (parts_of k) fit_domains d at.own.state own in
      record {
        domain = s.0;
        is_domain = shared_found (parts_of k) fit_domains d s.0 s.1;
        live = shared_is_live (parts_of k) fit_domains d at.own.state own;
        stubs = tidy.fitting.stubs.known;
        remote = tidy.fitting.stubs.all;
        capabilities = λ c given.
            let stub = stub_made k.world.classes k.shared c given.0 tidy.fitting.stubs given.1 in (
              (stub.0, ap (option_and_then (λ (o : OwnedCapability). stub_for k.shared o.capability.class)) given.1 ∙ stub.1),
              small c (given.0, ap (λ (caps : List CapRange). capability_numbered caps c) (caps_are_shared (parts_of k) fit_domains) ∙ given.1),
            );
      }

  abbrev pub knows : KnowsDomain (contents_at at) (here_in k at.segment)
  knows =
      let d = at.segment.domain in
      let names = names_there (parts_of k) fit_domains d at.own.state (own_at k t at fit_domains) in
      record {
        names = names.0;
        is_domain = names.1;
        quota = (home k t at fit_domains).domain.quotas.heap;
        has_quota = tidy.fitting.live.words d (home k t at fit_domains);
        codes = sound.codes;
        table = sound.tables (home k t at fit_domains).domain
            (Contains-at (kernel_machine k).domains d.0 (home k t at fit_domains).domain (home k t at fit_domains).is_domain);
        shares = shares_well;
        rooms = tidy.rooms d.0 names.0 at.own names.1 at.is_own;
        used = tidy.fitting.used.words d;
      }

  pub holds : Holds (contents_at at) (here_in k at.segment) (run_of (place k t at fit_domains))
  holds = record { inside = refl; frames = stored k t at fit_domains tidy.fitting.segments }

  -- what surrounds the domain, as the machine and as the parts have it
  pub same_around : surroundings (kernel_machine k) (home k t at fit_domains).domain
      ≡ record { classes = k.world.classes; table = (home k t at fit_domains).domain.table; caps = shared_caps k.shared }
  same_around = λ i. record {
    classes = k.world.classes;
    table = (home k t at fit_domains).domain.table;
    caps = caps_are_shared (parts_of k) fit_domains i;
  }

-- ---- It acts, where no RevokedException is pending.

module _ (k : KernelContent) (t : ThreadNo) (at : RunsAt k t) (tidy : AreTidyParts k) (known : IsKnownMachine (kernel_machine k)) where
  pub acts : at.segment.revoked ≡ false
      → ActsWell (surroundings (kernel_machine k) (home k t at tidy.fitting.domains).domain) (setting_of (place k t at tidy.fitting.domains)) t
      (run_of (place k t at tidy.fitting.domains))
  acts calm = acts_well (kernel_machine k) t (place k t at tidy.fitting.domains) known calm

  abbrev pub may_act : at.segment.revoked ≡ false → MayAct (contents_at at) (here_in k at.segment)
  may_act calm =
      let well = acts calm in
      let small = small_numbers (kernel_machine k) known.0.0 in
      let run = run_of (place k t at tidy.fitting.domains) in
      record {
        domain = knows k t at tidy known.1 small;
        run = run;
        holds = holds k t at tidy known.1 small;
        sealed = subst
            (λ (a : Surroundings). IsSealedRun a (knows k t at tidy known.1 small).quota (FitsAsTop k.world.classes run.inside.heap) run)
            (same_around k t at tidy known.1 small) well.sealed;
        answers = well.answers;
        states = states_there t run.inside.own run.frames well.progress;
      }
