-- The setting in which a thread of the machine runs is that of the contents of the stores.
use Rattle.std.proofs.Common.{◌≡◌, ℕ, ◌-◌, [], Contains, Option, refl, sym, ap, ◌∙◌}
use Rattle.std.specs.Option.{option_map_or}
use Rattle.jk_model.specs.declared.identifiers.DomainId.{DomainId}
use Rattle.jk_model.specs.declared.identifiers.ThreadNo.{ThreadNo}
use Rattle.jk_model_classes.specs.declared.sharing.Stub.{Stub}
use Rattle.jk_model_classes.specs.Classes.{HasClass}
use Rattle.jk_model_machine_state.specs.Machines.{chunks_used}
use Rattle.jk_model_machine_state.specs.Places.{setting_of}
use Rattle.list_lemmas.proofs.ItemsByPlace.{not_missing}
use Rattle.list_lemmas.proofs.ItemsOfLists.{Contains-none}
use Rattle.machine_parts.specs.FittingParts.{AreFittingParts}
use Rattle.step_contents.specs.Settings.{AreStandIns, IsSetting}
use Rattle.kernel_parts.specs.SoundKernels.{KernelContent, kernel_machine, parts_of}
use Rattle.kernel_turns.specs.RunningPlaces.{RunsAt, contents_at, here_in}
use Rattle.domain_crossing.proofs.DomainsByPlace.{caps_are_shared, names_there, number_is, shared_there}
use Rattle.kernel_turns.proofs.PlacedThreads.{home, own_at, place}

module _ (k : KernelContent) (t : ThreadNo) (at : RunsAt k t) (fit : AreFittingParts (parts_of k))
    (stubs : (s : Stub) → Contains k.shared.stubs s → HasClass k.world.classes s.class) where
  none_stands_in : AreStandIns k.world.classes k.shared.stubs []
  none_stands_in s missing = (
    λ there. absurd (not_missing k.world.classes s.class.0 (stubs s there) missing),
    λ there. absurd (Contains-none s there),
  )

  chunks_same : (setting_of (place k t at fit.domains)).chunks ≡ option_map_or (λ (q : ℕ). q - k.frames.used at.segment.domain)
      (k.frames.quota at.segment.domain) 0
  chunks_same =
      let d = at.segment.domain in
      let s = shared_there (parts_of k) fit.domains d at.own.state (own_at k t at fit.domains) in
      let number = number_is (parts_of k) fit.domains d at.own.state (own_at k t at fit.domains) in
      ap (λ (n : DomainId). s.0.quotas.chunks - chunks_used (kernel_machine k) n) number
      ∙ ap (λ (n : ℕ). s.0.quotas.chunks - n) (sym (fit.used.chunks d))
      ∙ sym (ap (λ (o : Option ℕ). option_map_or (λ (q : ℕ). q - k.frames.used d) o 0) (fit.live.chunks d (home k t at fit.domains)))

  pub is_setting : IsSetting (contents_at at) (here_in k at.segment) (setting_of (place k t at fit.domains))
  is_setting =
      let d = at.segment.domain in
      let names = names_there (parts_of k) fit.domains d at.own.state (own_at k t at fit.domains) in
      record {
        classes = refl;
        caps = record { ranges = caps_are_shared (parts_of k) fit.domains; stand_ins = none_stands_in };
        names = names.0;
        is_domain = names.1;
        name = refl;
        segment = refl;
        quota = fit.live.words d (home k t at fit.domains);
        chunks = chunks_same;
      }
