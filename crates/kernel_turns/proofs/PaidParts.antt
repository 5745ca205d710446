-- Where a step is paid, all that is known of the parts and of their machine is known still.
use Rattle.std.proofs.Common.{◌≡◌, ℕ, ◌-◌, ◌==◌, Bool, true, false, cond, slice_get, Some, option_map, refl, sym, ap, subst}
use Rattle.jk_model.specs.declared.identifiers.DomainId.{DomainId}
use Rattle.jk_model_sharing.specs.SharedStates.{SharedDomain, SharedState, spent}
use Rattle.jk_model_machine_state.specs.Machines.{paid}
use Rattle.list_lemmas.proofs.ItemsByPlace.{comes_from}
use Rattle.machine_laws.proofs.ChangedItems.{as_many}
use Rattle.machine_laws.proofs.PaidSteps.{known_paid}
use Rattle.machine_laws.specs.KnownMachines.{IsKnownMachine}
use Rattle.machine_parts.proofs.DomainsChanged.{payments_change_machines}
use Rattle.kernel_parts.specs.SoundKernels.{AreSoundParts, KernelContent, kernel_machine, parts_of}
use Rattle.kernel_turns.specs.RunningPlaces.{paying}
use Rattle.domain_crossing.proofs.FitsAgain.{KeepsShared, WasShared, fits_again, same_owns}

module _ (d : DomainId) (s : SharedState) where
  abbrev pays : SharedDomain → SharedDomain
  pays e = cond (e.number.0 == d.0) (record e { steps_left = option_map (λ (n : ℕ). n - 1) e.steps_left }) e

  was_by : (b : Bool) (i : ℕ) (x e : SharedDomain) → slice_get s.domains i ≡ Some x
      → cond b (record x { steps_left = option_map (λ (n : ℕ). n - 1) x.steps_left }) x ≡ e → WasShared s.domains i e
  was_by true i x e at is = record {
    before = x;
    at = at;
    number = ap (λ (y : SharedDomain). y.number) (sym is);
    live = ap (λ (y : SharedDomain). y.live) (sym is);
    quotas = ap (λ (y : SharedDomain). y.quotas) (sym is);
    caps = ap (λ (y : SharedDomain). y.caps) (sym is);
  }
  was_by false i x e at is = record {
    before = x;
    at = at;
    number = ap (λ (y : SharedDomain). y.number) (sym is);
    live = ap (λ (y : SharedDomain). y.live) (sym is);
    quotas = ap (λ (y : SharedDomain). y.quotas) (sym is);
    caps = ap (λ (y : SharedDomain). y.caps) (sym is);
  }

  pub keeps_paid : KeepsShared s (spent d s)
  keeps_paid = record {
    as_many = as_many pays s.domains;
    each = λ i e at.
        let from = comes_from pays s.domains i e at in
        was_by (from.from.number.0 == d.0) i from.from e from.there from.gives;
    stubs = refl;
  }

module _ (k : KernelContent) (d : DomainId) (parts : AreSoundParts k) (known : IsKnownMachine (kernel_machine k)) where
  pub is_paid : kernel_machine (paying d k) ≡ paid d (kernel_machine k)
  is_paid = payments_change_machines (parts_of k) d parts.fitting.domains

  pub known_after : IsKnownMachine (kernel_machine (paying d k))
  known_after = subst IsKnownMachine (sym is_paid) (known_paid (kernel_machine k) d known)

  pub parts_paid : AreSoundParts (paying d k)
  parts_paid = record {
    fitting = fits_again (parts_of k) parts.fitting (parts_of k).owns (spent d k.shared) k.heap k.frames (keeps_paid d k.shared)
        (same_owns (parts_of k).owns) (λ e. refl) (λ e. refl) parts.fitting.used.words parts.fitting.used.chunks
        (record { each = parts.fitting.segments.each; no_others = parts.fitting.segments.no_others }) parts.fitting.calm;
    sealed = known_after.0.0;
    sound = known_after.1;
    world = parts.world;
    few_classes = parts.few_classes;
    rooms = parts.rooms;
    main = parts.main;
  }
