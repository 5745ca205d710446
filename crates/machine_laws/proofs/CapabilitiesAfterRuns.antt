-- Where a segment has run, capabilities and bound names are sealed as before: no range is changed, and each target keeps its class.
use Rattle.std.proofs.Common.{◌≡◌, ℕ, ◌+◌, ◌≤◌, inl, inr, true, false, List, length, Contains, Option, Some, slice_get, refl, sym, ap, subst, ◌∙◌}
use Rattle.std.proofs.lemmas.Option.{same_Some}
use Rattle.jk_model.specs.Capabilities.{last_number}
use Rattle.jk_model.specs.declared.identifiers.ThreadNo.{ThreadNo}
use Rattle.jk_model_classes.specs.Stubs.{ImplementsRemote}
use Rattle.jk_model_heaps.specs.Capabilities.{CapRange, Capability, IsGivenOut}
use Rattle.jk_model_heaps.specs.Workings.{Inside}
use Rattle.jk_model_sealing.specs.SealedInsides.{IsOfClass}
use Rattle.jk_model_sharing.specs.BoundNames.{count_bound_by}
use Rattle.jk_model_machine_state.specs.Machines.{DomainState, Machine, is_live_domain}
use Rattle.jk_model_runs.specs.Sealed.{AreSealedCapabilities, AreSealedNames, is_stand_in, numbers_before}
use Rattle.list_lemmas.proofs.ItemsOfLists.{Contains-at}
use Rattle.heap_laws.proofs.StillFits.{of_class}
use Rattle.machine_laws.proofs.ChangedItems.{as_many, front_sums_stay}
use Rattle.machine_laws.proofs.SegmentsThatRan.{HasRun, after, caps_stay, changed, domain_cases, each_domain, home_at, home_there, part_stays}
use Rattle.machine_laws.proofs.SegmentsStillFit.{live_stays}

module _ (m : Machine) (t : ThreadNo) (r : HasRun m t) where
  pub home_lives : is_live_domain r.place.home.domain ≡ true
  home_lives = ap (λ (o : Option Inside). is_live_domain (record r.place.home.domain { inside = o })) r.place.home.is_inside

  pub no_stand_in : is_stand_in m.classes r.place.home.domain ≡ false
  no_stand_in =
      ap (λ (o : Option Inside). is_stand_in m.classes (record r.place.home.domain { inside = o })) r.place.home.is_inside

  pub numbers_stay : (i : ℕ) → numbers_before (after r) i ≡ numbers_before m i
  numbers_stay i =
      front_sums_stay (changed r) (λ (d : DomainState). d.caps.count)
      (part_stays m t r (λ (d : DomainState). d.caps.count) (λ e x. refl)) i m.domains

  chains : (i : ℕ) (d : DomainState) → slice_get (after r).domains i ≡ Some d → d.caps.first ≡ 1 + numbers_before (after r) i
  chains i d at = elim (domain_cases m t r i d at) [
    | inl (same, is) ↦
        subst (λ (x : DomainState). x.caps.first ≡ 1 + numbers_before (after r) i) is
        (r.sealed.capabilities.chained i r.place.home.domain (ap (slice_get m.domains) same ∙ home_at m t r)
        ∙ ap (λ (n : ℕ). 1 + n) (sym (numbers_stay i)))
    | inr (differ, is) ↦ r.sealed.capabilities.chained i d is ∙ ap (λ (n : ℕ). 1 + n) (sym (numbers_stay i))
  ]

  IsRemote : DomainState → Type 0
  IsRemote d = (c : Capability) → is_stand_in m.classes d ≡ false → Contains d.caps.made c → ImplementsRemote m.classes c.class

  HasTargets : DomainState → Type 0
  HasTargets d =
      (c : Capability) → Contains d.caps.made c → c.revoked ≡ false
      → (inside : Inside) × (d.inside ≡ Some inside) × IsOfClass inside.heap c.target c.class

  targets_here : (c : Capability) → Contains r.place.home.domain.caps.made c → c.revoked ≡ false
      → (inside : Inside) × (Some r.inside ≡ Some inside) × IsOfClass inside.heap c.target c.class
  targets_here c made open_ =
      let was = r.sealed.capabilities.targets r.place.home.domain c (home_there m t r) made open_ in
      let one : was.0 ≡ r.place.home.inside = same_Some was.0 r.place.home.inside (sym was.1 ∙ r.place.home.is_inside) in
      let there : IsOfClass r.place.home.inside.heap c.target c.class = subst (λ (x : Inside). IsOfClass x.heap c.target c.class) one was.2 in
      (r.inside, refl, of_class r.place.home.inside.heap r.inside.heap r.keeps.grown c.target c.class there)

  pub capabilities_sealed : AreSealedCapabilities (after r)
  unfolding IsRemote HasTargets
  capabilities_sealed = record {
    owner = each_domain m t r (λ d. d.caps.owner ≡ d.number) (r.sealed.capabilities.owner r.place.home.domain (home_there m t r))
        (λ i e differ at. r.sealed.capabilities.owner e (Contains-at m.domains i e at));
    count = each_domain m t r (λ d. d.caps.count ≡ d.quotas.caps) (r.sealed.capabilities.count r.place.home.domain (home_there m t r))
        (λ i e differ at. r.sealed.capabilities.count e (Contains-at m.domains i e at));
    chained = chains;
    within = each_domain m t r (λ d. length d.caps.made ≤ d.caps.count)
        (r.sealed.capabilities.within r.place.home.domain (home_there m t r))
        (λ i e differ at. r.sealed.capabilities.within e (Contains-at m.domains i e at));
    few = subst (λ (n : ℕ). n ≤ last_number)
        (sym (numbers_stay (length (after r).domains) ∙ ap (numbers_before m) (as_many (changed r) m.domains))) r.sealed.capabilities.few;
    remote = λ d c on stands made.
        each_domain m t r IsRemote
        (λ k no_stand. r.sealed.capabilities.remote r.place.home.domain k (home_there m t r) (no_stand_in))
        (λ i e differ at k. r.sealed.capabilities.remote e k (Contains-at m.domains i e at)) d on c stands made;
    targets = λ d c on made open_.
        each_domain m t r HasTargets targets_here
        (λ i e differ at k. r.sealed.capabilities.targets e k (Contains-at m.domains i e at)) d on c made open_;
  }

  pub names_sealed : AreSealedNames (after r)
  names_sealed = record {
    given_out = λ n bound. subst (λ (caps : List CapRange). IsGivenOut caps n.cap) (sym (caps_stay m t r)) (r.sealed.names.given_out n bound);
    binders = λ n bound. live_stays m t r n.binder (r.sealed.names.binders n bound);
    short = r.sealed.names.short;
    differ = r.sealed.names.differ;
    within = each_domain m t r (λ d. count_bound_by m.names d.number ≤ d.quotas.names)
        (r.sealed.names.within r.place.home.domain (home_there m t r))
        (λ i e differ at. r.sealed.names.within e (Contains-at m.domains i e at));
  }
