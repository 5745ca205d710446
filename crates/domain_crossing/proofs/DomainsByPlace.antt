-- A domain whose own state is kept lives in the machine, and what the three lists have at its number stands there.
use Rattle.std.proofs.Common.{◌≡◌, ℕ, ◌==◌, Bool, true, false, slice_get, Option, Some, None, sym, ap, ◌∙◌, arith, eq-eqb}
use Rattle.std.proofs.lemmas.Bool.{eqb-true}
use Rattle.std.proofs.lemmas.Option.{slice_get_within}
use Rattle.jk_model.specs.declared.identifiers.DomainId.{DomainId}
use Rattle.jk_model_classes.specs.Worlds.{DomainRecord}
use Rattle.jk_model_domains.specs.OwnStates.{OwnState}
use Rattle.jk_model_sharing.specs.SharedStates.{SharedDomain, domain_numbered}
use Rattle.jk_model_machine_state.specs.Machines.{caps_of}
use Rattle.jk_model_machine_state.specs.Places.{LiveDomain}
use Rattle.jk_model_sharing.specs.SharedStates.{caps_of as shared_caps}
use Rattle.list_lemmas.proofs.FoundItems.{Finds, finds}
use Rattle.list_lemmas.proofs.ItemsByPlace.{item_there}
use Rattle.machine_parts.specs.FittingParts.{HaveOneList}
use Rattle.machine_parts.specs.MachineParts.{MachineParts, domain_state, inside_of, machine_of}
use Rattle.machine_parts.proofs.DomainsOfParts.{live_domain_is_of_parts, same_ranges, state_at}

module _ (p : MachineParts) (one : HaveOneList p) where
  -- ---- What is shared of a domain stands at its number.

  numbered_shared : (i : ℕ) (s : SharedDomain) → slice_get p.shared.domains i ≡ Some s → s.number.0 ≡ i
  numbered_shared i s at =
      let low = slice_get_within p.shared.domains i s at in
      let same = one.shared in
      let names = item_there p.world.domains i (omega (arith, low, same)) in
      ap (λ (d : DomainId). d.0) (one.same_number i names.0 s names.1 at).0 ∙ one.numbered i names.0 names.1

  pub shared_found : (d : DomainId) (s : SharedDomain) → slice_get p.shared.domains d.0 ≡ Some s → domain_numbered p.shared d ≡ Some s
  shared_found d s at = by (domain_numbered p.shared d) (finds has_number p.shared.domains)
    where
      has_number : SharedDomain → Bool
      has_number e = e.number.0 == d.0

      by : (o : Option SharedDomain) → Finds has_number p.shared.domains o → o ≡ Some s
      by None h =
          let never : has_number s ≡ false = h d.0 s at in
          let always : has_number s ≡ true = eq-eqb s.number.0 d.0 (numbered_shared d.0 s at) in
          let both : true ≡ false = sym always ∙ never in
          absurd cc
      by (Some e) h =
          let place : h.0 ≡ d.0 = sym (numbered_shared h.0 e h.1) ∙ eqb-true e.number.0 d.0 h.2 in
          sym h.1 ∙ ap (slice_get p.shared.domains) place ∙ at

  -- ---- A domain with an own state.

  module _ (d : DomainId) (own : OwnState) (is_own : slice_get p.owns d.0 ≡ Some (Some own)) where
    pub names_there : (names : DomainRecord) × (slice_get p.world.domains d.0 ≡ Some names)
    names_there =
        let low = slice_get_within p.owns d.0 (Some own) is_own in
        let same = one.owns in
        item_there p.world.domains d.0 (omega (arith, low, same))

    pub shared_there : (s : SharedDomain) × (slice_get p.shared.domains d.0 ≡ Some s)
    shared_there =
        let low = slice_get_within p.owns d.0 (Some own) is_own in
        let same = one.owns in
        let too = one.shared in
        item_there p.shared.domains d.0 (omega (arith, low, same, too))

    pub number_is : names_there.0.id ≡ d
    number_is = λ i. record { 0 = one.numbered d.0 names_there.0 names_there.1 i }

    pub is_live : names_there.0.live ≡ true
    is_live = sym (one.same_life d.0 names_there.0 (Some own) names_there.1 is_own)

    pub shared_is_live : shared_there.0.live ≡ true
    shared_is_live = (one.same_number d.0 names_there.0 shared_there.0 names_there.1 shared_there.1).1 ∙ is_live

    pub stands_there : slice_get (machine_of p).domains d.0 ≡ Some (domain_state p.heap p.frames names_there.0 shared_there.0 (Some own))
    stands_there =
        state_at p.heap p.frames p.world.domains p.shared.domains p.owns d.0 names_there.0 shared_there.0 (Some own) names_there.1
        shared_there.1 is_own

    abbrev pub home_of : LiveDomain (machine_of p) d
    home_of = record {
      domain = domain_state p.heap p.frames names_there.0 shared_there.0 (Some own);
      is_domain = stands_there;
      numbered = number_is;
      inside = inside_of p.heap p.frames d own;
      is_inside = λ i. Some (inside_of p.heap p.frames (number_is i) own);
    }

  -- each live domain has one
  pub own_of_live : (d : DomainId) → LiveDomain (machine_of p) d → (own : OwnState) × (slice_get p.owns d.0 ≡ Some (Some own))
  own_of_live d l = let found = live_domain_is_of_parts p d l one in (found.0, found.3.is_own)

  -- ---- Capabilities.

  pub caps_are_shared : caps_of (machine_of p) ≡ shared_caps p.shared
  caps_are_shared = same_ranges p.heap p.frames p.world.domains p.shared.domains p.owns one.shared one.owns
