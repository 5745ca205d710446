-- The live domain of a name among a kernel's parts is that of its machine.
use Rattle.std.proofs.Common.{◌≡◌, ℕ, ◌&&◌, Bool, true, find, List, Option, Some, None, is_some, slice_get, bytes_eq, refl, sym, ap, ◌∙◌, arith}
use Rattle.std.proofs.lemmas.Bool.{and_parts}
use Rattle.std.proofs.lemmas.Option.{same_Some, slice_get_within}
use Rattle.std.proofs.lemmas.Slice.Eq.{bytes_eq-Decides}
use Rattle.list_lemmas.proofs.FoundItems.{Finds, finds}
use Rattle.list_lemmas.proofs.ItemsByPlace.{item_there}
use Rattle.jk_model.specs.declared.identifiers.DomainId.{DomainId}
use Rattle.jk_model_classes.specs.Worlds.{DomainRecord, IsLiveNamed}
use Rattle.jk_model_domains.specs.OwnStates.{OwnState}
use Rattle.jk_model_sharing.specs.SharedStates.{SharedDomain}
use Rattle.jk_model_machine_state.specs.Machines.{DomainState, Machine, is_live_domain, live_domain}
use Rattle.jk_model_machine_state.specs.Places.{LiveDomain}
use Rattle.machine_parts.specs.ChangedParts.{StandsInParts}
use Rattle.machine_parts.specs.MachineParts.{MachineParts, domain_state}
use Rattle.machine_parts.proofs.DomainsOfParts.{at_place}
use Rattle.kernel_parts.specs.SoundKernels.{AreKernelParts, KernelContent, kernel_machine, parts_of}
use Rattle.kernel_openings.proofs.PartsByPlace.{live_from, same_domain}

-- what lives has an own state
lives_by : (p : MachineParts) (names : DomainRecord) (s : SharedDomain) (own : Option OwnState)
    → is_live_domain (domain_state p.heap p.frames names s own) ≡ true → is_some own ≡ true
lives_by p names s None alive = alive
lives_by p names s (Some x) alive = refl

some_by : (own : Option OwnState) → is_some own ≡ true → (x : OwnState) × (own ≡ Some x)
some_by (Some x) lives = (x, refl)
some_by None lives = absurd cc

module _ (k : KernelContent) (sound : AreKernelParts k) (name : List ℕ) where
  abbrev m : Machine
  m = kernel_machine k

  abbrev p : MachineParts
  p = parts_of k

  abbrev has_name : DomainState → Bool
  has_name e = is_live_domain e && bytes_eq e.name name

  -- ---- No live domain has the name.

  -- what passes is a live domain of the world
  passes_named : (i : ℕ) (e : DomainState) → slice_get m.domains i ≡ Some e → has_name e ≡ true
      → (id : DomainId) × IsLiveNamed k.world name id
  passes_named i e at passes =
      let is = at_place p.heap p.frames p.world.domains p.shared.domains p.owns i e at in
      let both = and_parts (is_live_domain e) (bytes_eq e.name name) passes in
      let named : is.names.name ≡ name =
      sym (ap (λ (x : DomainState). x.name) is.is_state) ∙ (bytes_eq-Decides e.name name).0 both.1 in
      let alive : is_live_domain (domain_state p.heap p.frames is.names is.s is.own) ≡ true = ap is_live_domain (sym is.is_state) ∙ both.0 in
      let own : is_some is.own ≡ true = lives_by p is.names is.s is.own alive in
      (record { 0 = i }, (is.names, is.is_named, sym (sound.sound.fitting.domains.same_life i is.names is.own is.is_named is.is_own) ∙ own, named))

  pub none_here : ((id : DomainId) → IsLiveNamed k.world name id → ⊥) → live_domain m name ≡ None
  none_here none = by (find has_name m.domains) refl (finds has_name m.domains)
    where
      by : (o : Option DomainState) → live_domain m name ≡ o → Finds has_name m.domains o → live_domain m name ≡ None
      by None is found = is
      by (Some e) is found = let named = passes_named found.0 e found.1 found.2 in absurd (none named.0 named.1)

  -- ---- This one has.

  module _ (d : DomainId) (named : IsLiveNamed k.world name d) where
    pub record DomainHere : Type 0 where
      pub live : LiveDomain m d
      pub found : live_domain m name ≡ Some live.domain
      pub table : live.domain.table ≡ named.0.table

    stands_there : (own : OwnState) × (s : SharedDomain) × StandsInParts p d own named.0 s
    stands_there =
        let one = sound.sound.fitting.domains in
        let names = named.0 in
        let low = slice_get_within k.world.domains d.0 names named.1 in
        let s = item_there p.shared.domains d.0 (omega (arith, low, one.shared)) in
        let own = item_there p.owns d.0 (omega (arith, low, one.owns)) in
        let lives : is_some own.0 ≡ true = one.same_life d.0 names own.0 named.1 own.1 ∙ named.2 in
        let is = some_by own.0 lives in
        let number = same_domain d names.id (one.numbered d.0 names named.1) in
        (is.0, s.0, record { is_named = named.1; is_shared = s.1; is_own = own.1 ∙ ap Some is.1; number = number })

    pub domain_here : DomainHere
    domain_here =
        let there = stands_there in
        let live = live_from p d there.0 named.0 there.1 there.2 in
        let passes : has_name live.domain ≡ true = (bytes_eq-Decides named.0.name name).1 named.3 in
        record { live = live; found = by (find has_name m.domains) refl (finds has_name m.domains) live passes; table = refl }
      where
        by : (o : Option DomainState) → live_domain m name ≡ o → Finds has_name m.domains o → (live : LiveDomain m d)
            → has_name live.domain ≡ true → live_domain m name ≡ Some live.domain
        by None is none live passes = let never = none d.0 live.domain live.is_domain in absurd cc
        by (Some e) is found live passes =
            let first = and_parts (is_live_domain e) (bytes_eq e.name name) found.2 in
            let second = and_parts (is_live_domain live.domain) (bytes_eq live.domain.name name) passes in
            let same : e.name ≡ live.domain.name =
            (bytes_eq-Decides e.name name).0 first.1 ∙ sym ((bytes_eq-Decides live.domain.name name).0 second.1) in
            let place : found.0 ≡ d.0 =
            sound.sound.sealed.domains.names_differ found.0 d.0 e live.domain found.1 live.is_domain first.0 second.0 same in
            is ∙ ap Some (same_Some e live.domain (sym found.1 ∙ ap (slice_get m.domains) place ∙ live.is_domain))
