-- What is known where a domain is opened, and what follows of its surroundings and of those that were there.
use Rattle.std.proofs.Common.{◌≡◌, List, [], ◌∷◌, ◌++◌, Contains, inl, inr, refl, subst}
use Rattle.std.proofs.lemmas.List.{map-append}
use Rattle.std.proofs.lemmas.List.Elements.{Contains-append_left, Contains-append_right, Contains-push_cases}
use Rattle.list_lemmas.proofs.ItemsByPlace.{slice_get-longer}
use Rattle.list_lemmas.proofs.ItemsOfLists.{Contains-at, Contains-here}
use Rattle.jk_model.specs.declared.identifiers.DomainId.{DomainId}
use Rattle.jk_model_classes.specs.declared.records.ClassRecord.{ClassRecord}
use Rattle.jk_model_classes.specs.Worlds.{WorldRecord}
use Rattle.jk_model_heaps.specs.Workings.{Inside}
use Rattle.jk_model_machine_state.specs.Machines.{DomainState, IsLiveDomain, Machine, caps_of}
use Rattle.jk_model_machine_state.specs.Places.{LiveDomain}
use Rattle.jk_model_openings.specs.OpenedDomains.{Admission, IsOpening, IsPlacedIn, new_domain, with_new_domain}
use Rattle.jk_model_openings.specs.Openings.{HasManyDomains}
use Rattle.jk_model_runs.specs.Sealed.{IsSealed, surroundings}
use Rattle.jk_model_sharing.specs.CapabilityCalls.{LacksNumbers}
use Rattle.machine_laws.specs.SoundMachines.{HasSoundClasses}
use Rattle.machine_laws.specs.OpenedMachines.{MayGrow}
use Rattle.machine_laws.specs.SealedOpenings.{IsWidened}

pub record IsOpened (m : Machine) (w : WorldRecord) (a : Admission) (inside : Inside) : Type 0 where
  pub sealed : IsSealed m
  pub sound : HasSoundClasses m
  pub grows : MayGrow m
  pub sound_then : HasSoundClasses (with_new_domain m w a inside)
  pub more : List ClassRecord
  pub same : w.classes ≡ m.classes ++ more
  pub not_live : (e : DomainState) → Contains m.domains e → IsLiveDomain e → e.name ≡ a.name → ⊥
  pub numbers : LacksNumbers (caps_of m) a.quotas.caps → ⊥
  pub few : HasManyDomains m → ⊥
  pub opening : IsOpening w.classes a.table a.quotas.heap inside
  pub placed : IsPlacedIn m a.quotas inside

module _ {m : Machine} {w : WorldRecord} {a : Admission} {inside : Inside} (o : IsOpened m w a inside) where
  abbrev pub d : DomainState
  d = new_domain m a inside

  abbrev pub new : Machine
  new = with_new_domain m w a inside

  -- what holds of the domains that were there and of the new one
  pub each_domain : (P : DomainState → Type 0) → ((e : DomainState) → Contains m.domains e → P e) → P d
      → (e : DomainState) → Contains new.domains e → P e
  each_domain P old here e on = elim (Contains-push_cases m.domains d e on) [ inl was ↦ old e was | inr same ↦ subst P same here ]

  pub still_there : (e : DomainState) → Contains m.domains e → Contains new.domains e
  still_there e on = Contains-append_left m.domains (d ∷ []) e on

  pub new_there : Contains new.domains d
  new_there = Contains-append_right m.domains (d ∷ []) d (Contains-here d [])

  caps_then : caps_of new ≡ caps_of m ++ d.caps ∷ []
  caps_then = map-append (λ (e : DomainState). e.caps) m.domains (d ∷ [])

  pub widens : (e : DomainState) → IsWidened (surroundings m e) (surroundings new e)
  widens e = record {
    more = o.more;
    classes = o.same;
    closed = o.sound.linked.closed;
    ordered = o.sound_then.codes.ordered;
    table = refl;
    ranges = d.caps ∷ [];
    caps = caps_then;
  }

  -- the home of a segment
  abbrev pub home_still : (x : DomainId) → LiveDomain m x → LiveDomain new x
  home_still x h = record {
    domain = h.domain;
    is_domain = slice_get-longer m.domains (d ∷ []) x.0 h.domain h.is_domain;
    numbered = h.numbered;
    inside = h.inside;
    is_inside = h.is_inside;
  }

  pub home_on : (x : DomainId) (h : LiveDomain m x) → Contains m.domains h.domain
  home_on x h = Contains-at m.domains x.0 h.domain h.is_domain
