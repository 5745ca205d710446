-- What is raised where a call or a request is refused, and that nothing was changed for it.
use Rattle.std.proofs.Common.{◌≡◌, ℕ, ◌==◌, Bool, true, false, cond, List, Some, Result, Err, slice_get, refl, sym, ap, subst, ◌∙◌, eqb-true, lit<}
use Rattle.std.proofs.lemmas.Option.{same_Some}
use Rattle.jk_model.specs.declared.identifiers.CapId.{CapId}
use Rattle.jk_model.specs.declared.identifiers.ClassId.{ClassId}
use Rattle.jk_model.specs.declared.identifiers.DomainId.{DomainId}
use Rattle.jk_model.specs.declared.identifiers.ThreadNo.{ThreadNo}
use Rattle.jk_model.specs.declared.steps.Raise.{Raise}
use Rattle.jk_model.specs.declared.steps.Raise.TheVariants as Raised
use Rattle.jk_model.specs.declared.steps.Standing.TheVariants as Stands
use Rattle.jk_model_domains.specs.Objects.{NamedObject}
use Rattle.jk_model_heaps.specs.Capabilities.{CapRange}
use Rattle.jk_model_heaps.specs.Workings.{Request}
use Rattle.jk_model_sharing.specs.Answers.{Granted, as_capability, as_nothing}
use Rattle.jk_model_sharing.specs.BoundNames.{Binds, BoundName, Unbinds}
use Rattle.jk_model_sharing.specs.CapabilityCalls.{Creates, Revokes}
use Rattle.jk_model_machine_state.specs.Machines.{DomainState, Machine}
use Rattle.jk_model_machine_state.specs.Places.{RunningSegment}
use Rattle.jk_model_crossings.specs.RemoteCalls.{Refuses, RemoteCall}
use Rattle.jk_model_crossings.specs.Requests.{Grants, with_range}
use Rattle.heap_laws.specs.RaisableObjects.{MayBeRaised}
use Rattle.heap_laws.specs.SoundCodes.{AreSoundCodes}
use Rattle.row_laws.proofs.SystemParents.{below_listed}
use Rattle.machine_laws.proofs.ChangedItems.{none_changed}
use Rattle.machine_laws.proofs.MachinesThatGrow.{AreNumbered}

-- ---- Calls.

pub refused_may : (m : Machine) (t : ThreadNo) (c : RemoteCall m t) (r : Raise) (heap : List NamedObject) → AreSoundCodes m.classes → Refuses c r
    → MayBeRaised m.classes heap r
refused_may m t c r heap sound (Refuses.is_dead dead) = tt
refused_may m t c r heap sound (Refuses.not_shown live not) = (lit< tt, below_listed m.classes sound 45 35 9 refl)
refused_may m t c r heap sound (Refuses.no_target shown not) = (lit< tt, below_listed m.classes sound 45 38 9 refl)
refused_may m t c r heap sound (Refuses.not_public target not) = (lit< tt, below_listed m.classes sound 45 39 9 refl)
refused_may m t c r heap sound (Refuses.not_copiable ready not) = tt
refused_may m t c r heap sound (Refuses.few_words ready large) = tt
refused_may m t c r heap sound (Refuses.few_chunks ready may few) = tt

-- ---- Requests.

set_by : (b : Bool) (e : DomainState) (caps : CapRange) → (b ≡ true → e.caps ≡ caps) → cond b (record e { caps = caps }) e ≡ e
set_by true e caps has = λ i. record e { caps = sym (has refl) i }
set_by false e caps has = refl

module _ (m : Machine) (t : ThreadNo) (q : RunningSegment m t) (numbered : AreNumbered m) where
  -- a domain whose range is set to what it is stays as it is
  same_range : with_range q.home.domain.number q.home.domain.caps m ≡ m
  same_range = λ i. record m {
    domains = none_changed (λ (e : DomainState). cond (e.number.0 == q.home.domain.number.0) (record e { caps = q.home.domain.caps }) e) m.domains
        (λ k e at. set_by (e.number.0 == q.home.domain.number.0) e q.home.domain.caps (has k e at)) i;
  }
    where
      has : (k : ℕ) (e : DomainState) → slice_get m.domains k ≡ Some e → (e.number.0 == q.home.domain.number.0) ≡ true → e.caps ≡ q.home.domain.caps
      has k e at same =
          let place = sym (numbered k e at) ∙ eqb-true e.number.0 q.home.domain.number.0 same ∙ ap (λ (n : DomainId). n.0) q.home.numbered in
          ap (λ (y : DomainState). y.caps) (same_Some e q.home.domain (sym at ∙ ap (slice_get m.domains) place ∙ q.home.is_domain))

  -- what is known where it is denied
  abbrev pub Denied : Granted → Machine → Type 0
  Denied g mid =
      (r : Raise) → g ≡ Err r → (mid ≡ m) × ((heap : List NamedObject) → AreSoundCodes m.classes → MayBeRaised m.classes heap r)

  stands_by : (s : Raise) (mid : Machine) → mid ≡ m → ((heap : List NamedObject) → AreSoundCodes m.classes → MayBeRaised m.classes heap s) → (g : Granted)
      → g ≡ Err s → Denied g mid
  stands_by s mid same may g is r denied =
      let one : s ≡ r = cc in
      (same, λ heap sound. subst (MayBeRaised m.classes heap) one (may heap sound))

  created : (class : ClassId) (target : ℕ) (answer : Result CapId Raise) (range : CapRange) → Creates q.home.domain.caps class target answer range
      → (g : Granted) → g ≡ as_capability answer → Denied g (with_range q.home.domain.number range m)
  created class target answer range (Creates.used_up full) g is =
      stands_by (Raised.Standing Stands.Quota) (with_range q.home.domain.number q.home.domain.caps m) same_range (λ heap sound. tt) g is
  created class target answer range (Creates.has_room room) g is = λ r denied. absurd cc

  revoked : (k : CapId) (answer : Result (Unit {0}) Raise) (range : CapRange) → Revokes q.home.domain.caps k answer range → (g : Granted)
      → g ≡ as_nothing answer → Denied g (with_range q.home.domain.number range m)
  revoked k answer range (Revokes.of_another other) g is =
      stands_by (Raised.Standing Stands.Security) (with_range q.home.domain.number q.home.domain.caps m) same_range (λ heap sound. tt) g is
  revoked k answer range (Revokes.own own) g is = λ r denied. absurd cc

  bound : (quota : ℕ) (asked : BoundName) (answer : Result (Unit {0}) Raise) (names : List BoundName) → Binds m.names quota asked answer names
      → (g : Granted) → g ≡ as_nothing answer → Denied g (record m { names = names })
  bound quota asked answer names (Binds.too_long long) g is =
      stands_by (Raised.Fresh (record { 0 = 22 })) m refl (λ heap sound. (lit< tt, below_listed m.classes sound 45 22 9 refl)) g is
  bound quota asked answer names (Binds.of_another by short at other) g is =
      stands_by (Raised.Fresh (record { 0 = 22 })) m refl (λ heap sound. (lit< tt, below_listed m.classes sound 45 22 9 refl)) g is
  bound quota asked answer names (Binds.own_name by short at own) g is = λ r denied. absurd cc
  bound quota asked answer names (Binds.one_too_many short at full) g is =
      stands_by (Raised.Standing Stands.Quota) m refl (λ heap sound. tt) g is
  bound quota asked answer names (Binds.new_name short at room) g is = λ r denied. absurd cc

  unbound : (d : DomainId) (text : List ℕ) (answer : Result (Unit {0}) Raise) (names : List BoundName) → Unbinds m.names d text answer names
      → (g : Granted) → g ≡ as_nothing answer → Denied g (record m { names = names })
  unbound d text answer names (Unbinds.not_own by at other) g is =
      stands_by (Raised.Standing Stands.Security) m refl (λ heap sound. tt) g is
  unbound d text answer names (Unbinds.removed by at own) g is = λ r denied. absurd cc
  unbound d text answer names (Unbinds.not_bound at) g is = λ r denied. absurd cc

  pub denied : (request : Request) (g : Granted) (mid : Machine) → Grants q request g mid → Denied g mid
  denied request g mid (Grants.creates class target answer range h by is) = created class target answer range by h is
  denied request g mid (Grants.revokes k answer range h by is) = revoked k answer range by h is
  denied request g mid (Grants.binds text k answer names h by is) =
      bound q.home.domain.quotas.names (record { text = text; cap = k; binder = q.home.domain.number }) answer names by h is
  denied request g mid (Grants.looks_up text found looked) = λ r no. absurd cc
  denied request g mid (Grants.unbinds text answer names h by is) = unbound q.home.domain.number text answer names by h is
  denied request g mid (Grants.suspends s) = λ r no. absurd cc
  denied request g mid (Grants.resumes s) = λ r no. absurd cc
  denied request g mid (Grants.stops s) = λ r no. absurd cc
