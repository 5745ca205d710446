-- Each request is granted or denied, and each live domain can end: whatever the machine is.
use Rattle.std.proofs.Common.{◌≡◌, ℕ, ◌≤◌, Bool, true, false, not, List, [], ◌∷◌, ◌++◌, filter, length, map, Option, Some, None, Result, Ok, Err, refl, inl, inr}
use Rattle.std.proofs.lemmas.Bool.{cases_lt}
use Rattle.jk_model.specs.declared.identifiers.CapId.{CapId}
use Rattle.jk_model.specs.declared.identifiers.ClassId.{ClassId}
use Rattle.jk_model.specs.declared.identifiers.DomainId.{DomainId}
use Rattle.jk_model.specs.declared.identifiers.ThreadNo.{ThreadNo}
use Rattle.jk_model.specs.declared.output.Line.{Line}
use Rattle.jk_model.specs.declared.output.Line.TheVariants.{EndedByKill, Killed}
use Rattle.jk_model.specs.declared.steps.Raise.{Raise}
use Rattle.jk_model.specs.declared.steps.Raise.TheVariants.{Fresh, Standing}
use Rattle.jk_model.specs.declared.steps.Standing.TheVariants as Stands
use Rattle.jk_model_heaps.specs.Capabilities.{CapRange, has_number}
use Rattle.jk_model_heaps.specs.SystemClasses.{ILLEGAL_ARGUMENT_EXCEPTION}
use Rattle.jk_model_heaps.specs.Workings.{Request}
use Rattle.jk_model_heaps.specs.Workings.{Binds as AsksToBind, Creates as AsksToCreate, LooksUp as AsksToLookUp, Resumes as AsksToResume, Revokes as AsksToRevoke, Stops as AsksToStop, Suspends as AsksToSuspend, Unbinds as AsksToUnbind}
use Rattle.jk_model_sharing.specs.BoundNames.{Binds, BoundName, Unbinds, bound_as, count_bound_by, longest_name, with_name, without_name, without_names_of}
use Rattle.jk_model_sharing.specs.CapabilityCalls.{Creates, Revokes, next_number, with_capability_revoked, with_created}
use Rattle.jk_model_machine_state.specs.Machines.{DomainState, IsLiveDomain, Machine, Thread, with_domain}
use Rattle.jk_model_machine_state.specs.Places.{RunningSegment}
use Rattle.jk_model_crossings.specs.DomainEnds.{Terminates, ended_domain, has_segments, without_segments_of}
use Rattle.jk_model_sharing.specs.Answers.{Granted, as_capability, as_nothing}
use Rattle.jk_model_crossings.specs.Requests.{Grants}
use Rattle.decided_lookups.proofs.DecidedParts.{domain_decided}

-- ---- Capabilities and names.

abbrev Told : Type 0
Told = Result (Unit {0}) Raise

creates_there : (r : CapRange) (class : ClassId) (target : ℕ) → (answer : Result CapId Raise) × (new : CapRange) × Creates r class target answer new
creates_there r class target = elim (cases_lt (length r.made) r.count) [
  | inl room ↦ (Ok (next_number r), with_created class target r, Creates.has_room room)
  | inr full ↦ (Err (Standing Stands.Quota), r, Creates.used_up full)
]

revokes_there : (r : CapRange) (k : CapId) → (answer : Told) × (new : CapRange) × Revokes r k answer new
revokes_there r k = by (has_number k r) refl
  where
    by : (b : Bool) → has_number k r ≡ b → (answer : Told) × (new : CapRange) × Revokes r k answer new
    by true is = (Ok tt, with_capability_revoked k r, Revokes.own is)
    by false is = (Err (Standing Stands.Security), r, Revokes.of_another is)

binds_there : (names : List BoundName) (quota : ℕ) (asked : BoundName) → (answer : Told) × (new : List BoundName) × Binds names quota asked answer new
binds_there names quota asked = elim (cases_lt longest_name (length asked.text)) [
  | inl long ↦ (Err (Fresh ILLEGAL_ARGUMENT_EXCEPTION), names, Binds.too_long long)
  | inr short ↦ by short (bound_as names asked.text) refl
]
  where
    by : length asked.text ≤ longest_name → (o : Option BoundName) → bound_as names asked.text ≡ o
        → (answer : Told) × (new : List BoundName) × Binds names quota asked answer new
    by short None is = elim (cases_lt (count_bound_by names asked.binder) quota) [
      | inl room ↦ (Ok tt, names ++ asked ∷ [], Binds.new_name short is room)
      | inr full ↦ (Err (Standing Stands.Quota), names, Binds.one_too_many short is full)
    ]
    by short (Some bound) is = elim (domain_decided bound.binder asked.binder) [
      | inl own ↦ (Ok tt, with_name asked names, Binds.own_name bound short is own)
      | inr other ↦ (Err (Fresh ILLEGAL_ARGUMENT_EXCEPTION), names, Binds.of_another bound short is other)
    ]

unbinds_there : (names : List BoundName) (d : DomainId) (text : List ℕ) → (answer : Told) × (new : List BoundName) × Unbinds names d text answer new
unbinds_there names d text = by (bound_as names text) refl
  where
    by : (o : Option BoundName) → bound_as names text ≡ o → (answer : Told) × (new : List BoundName) × Unbinds names d text answer new
    by None is = (Ok tt, names, Unbinds.not_bound is)
    by (Some bound) is = elim (domain_decided bound.binder d) [
      | inl own ↦ (Ok tt, without_name text names, Unbinds.removed bound is own)
      | inr other ↦ (Err (Standing Stands.Security), names, Unbinds.not_own bound is other)
    ]

-- ---- Requests.

pub grants_there : (m : Machine) (t : ThreadNo) (p : RunningSegment m t) (request : Request)
    → (granted : Granted) × (mid : Machine) × Grants p request granted mid
grants_there m t p (AsksToCreate class target) =
    let h = creates_there p.home.domain.caps class target in
    (as_capability h.0, _, Grants.creates class target h.0 h.1 (as_capability h.0) h.2 refl)
grants_there m t p (AsksToRevoke k) =
    let h = revokes_there p.home.domain.caps k in
    (as_nothing h.0, _, Grants.revokes k h.0 h.1 (as_nothing h.0) h.2 refl)
grants_there m t p (AsksToBind text k) =
    let h = binds_there m.names p.home.domain.quotas.names (record { text = text; cap = k; binder = p.home.domain.number }) in
    (as_nothing h.0, _, Grants.binds text k h.0 h.1 (as_nothing h.0) h.2 refl)
grants_there m t p (AsksToLookUp text) = (_, _, Grants.looks_up text _ refl)
grants_there m t p (AsksToUnbind text) =
    let h = unbinds_there m.names p.home.domain.number text in
    (as_nothing h.0, _, Grants.unbinds text h.0 h.1 (as_nothing h.0) h.2 refl)
grants_there m t p (AsksToSuspend s) = (_, _, Grants.suspends s)
grants_there m t p (AsksToResume s) = (_, _, Grants.resumes s)
grants_there m t p (AsksToStop s) = (_, _, Grants.stops s)

-- ---- Ends of domains.

pub ends_there : (m : Machine) (d : DomainState) → IsLiveDomain d → (lines : List Line) × (new : Machine) × Terminates m d lines new
ends_there m d live = (
  Killed d.name ∷ map (λ (t : Thread). EndedByKill t.number) (filter (λ (t : Thread). not (has_segments t)) cut.threads),
  record cut { names = without_names_of d.number cut.names; threads = filter has_segments cut.threads },
  record { live = live; cut = cut; is_cut = refl; leads = refl; said = refl },
)
  where
    cut : Machine
    cut = without_segments_of d.number (with_domain d.number ended_domain m)
