-- What a segment asks of package jk, but for flags, is done in its own domain.
use Rattle.std.proofs.Common.{◌≡◌, subst, ◌∙◌, refl}
use Rattle.std.specs.Prelude.{⊤}
use Rattle.jk_model.specs.declared.identifiers.DomainId.{DomainId}
use Rattle.jk_model.specs.declared.identifiers.ThreadNo.{ThreadNo}
use Rattle.jk_model_heaps.specs.Workings.{Request}
use Rattle.jk_model_heaps.specs.Workings.{Resumes as AsksToResume, Stops as AsksToStop, Suspends as AsksToSuspend}
use Rattle.jk_model_sharing.specs.Answers.{Granted}
use Rattle.jk_model_sharing.specs.BoundNames.{without_names_of}
use Rattle.jk_model_machine_state.specs.Machines.{DomainState, Machine}
use Rattle.jk_model_machine_state.specs.Places.{RunningSegment}
use Rattle.jk_model_crossings.specs.Requests.{Grants}
use Rattle.machine_laws.proofs.NamesOfOthers.{AreDistinct, binds_own, unbinds_own}
use Rattle.machine_laws.proofs.WorkedSoFar.{WorkedSo, changes_domain, changes_names, of_domain}

-- it asks for no flag
abbrev pub IsQuiet : Request → Type 0
IsQuiet (AsksToSuspend s) = ⊥
IsQuiet (AsksToResume s) = ⊥
IsQuiet (AsksToStop s) = ⊥
IsQuiet request = ⊤

module _ (m : Machine) (t : ThreadNo) (p : RunningSegment m t) (here : Machine) (w : WorkedSo m t p here) (distinct : AreDistinct here.names)
    (q : RunningSegment here t) where
  asks_here : q.home.domain.number ≡ p.segment.shared.domain
  asks_here = q.home.numbered ∙ of_domain m t p here w q

  pub granted_here : (request : Request) (granted : Granted) (mid : Machine) → Grants q request granted mid → IsQuiet request → WorkedSo m t p mid
  granted_here request granted mid (Grants.creates class target answer range g created is) quiet =
      changes_domain m t p here w q.home.domain.number asks_here (λ (e : DomainState). record e { caps = range }) (λ e. refl)
  granted_here request granted mid (Grants.revokes k answer range g revoked is) quiet =
      changes_domain m t p here w q.home.domain.number asks_here (λ (e : DomainState). record e { caps = range }) (λ e. refl)
  granted_here request granted mid (Grants.binds text k answer names g bound is) quiet =
      changes_names m t p here w names
      (binds_own p.segment.shared.domain here.names distinct q.home.domain.quotas.names (record { text = text; cap = k; binder = q.home.domain.number })
      asks_here answer names bound)
  granted_here request granted mid (Grants.looks_up text found looked) quiet = w
  granted_here request granted mid (Grants.unbinds text answer names g unbound is) quiet =
      changes_names m t p here w names
      (subst (λ (n : DomainId). without_names_of n names ≡ without_names_of n here.names) asks_here
      (unbinds_own q.home.domain.number here.names distinct text answer names unbound))
  granted_here request granted mid (Grants.suspends s) quiet = absurd quiet
  granted_here request granted mid (Grants.resumes s) quiet = absurd quiet
  granted_here request granted mid (Grants.stops s) quiet = absurd quiet
