-- A step is paid, and its segment has run or has other flags: what was done so far is work in its own domain.
use Rattle.std.proofs.Common.{◌≡◌, ℕ, ◌-◌, List, [], ◌∷◌, ◌++◌, Option, refl, sym, ap, subst}
use Rattle.std.specs.Prelude.{option_map}
use Rattle.jk_model.specs.declared.identifiers.DomainId.{DomainId}
use Rattle.jk_model.specs.declared.identifiers.ThreadNo.{ThreadNo}
use Rattle.jk_model.specs.declared.values.Value.{Value}
use Rattle.jk_model_domains.specs.Objects.{NamedObject}
use Rattle.jk_model_heaps.specs.CalledFrames.{resumed}
use Rattle.jk_model_heaps.specs.Workings.{Inside, Run, with_heap}
use Rattle.jk_model_sharing.specs.Segments.{SharedSegment}
use Rattle.jk_model_machine_state.specs.Machines.{DomainState, Machine, Segment, paid}
use Rattle.jk_model_machine_state.specs.Places.{RunningSegment, with_flags, with_run}
use Rattle.jk_model_crossings.specs.Answers.{Receives}
use Rattle.machine_laws.specs.KnownMachines.{IsKnownMachine}
use Rattle.machine_laws.proofs.RanInSteps.{one_top, was_top}
use Rattle.machine_laws.proofs.WorkedSoFar.{WorkedSo, changes_domain, starts, works_on}

module _ (m : Machine) (t : ThreadNo) (p : RunningSegment m t) (known : IsKnownMachine m) (q : RunningSegment m t) where
  abbrev pub payer : DomainId
  payer = q.segment.shared.domain

  pub pays : payer ≡ p.segment.shared.domain
  pays = ap (λ (s : Segment). s.shared.domain) (one_top m t p q).2

  pub of_old : (z : RunningSegment (paid payer m) t) (s : Segment) (inside : Inside) → z.segment.shared.domain ≡ p.segment.shared.domain
  of_old z s inside = ap (λ (u : Segment). u.shared.domain) (was_top m t p known payer pays z s inside).2

  paid_so : WorkedSo m t p (paid payer m)
  paid_so =
      changes_domain m t p m (starts m t p known.0.0.domains.numbered) payer pays
      (λ (e : DomainState). record e { steps_left = option_map (λ (n : ℕ). n - 1) e.steps_left }) (λ e. refl)

  pub ran_so : (z : RunningSegment (paid payer m) t) (run : Run) → WorkedSo m t p (with_run z run)
  ran_so z run = works_on m t p (paid payer m) paid_so z (record z.segment { frames = run.frames }) run.inside refl refl refl

  pub flagged_so : (z : RunningSegment (paid payer m) t) (shared : SharedSegment) → shared.number ≡ z.segment.shared.number
      → shared.domain ≡ z.segment.shared.domain → shared.orphan ≡ z.segment.shared.orphan → WorkedSo m t p (with_flags z shared)
  flagged_so z shared number domain orphan =
      works_on m t p (paid payer m) paid_so z (record z.segment { shared = shared }) z.home.inside number domain orphan

  -- the answer comes to the frame that asked
  pub receives_so : (here : Machine) → WorkedSo m t p here → (z : RunningSegment here t) (heap : List NamedObject) (v : Option Value) (new : Machine)
      → Receives z heap v new → WorkedSo m t p new
  receives_so here w z heap v new r =
      subst (WorkedSo m t p) (sym r.leads)
      (works_on m t p here w z (record z.segment { frames = r.callers ++ resumed v r.caller ∷ [] }) (with_heap z.home.inside heap) refl refl refl)
