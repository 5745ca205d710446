-- What a program asks of package jk that touches more than its own domain's inside: capabilities, bound names, and flags of segments. What
-- is asked for is done, and the answer is a value or none, or something to raise.
use Rattle.std.specs.Prelude.{◌≡◌, ℕ, List, Option, Some, None, Result, Ok}
use Rattle.jk_model.specs.declared.identifiers.CapId.{CapId}
use Rattle.jk_model.specs.declared.identifiers.ClassId.{ClassId}
use Rattle.jk_model.specs.declared.identifiers.DomainId.{DomainId}
use Rattle.jk_model.specs.declared.identifiers.SegmentNo.{SegmentNo}
use Rattle.jk_model.specs.declared.identifiers.ThreadNo.{ThreadNo}
use Rattle.jk_model.specs.declared.steps.Raise.{Raise}
use Rattle.jk_model_heaps.specs.Capabilities.{CapRange}
use Rattle.jk_model_heaps.specs.Workings.{Request}
use Rattle.jk_model_heaps.specs.Workings.{Binds as AsksToBind, Creates as AsksToCreate, LooksUp as AsksToLookUp, Resumes as AsksToResume, Revokes as AsksToRevoke, Stops as AsksToStop, Suspends as AsksToSuspend, Unbinds as AsksToUnbind}
use Rattle.jk_model_sharing.specs.Answers.{Granted, as_capability, as_nothing, as_reference}
use Rattle.jk_model_sharing.specs.BoundNames.{Binds, BoundName, LooksUp, Unbinds}
use Rattle.jk_model_sharing.specs.CapabilityCalls.{Creates, Revokes}
use Rattle.jk_model_sharing.specs.Segments.{resumed_in, stopped_in, suspended_in}
use Rattle.jk_model_machine_state.specs.Machines.{DomainState, Machine, segment_form, with_domain, with_stacks}
use Rattle.jk_model_machine_state.specs.Places.{RunningSegment}

-- ---- What is changed of the machine.

abbrev pub with_range : DomainId → CapRange → Machine → Machine
with_range d range m = with_domain d (λ (e : DomainState). record e { caps = range }) m

abbrev pub with_names : List BoundName → Machine → Machine
with_names names m = record m { names = names }

-- ---- The requests of the running segment, whose domain is the one that asks.

pub data Grants {m : Machine} {t : ThreadNo} (p : RunningSegment m t) : Request → Granted → Machine → Type 0 where
  creates : (class : ClassId) (target : ℕ) (answer : Result CapId Raise) (range : CapRange) (granted : Granted)
      → Creates p.home.domain.caps class target answer range → granted ≡ as_capability answer
      → Grants p (AsksToCreate class target) granted (with_range p.home.domain.number range m)
  revokes : (k : CapId) (answer : Result (Unit {0}) Raise) (range : CapRange) (granted : Granted) → Revokes p.home.domain.caps k answer range
      → granted ≡ as_nothing answer → Grants p (AsksToRevoke k) granted (with_range p.home.domain.number range m)
  binds : (text : List ℕ) (k : CapId) (answer : Result (Unit {0}) Raise) (names : List BoundName) (granted : Granted)
      → Binds m.names p.home.domain.quotas.names (record { text = text; cap = k; binder = p.home.domain.number }) answer names
      → granted ≡ as_nothing answer → Grants p (AsksToBind text k) granted (with_names names m)
  looks_up : (text : List ℕ) (found : Option CapId) → LooksUp m.names text found
      → Grants p (AsksToLookUp text) (Ok (Some (as_reference found))) m
  unbinds : (text : List ℕ) (answer : Result (Unit {0}) Raise) (names : List BoundName) (granted : Granted)
      → Unbinds m.names p.home.domain.number text answer names → granted ≡ as_nothing answer
      → Grants p (AsksToUnbind text) granted (with_names names m)
  suspends : (s : SegmentNo) → Grants p (AsksToSuspend s) (Ok None) (with_stacks (suspended_in segment_form s) m)
  resumes : (s : SegmentNo) → Grants p (AsksToResume s) (Ok None) (with_stacks (resumed_in segment_form s) m)
  stops : (s : SegmentNo) → Grants p (AsksToStop s) (Ok None) (with_stacks (stopped_in segment_form s) m)
