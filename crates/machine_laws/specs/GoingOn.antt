-- Where a thread leaves its segment it goes on: values pass or are refused, a call through a capability enters or is refused, requests are
-- answered, and domains end.
use Rattle.std.specs.Prelude.{◌≤◌, ◌⊎◌, List, ◌∷◌, length}
use Rattle.jk_model.specs.declared.identifiers.ThreadNo.{ThreadNo}
use Rattle.jk_model.specs.declared.output.Line.{Line}
use Rattle.jk_model.specs.declared.steps.Raise.{Raise}
use Rattle.jk_model.specs.declared.values.Value.{Value}
use Rattle.jk_model.specs.declared.values.Value.TheVariants as Held
use Rattle.jk_model_frames.specs.Frames.{locals_of}
use Rattle.jk_model_heaps.specs.Workings.{Request}
use Rattle.jk_model_machine_state.specs.Machines.{DomainState, IsLiveDomain, Machine}
use Rattle.jk_model_machine_state.specs.Places.{RunningSegment}
use Rattle.jk_model_crossings.specs.DomainEnds.{Terminates}
use Rattle.jk_model_crossings.specs.Passages.{IsTooLarge, IsUncopiable, Passage, Passes}
use Rattle.jk_model_crossings.specs.RemoteCalls.{Enters, HasTarget, IsLive, Refuses, RemoteCall, arguments}
use Rattle.jk_model_sharing.specs.Answers.{Granted}
use Rattle.jk_model_crossings.specs.Requests.{Grants}
use Rattle.jk_model_domains.specs.Objects.{NamedObject}
use Rattle.heap_laws.specs.CopiedGraphs.{IsWhollyThere}

-- ---- Values pass, or one of the two reasons keeps them, whatever the heap is into which they pass.

abbrev pub PassagesAreDecided : Type 0
PassagesAreDecided =
    (p : Passage) → IsWhollyThere p.classes p.source
    → IsUncopiable p ⊎ IsTooLarge p ⊎ ((heap : List NamedObject) × (values : List Value) × Passes p heap values)

-- ---- What follows a step past its segment.

-- where the arguments of a call are wholly there, and what arrives fits the locals of the target
pub record MayArrive {m : Machine} {t : ThreadNo} (c : RemoteCall m t) : Type 0 where
  pub whole : (live : IsLive c) → IsWhollyThere m.classes (arguments live).source
  pub fits : (h : HasTarget c) (heap : List NamedObject) (values : List Value) → Passes (arguments h.is_shown.live) heap values
      → length (locals_of (Held.Obj c.known.capability.target ∷ values)) ≤ h.code.max_locals

abbrev pub CallsThatFitAreDecided : Type 0
CallsThatFitAreDecided =
    (m : Machine) (t : ThreadNo) (c : RemoteCall m t) → MayArrive c → ((new : Machine) × Enters c new) ⊎ ((r : Raise) × Refuses c r)

-- so of every machine
abbrev pub GrantsAreThere : Type 0
GrantsAreThere =
    (m : Machine) (t : ThreadNo) (p : RunningSegment m t) (request : Request) → (granted : Granted) × (mid : Machine) × Grants p request granted mid

abbrev pub EndsAreThere : Type 0
EndsAreThere = (m : Machine) (d : DomainState) → IsLiveDomain d → (lines : List Line) × (new : Machine) × Terminates m d lines new
