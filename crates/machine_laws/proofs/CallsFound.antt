-- A call through a capability that stands where calls stand enters or is refused.
use Rattle.std.proofs.Common.{◌≤◌, ◌⊎◌, List, ◌∷◌, length}
use Rattle.jk_model.specs.declared.identifiers.ThreadNo.{ThreadNo}
use Rattle.jk_model.specs.declared.steps.Raise.{Raise}
use Rattle.jk_model.specs.declared.values.Value.{Value}
use Rattle.jk_model.specs.declared.values.Value.TheVariants as Held
use Rattle.jk_model_frames.specs.Frames.{locals_of}
use Rattle.jk_model_domains.specs.Objects.{NamedObject}
use Rattle.jk_model_machine_state.specs.Machines.{Machine, caps_of}
use Rattle.jk_model_machine_state.specs.Places.{LiveDomain}
use Rattle.jk_model_crossings.specs.Passages.{Passes}
use Rattle.jk_model_crossings.specs.RemoteCalls.{Enters, HasTarget, Refuses, RemoteCall, arguments}
use Rattle.jk_model_runs.specs.Sealed.{IsSealed, surroundings}
use Rattle.list_lemmas.proofs.ItemsOfLists.{Contains-at}
use Rattle.heap_laws.proofs.SealedGraphs.{sealed_is_wholly_there}
use Rattle.heap_laws.proofs.StillFits.{of_class}
use Rattle.heap_laws.specs.FittingOutcomes.{AreOfTypes}
use Rattle.machine_laws.specs.CallsAndAnswers.{StandsAtCall}
use Rattle.machine_laws.specs.GoingOn.{MayArrive}
use Rattle.machine_laws.specs.SoundMachines.{HasSoundClasses}
use Rattle.machine_laws.proofs.CallsArrive.{arguments_fit, copies_of_types, target_is}
use Rattle.machine_laws.proofs.CallsDecided.{calls_that_fit_are_decided}
use Rattle.machine_laws.proofs.CallsSealed.{given_known, typed}
use Rattle.machine_laws.proofs.CopiesTaken.{HasInside, grows, values_known}
use Rattle.machine_laws.proofs.RunningSegmentsFit.{home_there}

module _ (m : Machine) (t : ThreadNo) (sealed : IsSealed m) (sound : HasSoundClasses m) (c : RemoteCall m t) (stands : StandsAtCall c) where
  abbrev heap : List NamedObject
  heap = c.place.home.inside.heap

  abbrev giver : HasInside m
  giver = record {
    domain = c.place.home.domain;
    inside = c.place.home.inside;
    there = home_there m t c.place sealed;
    is_inside = c.place.home.is_inside;
  }

  module _ (h : HasTarget c) (after : List NamedObject) (values : List Value) (passes : Passes (arguments h.is_shown.live) after values) where
    abbrev owner : LiveDomain m c.known.owner
    owner = h.is_shown.live.owner

    abbrev taker : HasInside m
    taker = record {
      domain = owner.domain;
      inside = owner.inside;
      there = Contains-at m.domains c.known.owner.0 owner.domain owner.is_domain;
      is_inside = owner.is_inside;
    }

    taken_types : AreOfTypes (surroundings m owner.domain) after c.named.params values
    taken_types =
        copies_of_types m.classes c.place.home.domain.table owner.domain.table (caps_of m) (record { heap = heap; values = c.given }) owner.inside.heap
        (record { heap = after; values = values }) passes.pairs passes.copy c.named.params c.given values passes.copy.values
        (values_known m sealed sound giver taker c.given (given_known m t sealed sound c stands) after values passes) (typed m t sealed sound c stands)

    fitting : length (locals_of (Held.Obj c.known.capability.target ∷ values)) ≤ h.code.max_locals
    fitting =
        arguments_fit m sealed sound c h after
        (of_class owner.inside.heap after
        (grows m sealed sound giver taker c.given (given_known m t sealed sound c stands) after values passes) c.known.capability.target
        c.known.capability.class (target_is m sealed sound c h)) values taken_types

  may_arrive : MayArrive c
  may_arrive = record {
    whole = λ live.
        sealed_is_wholly_there (surroundings m c.place.home.domain) c.place.home.domain.quotas.heap c.place.home.inside c.given
        (sealed.domains.insides c.place.home.domain c.place.home.inside (home_there m t c.place sealed) c.place.home.is_inside)
        (given_known m t sealed sound c stands);
    fits = λ h after values passes. fitting h after values passes;
  }

  pub call_decided : ((new : Machine) × Enters c new) ⊎ ((r : Raise) × Refuses c r)
  call_decided = calls_that_fit_are_decided m t c may_arrive
