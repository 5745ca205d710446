-- What no step changes: the pools, the classes, all that a domain is opened with, and the number of the next thread. So do no end of a domain and no
-- kill.
use Rattle.std.specs.Prelude.{◌≡◌, ℕ, ◌+◌, List, map}
use Rattle.jk_model.specs.declared.identifiers.DomainId.{DomainId}
use Rattle.jk_model.specs.declared.identifiers.ThreadNo.{ThreadNo}
use Rattle.jk_model.specs.declared.output.Line.{Line}
use Rattle.jk_model.specs.declared.script.Quotas.{Quotas}
use Rattle.jk_model_classes.specs.declared.sharing.Offer.{Offer}
use Rattle.jk_model_classes.specs.Worlds.{NamedClass}
use Rattle.jk_model_machine_state.specs.Machines.{DomainState, Machine}
use Rattle.jk_model_crossings.specs.DomainEnds.{Terminates}
use Rattle.jk_model_runs.specs.Confined.{drawn_by}
use Rattle.jk_model_runs.specs.Events.{Kills}
use Rattle.jk_model_runs.specs.Steps.{Deed, StepsBy}
use Rattle.machine_laws.specs.SoundMachines.{HasSoundClasses}

-- what a domain is opened with, and keeps for good
pub record LastingDomain : Type 0 where
  pub number : DomainId
  pub name : List ℕ
  pub quotas : Quotas
  pub table : List NamedClass
  pub offers : List Offer

abbrev pub lasting : DomainState → LastingDomain
lasting d = record { number = d.number; name = d.name; quotas = d.quotas; table = d.table; offers = d.offers }

pub record KeepsWorld (old new : Machine) : Type 0 where
  pub pools : (new.heap_pages ≡ old.heap_pages) × (new.stack_pages ≡ old.stack_pages)
  pub classes : new.classes ≡ old.classes
  pub domains : map lasting new.domains ≡ map lasting old.domains
  pub next_thread : new.next_thread ≡ old.next_thread

pub record StepsKeepWorlds : Type 0 where
  pub steps : (m new : Machine) (t : ThreadNo) (deed : Deed) (lines : List Line) → StepsBy m t deed lines new → KeepsWorld m new
  pub ends : (m new : Machine) (d : DomainState) (lines : List Line) → Terminates m d lines new → KeepsWorld m new
  pub kills : (m new : Machine) (name : List ℕ) (lines : List Line) → Kills m name lines new → KeepsWorld m new
  -- and so classes stay sound
  pub sound : (m new : Machine) → KeepsWorld m new → HasSoundClasses m → HasSoundClasses new

-- ---- Numbers of segments: a step draws one where it enters another domain, and none elsewhere.

pub record StepsDrawNumbers : Type 0 where
  pub steps : (m new : Machine) (t : ThreadNo) (deed : Deed) (lines : List Line) → StepsBy m t deed lines new
      → new.next_segment ≡ m.next_segment + drawn_by deed
  pub ends : (m new : Machine) (d : DomainState) (lines : List Line) → Terminates m d lines new → new.next_segment ≡ m.next_segment
  pub kills : (m new : Machine) (name : List ℕ) (lines : List Line) → Kills m name lines new → new.next_segment ≡ m.next_segment
