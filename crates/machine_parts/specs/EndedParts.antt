-- What the end of a domain in each part is to the machine: the domain ends there.
use Rattle.std.specs.Prelude.{◌≡◌, ℕ, false, not, List, ◌∷◌, filter, map, Some, None, slice_set}
use Rattle.jk_model.specs.declared.identifiers.DomainId.{DomainId}
use Rattle.jk_model.specs.declared.output.Line.{Line}
use Rattle.jk_model.specs.declared.output.Line.TheVariants.{EndedByKill, Killed}
use Rattle.jk_model_classes.specs.Worlds.{DomainRecord, domain_of}
use Rattle.jk_model_sharing.specs.Segments.{SharedThread, has_segments, segments_left, shared_form, with_stacks}
use Rattle.jk_model_sharing.specs.SharedStates.{Drops, SharedState}
use Rattle.jk_model_machine_state.specs.Places.{LiveDomain}
use Rattle.jk_model_crossings.specs.DomainEnds.{Terminates}
use Rattle.object_store.specs.HeapContents.{Closes as ClosesHeap}
use Rattle.frame_store.specs.FrameContents.{Closes as ClosesFrames}
use Rattle.machine_parts.specs.FittingParts.{AreFittingParts}
use Rattle.machine_parts.specs.MachineParts.{MachineParts, machine_of}

-- Each part is without the domain.
pub record EndsInParts (old new : MachineParts) (d : DomainId) : Type 0 where
  pub names : DomainRecord
  pub is_named : domain_of old.world d ≡ Some names
  pub world : new.world ≡ record old.world { domains = slice_set old.world.domains d.0 (record names { live = false }) }
  pub owns : new.owns ≡ slice_set old.owns d.0 None
  pub shared : Drops old.shared d new.shared
  pub heap : ClosesHeap old.heap new.heap d
  pub frames : ClosesFrames old.frames new.frames d

-- the threads that have no segment left when a domain is dropped
abbrev pub ended_threads : DomainId → SharedState → List SharedThread
ended_threads d s = filter (λ (t : SharedThread). not (has_segments t)) (with_stacks (segments_left shared_form d) s.threads)

-- a line of the domain, and one for each of these threads
abbrev pub lines_of_end : List ℕ → List SharedThread → List Line
lines_of_end name threads = Killed name ∷ map (λ (t : SharedThread). EndedByKill t.number) threads

abbrev pub EndsChangeMachines : Type 0
EndsChangeMachines =
    (p new : MachineParts) (d : DomainId) (l : LiveDomain (machine_of p) d) → AreFittingParts p → EndsInParts p new d
    → Terminates (machine_of p) l.domain (lines_of_end l.domain.name (ended_threads d p.shared)) (machine_of new)
