-- What the opening of a domain in each part is to the machine: it has another domain.
use Rattle.std.specs.Prelude.{◌≡◌, true, List, [], ◌∷◌, ◌++◌, length, Some}
use Rattle.jk_model.specs.declared.identifiers.DomainId.{DomainId}
use Rattle.jk_model_classes.specs.declared.sharing.Stub.{Stub}
use Rattle.jk_model_classes.specs.Worlds.{DomainRecord}
use Rattle.jk_model_domains.specs.OwnStates.{OwnState}
use Rattle.jk_model_sharing.specs.SharedStates.{admitted}
use Rattle.jk_model_openings.specs.OpenedDomains.{Admission, with_new_domain}
use Rattle.object_store.specs.HeapContents.{KeepsOthers}
use Rattle.frame_store.specs.FrameContents.{Admits}
use Rattle.machine_parts.specs.FittingParts.{HaveOneList}
use Rattle.machine_parts.specs.MachineParts.{MachineParts, inside_of, machine_of}

-- the number of the next domain
abbrev pub next_domain : MachineParts → DomainId
next_domain p = record { 0 = length p.world.domains }

-- what names mean in the new domain, and what it offers
abbrev pub new_names : MachineParts → Admission → DomainRecord
new_names p a = record {
  id = next_domain p;
  name = a.name;
  live = true;
  table = a.table;
  offers = a.offers;
}

-- Each part has the domain behind the others. Objects may have been made in its heap.
pub record OpensInParts (old new : MachineParts) (a : Admission) (own : OwnState) (stubs : List Stub) : Type 0 where
  pub names : new.world.domains ≡ old.world.domains ++ new_names old a ∷ []
  pub owns : new.owns ≡ old.owns ++ Some own ∷ []
  pub shared : new.shared ≡ admitted (next_domain old) a.quotas stubs old.shared
  pub pages : new.heap.pages ≡ old.heap.pages
  pub heaps : KeepsOthers old.heap new.heap (next_domain old)
  pub frames : Admits old.frames new.frames (next_domain old) a.quotas.chunks

abbrev pub OpensChangeMachines : Type 0
OpensChangeMachines =
    (p new : MachineParts) (a : Admission) (own : OwnState) (stubs : List Stub) → HaveOneList p → OpensInParts p new a own stubs
    → machine_of new ≡ with_new_domain (machine_of p) new.world a (inside_of new.heap new.frames (next_domain p) own)
