-- Values that pass from one domain to another: whether all that they lead to may be copied, what it costs there, and the copy. The domain
-- that takes may be the one that gives.
use Rattle.std.specs.Prelude.{ℕ, ◌<◌, ◌≤◌, List}
use Rattle.jk_model.specs.declared.identifiers.DomainId.{DomainId}
use Rattle.jk_model.specs.declared.values.Value.{Value}
use Rattle.jk_model_classes.specs.declared.records.ClassRecord.{ClassRecord}
use Rattle.jk_model_classes.specs.Worlds.{NamedClass}
use Rattle.jk_model_domains.specs.Objects.{NamedObject}
use Rattle.jk_model_graphs.specs.Copiable.{AllCopiable, MeetsUncopiable}
use Rattle.jk_model_graphs.specs.Copies.{IsCopy}
use Rattle.jk_model_graphs.specs.Reach.{Graph, ReachCosts}
use Rattle.jk_model_heaps.specs.Heaps.{free_words}
use Rattle.jk_model_machine_state.specs.Machines.{Machine}
use Rattle.jk_model_machine_state.specs.Places.{LiveDomain}

pub record Passage : Type 0 where
  pub classes : List ClassRecord
  -- what names mean in the domain that gives, and in the one that takes
  pub from : List NamedClass
  pub to : List NamedClass
  -- the values, and the heap of the domain that gives
  pub source : Graph
  -- the heap of the domain that takes, and how many words it may have
  pub target : List NamedObject
  pub quota : ℕ

-- these values, from the one domain to the other
abbrev pub passage : {m : Machine} {d e : DomainId} → LiveDomain m d → LiveDomain m e → List Value → Passage
passage {m = m} giver taker given = record {
  classes = m.classes;
  from = giver.domain.table;
  to = taker.domain.table;
  source = record { heap = giver.inside.heap; values = given };
  target = taker.inside.heap;
  quota = taker.domain.quotas.heap;
}

-- ---- The three ways in which it may go, of which the first that applies is taken.

-- an object is reached that may not be copied
abbrev pub IsUncopiable : Passage → Type 0
IsUncopiable p = (a : ℕ) × MeetsUncopiable p.classes p.from p.to p.source a

-- all may be copied, and costs more words than are free
abbrev pub IsTooLarge : Passage → Type 0
IsTooLarge p =
    AllCopiable p.classes p.from p.to p.source
    × ((n : ℕ) × ReachCosts p.classes p.source n × (free_words p.classes p.quota p.target < n))

-- all may be copied, and there is room for it
abbrev pub MayPass : Passage → Type 0
MayPass p =
    AllCopiable p.classes p.from p.to p.source
    × ((n : ℕ) × ReachCosts p.classes p.source n × (n ≤ free_words p.classes p.quota p.target))

-- ---- The copy: the heap that the domain which takes has then, and the values as it gets them.

pub record Passes (p : Passage) (heap : List NamedObject) (values : List Value) : Type 0 where
  pub may : MayPass p
  pub pairs : List (ℕ × ℕ)
  pub copy : IsCopy p.classes p.source p.target (record { heap = heap; values = values }) pairs
