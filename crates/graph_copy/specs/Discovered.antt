-- What a walk over all that is reached finds.
use Rattle.std.specs.Prelude.{◌≡◌, List, MatchOption, Some, None}
use Rattle.jk_model.specs.declared.identifiers.DomainId.{DomainId}
use Rattle.jk_model.specs.declared.values.Value.{Value}
use Rattle.jk_model_classes.specs.Worlds.{WorldRecord}
use Rattle.jk_model_domains.specs.Objects.{Object}
use Rattle.jk_model_graphs.specs.Copiable.{IsCopiable}
use Rattle.object_store.specs.HeapContents.{HeapContent, IsLive}
use Rattle.graph_copy.specs.declared.discovery.Found.{Found}
use Rattle.graph_copy.specs.AskedOfCopies.{table_of}
use Rattle.graph_copy.specs.FoundSoFar.{FoundSoFar, Walk}

abbrev pub walk_of : WorldRecord → DomainId → DomainId → List Value → Walk
walk_of w from to values = record { classes = w.classes; from_table = table_of w from; to_table = table_of w to; from = from; values = values }

-- The walk ends where nothing is left, or at the first object that may not be copied, which stands at the head of the first queue.
pub record Discovers (c new : HeapContent) (x : Walk) (f : Found) : Type 0 where
  pub found : FoundSoFar c new x f.todo f.done f.sum
  pub refused : MatchOption f.refused (f.todo ≡ None) (λ a. (f.todo ≡ Some a)
      × ((object : Object) × IsLive c x.from a object × (IsCopiable x.classes x.from_table x.to_table object → ⊥)))
