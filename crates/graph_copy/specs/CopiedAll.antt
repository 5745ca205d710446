-- All that is reached is found, and fits: it may be copied then.
use Rattle.std.specs.Prelude.{ℕ, ◌≤◌, List, Option, None}
use Rattle.jk_model.specs.declared.identifiers.DomainId.{DomainId}
use Rattle.jk_model.specs.declared.values.Value.{Value}
use Rattle.jk_model_classes.specs.Worlds.{WorldRecord}
use Rattle.object_store.specs.HeapContents.{HeapContent, words_left}
use Rattle.graph_copy.specs.AskedOfCopies.{MayCopy}
use Rattle.graph_copy.specs.Discovered.{walk_of}
use Rattle.graph_copy.specs.FoundSoFar.{FoundSoFar}

-- so it was found from the first content on, and stands on the queue with this head
pub record IsAllFound (c now : HeapContent) (w : WorldRecord) (from to : DomainId) (values : List Value) (head : Option ℕ) : Type 0 where
  pub may : MayCopy c w from to values
  pub sum : ℕ
  pub found : FoundSoFar c now (walk_of w from to values) None head sum
  pub fits : sum ≤ words_left c to
