-- How far a walk over all that is reached has come: the objects that are done may all be copied, and what they lead to is met.
use Rattle.std.specs.Prelude.{◌≡◌, ◌⊎◌, ℕ, List, Contains, Option, sum_by}
use Rattle.jk_model.specs.declared.identifiers.DomainId.{DomainId}
use Rattle.jk_model.specs.declared.values.Value.{Value}
use Rattle.jk_model.specs.declared.values.Value.TheVariants as Held
use Rattle.jk_model_classes.specs.declared.records.ClassRecord.{ClassRecord}
use Rattle.jk_model_classes.specs.Worlds.{NamedClass}
use Rattle.jk_model_domains.specs.Objects.{Object}
use Rattle.jk_model_graphs.specs.Copiable.{IsCopiable}
use Rattle.jk_model_graphs.specs.Reach.{LeadsTo, Reach, words_named}
use Rattle.object_store.specs.HeapContents.{HeapContent, IsLive}
use Rattle.graph_copy.specs.CopyAnswers.{graph_in}
use Rattle.graph_copy.specs.MetObjects.{AreMet}
use Rattle.graph_copy.specs.Queues.{ChangesMarks, head_of}

-- what is walked over: the values of a domain, and the names of it and of the domain to which they are to be copied
pub record Walk : Type 0 where
  pub classes : List ClassRecord
  pub from_table : List NamedClass
  pub to_table : List NamedClass
  pub from : DomainId
  pub values : List Value

abbrev pub IsMet : List ℕ → List ℕ → ℕ → Type 0
IsMet todo done a = Contains todo a ⊎ Contains done a

pub record FoundSoFar (c now : HeapContent) (x : Walk) (todo done : Option ℕ) (sum : ℕ) : Type 0 where
  pub first : List ℕ
  pub second : List ℕ
  pub marks : ChangesMarks c now x.from
  pub met : AreMet now x.from first second
  pub is_first : todo ≡ head_of first
  pub is_second : done ≡ head_of second
  pub reached : (a : ℕ) → IsMet first second a → Reach x.classes (graph_in c x.from x.values) a
  pub given : (a : ℕ) → Contains x.values (Held.Obj a) → IsMet first second a
  pub further : (a b : ℕ) → Contains second a → LeadsTo x.classes (c.heap x.from) a b → IsMet first second b
  pub is_sum : sum ≡ sum_by (words_named x.classes (c.heap x.from)) second
  pub copiable : (a : ℕ) (object : Object) → Contains second a → IsLive c x.from a object → IsCopiable x.classes x.from_table x.to_table object
