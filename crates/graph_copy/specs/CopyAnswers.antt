-- What `copy` and `would_copy` answer, and what a copy makes of the store. Neither is lent an allocator, and neither has an answer for want of
-- memory: so each uses marks and heap words alone.
use Rattle.std.specs.Prelude.{ℕ, ◌+◌, ◌<◌, ◌≤◌, List}
use Rattle.jk_model.specs.declared.identifiers.DomainId.{DomainId}
use Rattle.jk_model.specs.declared.values.Value.{Value}
use Rattle.jk_model_classes.specs.declared.records.ClassRecord.{ClassRecord}
use Rattle.jk_model_classes.specs.Worlds.{WorldRecord}
use Rattle.jk_model_graphs.specs.Copiable.{AllCopiable, MeetsUncopiable}
use Rattle.jk_model_graphs.specs.Copies.{IsCopy}
use Rattle.jk_model_graphs.specs.Reach.{Graph, ReachCosts}
use Rattle.object_store.specs.HeapContents.{HeapBecomes, HeapContent, words_left}
use Rattle.graph_copy.specs.declared.answers.CopyAnswer.{CopyAnswer}
use Rattle.graph_copy.specs.declared.answers.CopyAnswer.TheVariants.{Copied, NoRoom, NotCopiable}
use Rattle.graph_copy.specs.AskedOfCopies.{table_of}

-- the values, and a domain's heap, whose objects they name
abbrev pub graph_in : HeapContent → DomainId → List Value → Graph
graph_in c d values = record { heap = c.heap d; values = values }

-- all that the values reach may be copied
abbrev pub MayAllPass : HeapContent → WorldRecord → DomainId → DomainId → List Value → Type 0
MayAllPass c w from to values = AllCopiable w.classes (table_of w from) (table_of w to) (graph_in c from values)

-- what they reach costs so many words together
abbrev pub Cost : HeapContent → WorldRecord → DomainId → List Value → ℕ → Type 0
Cost c w from values n = ReachCosts w.classes (graph_in c from values) n

-- The three answers exclude one another, and one of them holds: what may not be copied comes first, and then the sum, which is that of all
-- that is reached. Which of the objects is told that may not be copied is left open.
abbrev pub CopyAnswers : HeapContent → WorldRecord → DomainId → DomainId → List Value → CopyAnswer → Type 0
CopyAnswers c w from to values Copied = MayAllPass c w from to values × ((n : ℕ) × Cost c w from values n × (n ≤ words_left c to))
CopyAnswers c w from to values (NotCopiable a) = MeetsUncopiable w.classes (table_of w from) (table_of w to) (graph_in c from values) a
CopyAnswers c w from to values (NoRoom n) = MayAllPass c w from to values × Cost c w from values n × (words_left c to < n)

-- The heap of `to` has the copies behind its objects, and the words that they cost are used. All else is as before, marks too.
pub record Copies (c new : HeapContent) (classes : List ClassRecord) (from to : DomainId) (values answers : List Value) : Type 0 where
  pub pairs : List (ℕ × ℕ)
  pub is_copy : IsCopy classes (graph_in c from values) (c.heap to) (graph_in new to answers) pairs
  pub words : ℕ
  pub costs : ReachCosts classes (graph_in c from values) words
  pub becomes : HeapBecomes c new to (new.heap to) (c.used to + words)
