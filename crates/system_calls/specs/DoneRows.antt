-- What a function that does a method of one meaning rests on, and what it makes of its domain's heap: it does what the row of the meaning
-- says, whatever else the domain has inside.
use Rattle.std.specs.Prelude.{◌≡◌, ℕ, List, Option, Result, Some, Ok, Err}
use Rattle.jk_model.specs.declared.identifiers.DomainId.{DomainId}
use Rattle.jk_model.specs.declared.steps.Raise.{Raise}
use Rattle.jk_model.specs.declared.values.Value.{Value}
use Rattle.jk_model_classes.specs.declared.records.ClassRecord.{ClassRecord}
use Rattle.jk_model_domains.specs.Objects.{Object}
use Rattle.jk_model_heaps.specs.Heaps.{heap_words}
use Rattle.jk_model_heaps.specs.Workings.{Inside, Setting, with_heap}
use Rattle.jk_model_system_rows.specs.declared.meanings.SystemMeaning.{SystemMeaning}
use Rattle.jk_model_system_rows.specs.Answers.{Answer, Fails, Gives, with_answer}
use Rattle.jk_model_system_rows.specs.SystemRows.{SystemRow}
use Rattle.object_store.specs.HeapContents.{HeapBecomes, HeapContent, IsAdmitted, IsLaidOut, IsLive}

-- The domain has a heap of which each object is laid out as its class says, and the store counts what they cost.
pub record IsReady (c : HeapContent) (classes : List ClassRecord) (d : DomainId) : Type 0 where
  pub admitted : IsAdmitted c d
  pub used : c.used d ≡ heap_words classes (c.heap d)
  pub laid_out : (a : ℕ) (object : Object) → IsLive c d a object → IsLaidOut classes object

-- The setting and the domain's inside are those of the store and the classes.
pub record IsFor (c : HeapContent) (table : List ClassRecord) (d : DomainId) (x : Setting) (inside : Inside) : Type 0 where
  pub classes : x.classes ≡ table
  pub quota : c.quota d ≡ Some x.quota
  pub heap : inside.heap ≡ c.heap d

-- what a function answers by its result
abbrev pub answer_of : Result (Option Value) Raise → Answer
answer_of (Ok v) = Gives v
answer_of (Err r) = Fails r

-- a method that changes nothing: it answers this
abbrev pub Finds : HeapContent → DomainId → SystemMeaning → List Value → Answer → Type 0
Finds c d meaning given answer =
    (x : Setting) (inside : Inside) → inside.heap ≡ c.heap d → SystemRow x meaning given inside (with_answer inside answer)

-- A method that may change its domain's heap: it answers this, and all else in the store is as before.
pub record Does (old new : HeapContent) (classes : List ClassRecord) (d : DomainId) (meaning : SystemMeaning) (given : List Value)
    (answer : Answer) : Type 0 where
  pub becomes : HeapBecomes old new d (new.heap d) (heap_words classes (new.heap d))
  pub row : (x : Setting) (inside : Inside) → IsFor old classes d x inside
      → SystemRow x meaning given inside (with_answer (with_heap inside (new.heap d)) answer)
