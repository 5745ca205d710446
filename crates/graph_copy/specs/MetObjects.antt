-- How a walk over values meets objects. Those that were met stand on two queues: of those whose values are still to be walked over, and of
-- those that are done. All others have the mark 0. An object that is met for the first time comes to the head of the first queue.
use Rattle.std.specs.Prelude.{◌≡◌, ◌≢◌, ◌⊎◌, ℕ, List, Contains, Option, Some}
use Rattle.jk_model.specs.declared.identifiers.DomainId.{DomainId}
use Rattle.jk_model.specs.declared.values.Value.{Value}
use Rattle.jk_model.specs.declared.values.Value.TheVariants as Held
use Rattle.object_store.specs.HeapContents.{HeapContent, IsName, IsSame, Marks}
use Rattle.graph_copy.specs.Queues.{ChangesMarks, IsQueue, head_of, link_to}

-- ---- The two queues.

pub record AreMet (c : HeapContent) (d : DomainId) (todo done : List ℕ) : Type 0 where
  pub todo_queue : IsQueue c d todo
  pub done_queue : IsQueue c d done
  pub apart : (a : ℕ) → Contains todo a → Contains done a → ⊥
  pub others : (a : ℕ) → (Contains todo a → ⊥) → (Contains done a → ⊥) → c.mark d a ≡ 0

-- there are two queues, of which the first has this head
pub record HasMet (c : HeapContent) (d : DomainId) (head : Option ℕ) : Type 0 where
  pub todo : List ℕ
  pub done : List ℕ
  pub met : AreMet c d todo done
  pub is_head : head ≡ head_of todo

-- ---- One object.

-- an object with a mark stays where it is, and another one comes to the head
abbrev pub MeetsOne : HeapContent → HeapContent → DomainId → ℕ → Option ℕ → Option ℕ → Type 0
MeetsOne old new d b head result =
    ((old.mark d b ≢ 0) × IsSame old new × (result ≡ head))
    ⊎ ((old.mark d b ≡ 0) × Marks old new d b (link_to head) × (result ≡ Some b))

-- ---- The objects that values name.

abbrev pub AreNamed : HeapContent → DomainId → List Value → Type 0
AreNamed c d values = (b : ℕ) → Contains values (Held.Obj b) → IsName c d b

-- what a queue is once the objects of the values are met
pub record Grows (new : HeapContent) (d : DomainId) (values : List Value) (todo done : List ℕ) (result : Option ℕ) : Type 0 where
  pub grown : List ℕ
  pub is_head : result ≡ head_of grown
  pub met : AreMet new d grown done
  pub kept : (a : ℕ) → Contains todo a → Contains grown a
  pub all : (a : ℕ) → Contains values (Held.Obj a) → Contains grown a ⊎ Contains done a
  pub only : (a : ℕ) → Contains grown a → Contains todo a ⊎ Contains values (Held.Obj a)

pub record Meets (old new : HeapContent) (d : DomainId) (values : List Value) (head result : Option ℕ) : Type 0 where
  pub marks : ChangesMarks old new d
  pub grows : (todo done : List ℕ) → AreMet old d todo done → head ≡ head_of todo → Grows new d values todo done result
