-- An object is walked over: it is done then, and the objects to which it leads are met.
use Rattle.std.specs.Prelude.{◌≡◌, ◌⊎◌, ℕ, List, ◌∷◌, Contains, Option, Some}
use Rattle.jk_model.specs.declared.identifiers.DomainId.{DomainId}
use Rattle.jk_model.specs.declared.values.Value.{Value}
use Rattle.jk_model.specs.declared.values.Value.TheVariants as Held
use Rattle.object_store.specs.HeapContents.{HeapContent}
use Rattle.graph_copy.specs.MetObjects.{AreMet}
use Rattle.graph_copy.specs.Queues.{ChangesMarks, head_of}

pub record IsVisited (new : HeapContent) (d : DomainId) (a : ℕ) (values : List Value) (todo done : List ℕ) (result : Option ℕ) : Type 0 where
  pub grown : List ℕ
  pub is_head : result ≡ head_of grown
  pub met : AreMet new d grown (a ∷ done)
  pub kept : (b : ℕ) → Contains todo b → Contains grown b ⊎ Contains (a ∷ done) b
  pub all : (b : ℕ) → Contains values (Held.Obj b) → Contains grown b ⊎ Contains (a ∷ done) b
  pub only : (b : ℕ) → Contains grown b → Contains todo b ⊎ Contains values (Held.Obj b)

pub record Visits (old new : HeapContent) (d : DomainId) (a : ℕ) (values : List Value) (second result : Option ℕ) : Type 0 where
  pub marks : ChangesMarks old new d
  pub visited : (todo done : List ℕ) → AreMet old d todo done → Some a ≡ head_of todo → second ≡ head_of done
      → IsVisited new d a values todo done result
