-- An object goes from the head of the first queue to the head of the second.
use Rattle.std.specs.Prelude.{◌≡◌, ℕ, List, ◌∷◌, Option, Some}
use Rattle.jk_model.specs.declared.identifiers.DomainId.{DomainId}
use Rattle.object_store.specs.HeapContents.{HeapContent}
use Rattle.graph_copy.specs.MetObjects.{AreMet}
use Rattle.graph_copy.specs.Queues.{ChangesMarks, head_of}

-- there are two queues, with these heads
pub record HasQueues (c : HeapContent) (d : DomainId) (first second : Option ℕ) : Type 0 where
  pub todo : List ℕ
  pub done : List ℕ
  pub met : AreMet c d todo done
  pub is_first : first ≡ head_of todo
  pub is_second : second ≡ head_of done

pub record IsFinished (new : HeapContent) (d : DomainId) (a : ℕ) (todo done : List ℕ) (result : Option ℕ) : Type 0 where
  pub rest : List ℕ
  pub was : todo ≡ a ∷ rest
  pub is_head : result ≡ head_of rest
  pub met : AreMet new d rest (a ∷ done)

pub record Finishes (old new : HeapContent) (d : DomainId) (a : ℕ) (second result : Option ℕ) : Type 0 where
  pub marks : ChangesMarks old new d
  pub finished : (todo done : List ℕ) → AreMet old d todo done → Some a ≡ head_of todo → second ≡ head_of done → IsFinished new d a todo done result
