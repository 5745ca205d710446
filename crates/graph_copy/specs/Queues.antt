-- Objects of a domain that are linked through their marks. Of a queue the last object has a mark of its own, and each other one the name of
-- the next and 1, so that no object of a queue has the mark 0.
use Rattle.std.specs.Prelude.{◌≡◌, ◌≢◌, ℕ, ◌+◌, ⊤, List, [], ◌∷◌, Contains, Option, Some, None, nat_eq}
use Rattle.std.specs.List.{IsDistinct}
use Rattle.jk_model.specs.declared.identifiers.DomainId.{DomainId}
use Rattle.object_store.specs.HeapContents.{HeapContent, IsName, KeepsDomains}

-- ---- Marks.

-- the mark of an object, by the one behind it
abbrev pub link_to : Option ℕ → ℕ
link_to None = 4294967295
link_to (Some a) = a + 1

-- what stands behind an object of this mark
abbrev pub IsNext : ℕ → Option ℕ → Type 0
IsNext mark None = mark ≡ 4294967295
IsNext mark (Some a) = (mark ≡ a + 1) × (mark ≢ 4294967295)

-- ---- Queues.

abbrev pub head_of : List ℕ → Option ℕ
head_of [] = None
head_of (a ∷ names) = Some a

abbrev pub IsLinked : (ℕ → ℕ) → List ℕ → Type 0
IsLinked mark [] = ⊤
IsLinked mark (a ∷ names) = (mark a ≡ link_to (head_of names)) × IsLinked mark names

-- objects of a domain, each once, in the order of their marks
pub record IsQueue (c : HeapContent) (d : DomainId) (names : List ℕ) : Type 0 where
  pub linked : IsLinked (c.mark d) names
  pub distinct : IsDistinct nat_eq names
  pub named : (a : ℕ) → Contains names a → IsName c d a

-- there is a queue with this head
pub record HasQueue (c : HeapContent) (d : DomainId) (head : Option ℕ) : Type 0 where
  pub names : List ℕ
  pub is_queue : IsQueue c d names
  pub is_head : head ≡ head_of names

-- ---- Changes.

-- Nothing but marks of one domain changes.
pub record ChangesMarks (old new : HeapContent) (d : DomainId) : Type 0 where
  pub domains : KeepsDomains old new
  pub used : (e : DomainId) → new.used e ≡ old.used e
  pub heap : (e : DomainId) → new.heap e ≡ old.heap e
  pub other_domains : (e : DomainId) (b : ℕ) → e ≢ d → new.mark e b ≡ old.mark e b

-- These objects have the mark 0 then, and all else is as before.
pub record Forgets (old new : HeapContent) (d : DomainId) (names : List ℕ) : Type 0 where
  pub marks : ChangesMarks old new d
  pub cleared : (a : ℕ) → Contains names a → new.mark d a ≡ 0
  pub others : (a : ℕ) → (Contains names a → ⊥) → new.mark d a ≡ old.mark d a
