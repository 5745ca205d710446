-- How copies are made: an object of zeros and nulls for each source, of the source's shape.
use Rattle.std.specs.Prelude.{◌≡◌, ◌≢◌, ℕ, ◌+◌, ◌^◌, ◌<◌, ◌≤◌, ⊤, List, [], ◌∷◌, ◌++◌, Contains, MatchOption, Option, Some, None, map, sum_by}
use Rattle.jk_model.specs.declared.identifiers.DomainId.{DomainId}
use Rattle.jk_model_classes.specs.declared.records.ClassRecord.{ClassRecord}
use Rattle.jk_model_domains.specs.Objects.{NamedObject, Object, object_named, object_words}
use Rattle.jk_model_graphs.specs.Reach.{words_named}
use Rattle.jk_model_heaps.specs.Heaps.{named, shape_of, zero_object}
use Rattle.object_store.specs.HeapContents.{HasShapeClasses, HeapContent, IsAdmitted, IsLive, IsName, KeepsDomains, words_left}
use Rattle.graph_copy.specs.Chains.{IsChain, IsCopyIn, IsOutside, IsSourceIn, first_source}
use Rattle.graph_copy.specs.Queues.{IsQueue, head_of, link_to}

abbrev pub empty_copy : List ClassRecord → Object → Object
empty_copy classes object = zero_object classes (shape_of object)

abbrev pub names_of : List NamedObject → List ℕ
names_of heap = map (λ (e : NamedObject). e.name) heap

-- ---- One copy.

-- an object like the one of this name may be made
pub record MayMakeLike (c : HeapContent) (classes : List ClassRecord) (from to : DomainId) (a : ℕ) : Type 0 where
  pub object : Object
  pub live : IsLive c from a object
  pub has_classes : HasShapeClasses classes (shape_of object)
  pub admitted : IsAdmitted c to
  pub fits : object_words classes object ≤ words_left c to

-- and the name stands at the head of a queue, in front of the chain with this first source
pub record MayLayOne (c : HeapContent) (classes : List ClassRecord) (from to : DomainId) (a : ℕ) (first : Option ℕ) : Type 0 where
  pub like : MayMakeLike c classes from to a
  pub marked : 0 < c.mark from a
  pub small : MatchOption first ⊤ (λ (b : ℕ). b < 2 ^ 30)

-- The object has a copy behind all others of its heap then, and the two stand in front of the chain.
pub record LaysOne (old new : HeapContent) (classes : List ClassRecord) (from to : DomainId) (a : ℕ) (object : Object) (first : Option ℕ) : Type 0 where
  pub copy : ℕ
  pub fresh : object_named (old.heap to) copy ≡ None
  pub domains : KeepsDomains old new
  pub becomes : new.heap to ≡ old.heap to ++ named copy (empty_copy classes object) ∷ []
  pub other_heaps : (e : DomainId) → e ≢ to → new.heap e ≡ old.heap e
  pub uses : new.used to ≡ old.used to + object_words classes object
  pub other_uses : (e : DomainId) → e ≢ to → new.used e ≡ old.used e
  pub source_mark : new.mark from a ≡ copy + 1
  pub copy_mark : new.mark to copy ≡ link_to first
  pub other_marks : (e : DomainId) (x : ℕ) → (e ≡ from → x ≡ a → ⊥) → (e ≡ to → x ≡ copy → ⊥) → new.mark e x ≡ old.mark e x

-- ---- All of a queue.

-- These pairs stand in a chain, and the copies, which were made, have zeros and nulls alone.
pub record AreLaid (old now : HeapContent) (classes : List ClassRecord) (from to : DomainId) (pairs : List (ℕ × ℕ)) (made : List NamedObject) : Type 0 where
  pub domains : KeepsDomains old now
  pub becomes : now.heap to ≡ old.heap to ++ made
  pub other_heaps : (e : DomainId) → e ≢ to → now.heap e ≡ old.heap e
  pub other_uses : (e : DomainId) → e ≢ to → now.used e ≡ old.used e
  pub chain : IsChain now from to pairs
  pub was_there : (a : ℕ) → IsSourceIn pairs a → IsName old from a
  pub fresh : (b : ℕ) → IsCopyIn pairs b → object_named (old.heap to) b ≡ None
  pub only_copies : (b : ℕ) → Contains (names_of made) b → IsCopyIn pairs b
  pub empty : (a b : ℕ) (object : Object) → Contains pairs (a, b) → IsLive old from a object → object_named made b ≡ Some (empty_copy classes object)
  pub other_marks : (e : DomainId) (x : ℕ) → IsOutside from to pairs e x → now.mark e x ≡ old.mark e x

-- the objects of a queue with this head may be copied: they fit together
pub record MayLay (c : HeapContent) (classes : List ClassRecord) (from to : DomainId) (head : Option ℕ) : Type 0 where
  pub names : List ℕ
  pub queue : IsQueue c from names
  pub is_head : head ≡ head_of names
  pub admitted : IsAdmitted c to
  pub has_classes : (a : ℕ) (object : Object) → Contains names a → IsLive c from a object → HasShapeClasses classes (shape_of object)
  pub fits : sum_by (words_named classes (c.heap from)) names ≤ words_left c to

-- Each object of the queue has a copy then.
pub record Lays (old new : HeapContent) (classes : List ClassRecord) (from to : DomainId) (names : List ℕ) (first : Option ℕ) : Type 0 where
  pub pairs : List (ℕ × ℕ)
  pub made : List NamedObject
  pub laid : AreLaid old new classes from to pairs made
  pub is_first : first ≡ first_source pairs
  pub all : (a : ℕ) → Contains names a → IsSourceIn pairs a
  pub only : (a : ℕ) → IsSourceIn pairs a → Contains names a
  pub uses : new.used to ≡ old.used to + sum_by (words_named classes (old.heap from)) names
