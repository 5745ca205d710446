-- Sources and their copies, linked in turn through their marks: that of a source is the name of its copy and 1, and that of a copy leads to the
-- source of the next pair, as in a queue. A pair is of an object's name and its copy's.
use Rattle.std.specs.Prelude.{◌≡◌, ℕ, ◌+◌, ⊤, List, [], ◌∷◌, Contains, Option, Some, None, map, nat_eq}
use Rattle.std.specs.List.{IsDistinct}
use Rattle.jk_model.specs.declared.identifiers.DomainId.{DomainId}
use Rattle.object_store.specs.HeapContents.{HeapContent, IsName, KeepsDomains}
use Rattle.graph_copy.specs.Queues.{link_to}

abbrev pub IsSourceIn : List (ℕ × ℕ) → ℕ → Type 0
IsSourceIn pairs a = (b : ℕ) × Contains pairs (a, b)

abbrev pub IsCopyIn : List (ℕ × ℕ) → ℕ → Type 0
IsCopyIn pairs b = (a : ℕ) × Contains pairs (a, b)

abbrev pub first_source : List (ℕ × ℕ) → Option ℕ
first_source [] = None
first_source (p ∷ pairs) = Some p.0

-- by the marks of the sources' domain and of the copies'
abbrev pub AreInTurn : (ℕ → ℕ) → (ℕ → ℕ) → List (ℕ × ℕ) → Type 0
AreInTurn sources copies [] = ⊤
AreInTurn sources copies (p ∷ pairs) =
    (sources p.0 ≡ p.1 + 1) × (copies p.1 ≡ link_to (first_source pairs)) × AreInTurn sources copies pairs

abbrev pub sources_of : List (ℕ × ℕ) → List ℕ
sources_of pairs = map (λ (p : ℕ × ℕ). p.0) pairs

abbrev pub copies_of : List (ℕ × ℕ) → List ℕ
copies_of pairs = map (λ (p : ℕ × ℕ). p.1) pairs

-- objects of one domain and their copies in another, or in the same, each once; no source is a copy
pub record IsChain (c : HeapContent) (from to : DomainId) (pairs : List (ℕ × ℕ)) : Type 0 where
  pub linked : AreInTurn (c.mark from) (c.mark to) pairs
  pub sources_differ : IsDistinct nat_eq (sources_of pairs)
  pub copies_differ : IsDistinct nat_eq (copies_of pairs)
  pub sources : (a : ℕ) → IsSourceIn pairs a → IsName c from a
  pub copies : (b : ℕ) → IsCopyIn pairs b → IsName c to b
  pub apart : from ≡ to → (a : ℕ) → IsSourceIn pairs a → IsCopyIn pairs a → ⊥

-- there is a chain with this first source
pub record HasChain (c : HeapContent) (from to : DomainId) (first : Option ℕ) : Type 0 where
  pub pairs : List (ℕ × ℕ)
  pub chain : IsChain c from to pairs
  pub is_first : first ≡ first_source pairs

-- what is neither a source in its domain nor a copy in its own
abbrev pub IsOutside : DomainId → DomainId → List (ℕ × ℕ) → DomainId → ℕ → Type 0
IsOutside from to pairs e x = (e ≡ from → IsSourceIn pairs x → ⊥) × (e ≡ to → IsCopyIn pairs x → ⊥)

-- The sources and copies have the mark 0 then, and all else is as before.
pub record ForgetsPairs (old new : HeapContent) (from to : DomainId) (pairs : List (ℕ × ℕ)) : Type 0 where
  pub domains : KeepsDomains old new
  pub used : (e : DomainId) → new.used e ≡ old.used e
  pub heap : (e : DomainId) → new.heap e ≡ old.heap e
  pub sources : (a : ℕ) → IsSourceIn pairs a → new.mark from a ≡ 0
  pub copies : (b : ℕ) → IsCopyIn pairs b → new.mark to b ≡ 0
  pub others : (e : DomainId) (x : ℕ) → IsOutside from to pairs e x → new.mark e x ≡ old.mark e x
