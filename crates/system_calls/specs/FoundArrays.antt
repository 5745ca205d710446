-- Arrays that were found in a store, and what is asked of those that are copied.
use Rattle.std.specs.Prelude.{◌≡◌, ℕ, ◌+◌, ◌≤◌, ℤ, pos, List, length}
use Rattle.std.specs.List.{AllByRecursion}
use Rattle.jk_model.specs.declared.identifiers.DomainId.{DomainId}
use Rattle.jk_model.specs.declared.values.Value.{Value}
use Rattle.jk_model.specs.declared.values.Value.TheVariants as Held
use Rattle.jk_model_classes.specs.declared.records.TypeRef.{TypeRef}
use Rattle.jk_model_domains.specs.Objects.{Array}
use Rattle.jk_model_heaps.specs.Capabilities.{CapRange}
use Rattle.jk_model_sealing.specs.SealedInsides.{IsKnownValue}
use Rattle.object_store.specs.HeapContents.{HeapContent, IsLive, IsName}
use Rattle.system_calls.specs.declared.array_copies.FoundArray.{FoundArray}

-- where it is an object, the domain has one of its name
abbrev pub NamesObject : HeapContent → DomainId → Value → Type 0
NamesObject c d v = (a : ℕ) → v ≡ Held.Obj a → IsName c d a

-- the array stands under its name
abbrev pub IsAsFound : HeapContent → DomainId → FoundArray → Type 0
IsAsFound c d f = (items : List Value) × IsLive c d f.name (Array f.element items) × (f.len ≡ length items)

-- so many places from this one on are there
abbrev pub IsRange : ℤ → ℤ → ℕ → Type 0
IsRange place count len = (first : ℕ) × (many : ℕ) × (place ≡ pos first) × (count ≡ pos many) × (first + many ≤ len)

-- of an array's items those that are names are of the heap, and capabilities were given out
abbrev pub KnowsItems : HeapContent → List CapRange → DomainId → Type 0
KnowsItems c caps d =
    (a : ℕ) (t : TypeRef) (items : List Value) → IsLive c d a (Array t items) → AllByRecursion (IsKnownValue caps (c.heap d)) items
