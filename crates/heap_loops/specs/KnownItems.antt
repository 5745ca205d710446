-- What is known of the items of an array whose items are tested.
use Rattle.std.specs.Prelude.{◌≡◌, ℕ, List}
use Rattle.std.specs.List.{AllByRecursion}
use Rattle.jk_model.specs.declared.identifiers.DomainId.{DomainId}
use Rattle.jk_model.specs.declared.values.Value.{Value}
use Rattle.jk_model_classes.specs.declared.records.TypeRef.{TypeRef}
use Rattle.jk_model_domains.specs.Objects.{Array}
use Rattle.jk_model_heaps.specs.Capabilities.{CapRange}
use Rattle.jk_model_sealing.specs.SealedInsides.{IsKnownValue}
use Rattle.jk_model_system_rows.specs.ArrayCopies.{number_kind}
use Rattle.object_store.specs.HeapContents.{HeapContent, IsLive}

-- the items of the domain's array are of the kind of this element type; names are those of its heap, and capabilities were given out
abbrev pub HasKnownItems : HeapContent → List CapRange → DomainId → ℕ → TypeRef → Type 0
HasKnownItems c caps d a kind =
    (t : TypeRef) (items : List Value) → IsLive c d a (Array t items)
    → (number_kind t ≡ number_kind kind) × AllByRecursion (IsKnownValue caps (c.heap d)) items
