-- What is made of the items of an array in a store of objects. All else in the store is as before.
use Rattle.std.specs.Prelude.{◌≡◌, ℕ, ◌≤◌, List, length}
use Rattle.jk_model.specs.declared.identifiers.DomainId.{DomainId}
use Rattle.jk_model.specs.declared.values.Value.{Value}
use Rattle.jk_model_classes.specs.declared.records.TypeRef.{TypeRef}
use Rattle.jk_model_domains.specs.Objects.{Array}
use Rattle.jk_model_system_rows.specs.ArrayCopies.{copied, number_kind}
use Rattle.object_store.specs.HeapContents.{HeapContent, IsLive, WritesObject}

-- The domain's object of a name is an array of so many items or more.
pub record HasItems (c : HeapContent) (d : DomainId) (a n : ℕ) : Type 0 where
  pub element : TypeRef
  pub items : List Value
  pub live : IsLive c d a (Array element items)
  pub many : n ≤ length items

-- the elements of two arrays, or of one, are whole numbers of one kind, or references
abbrev pub AreOfOneKind : HeapContent → DomainId → ℕ → ℕ → Type 0
AreOfOneKind c d source target =
    (t u : TypeRef) (items others : List Value) → IsLive c d source (Array t items) → IsLive c d target (Array u others)
    → number_kind t ≡ number_kind u

-- which items go where: so many of an array, from a place on, to a place of an array, which may be the same one
pub record ItemMove : Type 0 where
  pub source : ℕ
  pub from : ℕ
  pub target : ℕ
  pub to : ℕ
  pub count : ℕ

-- the target has the items that the source had before
abbrev pub MovesItems : HeapContent → HeapContent → DomainId → ItemMove → Type 0
MovesItems old new d m =
    (t u : TypeRef) (items others : List Value) → IsLive old d m.source (Array t items) → IsLive old d m.target (Array u others)
    → WritesObject old new d m.target (Array u (copied items m.from others m.to m.count))
