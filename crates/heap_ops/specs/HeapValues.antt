-- Arrays and fields in a store of objects, as functions find them.
use Rattle.std.specs.Prelude.{◌≡◌, ◌<◌, ℕ, ℤ, pos, List, length, Some, slice_get, option_map}
use Rattle.jk_model.specs.declared.identifiers.DomainId.{DomainId}
use Rattle.jk_model.specs.declared.identifiers.MemberId.{MemberId}
use Rattle.jk_model.specs.declared.values.Value.{Value}
use Rattle.jk_model_classes.specs.declared.records.ClassRecord.{ClassRecord}
use Rattle.jk_model_classes.specs.declared.records.TypeRef.{TypeRef}
use Rattle.jk_model_classes.specs.Layouts.{InstanceField, instance_fields}
use Rattle.jk_model_domains.specs.Objects.{Array}
use Rattle.object_store.specs.HeapContents.{HeapContent, IsLive}

-- The domain's object of a name is an array of so many elements of this type.
pub record IsArrayAt (c : HeapContent) (d : DomainId) (a : ℕ) (element : TypeRef) (count : ℕ) : Type 0 where
  pub items : List Value
  pub live : IsLive c d a (Array element items)
  pub as_many : length items ≡ count

-- the index is below 0, or not below the length
abbrev pub HasNoPlace : ℤ → ℕ → Type 0
HasNoPlace index count = (n : ℕ) → index ≡ pos n → n < count → ⊥

-- the field stands at this place among those of its class
abbrev pub IsOwnPlace : List ClassRecord → MemberId → ℕ → Type 0
IsOwnPlace classes m place = option_map (λ (f : InstanceField). f.member) (slice_get (instance_fields classes m.class) place) ≡ Some m
