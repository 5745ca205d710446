-- What a test of a value or of an object's shape asks of it.
use Rattle.std.specs.Prelude.{◌≤◌, ⊤}
use Rattle.jk_model.specs.declared.identifiers.DomainId.{DomainId}
use Rattle.jk_model.specs.declared.values.Value.{Value}
use Rattle.jk_model.specs.declared.values.Value.TheVariants as Held
use Rattle.jk_model_heaps.specs.declared.shapes.Shape.{Shape}
use Rattle.jk_model_heaps.specs.declared.shapes.Shape.TheVariants as Of
use Rattle.object_store.specs.HeapContents.{HeapContent, IsName}

-- the elements of an array have so few dimensions that a type tells one more
abbrev pub HasFewDims : Shape → Type 0
HasFewDims (Of.Array element n) = element.dims ≤ 254
HasFewDims shape = ⊤

-- a reference that isn't null; an object is one of the domain
abbrev pub Refers : HeapContent → DomainId → Value → Type 0
Refers c d (Held.Obj a) = IsName c d a
Refers c d (Held.Cap k) = ⊤
Refers c d v = ⊥
