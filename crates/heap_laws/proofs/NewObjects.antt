-- New objects, of zeros and nulls, are sealed in each heap.
use Rattle.std.proofs.Common.{◌≡◌, ℕ, zero, suc, List, map, replicate, Some, slice_get, sym, subst, ◌∙◌}
use Rattle.std.specs.List.{AllByRecursion}
use Rattle.std.proofs.lemmas.List.{length-map}
use Rattle.std.proofs.lemmas.Option.{same_Some}
use Rattle.list_lemmas.proofs.ItemsByPlace.{mapped_at}
use Rattle.jk_model.specs.declared.identifiers.ClassId.{ClassId}
use Rattle.jk_model.specs.declared.values.Value.{Value}
use Rattle.jk_model_classes.specs.declared.records.BaseRef.{BaseRef}
use Rattle.jk_model_classes.specs.declared.records.BaseRef.TheVariants as Base
use Rattle.jk_model_classes.specs.declared.records.ClassRecord.{ClassRecord}
use Rattle.jk_model_classes.specs.declared.records.FieldRecord.{FieldRecord}
use Rattle.jk_model_classes.specs.declared.records.TypeRef.{TypeRef}
use Rattle.jk_model_typing.specs.FrameTypes.{array_type}
use Rattle.jk_model_domains.specs.Objects.{NamedObject}
use Rattle.jk_model_domains.specs.OwnStates.{zero_of}
use Rattle.jk_model_domains.specs.ValueTypes.{HoldsDeclared}
use Rattle.jk_model_heaps.specs.declared.shapes.Shape.{Shape}
use Rattle.jk_model_heaps.specs.declared.shapes.Shape.TheVariants as Of
use Rattle.jk_model_heaps.specs.Capabilities.{CapRange}
use Rattle.jk_model_heaps.specs.Heaps.{field_records, zero_fields, zero_object}
use Rattle.jk_model_sealing.specs.SealedInsides.{HasFields, IsKnownValue, IsSealedObject, Surroundings}
use Rattle.heap_laws.specs.FittingOutcomes.{IsOfType}
use Rattle.heap_laws.specs.SealedChanges.{IsNamedShape}

-- ---- Zeros fit their types, and name nothing.

zero_held : (classes : List ClassRecord) (heap : List NamedObject) (dims : ℕ) (base : BaseRef)
    → HoldsDeclared classes heap (zero_of (array_type dims base)) (array_type dims base)
zero_held classes heap zero Base.Long = tt
zero_held classes heap zero (Base.Class c) = tt
zero_held classes heap zero base = tt
zero_held classes heap (suc dims) base = tt

zero_known : (caps : List CapRange) (heap : List NamedObject) (dims : ℕ) (base : BaseRef)
    → IsKnownValue caps heap (zero_of (array_type dims base))
zero_known caps heap zero Base.Long = tt
zero_known caps heap zero (Base.Class c) = tt
zero_known caps heap zero base = tt
zero_known caps heap (suc dims) base = tt

pub zero_fits : (around : Surroundings) (heap : List NamedObject) (t : TypeRef) → IsOfType around heap t (zero_of t)
zero_fits around heap t = (zero_held around.classes heap t.dims t.base, zero_known around.caps heap t.dims t.base)

-- ---- Objects.

each_replica : {X : Type 0} (P : X → Type 0) (n : ℕ) (x : X) → P x → AllByRecursion P (replicate n x)
each_replica P zero x h = tt
each_replica P (suc n) x h = (h, each_replica P n x h)

field_zero : (rs : List FieldRecord) (i : ℕ) (v : Value) (field : FieldRecord)
    → slice_get (map (λ (f : FieldRecord). zero_of f.kind) rs) i ≡ Some v → slice_get rs i ≡ Some field → zero_of field.kind ≡ v
field_zero rs i v field at of =
    same_Some (zero_of field.kind) v (sym (mapped_at (λ (f : FieldRecord). zero_of f.kind) rs i field of) ∙ at)

zeros_fit : (around : Surroundings) (heap : List NamedObject) (c : ClassId) → HasFields around heap c (zero_fields around.classes c)
zeros_fit around heap c = record {
  as_many = length-map (field_records around.classes c) (λ (f : FieldRecord). zero_of f.kind);
  each = λ i v field at of.
      subst (λ (w : Value). HoldsDeclared around.classes heap w field.kind × IsKnownValue around.caps heap w)
      (field_zero (field_records around.classes c) i v field at of) (zero_fits around heap field.kind);
}

pub new_sealed : (around : Surroundings) (heap : List NamedObject) (shape : Shape) → IsNamedShape around.table shape
    → IsSealedObject around heap (zero_object around.classes shape)
new_sealed around heap (Of.Plain c) (named, no_text, no_task, no_capability, no_remote) =
    (named, no_text, no_task, no_capability, no_remote, zeros_fit around heap c)
new_sealed around heap (Of.Array element n) (base, few) = (
  base,
  few,
  each_replica (λ (v : Value). HoldsDeclared around.classes heap v element × IsKnownValue around.caps heap v) n (zero_of element)
      (zero_fits around heap element),
)
new_sealed around heap (Of.Text n) named = named
new_sealed around heap (Of.Task segment) named = named
