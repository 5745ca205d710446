-- Sealed objects are laid out as their classes say, names in a store are small, and what is written leaves an object alike.
use Rattle.std.proofs.Common.{◌≡◌, ℕ, suc, List, [], ◌∷◌, length, Some, slice_get, refl, sym, ap, subst, ◌∙◌, arith}
use Rattle.std.proofs.lemmas.List.{length-set}
use Rattle.std.proofs.lemmas.Option.{slice_get_within}
use Rattle.jk_model.specs.declared.identifiers.DomainId.{DomainId}
use Rattle.jk_model.specs.declared.values.Value.{Value}
use Rattle.jk_model.specs.declared.values.Value.TheVariants as Held
use Rattle.jk_model_classes.specs.declared.records.BaseRef.{BaseRef}
use Rattle.jk_model_classes.specs.declared.records.BaseRef.TheVariants as Base
use Rattle.jk_model_classes.specs.declared.records.ClassRecord.{ClassRecord}
use Rattle.jk_model_classes.specs.declared.records.FieldRecord.{FieldRecord}
use Rattle.jk_model_domains.specs.Objects.{NamedObject, Object, Array, Plain, Task, Text}
use Rattle.jk_model_domains.specs.ValueTypes.{HoldsDeclared}
use Rattle.jk_model_heaps.specs.declared.shapes.Shape.{Shape}
use Rattle.jk_model_heaps.specs.declared.shapes.Shape.TheVariants as Of
use Rattle.jk_model_heaps.specs.Capabilities.{CapRange}
use Rattle.jk_model_heaps.specs.Heaps.{IsAlike, field_records}
use Rattle.jk_model_sealing.specs.SealedInsides.{IsKnownValue, IsNamedBase, IsSealedObject, Surroundings}
use Rattle.heap_laws.specs.SealedChanges.{IsNamedShape}
use Rattle.object_store.specs.HeapContents.{AreOfFields, HasBase, HasShapeClasses, HeapContent, IsHeapContent, IsLaidOut, IsSmall, IsWritten}
use Rattle.heap_laws.specs.SoundTables.{IsSoundTable}
use Rattle.heap_laws.specs.LaidOutObjects.{AreSmallNumbers}
use Rattle.heap_laws.proofs.KindsOfTypes.{kind_of_zero}

-- ---- Fields.

abbrev EachHolds : List ClassRecord → List NamedObject → List FieldRecord → List Value → Type 0
EachHolds classes heap fs vs =
    (i : ℕ) (v : Value) (f : FieldRecord) → slice_get vs i ≡ Some v → slice_get fs i ≡ Some f → HoldsDeclared classes heap v f.kind

of_fields : (classes : List ClassRecord) (heap : List NamedObject) (fs : List FieldRecord) (vs : List Value) → length vs ≡ length fs
    → EachHolds classes heap fs vs → AreOfFields fs vs
of_fields classes heap [] [] many each = tt
of_fields classes heap [] (v ∷ vs) many each = absurd (omega (arith, many))
of_fields classes heap (f ∷ fs) [] many each = absurd (omega (arith, many))
of_fields classes heap (f ∷ fs) (v ∷ vs) many each = (
  kind_of_zero classes heap f.kind v (each 0 v f refl refl),
  of_fields classes heap fs vs (omega (arith, many)) (λ i w g at of. each (suc i) w g at of),
)

pub sealed_laid_out : (around : Surroundings) (heap : List NamedObject) (o : Object) → IsSealedObject around heap o → IsLaidOut around.classes o
sealed_laid_out around heap (Plain c values) (named, no_text, no_task, no_capability, no_remote, fields) =
    of_fields around.classes heap (field_records around.classes c) values fields.as_many (λ i v f at of. (fields.each i v f at of).0)
sealed_laid_out around heap (Array element items) h = tt
sealed_laid_out around heap (Text units) h = tt
sealed_laid_out around heap (Task s) h = tt

-- ---- Values.

pub known_small : (c : HeapContent) (d : DomainId) (caps : List CapRange) (v : Value) → IsHeapContent c → AreSmallNumbers caps
    → IsKnownValue caps (c.heap d) v → IsSmall v
known_small c d caps (Held.Obj a) content few (o, is) = content.small d a o is
known_small c d caps (Held.Cap k) content few given = few k given
known_small c d caps v content few h = tt

pub written_alike : (o new : Object) (i : ℕ) (v : Value) → ((units : List ℕ) → o ≡ Text units → ⊥) → IsWritten o i v new → IsAlike o new
written_alike (Plain c fields) new i v no_text (values, put, is) =
    subst (IsAlike (Plain c fields)) (sym is) (refl, sym (ap length put.becomes ∙ length-set fields i v))
written_alike (Array t items) new i v no_text (values, put, is) =
    subst (IsAlike (Array t items)) (sym is) (refl, sym (ap length put.becomes ∙ length-set items i v))
written_alike (Text units) new i v no_text h = absurd (no_text units refl)
written_alike (Task s) new i v no_text h = absurd h

-- ---- Shapes.

named_class : (around : Surroundings) → IsSoundTable around.classes around.table → (base : BaseRef) → IsNamedBase around.table base
    → HasBase around.classes base
named_class around table (Base.Class c) named =
    let there = table.closed c named in slice_get_within around.classes c.0 there.0 there.1
named_class around table base named = tt

pub shape_has_classes : (around : Surroundings) (shape : Shape) → IsSoundTable around.classes around.table → IsNamedShape around.table shape
    → HasShapeClasses around.classes shape
shape_has_classes around (Of.Plain c) table h = named_class around table (Base.Class c) h.0
shape_has_classes around (Of.Array element n) table h = named_class around table element.base h.0
shape_has_classes around (Of.Text n) table h = tt
shape_has_classes around (Of.Task s) table h = tt
