-- Changes of a domain's inside that leave it sealed.
use Rattle.std.specs.Prelude.{◌≡◌, ◌≢◌, ◌≤◌, ℕ, List, [], ◌∷◌, ◌++◌, Contains, Some, None}
use Rattle.jk_model.specs.declared.identifiers.ClassId.{ClassId}
use Rattle.jk_model.specs.declared.identifiers.MemberId.{MemberId}
use Rattle.jk_model.specs.declared.values.Value.{Value}
use Rattle.jk_model_classes.specs.declared.records.FieldRecord.{FieldRecord}
use Rattle.jk_model_classes.specs.Lookups.{FieldIs}
use Rattle.jk_model_classes.specs.Worlds.{IsNamed, NamedClass}
use Rattle.jk_model_typing.specs.FrameTypes.{STRING}
use Rattle.jk_model_domains.specs.declared.states.ClassState.{ClassState}
use Rattle.jk_model_domains.specs.Objects.{NamedObject, Object, Text, CAPABILITY, TASK, object_named}
use Rattle.jk_model_domains.specs.OwnStates.{Literal, literal_named, with_state, with_static}
use Rattle.jk_model_heaps.specs.declared.shapes.Shape.{Shape}
use Rattle.jk_model_heaps.specs.declared.shapes.Shape.TheVariants as Of
use Rattle.jk_model_heaps.specs.Heaps.{IsAlike, Makes, with_object, zero_object}
use Rattle.jk_model_heaps.specs.SystemClasses.{REMOTE}
use Rattle.jk_model_heaps.specs.Workings.{Inside, with_heap, with_own}
use Rattle.jk_model_sealing.specs.SealedInsides.{IsNamedBase, IsSealedInside, IsSealedObject, Surroundings}
use Rattle.heap_laws.specs.FittingOutcomes.{IsOfType}

-- ---- The heap.

abbrev pub MadeInsidesStaySealed : Type 0
MadeInsidesStaySealed =
    (around : Surroundings) (quota : ℕ) (inside : Inside) (made heap : List NamedObject) → IsSealedInside around quota inside
    → Makes around.classes quota inside.heap made heap → ((e : NamedObject) → Contains made e → IsSealedObject around heap e.object)
    → IsSealedInside around quota (with_heap inside heap)

abbrev pub WrittenInsidesStaySealed : Type 0
WrittenInsidesStaySealed =
    (around : Surroundings) (quota : ℕ) (inside : Inside) (a : ℕ) (old new : Object) → IsSealedInside around quota inside
    → object_named inside.heap a ≡ Some old → IsAlike old new → IsSealedObject around (with_object a new inside.heap) new
    → IsSealedInside around quota (with_heap inside (with_object a new inside.heap))

-- ---- The own state.

abbrev pub StaticsStaySealed : Type 0
StaticsStaySealed =
    (around : Surroundings) (quota : ℕ) (inside : Inside) (m : MemberId) (field : FieldRecord) (v : Value) → IsSealedInside around quota inside
    → FieldIs around.classes m field → IsOfType around inside.heap field.kind v
    → IsSealedInside around quota (with_own inside (with_static inside.own m v))

abbrev pub LiteralsStaySealed : Type 0
LiteralsStaySealed =
    (around : Surroundings) (quota : ℕ) (inside : Inside) (l : Literal) → IsSealedInside around quota inside
    → literal_named inside.own l.text ≡ None → object_named inside.heap l.name ≡ Some (Text l.text)
    → IsSealedInside around quota (with_own inside (record inside.own { literals = inside.own.literals ++ l ∷ [] }))

abbrev pub StatesStaySealed : Type 0
StatesStaySealed =
    (around : Surroundings) (quota : ℕ) (inside : Inside) (c : ClassId) (state : ClassState) → IsSealedInside around quota inside
    → IsSealedInside around quota (with_own inside (with_state inside.own c state))

-- ---- New objects.

-- an object of this shape may be made in a domain with these names
abbrev pub IsNamedShape : List NamedClass → Shape → Type 0
IsNamedShape table (Of.Plain c) = IsNamed table c × (c ≢ STRING) × (c ≢ TASK) × (c ≢ CAPABILITY) × (c ≢ REMOTE)
IsNamedShape table (Of.Array element n) = IsNamedBase table element.base × (element.dims ≤ 254)
IsNamedShape table (Of.Text n) = IsNamed table STRING
IsNamedShape table (Of.Task segment) = IsNamed table TASK

abbrev pub NewObjectsAreSealed : Type 0
NewObjectsAreSealed =
    (around : Surroundings) (heap : List NamedObject) (shape : Shape) → IsNamedShape around.table shape
    → IsSealedObject around heap (zero_object around.classes shape)
