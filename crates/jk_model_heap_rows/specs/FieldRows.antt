-- Static fields and fields of objects (the Java Virtual Machine Specification, 6, getstatic, putstatic, getfield, putfield).
use Rattle.std.specs.Prelude.{◌≡◌, ℕ, ◌==◌, ◌⊎◌, ◌&&◌, Bool, List, [], ◌∷◌, Option, Some, None, position, slice_get, slice_set}
use Rattle.jk_model.specs.declared.identifiers.ClassId.{ClassId}
use Rattle.jk_model.specs.declared.identifiers.MemberId.{MemberId}
use Rattle.jk_model.specs.declared.instructions.Instr.{Instr}
use Rattle.jk_model.specs.declared.opcodes.TheConstants.{GETFIELD, GETSTATIC, PUTFIELD, PUTSTATIC}
use Rattle.jk_model.specs.declared.values.Value.{Value}
use Rattle.jk_model.specs.declared.values.Value.TheVariants as Held
use Rattle.jk_model_classes.specs.declared.records.ClassRecord.{ClassRecord}
use Rattle.jk_model_classes.specs.declared.records.FieldRecord.{FieldRecord}
use Rattle.jk_model_classes.specs.Classes.{record_of}
use Rattle.jk_model_classes.specs.Layouts.{InstanceField, instance_fields}
use Rattle.jk_model_typing.specs.Scopes.{CodeScope}
use Rattle.jk_model_domains.specs.NumberRows.{IsOnTop}
use Rattle.jk_model_domains.specs.Objects.{NamedObject, Plain, object_named}
use Rattle.jk_model_domains.specs.OwnStates.{HasStatic, OwnState, static_of, with_static}
use Rattle.jk_model_heaps.specs.Heaps.{with_object}
use Rattle.jk_model_heaps.specs.RunningCode.{NamesField}
use Rattle.jk_model_heaps.specs.StoredValues.{stored}
use Rattle.jk_model_heaps.specs.Workings.{GoesOnWith, Outcome, Setting, Working, with_heap, with_own}
use Rattle.jk_model_heap_rows.specs.NullReferences.{FailsAtNull}

-- ---- Static fields. The class of the field is ready: a step sees to that before.

-- the one static field of the system classes, System.out
abbrev pub IsSystemOut : List ClassRecord → MemberId → Type 0
IsSystemOut classes m = (r : ClassRecord) × (record_of classes m.class ≡ Some r) × (r.home ≡ None)

abbrev pub IsStaticValue : List ClassRecord → OwnState → MemberId → Value → Type 0
IsStaticValue classes own m v =
    (IsSystemOut classes m × (v ≡ Held.Obj own.out)) ⊎ ((IsSystemOut classes m → ⊥) × (static_of own m ≡ Some v))

pub record GetsStatic (x : Setting) (s : CodeScope) (i : Instr) (w new : Working) (outcome : Outcome) : Type 0 where
  pub op : i.op ≡ GETSTATIC
  pub member : MemberId
  pub field : FieldRecord
  pub names : NamesField s i member field
  pub value : Value
  pub value_is : IsStaticValue x.classes w.inside.own member value
  pub does : GoesOnWith w [] (value ∷ []) w.inside new outcome

pub record PutsStatic (x : Setting) (s : CodeScope) (i : Instr) (w new : Working) (outcome : Outcome) : Type 0 where
  pub op : i.op ≡ PUTSTATIC
  pub member : MemberId
  pub field : FieldRecord
  pub names : NamesField s i member field
  -- the domain has the field
  pub is_there : HasStatic w.inside.own member
  pub value : Value
  pub does : GoesOnWith w (value ∷ []) [] (with_own w.inside (with_static w.inside.own member (stored field.kind value))) new outcome

-- ---- Fields of objects. An object has the fields of its class and of those above it, and a field has one place among them.

abbrev pub is_field : MemberId → InstanceField → Bool
is_field m f = f.member.class.0 == m.class.0 && f.member.index == m.index

-- the place of a field among those of an object of the class
abbrev pub field_place : List ClassRecord → ClassId → MemberId → Option ℕ
field_place classes c m = position (is_field m) (instance_fields classes c)

-- The value is an object that has the field.
pub record HasField (classes : List ClassRecord) (heap : List NamedObject) (v : Value) (m : MemberId) : Type 0 where
  pub name : ℕ
  pub refers : v ≡ Held.Obj name
  pub class : ClassId
  pub fields : List Value
  pub object : object_named heap name ≡ Some (Plain class fields)
  pub place : ℕ
  pub is_place : field_place classes class m ≡ Some place
  pub value : Value
  pub is_value : slice_get fields place ≡ Some value

-- the heap with another value in that field of that object
abbrev pub with_field_value : {classes : List ClassRecord} {heap : List NamedObject} {v : Value} {m : MemberId}
    → HasField classes heap v m → Value → List NamedObject
with_field_value {heap = heap} f value = with_object f.name (Plain f.class (slice_set f.fields f.place value)) heap

pub record GetsField (x : Setting) (s : CodeScope) (i : Instr) (w new : Working) (outcome : Outcome) : Type 0 where
  pub op : i.op ≡ GETFIELD
  pub member : MemberId
  pub field : FieldRecord
  pub names : NamesField s i member field
  pub receiver : Value
  pub on_top : IsOnTop w.frame (receiver ∷ [])
  pub does :
      FailsAtNull receiver w new outcome
      ⊎ ((f : HasField x.classes w.inside.heap receiver member) × GoesOnWith w (receiver ∷ []) (f.value ∷ []) w.inside new outcome)

pub record PutsField (x : Setting) (s : CodeScope) (i : Instr) (w new : Working) (outcome : Outcome) : Type 0 where
  pub op : i.op ≡ PUTFIELD
  pub member : MemberId
  pub field : FieldRecord
  pub names : NamesField s i member field
  pub receiver : Value
  pub value : Value
  pub on_top : IsOnTop w.frame (receiver ∷ value ∷ [])
  pub does :
      FailsAtNull receiver w new outcome
      ⊎ ((f : HasField x.classes w.inside.heap receiver member)
      × GoesOnWith w (receiver ∷ value ∷ []) [] (with_heap w.inside (with_field_value f (stored field.kind value))) new outcome)
