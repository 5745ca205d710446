-- The objects of a heap, and what each costs in words of 32 bits. A heap gives names to objects; a name means nothing in
-- any other heap.
use Rattle.std.specs.Prelude.{ℕ, ◌+◌, ◌*◌, ◌==◌, List, length, find, Option, option_map}
use Rattle.jk_model.specs.declared.identifiers.ClassId.{ClassId}
use Rattle.jk_model.specs.declared.identifiers.SegmentNo.{SegmentNo}
use Rattle.jk_model.specs.declared.values.Value.{Value}
use Rattle.jk_model_classes.specs.declared.records.BaseRef.TheVariants as Base
use Rattle.jk_model_classes.specs.declared.records.ClassRecord.{ClassRecord}
use Rattle.jk_model_classes.specs.declared.records.TypeRef.{TypeRef}
use Rattle.jk_model_classes.specs.Layouts.{HEADER_WORDS, cost_of, type_words}
use Rattle.jk_model_typing.specs.FrameTypes.{array_type, STRING}

pub data Object : Type 0 where
  -- of this class, with the values of its instance fields, those of the parents first
  Plain : ClassId → List Value → Object
  -- of elements of this type
  Array : TypeRef → List Value → Object
  -- a text, in UTF-16
  Text : List ℕ → Object
  -- a handle of a segment
  Task : SegmentNo → Object

pub record NamedObject : Type 0 where
  pub name : ℕ
  pub object : Object

-- the object of a name; no name is there twice
abbrev pub object_named : List NamedObject → ℕ → Option Object
object_named heap a = option_map (λ (e : NamedObject). e.object) (find (λ (e : NamedObject). e.name == a) heap)

-- system classes, by their places in the system table
abbrev pub PRINT_STREAM : ClassId
PRINT_STREAM = record { 0 = 6 }

abbrev pub CAPABILITY : ClassId
CAPABILITY = record { 0 = 11 }

abbrev pub TASK : ClassId
TASK = record { 0 = 14 }

abbrev pub class_type : ClassId → TypeRef
class_type c = array_type 0 (Base.Class c)

-- what an object is of: its class, or an array type, which has one dimension more than its elements
abbrev pub type_of : Object → TypeRef
type_of (Plain class fields) = class_type class
type_of (Array element items) = array_type (element.dims + 1) element.base
type_of (Text units) = class_type STRING
type_of (Task segment) = class_type TASK

-- ---- Costs: four words, and the payload.

abbrev pub object_words : List ClassRecord → Object → ℕ
object_words classes (Plain class fields) = cost_of classes class
object_words classes (Array element items) = HEADER_WORDS + type_words element * length items
object_words classes (Text units) = HEADER_WORDS + length units
object_words classes (Task segment) = HEADER_WORDS + 2
