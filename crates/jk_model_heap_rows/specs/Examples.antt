-- Worked examples: array types, three arrays made at once, and fields of a class and of one below it. `src/examples.rt` states what
-- the definitions say of them.
use Rattle.std.specs.Prelude.{ℕ, pos, List, [], ◌∷◌, codes, Option, Some, None}
use Rattle.jk_model.specs.declared.identifiers.ClassId.{ClassId}
use Rattle.jk_model.specs.declared.identifiers.MemberId.{MemberId}
use Rattle.jk_model.specs.declared.values.Value.TheVariants as Held
use Rattle.jk_model_classes.specs.declared.records.BaseRef.{BaseRef}
use Rattle.jk_model_classes.specs.declared.records.BaseRef.TheVariants as Base
use Rattle.jk_model_classes.specs.declared.records.ClassRecord.{ClassRecord}
use Rattle.jk_model_classes.specs.declared.records.FieldRecord.{FieldRecord}
use Rattle.jk_model_classes.specs.declared.records.Link.TheVariants as To
use Rattle.jk_model_classes.specs.declared.records.TypeRef.{TypeRef}
use Rattle.jk_model_classes.specs.Classes.{OBJECT}
use Rattle.jk_model_typing.specs.FrameTypes.{array_type}
use Rattle.jk_model_domains.specs.Objects.{Array, NamedObject}
use Rattle.jk_model_heaps.specs.Heaps.{named}

-- ---- Types.

-- values of a kind, arrays of them, and arrays of such arrays
abbrev pub of_kind : BaseRef → TypeRef
of_kind base = array_type 0 base

abbrev pub arrays_of : BaseRef → TypeRef
arrays_of base = array_type 1 base

abbrev pub arrays_of_arrays : BaseRef → TypeRef
arrays_of_arrays base = array_type 2 base

-- ---- What `new int[2][3]` makes, under the names 7, 8 and 9: an array of two arrays of three zeros each.

abbrev pub three_zeros : ℕ → NamedObject
three_zeros a = named a (Array (of_kind Base.Int) (Held.Int (pos 0) ∷ Held.Int (pos 0) ∷ Held.Int (pos 0) ∷ []))

abbrev pub three_arrays : List NamedObject
three_arrays = named 7 (Array (arrays_of Base.Int) (Held.Obj 8 ∷ Held.Obj 9 ∷ [])) ∷ three_zeros 8 ∷ three_zeros 9 ∷ []

-- ---- Fields: a class with an int and a long, and one below it with an int of its own.

abbrev pub field_with : List ℕ → BaseRef → FieldRecord
field_with name base = record { name = name; flags = 0; kind = of_kind base; constant = To.Nothing }

abbrev pub class_with : List ℕ → Option ClassId → List FieldRecord → ClassRecord
class_with name parent fields = record {
  name = name;
  home = None;
  flags = 0;
  parent = parent;
  interfaces = [];
  fields = fields;
  methods = [];
  links = [];
  references = [];
}

abbrev pub UPPER : ClassId
UPPER = record { 0 = 1 }

abbrev pub LOWER : ClassId
LOWER = record { 0 = 2 }

abbrev pub upper_and_lower : List ClassRecord
upper_and_lower =
    class_with (codes "java/lang/Object") None []
    ∷ class_with (codes "Upper") (Some OBJECT) (field_with (codes "a") Base.Int ∷ field_with (codes "b") Base.Long ∷ [])
    ∷ class_with (codes "Lower") (Some UPPER) (field_with (codes "a") Base.Int ∷ []) ∷ []

abbrev pub member_at : ClassId → ℕ → MemberId
member_at class index = record { class = class; index = index }
