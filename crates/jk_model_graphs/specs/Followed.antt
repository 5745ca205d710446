-- What a copy follows: the items of an array, and the fields of an object that aren't transient (the Java Virtual Machine Specification,
-- 4.5, ACC_TRANSIENT). A transient field is left empty in the copy, and what it names isn't followed.
use Rattle.std.specs.Prelude.{Bool, List, [], ◌∷◌, if◌then◌else◌}
use Rattle.jk_model.specs.Flags.{TRANSIENT, has}
use Rattle.jk_model.specs.declared.values.Value.{Value}
use Rattle.jk_model_classes.specs.declared.records.ClassRecord.{ClassRecord}
use Rattle.jk_model_classes.specs.declared.records.FieldRecord.{FieldRecord}
use Rattle.jk_model_domains.specs.Objects.{Object, Array, Plain, Task, Text}
use Rattle.jk_model_heaps.specs.Heaps.{field_records}

-- the field is transient
abbrev pub is_left_empty : FieldRecord → Bool
is_left_empty f = has f.flags TRANSIENT

-- of the values of these fields, those of fields that aren't left empty
abbrev pub kept_values : List FieldRecord → List Value → List Value
kept_values (f ∷ fields) (v ∷ values) = if is_left_empty f then kept_values fields values else v ∷ kept_values fields values
kept_values _ _ = []

-- the values of an object that a copy follows
abbrev pub followed : List ClassRecord → Object → List Value
followed classes (Plain class values) = kept_values (field_records classes class) values
followed classes (Array element items) = items
followed classes (Text units) = []
followed classes (Task segment) = []
