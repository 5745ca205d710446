-- The numbers by which members of a class are put in order: the fingerprint of the name, and the number of a field's
-- type or the fingerprint of a method's. They follow from the name and the type.
use Rattle.std.specs.Prelude.{ℕ, ◌+◌, ◌*◌, ◌^◌}
use Rattle.jk_model.specs.Descriptors.{method_text}
use Rattle.jk_model_classes.specs.Lookups.{FieldSought, MethodSought}
use Rattle.jk_model_classes.specs.declared.records.BaseRef.{BaseRef}
use Rattle.jk_model_classes.specs.declared.records.BaseRef.TheVariants.{Byte, Char, Int, Long, Short, Bool, Class}
use Rattle.jk_model_classes.specs.declared.records.FieldRecord.{FieldRecord}
use Rattle.jk_model_classes.specs.declared.records.MethodRecord.{MethodRecord}
use Rattle.jk_model_classes.specs.declared.records.TypeRef.{TypeRef}
use Rattle.member_index.specs.declared.marks.Marks.{Marks}
use Rattle.shared_values.specs.Fingerprints.{fingerprint_of}

-- the number of a type that is no array
abbrev pub base_number : BaseRef → ℕ
base_number Byte = 0
base_number Char = 1
base_number Int = 2
base_number Long = 3
base_number Short = 4
base_number Bool = 5
base_number (Class c) = 6 + c.0

-- the number of a type
abbrev pub type_number : TypeRef → ℕ
type_number t = t.dims * 2 ^ 33 + base_number t.base

-- what a field is looked for by, and the marks of its name and type
abbrev pub field_sought : FieldRecord → FieldSought
field_sought field = record { name = field.name; kind = field.kind }

abbrev pub field_marks : FieldSought → Marks
field_marks sought = record { name = fingerprint_of sought.name; kind = type_number sought.kind }

-- the same of a method
abbrev pub method_sought : MethodRecord → MethodSought
method_sought method = record { name = method.name; kind = method.kind }

abbrev pub method_marks : MethodSought → Marks
method_marks sought = record { name = fingerprint_of sought.name; kind = fingerprint_of (method_text sought.kind) }
