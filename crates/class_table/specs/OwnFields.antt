-- The instance fields that a class declares, from its fields in the order of the class file.
use Rattle.std.specs.Prelude.{◌≡◌, ℕ, List, ◌++◌, map, filter}
use Rattle.std.specs.List.{enumerate_from}
use Rattle.jk_model.specs.declared.identifiers.ClassId.{ClassId}
use Rattle.jk_model_classes.specs.declared.records.FieldRecord.{FieldRecord}
use Rattle.jk_model_classes.specs.Layouts.{InstanceField, is_instance_field, type_words}

abbrev pub instance_field : ClassId → ℕ × FieldRecord → InstanceField
instance_field c p = record { member = record { class = c; index = p.0 }; words = type_words p.1.kind }

-- those among fields of which the first has this place in the class file
abbrev pub own_from : ClassId → ℕ → List FieldRecord → List InstanceField
own_from c place fields = map (instance_field c) (filter is_instance_field (enumerate_from place fields))

abbrev pub own_of : ClassId → List FieldRecord → List InstanceField
own_of c fields = own_from c 0 fields

-- the second list begins with the first
abbrev pub Begins : List InstanceField → List InstanceField → Type 0
Begins front whole = (rest : List InstanceField) × (whole ≡ front ++ rest)
