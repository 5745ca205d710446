-- The parts of classes as they are kept, and changes of them.
use Rattle.std.specs.Prelude.{◌≡◌, ℕ, ◌==◌, List, [], ◌∷◌, length, map, find, Contains, Option, Some, nat_eq, slice_get}
use Rattle.std.specs.List.{IsDistinct}
use Rattle.jk_model.specs.declared.identifiers.ClassId.{ClassId}
use Rattle.jk_model_classes.specs.declared.records.ClassRecord.{ClassRecord}
use Rattle.jk_model_domains.specs.declared.states.OwnClass.{OwnClass}
use Rattle.jk_model_domains.specs.declared.states.ClassState.TheVariants as State
use Rattle.jk_model_domains.specs.OwnStates.{ClassPart, first_statics, with_part}
use Rattle.class_init.specs.declared.class_parts.Part.{Part}
use Rattle.class_init.specs.Statics.{with_values}

-- a part as contracts see it
abbrev pub class_part : Part → ClassPart
class_part p = record { class = p.class; state = p.state; statics = p.statics }

abbrev pub class_number : Part → ℕ
class_number p = p.class.0

-- the numbers of the parts' classes, which differ
pub record AreNumbered (parts : List Part) (numbers : List ℕ) : Type 0 where
  pub are : numbers ≡ map class_number parts
  pub apart : IsDistinct nat_eq numbers

-- the part of a class among these
abbrev pub part_in : List ClassPart → ClassId → Option ClassPart
part_in parts c = find (λ (e : ClassPart). e.class.0 == c.0) parts

abbrev pub HasPartOf : List ClassPart → ClassId → Type 0
HasPartOf parts c = (e : ClassPart) × (part_in parts c ≡ Some e)

-- the part of a class stands at this place
pub record IsPartAt (parts : List ClassPart) (c : ClassId) (place : ℕ) : Type 0 where
  pub part : ClassPart
  pub there : slice_get parts place ≡ Some part
  pub is : part.class ≡ c
  pub found : part_in parts c ≡ Some part

-- the part with which a class begins
abbrev pub first_part : ClassId → ClassRecord → ClassPart
first_part c r = record { class = c; state = State.Untouched; statics = first_statics r }

-- ---- Parts from a list.

-- the part with the state and the values that a list has
abbrev pub restored : OwnClass → ClassPart → ClassPart
restored o e = record { class = e.class; state = o.state; statics = with_values e.statics o.statics }

abbrev pub restored_all : List OwnClass → List ClassPart → List ClassPart
restored_all [] parts = parts
restored_all (o ∷ list) parts = restored_all list (with_part o.class (restored o) parts)

-- each part of the list has as many values as that of its class
abbrev pub FitsAll : List OwnClass → List ClassPart → Type 0
FitsAll list parts = (o : OwnClass) → Contains list o → (e : ClassPart) → part_in parts o.class ≡ Some e → length o.statics ≡ length e.statics
