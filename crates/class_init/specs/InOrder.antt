-- In which order the parts of a domain's own state are listed: classes by the units of their names, literals by their units.
use Rattle.std.specs.Prelude.{◌≡◌, ℕ, List, [], Contains}
use Rattle.std.specs.Ordering.{nat_cmp}
use Rattle.std.specs.Option.{option_map_or}
use Rattle.std.specs.Cmp.Lexicographic.{slice_cmp}
use Rattle.std.specs.List.Sorted.{IsSortedByKey}
use Rattle.jk_model.specs.declared.identifiers.ClassId.{ClassId}
use Rattle.jk_model_classes.specs.declared.records.ClassRecord.{ClassRecord}
use Rattle.jk_model_classes.specs.Classes.{record_of}
use Rattle.jk_model_domains.specs.declared.states.LiteralImage.{LiteralImage}
use Rattle.jk_model_domains.specs.declared.states.OwnClass.{OwnClass}
use Rattle.class_init.specs.declared.in_order.NamedPart.{NamedPart}

-- the name of a class, without units where there is no such class
abbrev pub name_of : List ClassRecord → ClassId → List ℕ
name_of classes c = option_map_or (λ (r : ClassRecord). r.name) (record_of classes c) []

-- the classes stand in the order of the units of their names
abbrev pub AreByName : List ClassRecord → List OwnClass → Type 0
AreByName classes list = IsSortedByKey (λ (o : OwnClass). name_of classes o.class) (slice_cmp nat_cmp) list

-- the literals stand in the order of their units
abbrev pub AreByText : List LiteralImage → Type 0
AreByText list = IsSortedByKey (λ (l : LiteralImage). l.text) (slice_cmp nat_cmp) list

-- ---- How classes are sorted: each with its name.

abbrev pub part_of_named : NamedPart → OwnClass
part_of_named n = n.part

abbrev pub IsNamedPart : List ClassRecord → NamedPart → Type 0
IsNamedPart classes n = n.name ≡ name_of classes n.part.class

abbrev pub AreNamedParts : List ClassRecord → List NamedPart → Type 0
AreNamedParts classes named = (n : NamedPart) → Contains named n → IsNamedPart classes n
