-- Names have no numbers: what classes and references need is in range.
use Rattle.std.proofs.Common.{List, [], ◌∷◌, ℕ}
use Rattle.std.specs.Prelude.{flat_map}
use Rattle.asm_reader.specs.declared.items.MemberKind.{MemberKind}
use Rattle.jkasm.specs.ConstantRanges.{AreInRange}
use Rattle.jkasm.specs.Constants.{for_class, for_reference}

pub reference_in_range : (kind : MemberKind) (class name descriptor : List ℕ) → AreInRange (for_reference kind class name descriptor)
reference_in_range kind class name descriptor = (tt, (tt, (tt, (tt, (tt, (tt, tt))))))

pub classes_in_range : (classes : List (List ℕ)) → AreInRange (flat_map for_class classes)
classes_in_range [] = tt
classes_in_range (class ∷ classes) = (tt, (tt, classes_in_range classes))
