-- The classes so far have the numbers so far.
use Rattle.std.proofs.Common.{◌≡◌, take}
use Rattle.std.specs.Prelude.{map}
use Rattle.jk_model.specs.declared.identifiers.ClassId.{ClassId}
use Rattle.class_linker.proofs.references.classes_of.Given as goal

abbrev pub invariant-loop-number : goal.invariant-loop-number
invariant-loop-number l = map (λ (class : ClassId). class.0) l.classes ≡ take l.number-index l.numbers
