-- The array is source and target, and all ints are copied.
use Rattle.std.proofs.Common.{[], ◌∷◌, pos, refl, arith}
use Rattle.jk_model.specs.declared.values.Value.TheVariants as Held
use Rattle.jk_model_classes.specs.declared.records.BaseRef.TheVariants as Base
use Rattle.jk_model_typing.specs.FrameTypes.{array_type}
use Rattle.jk_model_heaps.specs.References.{IsHeapArray}
use Rattle.jk_model_system_rows.specs.ArrayCopies.{ArrayCopy, copies}
use Rattle.jk_model_system_rows.specs.Examples.{ints, with_ints}
use Rattle.jk_model_system_rows.proofs.examples.array_is_copied_into_itself.Goals as goal

abbrev array : IsHeapArray (with_ints (1 ∷ 2 ∷ 3 ∷ 4 ∷ [])).heap (Held.Obj 1)
array = record { name = 1; refers = refl; element = array_type 0 Base.Int; items = ints (1 ∷ 2 ∷ 3 ∷ 4 ∷ []); object = refl }

abbrev copy : ArrayCopy
copy = record { source = Held.Obj 1; from = pos 0; target = Held.Obj 1; to = pos 1; count = pos 3 }

pub returns-clause-row : goal.returns-clause-row
returns-clause-row c = (
  copy,
  refl,
  copies
      (record { source = array; target = array; one_kind = refl })
      (record { from = 0; is_from = refl; to = 1; is_to = refl; count = 3; is_count = refl; in_source = omega arith; in_target = omega arith })
      3
      refl
      refl,
)
