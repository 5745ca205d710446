-- The first of the three fits, and the second doesn't.
use Rattle.std.proofs.Common.{[], ◌∷◌, pos, refl, arith}
use Rattle.jk_model.specs.declared.values.Value.TheVariants as Held
use Rattle.jk_model_classes.specs.Classes.{OBJECT}
use Rattle.jk_model_typing.specs.FrameTypes.{STRING}
use Rattle.jk_model_domains.specs.Objects.{class_type}
use Rattle.jk_model_system_rows.specs.ArrayCopies.{ArrayCopy, ArrayPair, copies}
use Rattle.jk_model_system_rows.specs.Examples.{objects_and_texts}
use Rattle.jk_model_system_rows.proofs.FrontOfTexts.{front_of_texts}
use Rattle.jk_model_system_rows.proofs.examples.front_that_fits_is_copied.Goals as goal

abbrev copy : ArrayCopy
copy = record { source = Held.Obj 1; from = pos 0; target = Held.Obj 2; to = pos 0; count = pos 3 }

abbrev arrays : ArrayPair (objects_and_texts (Held.Null ∷ Held.Null ∷ Held.Null ∷ [])).heap copy
arrays = record {
  source = record {
    name = 1;
    refers = refl;
    element = class_type OBJECT;
    items = Held.Obj 3 ∷ Held.Obj 4 ∷ Held.Obj 5 ∷ [];
    object = refl;
  };
  target = record {
    name = 2;
    refers = refl;
    element = class_type STRING;
    items = Held.Null ∷ Held.Null ∷ Held.Null ∷ [];
    object = refl;
  };
  one_kind = refl;
}

pub returns : goal.returns
returns c = (
  copy,
  refl,
  copies
      arrays
      (record { from = 0; is_from = refl; to = 0; is_to = refl; count = 3; is_count = refl; in_source = omega arith; in_target = omega arith })
      1
      front_of_texts
      refl,
)
