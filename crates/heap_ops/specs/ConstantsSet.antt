-- The constant texts of a class's static fields are set, as the need of its initialiser frame falls.
use Rattle.std.specs.Prelude.{◌≡◌, Some}
use Rattle.jk_model.specs.declared.identifiers.ClassId.{ClassId}
use Rattle.jk_model_classes.specs.declared.records.ClassRecord.{ClassRecord}
use Rattle.jk_model_classes.specs.Classes.{record_of}
use Rattle.jk_model_domains.specs.OwnStates.{HasState}
use Rattle.jk_model_heaps.specs.Workings.{Inside, Setting}
use Rattle.jk_model_heap_rows.specs.Constants.{LacksConstants, SetsConstants}
use Rattle.step_contents.specs.Conditions.{MayChange}
use Rattle.step_contents.specs.Contents.{Contents, Here, InsideBecomes, inside_in}
use Rattle.step_contents.specs.Settings.{IsSetting}

-- The domain has static fields of the class.
pub record MaySetConstants (c : Contents) (here : Here) (class : ClassId) : Type 0 where
  pub may : MayChange c here
  pub of_class : ClassRecord
  pub is_class : record_of here.world.classes class ≡ Some of_class
  pub is_there : HasState c.own.state class

-- All constant texts of the class are set: those that had no object yet are made together.
abbrev pub ConstantsSet : Contents → Contents → Here → ClassId → Type 0
ConstantsSet old new here class =
    (x : Setting) (may : MaySetConstants old here class) → IsSetting old here x
    → (inside : Inside) × SetsConstants x class may.of_class (inside_in old here) inside × InsideBecomes old new here inside

-- Those that have no object yet don't fit together.
abbrev pub ConstantsLack : Contents → Here → ClassId → Type 0
ConstantsLack c here class =
    (x : Setting) (may : MaySetConstants c here class) → IsSetting c here x → LacksConstants x may.of_class (inside_in c here)
