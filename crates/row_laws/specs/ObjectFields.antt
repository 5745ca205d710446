-- Objects have the fields of their class and of those above it.
use Rattle.std.specs.Prelude.{◌≡◌, IsFalse, ℕ, List, Some}
use Rattle.jk_model.specs.Flags.{has, STATIC}
use Rattle.jk_model.specs.declared.identifiers.ClassId.{ClassId}
use Rattle.jk_model.specs.declared.identifiers.MemberId.{MemberId}
use Rattle.jk_model.specs.declared.values.Value.{Value}
use Rattle.jk_model.specs.declared.values.Value.TheVariants as Held
use Rattle.jk_model_classes.specs.declared.records.FieldRecord.{FieldRecord}
use Rattle.jk_model_classes.specs.Classes.{IsSubclass}
use Rattle.jk_model_classes.specs.Lookups.{FieldIs}
use Rattle.jk_model_domains.specs.Objects.{NamedObject, Plain, object_named}
use Rattle.jk_model_heap_rows.specs.FieldRows.{HasField}
use Rattle.jk_model_sealing.specs.SealedInsides.{HasFields, Surroundings}

abbrev pub ObjectsHaveTheirFields : Type 0
ObjectsHaveTheirFields =
    (around : Surroundings) (heap : List NamedObject) (a : ℕ) (c : ClassId) (values : List Value) (m : MemberId) (field : FieldRecord)
    → object_named heap a ≡ Some (Plain c values) → HasFields around heap c values → FieldIs around.classes m field
    → IsFalse (has field.flags STATIC) → IsSubclass around.classes c m.class → HasField around.classes heap (Held.Obj a) m
