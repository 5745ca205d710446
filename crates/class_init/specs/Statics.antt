-- The static fields of a class as they are kept, and as they begin.
use Rattle.std.specs.Prelude.{◌≡◌, ◌≢◌, ℕ, ◌<◌, List, [], ◌∷◌, map, filter, Some, slice_get}
use Rattle.std.specs.List.{enumerate_from}
use Rattle.jk_model.specs.declared.values.Value.{Value}
use Rattle.jk_model_classes.specs.declared.records.FieldRecord.{FieldRecord}
use Rattle.jk_model_domains.specs.OwnStates.{StaticField, first_value, is_static_field}
use Rattle.class_init.specs.declared.statics.FieldSlot.{FieldSlot}

-- a static field as contracts see it
abbrev pub static_field : FieldSlot → StaticField
static_field s = record { index = s.index; value = s.value }

-- the places of the fields rise
abbrev pub IsRising : List FieldSlot → Type 0
IsRising slots = (i j : ℕ) (a b : FieldSlot) → slice_get slots i ≡ Some a → slice_get slots j ≡ Some b → i < j → a.index < b.index

-- a field with this place stands here
pub record IsIndexAt (slots : List FieldSlot) (index place : ℕ) : Type 0 where
  pub slot : FieldSlot
  pub there : slice_get slots place ≡ Some slot
  pub is : slot.index ≡ index

-- no field has this place
abbrev pub LacksIndex : List FieldSlot → ℕ → Type 0
LacksIndex slots index = (k : ℕ) (s : FieldSlot) → slice_get slots k ≡ Some s → s.index ≢ index

-- the fields, with these values for the first of them
abbrev pub with_values : List StaticField → List Value → List StaticField
with_values [] values = []
with_values (f ∷ statics) [] = f ∷ statics
with_values (f ∷ statics) (v ∷ values) = record f { value = v } ∷ with_values statics values

-- the static fields among these, of which the first has this place among all fields of its class, as they begin
abbrev pub first_static : ℕ × FieldRecord → StaticField
first_static p = record { index = p.0; value = first_value p.1.kind p.1.constant }

abbrev pub statics_from : ℕ → List FieldRecord → List StaticField
statics_from place fields = map first_static (filter is_static_field (enumerate_from place fields))
