-- What the table keeps of each class beside its record, and that it is right for the list of all records.
use Rattle.std.specs.Prelude.{◌≡◌, ℕ, ◌+◌, ◌*◌, ◌^◌, ◌<◌, ◌≤◌, List, length, take, map, flat_map, Some, Contains, slice_get}
use Rattle.jk_model.specs.declared.identifiers.ClassId.{ClassId}
use Rattle.jk_model_classes.specs.declared.records.ClassRecord.{ClassRecord}
use Rattle.jk_model_classes.specs.declared.records.FieldRecord.{FieldRecord}
use Rattle.jk_model_classes.specs.Classes.{AreOrdered, parents_of, superclasses, with_interfaces, field_walk, firsts}
use Rattle.jk_model_classes.specs.Layouts.{InstanceField, instance_fields, up_to_32_bits, words_of}
use Rattle.member_index.specs.Index.{IsFieldIndex, IsMethodIndex}
use Rattle.class_table.specs.declared.entry.Entry.{Entry}
use Rattle.class_table.specs.declared.entry.OwnField.{OwnField}
use Rattle.class_table.specs.declared.entry.OwnPlaces.{OwnPlaces}
use Rattle.class_table.specs.declared.entry.Standing.{Standing}
use Rattle.class_table.specs.declared.entry.Walk.{Walk}
use Rattle.class_table.specs.OwnFields.{own_of}

-- the classes of a walk, each once, and how many of them stand in front as an interface and those above it
pub record IsWalk (classes : List ClassRecord) (c : ClassId) (walk : Walk) : Type 0 where
  pub whole : walk.classes ≡ firsts (field_walk classes c)
  pub own_within : walk.own ≤ length walk.classes
  pub own : take walk.own walk.classes ≡ firsts (with_interfaces classes c)

-- the instance field at this place among those of its class
pub record IsOwnField (c : ClassId) (fields : List InstanceField) (place : ℕ) (own : OwnField) : Type 0 where
  pub field : InstanceField
  pub at : slice_get fields place ≡ Some field
  pub member : field.member ≡ record { class = c; index = own.place }
  pub words : words_of (take place fields) ≡ place + own.longs
  pub few : own.longs ≤ 65535

-- where the instance fields of a class stand
pub record AreOwnPlaces (c : ClassId) (fields : List FieldRecord) (own : OwnPlaces) : Type 0 where
  pub as_many : length own.fields ≡ length (own_of c fields)
  pub each : (i : ℕ) (f : OwnField) → slice_get own.fields i ≡ Some f → IsOwnField c (own_of c fields) i f
  pub words : words_of (own_of c fields) ≡ length own.fields + own.longs
  pub rank_count : length own.ranks ≡ length fields
  pub ranks : (i n : ℕ) → slice_get own.ranks i ≡ Some n → n ≡ length (own_of c (take i fields))

abbrev pub fields_above : List ClassRecord → ClassId → List InstanceField
fields_above classes c = flat_map (instance_fields classes) (parents_of classes c)

-- what follows from the classes above
pub record IsStanding (classes : List ClassRecord) (c : ClassId) (standing : Standing) : Type 0 where
  pub before : standing.before ≡ length (fields_above classes c)
  pub few : standing.before ≤ 65535 * c.0
  pub words : standing.words ≡ up_to_32_bits (words_of (fields_above classes c))
  pub jump : Contains (superclasses classes c) standing.jump

pub record IsEntry (classes : List ClassRecord) (c : ClassId) (entry : Entry) : Type 0 where
  pub few_fields : length entry.class.fields ≤ 65535
  pub few_methods : length entry.class.methods ≤ 65535
  pub walk : IsWalk classes c entry.walk
  pub fields : IsFieldIndex entry.fields entry.class.fields
  pub methods : IsMethodIndex entry.methods entry.class.methods
  pub own : AreOwnPlaces c entry.class.fields entry.own
  pub standing : IsStanding classes c entry.standing

abbrev pub records : List Entry → List ClassRecord
records entries = map (λ (e : Entry). e.class) entries

pub record IsTable (entries : List Entry) : Type 0 where
  pub ordered : AreOrdered (records entries)
  pub few : length entries < 2 ^ 32
  pub right : (k : ℕ) (e : Entry) → slice_get entries k ≡ Some e → IsEntry (records entries) (record { 0 = k }) e
