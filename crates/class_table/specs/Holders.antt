-- The class that declares a field of a layout.
use Rattle.std.specs.Prelude.{◌≡◌, ℕ, ◌+◌, ◌<◌, ◌≤◌, List, Some, length, slice_get}
use Rattle.jk_model.specs.declared.identifiers.ClassId.{ClassId}
use Rattle.jk_model_classes.specs.Classes.{IsSubclass}
use Rattle.class_table.specs.declared.entry.Entry.{Entry}
use Rattle.class_table.specs.Entries.{records}

-- The class d stands above c, or is c, and declares the field at this place.
pub record Holds (entries : List Entry) (c : ClassId) (place : ℕ) (d : ClassId) : Type 0 where
  pub above : IsSubclass (records entries) c d
  pub entry : Entry
  pub at : slice_get entries d.0 ≡ Some entry
  pub not_before : entry.standing.before ≤ place
  pub within : place < entry.standing.before + length entry.own.fields
