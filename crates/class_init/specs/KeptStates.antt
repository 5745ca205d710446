-- What is kept of a domain's own state: the state, and the texts for whose objects there is room.
use Rattle.std.specs.Prelude.{◌≡◌, ℕ, List, Contains, Some, slice_get}
use Rattle.jk_model_classes.specs.declared.records.ClassRecord.{ClassRecord}
use Rattle.jk_model_classes.specs.Worlds.{NamedClass}
use Rattle.jk_model_domains.specs.OwnStates.{IsLiteralOf, Literal, OwnState}

pub record KeptState : Type 0 where
  pub state : OwnState
  -- the texts for each of which there is room for one object
  pub rooms : List (List ℕ)

-- Each text to which the classes of these names lead has a room, and so has each literal with an object. No text has two.
pub record HasRooms (classes : List ClassRecord) (table : List NamedClass) (kept : KeptState) : Type 0 where
  pub texts : (text : List ℕ) → IsLiteralOf classes table text → Contains kept.rooms text
  pub rooms_differ : (i j : ℕ) (text : List ℕ) → slice_get kept.rooms i ≡ Some text → slice_get kept.rooms j ≡ Some text → i ≡ j
  pub literals : (l : Literal) → Contains kept.state.literals l → Contains kept.rooms l.text

-- Those texts alone have rooms.
pub record HasFirstRooms (classes : List ClassRecord) (table : List NamedClass) (kept : KeptState) : Type 0 where
  pub rooms : HasRooms classes table kept
  pub no_others : (text : List ℕ) → Contains kept.rooms text → IsLiteralOf classes table text
