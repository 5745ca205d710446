-- Where the top frame of a segment is.
use Rattle.std.specs.Prelude.{◌≡◌, ℕ, ◌+◌, ◌-◌, Some, IsSome, slice_get}
use Rattle.indexmap.specs.IndexMap.{IndexMap}
use Rattle.frame_store.specs.declared.cursor.Cursor.{Cursor}
use Rattle.frame_store.specs.declared.domain_frames.DomainFrames.{DomainFrames}
use Rattle.number_table.specs.NumberPlaces.{NumberPlaces}
use Rattle.frame_store.specs.DomainMoves.{locals_at, start_of, top_number, HasTop, IsTopOf}
use Rattle.frame_store.specs.StoreContents.{StandsAt, IsFound}
use Rattle.number_table.specs.NumberPlaces as table

-- The cursor has where the values of its frame begin, where the entries of its operand stack begin after the locals, and for how
-- many of them there is room in the lowest block.
pub record HasValuesAt (x : DomainFrames) (c : Cursor) : Type 0 where
  pub start : c.start ≡ start_of x c.frame
  pub base : c.base ≡ start_of x c.frame + locals_at x c.frame
  pub room : c.room ≡ 20 - locals_at x c.frame

-- the cursor at another slot of its domain
abbrev pub at_slot : Cursor → ℕ → Cursor
at_slot c slot = record c { place = record c.place { slot = slot } }

-- A cursor at a segment of this domain is moved to the segment's top frame.
pub record IsAimed (x : DomainFrames) (old new : Cursor) : Type 0 where
  pub segment : new.segment ≡ old.segment
  pub place : new.place ≡ old.place
  pub domain : new.domain ≡ old.domain
  pub frame : new.frame ≡ top_number x old.place.slot
  pub values : HasValuesAt x new

-- A cursor at a segment of this domain is moved to the segment's top frame, if it has one.
pub record AimsIfThere (x : DomainFrames) (old new : Cursor) : Type 0 where
  pub segment : new.segment ≡ old.segment
  pub place : new.place ≡ old.place
  pub domain : new.domain ≡ old.domain
  pub frame : HasTop x old.place.slot → new.frame ≡ top_number x old.place.slot
  pub values : HasTop x old.place.slot → HasValuesAt x new

module _ {S : Type 0} where
  -- The segment is in the table. The domain and the slot in which it is found: the domain is at this place of the map,
  -- and the slot's top frame has this number.
  pub record IsTopAt (domains : IndexMap ℕ DomainFrames S) (places : NumberPlaces) (s place frame : ℕ) : Type 0 where
    pub in_table : IsSome (table.place_of places s)
    pub entry : (x : DomainFrames) (slot : ℕ) (found : IsFound domains places s x slot) → slice_get domains.entries place ≡ Some (found.domain, x)
    pub top : (x : DomainFrames) (slot : ℕ) → IsFound domains places s x slot → IsTopOf x slot frame

  -- The cursor has where the segment stands, where its top frame is, and where that frame's values are.
  pub record PointsAt (domains : IndexMap ℕ DomainFrames S) (places : NumberPlaces) (s : ℕ) (c : Cursor) : Type 0 where
    pub place : table.place_of places s ≡ Some c.place
    pub top : IsTopAt domains places s c.domain c.frame
    pub values : (x : DomainFrames) (slot : ℕ) → IsFound domains places s x slot → HasValuesAt x c

  -- The cursor is right for a segment. Where the segment is found, the cursor has its place, and where its domain stands in the
  -- map; where it has a frame too, the cursor has the number of the top one, and where that frame's values are.
  pub record IsRightFor (domains : IndexMap ℕ DomainFrames S) (places : NumberPlaces) (s : ℕ) (c : Cursor) : Type 0 where
    pub place : (x : DomainFrames) (slot : ℕ) (found : IsFound domains places s x slot) → c.place ≡ record { domain = found.domain; slot = slot }
    pub entry : (x : DomainFrames) (slot : ℕ) (found : IsFound domains places s x slot)
        → slice_get domains.entries c.domain ≡ Some (found.domain, x)
    pub frame : (x : DomainFrames) (slot : ℕ) → IsFound domains places s x slot → HasTop x slot → c.frame ≡ top_number x slot
    pub values : (x : DomainFrames) (slot : ℕ) → IsFound domains places s x slot → HasTop x slot → HasValuesAt x c

  -- The cursor is right for its segment.
  abbrev pub IsCursor : IndexMap ℕ DomainFrames S → NumberPlaces → Cursor → Type 0
  IsCursor domains places c = IsRightFor domains places c.segment c

  -- A domain stands at this place of the map.
  abbrev pub HasDomainAt : IndexMap ℕ DomainFrames S → ℕ → Type 0
  HasDomainAt domains place = (d : ℕ) × StandsAt domains d place
