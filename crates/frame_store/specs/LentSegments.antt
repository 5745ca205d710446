-- What a segment has that is lent out of a store, and what its domain has beside it.
use Rattle.std.specs.Prelude.{◌≡◌, ◌≢◌, ℕ, ◌<◌, List, [], false, Some, None, nat_eq, if◌then◌else◌}
use Rattle.jk_model_frames.specs.Frames.{FrameState}
use Rattle.frame_store.specs.declared.cursor.Cursor.{Cursor}
use Rattle.frame_store.specs.declared.domain_frames.DomainFrames.{DomainFrames}
use Rattle.number_table.specs.declared.entry_table.Place.{Place}
use Rattle.frame_store.specs.Cursors.{HasValuesAt}
use Rattle.frame_store.specs.DomainMoves.{frames_of, top_number, HasTop, IsSlot}
use Rattle.frame_store.specs.FrameContents.{FrameContent, StoredSegment}
use Rattle.frame_store.specs.SlotMoves.{number_of, place_in}

-- the segment at which a cursor is
abbrev pub segment_at : DomainFrames → Cursor → StoredSegment
segment_at x c = record { domain = record { 0 = c.place.domain }; frames = frames_of x c.place.slot }

-- The content of the segment at which a cursor is, which has the domain on loan under this name. There is no pool: in its place
-- stands the name of the loan, which no call changes.
abbrev pub content_at : ℕ → DomainFrames → Cursor → FrameContent
content_at name x c =
    record {
      pages = Some name;
      took_all = false;
      quota = λ d. if nat_eq d.0 c.place.domain then Some x.chunks else None;
      first_page = λ _. None;
      used = λ d. if nat_eq d.0 c.place.domain then x.used else 0;
      segment = λ r. if nat_eq r.0 c.segment then Some (segment_at x c) else None;
    }

-- A cursor is at a segment of the domain, and at its top frame, where it has one.
pub record IsAtSegment (x : DomainFrames) (c : Cursor) : Type 0 where
  pub slot : IsSlot x c.place.slot
  pub frame : HasTop x c.place.slot → c.frame ≡ top_number x c.place.slot
  pub values : HasTop x c.place.slot → HasValuesAt x c

-- What a domain has beside the frames of one segment: which segment that is, and where it stands; its quota and its slots; and
-- the frames of the segments in other slots.
pub record Beside : Type 0 where
  pub segment : ℕ
  pub place : Place
  pub domain : ℕ
  pub chunks : ℕ
  pub live : ℕ
  pub places : ℕ → ℕ
  pub numbers : ℕ → ℕ
  pub frames : ℕ → List FrameState

abbrev pub nothing_beside : Beside
nothing_beside =
    record {
      segment = 0;
      place = record { domain = 0; slot = 0 };
      domain = 0;
      chunks = 0;
      live = 0;
      places = λ _. 0;
      numbers = λ _. 0;
      frames = λ _. [];
    }

abbrev pub beside_of : DomainFrames → Cursor → Beside
beside_of x c =
    record {
      segment = c.segment;
      place = c.place;
      domain = c.domain;
      chunks = x.chunks;
      live = x.slots.live;
      places = place_in x.slots;
      numbers = number_of x.slots;
      frames = frames_of x;
    }

-- That is still so.
pub record StaysBeside (b : Beside) (x : DomainFrames) (c : Cursor) : Type 0 where
  pub segment : c.segment ≡ b.segment
  pub place : c.place ≡ b.place
  pub domain : c.domain ≡ b.domain
  pub chunks : x.chunks ≡ b.chunks
  pub live : x.slots.live ≡ b.live
  pub places : (i : ℕ) → place_in x.slots i ≡ b.places i
  pub numbers : (i : ℕ) → number_of x.slots i ≡ b.numbers i
  pub frames : (j : ℕ) → j < b.chunks → j ≢ b.place.slot → frames_of x j ≡ b.frames j
