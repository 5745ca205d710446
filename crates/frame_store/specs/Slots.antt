-- Slots, of which some are live, and an order in which the live ones stand first.
use Rattle.std.specs.Prelude.{◌≡◌, ℕ, ◌<◌, ◌≤◌, List, length, slice_index_or, slice_index}
use Rattle.frame_store.specs.declared.slot_set.Slot.{Slot}

-- what stands past the end of the slots
abbrev pub no_slot : Slot
no_slot = record { number = 0; place = 0 }

abbrev pub slot_at : List Slot → ℕ → Slot
slot_at slots i = slice_index_or slots i no_slot

-- The order has each slot once.
pub record IsSlotSet (slots : List Slot) (order : List ℕ) (live : ℕ) : Type 0 where
  pub as_many : length order ≡ length slots
  pub few : live ≤ length slots
  pub ordered : (t : ℕ) → t < length slots → (slice_index order t < length slots) × ((slot_at slots (slice_index order t)).place ≡ t)
  pub placed : (i : ℕ) → i < length slots → ((slot_at slots i).place < length slots) × (slice_index order (slot_at slots i).place ≡ i)

-- So many slots stand at the places of their own numbers.
pub record AreSlots (slots : List Slot) (count : ℕ) : Type 0 where
  pub size : length slots ≡ count
  pub each : (i : ℕ) → i < count → (slot_at slots i).place ≡ i

-- So many numbers stand in order.
pub record AreInOrder (order : List ℕ) (count : ℕ) : Type 0 where
  pub size : length order ≡ count
  pub each : (i : ℕ) → i < count → slice_index order i ≡ i
