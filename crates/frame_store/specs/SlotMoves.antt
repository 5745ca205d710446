-- What the calls of a slot set do.
use Rattle.std.specs.Prelude.{◌≡◌, ◌≢◌, ℕ, ◌+◌, ◌<◌, ◌≤◌, length, slice_index}
use Rattle.frame_store.specs.declared.slot_set.SlotSet.{SlotSet}
use Rattle.frame_store.specs.Slots.{slot_at}

-- how many slots there are
abbrev pub size : SlotSet → ℕ
size s = length s.slots.items

abbrev pub number_of : SlotSet → ℕ → ℕ
number_of s i = (slot_at s.slots.items i).number

-- the place of a slot in the order
abbrev pub place_in : SlotSet → ℕ → ℕ
place_in s i = (slot_at s.slots.items i).place

abbrev pub slot_in_order : SlotSet → ℕ → ℕ
slot_in_order s t = slice_index s.order.items t

-- The slot is live.
abbrev pub IsLive : SlotSet → ℕ → Type 0
IsLive s i = (i < size s) × (place_in s i < s.live)

-- A slot that wasn't live is so, and has this number.
pub record TakesSlot (old new : SlotSet) (number i : ℕ) : Type 0 where
  pub same_size : size new ≡ size old
  pub within : i < size old
  pub was_vacant : old.live ≤ place_in old i
  pub live : new.live ≡ old.live + 1
  pub is_live : place_in new i < new.live
  pub has_number : number_of new i ≡ number
  pub others : (j : ℕ) → j < size old → j ≢ i → (number_of new j ≡ number_of old j) × (IsLive old j → IsLive new j) × (IsLive new j → IsLive old j)

-- A slot is no more live.
pub record GivesSlot (old new : SlotSet) (i : ℕ) : Type 0 where
  pub same_size : size new ≡ size old
  pub live : new.live + 1 ≡ old.live
  pub is_vacant : new.live ≤ place_in new i
  pub others : (j : ℕ) → j < size old → j ≢ i → (number_of new j ≡ number_of old j) × (IsLive old j → IsLive new j) × (IsLive new j → IsLive old j)
