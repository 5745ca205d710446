-- What a store over vectors holds.
use Rattle.std.specs.Prelude.{◌≡◌, ◌≢◌, ℕ, ◌+◌, ◌-◌, ◌^◌, ◌<◌, ◌≤◌, ◌⊎◌, Option, Some, None, false, nat_eq, option_map, slice_get, sum_by}
use Rattle.std.specs.Option.{option_map_or}
use Rattle.indexmap.specs.IndexMap.{IndexMap, get, values}
use Rattle.frame_store.specs.declared.domain_frames.DomainFrames.{DomainFrames}
use Rattle.number_table.specs.declared.entry_table.Place.{Place}
use Rattle.number_table.specs.NumberPlaces.{NumberPlaces}
use Rattle.frame_store.specs.FrameContents.{FrameContent, StoredSegment}
use Rattle.frame_store.specs.DomainMoves.{frames_of}
use Rattle.frame_store.specs.SlotMoves.{number_of, place_in, slot_in_order}
use Rattle.frame_store.specs.declared.slot_set.SlotSet.{SlotSet}
use Rattle.frame_store.specs.ForgottenSegments.{domain_in}
use Rattle.number_table.specs.NumberPlaces as table

-- how many more segments a domain may begin
abbrev pub owed_by : DomainFrames → ℕ
owed_by x = x.chunks - x.slots.live

module _ {S : Type 0} where
  -- the segment that stands at a place
  abbrev pub stored : IndexMap ℕ DomainFrames S → Option Place → Option StoredSegment
  stored domains None = None
  stored domains (Some p) =
      option_map (λ (x : DomainFrames). record { domain = record { 0 = p.domain }; frames = frames_of x p.slot }) (get nat_eq domains p.domain)

  abbrev pub content_of : IndexMap ℕ DomainFrames S → NumberPlaces → FrameContent
  content_of domains places =
      record {
        pages = None;
        took_all = false;
        quota = λ d. option_map (λ (x : DomainFrames). x.chunks) (get nat_eq domains d.0);
        first_page = λ _. None;
        used = λ d. option_map_or (λ (x : DomainFrames). x.used) (get nat_eq domains d.0) 0;
        segment = λ s. stored domains (table.place_of places s.0);
      }

  -- Each place is a live slot of a domain, and the table has room for all segments that may begin.
  pub record IsStore (domains : IndexMap ℕ DomainFrames S) (places : NumberPlaces) (owed : ℕ) : Type 0 where
    pub in_domain : (s : ℕ) (p : Place) → table.place_of places s ≡ Some p
        → p.slot < option_map_or (λ (x : DomainFrames). x.chunks) (get nat_eq domains p.domain) 0
    pub is_live : (s : ℕ) (p : Place) → table.place_of places s ≡ Some p
        → option_map_or (λ (x : DomainFrames). place_in x.slots p.slot) (get nat_eq domains p.domain) 0
        < option_map_or (λ (x : DomainFrames). x.slots.live) (get nat_eq domains p.domain) 0
    pub has_number : (s : ℕ) (p : Place) → table.place_of places s ≡ Some p
        → option_map_or (λ (x : DomainFrames). number_of x.slots p.slot) (get nat_eq domains p.domain) 0 ≡ s
    pub owes : owed ≡ sum_by owed_by (values domains)
    pub enough : owed ≤ places.room
    pub few : owed < 2 ^ 63

  -- The domain of a number stands at this place of the map.
  pub record StandsAt (domains : IndexMap ℕ DomainFrames S) (d i : ℕ) : Type 0 where
    pub domain : DomainFrames
    pub entry : slice_get domains.entries i ≡ Some (d, domain)
    pub is : get nat_eq domains d ≡ Some domain

  -- The segment stands in a domain.
  pub record IsFound (domains : IndexMap ℕ DomainFrames S) (places : NumberPlaces) (s : ℕ) (x : DomainFrames) (slot : ℕ) : Type 0 where
    pub domain : ℕ
    pub at : table.place_of places s ≡ Some (record { domain = domain; slot = slot })
    pub is : get nat_eq domains domain ≡ Some x

  abbrev pub IsStanding : IndexMap ℕ DomainFrames S → NumberPlaces → ℕ → Type 0
  IsStanding domains places s = (x : DomainFrames) × (slot : ℕ) × IsFound domains places s x slot

  -- A domain is entered.
  pub record Enters (old new : IndexMap ℕ DomainFrames S) (old_places new_places : NumberPlaces) (d : ℕ) (x : DomainFrames) : Type 0 where
    pub is : get nat_eq new d ≡ Some x
    pub others : (e : ℕ) → e ≢ d → get nat_eq new e ≡ get nat_eq old e
    pub places : table.HasSamePlaces old_places new_places

  -- All is as before.
  pub record IsUnentered (old new : IndexMap ℕ DomainFrames S) (old_places new_places : NumberPlaces) : Type 0 where
    pub same : (e : ℕ) → get nat_eq new e ≡ get nat_eq old e
    pub places : table.HasSamePlaces old_places new_places

-- The first live slots of a domain have no segment any more; the segments of other domains stand as before.
pub record AreForgotten (old new : NumberPlaces) (slots : SlotSet) (domain n : ℕ) : Type 0 where
  pub out : (t : ℕ) → t < n → t < slots.live → domain_in new (number_of slots (slot_in_order slots t)) ≢ domain + 1
  pub kept : (r : ℕ) → domain_in old r ≢ domain + 1 → table.place_of new r ≡ table.place_of old r
  pub fewer : (r : ℕ) → (table.place_of new r ≡ table.place_of old r) ⊎ (table.place_of new r ≡ None)
  pub at_least : old.room ≤ new.room
