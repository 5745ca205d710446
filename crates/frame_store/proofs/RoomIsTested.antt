-- Whether the domain of a segment has room for a frame is what its free chunks say.
use Rattle.std.proofs.Common.{◌≡◌, ◌-◌, ◌<◌, ◌≤◌, ◌∙◌, ℕ, Some, nat_eq, option_map, arith, subst, sym, ap}
use Rattle.std.specs.Option.{option_map_or}
use Rattle.std.proofs.lemmas.Option.{same_Some}
use Rattle.jk_model.specs.declared.frames.FrameHead.{FrameHead}
use Rattle.jk_model.specs.declared.identifiers.DomainId.{DomainId}
use Rattle.jk_model.specs.declared.identifiers.SegmentNo.{SegmentNo}
use Rattle.jk_model_frames.specs.Frames.{head_chunks}
use Rattle.indexmap.specs.IndexMap.{IndexMap, get}
use Rattle.frame_store.specs.declared.domain_frames.DomainFrames.{DomainFrames}
use Rattle.number_table.specs.NumberPlaces.{NumberPlaces}
use Rattle.frame_store.specs.FrameContents.{FrameContent, HasRoomFor, StoredSegment, free_chunks}
use Rattle.frame_store.specs.StoreContents.{content_of, IsFound, IsStore}
use Rattle.frame_store.proofs.StoreChanges.{found_segment, segment_in}

-- what the domain may still use
free_is : {S : Type 0} (m : IndexMap ℕ DomainFrames S) (places : NumberPlaces) (d : DomainId) (x : DomainFrames) → get nat_eq m d.0 ≡ Some x
    → free_chunks (content_of m places) d ≡ x.chunks - x.used
free_is m places d x is =
    ap (λ o. option_map_or (λ q. q - option_map_or (λ (z : DomainFrames). z.used) o 0) (option_map (λ (z : DomainFrames). z.chunks) o) 0) is

too_many : (a b c : ℕ) → a < b → b ≤ c → c ≡ a → ⊥
too_many a b c low high same = omega arith

module _ {S : Type 0} (old : FrameContent) (m : IndexMap ℕ DomainFrames S) (t : NumberPlaces) (owed : ℕ) (s : SegmentNo)
    (h : IsStore m t owed) (x : DomainFrames) (slot : ℕ) (f : IsFound m t s.0 x slot) (head : FrameHead) (same : content_of m t ≡ old) where
  abbrev domain : DomainId
  domain = record { 0 = f.domain }

  has_room_now : head_chunks head ≤ x.chunks - x.used → HasRoomFor (content_of m t) s head
  has_room_now room = (
    segment_in x f.domain slot,
    found_segment m t owed s h x slot f,
    subst (λ k. head_chunks head ≤ k) (sym (free_is m t domain x f.is)) room,
  )

  has_none_now : x.chunks - x.used < head_chunks head → HasRoomFor (content_of m t) s head → ⊥
  has_none_now few room =
      let segment = same_Some (segment_in x f.domain slot) room.0 (sym (found_segment m t owed s h x slot f) ∙ room.1) in
      let of_domain : get nat_eq m room.0.domain.0 ≡ Some x = ap (λ (g : StoredSegment). get nat_eq m g.domain.0) (sym segment) ∙ f.is in
      too_many _ _ _ few room.2 (free_is m t room.0.domain x of_domain)

  pub has_room : head_chunks head ≤ x.chunks - x.used → HasRoomFor old s head
  has_room room = subst (λ q. HasRoomFor q s head) same (has_room_now room)

  pub has_none : x.chunks - x.used < head_chunks head → HasRoomFor old s head → ⊥
  has_none few room = has_none_now few (subst (λ q. HasRoomFor q s head) (sym same) room)
