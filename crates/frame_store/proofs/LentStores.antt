-- A segment is lent out of a store and comes back: what the store holds then.
use Rattle.std.proofs.Common.{◌≡◌, ◌≢◌, ℕ, Some, false, nat_eq, option_map, slice_get, refl, sym, ap, subst, inl, inr, ◌∙◌}
use Rattle.std.specs.Option.{option_map_or}
use Rattle.std.specs.HashMap.{WritesThrough}
use Rattle.std.proofs.lemmas.Bool.Decides.{eqb_tells}
use Rattle.std.proofs.lemmas.Option.{same_Some}
use Rattle.jk_model.specs.declared.identifiers.DomainId.{DomainId}
use Rattle.jk_model.specs.declared.identifiers.SegmentNo.{SegmentNo}
use Rattle.indexmap.specs.IndexMap.{IndexMap, IsUnique, get, with_value_at}
use Rattle.frame_store.specs.declared.cursor.Cursor.{Cursor}
use Rattle.frame_store.specs.declared.domain_frames.DomainFrames.{DomainFrames}
use Rattle.number_table.specs.declared.entry_table.Place.{Place}
use Rattle.number_table.specs.NumberPlaces.{NumberPlaces}
use Rattle.frame_store.specs.Cursors.{IsCursor, IsRightFor}
use Rattle.frame_store.specs.DomainMoves.{frames_of, top_number, HasTop}
use Rattle.frame_store.specs.FrameContents.{IsOnly, IsThere, KeepsOthers, StoredSegment}
use Rattle.frame_store.specs.LentSegments.{IsAtSegment, StaysBeside, beside_of, content_at, segment_at}
use Rattle.frame_store.specs.StoreContents.{content_of, stored, IsFound, IsStore}
use Rattle.number_table.specs.NumberPlaces as table
use Rattle.frame_store.proofs.CursorPoints.{found_read_at, placed_there, read_there, right_again, slot_there, wrote_cursor}
use Rattle.frame_store.proofs.LentCalls.{quota_here, segment_elsewhere, segment_here, used_here}
use Rattle.frame_store.proofs.StoreChanges.{get_here, get_other, map_same, others_by, segment_in, segment_is, store_kept_by}

-- nothing changes at first
pub beside_now : (x : DomainFrames) (c : Cursor) → StaysBeside (beside_of x c) x c
beside_now x c =
    record {
      segment = refl;
      place = refl;
      domain = refl;
      chunks = refl;
      live = refl;
      places = λ _. refl;
      numbers = λ _. refl;
      frames = λ _ _ _. refl;
    }

-- What is lent is the segment alone.
module _ {S : Type 0} (m : IndexMap ℕ DomainFrames S) (t : NumberPlaces) (owed : ℕ) (s : SegmentNo) (h : IsStore m t owed) (c : Cursor) (x : DomainFrames)
    (here : c.segment ≡ s.0) (at : table.place_of t s.0 ≡ Some c.place) (is : get nat_eq m c.place.domain ≡ Some x) (name : ℕ) where
  found : IsFound m t s.0 x c.place.slot
  found = record { domain = c.place.domain; at = at; is = is }

  stored_here : (content_of m t).segment s ≡ Some (segment_at x c)
  stored_here = ap (stored m) at ∙ ap (option_map (λ (z : DomainFrames). segment_in z c.place.domain c.place.slot)) is

  elsewhere : (r : SegmentNo) → r ≢ s → nat_eq r.0 c.segment ≡ false
  elsewhere r ne =
      elim (eqb_tells r.0 c.segment) [
        | inl y ↦ absurd (ne (ap (λ n. let z : SegmentNo = record { 0 = n } in z) (y.1 ∙ here)))
        | inr n ↦ n.0
      ]

  pub only : IsOnly (content_of m t) s (content_at name x c)
  only =
      record {
        segment = segment_here name x c s (sym here) ∙ sym stored_here;
        others = λ r ne. segment_elsewhere name x c r (elsewhere r ne);
        quota =
            λ g e.
            let P : StoredSegment → Type 0 = λ (q : StoredSegment). (content_at name x c).quota q.domain ≡ (content_of m t).quota q.domain in
            subst P (same_Some (segment_at x c) g (sym stored_here ∙ e))
            (quota_here name x c s ∙ sym (ap (option_map (λ (z : DomainFrames). z.chunks)) is));
        used =
            λ g e.
            let P : StoredSegment → Type 0 = λ (q : StoredSegment). (content_at name x c).used q.domain ≡ (content_of m t).used q.domain in
            subst P (same_Some (segment_at x c) g (sym stored_here ∙ e))
            (used_here name x c s ∙ sym (ap (λ o. option_map_or (λ (z : DomainFrames). z.used) o 0) is));
        first_page = λ _ _. refl;
      }

module _ {S : Type 0} (m : IndexMap ℕ DomainFrames S) (t : NumberPlaces) (owed : ℕ) (s : SegmentNo) (h : IsStore m t owed) (c : Cursor)
    (k : IsRightFor m t s.0 c) (there : IsThere (content_of m t) s) (x : DomainFrames) (d : ℕ) (reads : slice_get m.entries c.domain ≡ Some (d, x))
    (here : c.segment ≡ s.0) where
  pub right_at : IsAtSegment x c
  right_at =
      let f = found_read_at m t owed s h c k there x d reads in
      record {
        slot = slot_there m t owed s h c k there x d reads;
        frame = λ top. k.frame x c.place.slot f top;
        values = λ top. k.values x c.place.slot f top;
      }

  at : table.place_of t s.0 ≡ Some c.place
  at = placed_there m t owed s h c k there x d reads

  is : get nat_eq m c.place.domain ≡ Some x
  is = read_there m t owed s h c k there x d reads

  pub only_before : (name : ℕ) → IsOnly (content_of m t) s (content_at name x c)
  only_before name = only m t owed s h c x here at is name

  module _ (unique : IsUnique nat_eq m) (y : DomainFrames) (b : Cursor) (right : IsAtSegment y b) (stays : StaysBeside (beside_of x c) y b) where
    abbrev n : IndexMap ℕ DomainFrames S
    n = with_value_at m c.domain y

    wrote : WritesThrough nat_eq (nat_eq c.place.domain) m y n
    wrote = wrote_cursor m t owed s h c k there x d reads y unique

    pub store_after : IsStore n t owed
    store_after = store_kept_by m n t owed s c.place x y h at is wrote stays.chunks stays.live stays.places stays.numbers

    pub cursor_after : IsCursor n t b
    cursor_after =
        let P : ℕ → Type 0 = λ r. IsRightFor n t r b in
        let Top : Place → Type 0 = λ (p : Place). HasTop y p.slot in
        subst P (sym (stays.segment ∙ here))
        (right_again m t owed s h c k there x d reads y unique b stays.place stays.domain
        (λ top. right.frame (subst Top (sym stays.place) top) ∙ ap (λ (p : Place). top_number y p.slot) stays.place)
        (λ top. right.values (subst Top (sym stays.place) top)))

    written : get nat_eq n c.place.domain ≡ Some y
    written = get_here m n t owed s c.place x y h at is wrote

    pub only_after : (name : ℕ) → IsOnly (content_of n t) s (content_at name y b)
    only_after name =
        only n t owed s store_after b y (stays.segment ∙ here) (at ∙ ap (λ q. Some q) (sym stays.place))
        (ap (λ (p : Place). get nat_eq n p.domain) stays.place ∙ written) name

    stored_now : (content_of n t).segment s ≡ Some (segment_in y c.place.domain c.place.slot)
    stored_now = ap (stored n) at ∙ ap (option_map (λ (z : DomainFrames). segment_in z c.place.domain c.place.slot)) written

    was_stored : (g : StoredSegment) → (content_of m t).segment s ≡ Some g → segment_in x c.place.domain c.place.slot ≡ g
    was_stored g e = same_Some _ g (sym (segment_is m n t owed s c.place x y h at is wrote) ∙ e)

    pub others_kept : KeepsOthers (content_of m t) (content_of n t) s
    others_kept =
        record {
          domains = record {
            pages = refl;
            took_all = refl;
            quota = λ e. map_same m n t owed s c.place x y h at is wrote (λ (z : DomainFrames). z.chunks) stays.chunks e.0;
            first_page = λ _. refl;
          };
          segment =
              λ g e.
              let P : StoredSegment → Type 0 = λ (q : StoredSegment).
              (content_of n t).segment s ≡ Some (record q { frames = frames_of y c.place.slot }) in
              (frames_of y c.place.slot, subst P (was_stored g e) stored_now);
          others =
              λ r ne.
              others_by m n t owed s c.place x y h at is wrote stays.frames r.0
              (λ e. ne (ap (λ q. let z : SegmentNo = record { 0 = q } in z) e)) (table.place_of t r.0) refl;
          other_domains =
              λ g e q ne.
              let differs : q.0 ≢ c.place.domain = λ same.
              ne (ap (λ i. let z : DomainId = record { 0 = i } in z) same ∙ ap (λ (u : StoredSegment). u.domain) (was_stored g e)) in
              ap (λ o. option_map_or (λ (z : DomainFrames). z.used) o 0) (get_other m n t owed s c.place x y h at is wrote q.0 differs);
        }
