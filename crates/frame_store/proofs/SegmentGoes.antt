-- A segment goes from its domain and from the table.
use Rattle.std.proofs.Common.{◌≡◌, ◌≢◌, ℕ, ◌+◌, ◌-◌, ◌^◌, ◌<◌, ◌≤◌, Some, None, nat_eq, refl, sym, ap, subst, arith, ◌∙◌, inl, inr, sum_by}
use Rattle.std.specs.Option.{option_map_or}
use Rattle.std.specs.HashMap.{WritesThrough}
use Rattle.std.specs.Map.{values_of}
use Rattle.std.proofs.lemmas.Bool.{cases_eq}
use Rattle.std.proofs.lemmas.Map.Entries.{sum_by-set_value}
use Rattle.jk_model.specs.declared.identifiers.DomainId.{DomainId}
use Rattle.jk_model.specs.declared.identifiers.SegmentNo.{SegmentNo}
use Rattle.jk_model_frames.specs.Frames.{segment_chunks}
use Rattle.indexmap.specs.IndexMap.{IndexMap, get, values}
use Rattle.frame_store.specs.declared.domain_frames.DomainFrames.{DomainFrames}
use Rattle.number_table.specs.declared.entry_table.Place.{Place}
use Rattle.number_table.specs.NumberPlaces.{NumberPlaces, Removes}
use Rattle.frame_store.specs.FrameContents.{Changes, Ends}
use Rattle.frame_store.specs.SlotMoves.{IsLive, number_of, place_in, size}
use Rattle.number_table.specs.NumberPlaces as table
use Rattle.frame_store.specs.DomainMoves.{frames_of}
use Rattle.frame_store.specs.DomainMoves as domain
use Rattle.frame_store.specs.StoreContents.{content_of, stored, owed_by, IsStore}
use Rattle.frame_store.proofs.StoreChanges.{segment_in, get_here, get_other, read_some, read_same, map_same, other_slot, slot_in, others_by, segment_is, used_is, lt_by}

one_more : (a b c d e w : ℕ) → a + b ≡ c + d → d ≡ b + 1 → e ≡ c → e + 1 ≡ a
one_more a b c d e w s f g = omega arith

owes_more : (chunks live new : ℕ) → new + 1 ≡ live → live ≤ chunks → chunks - new ≡ chunks - live + 1
owes_more chunks live new e le = omega arith

le_more : (a b c : ℕ) → a ≤ b → c ≡ b + 1 → a + 1 ≤ c
le_more a b c h e = omega arith

le_lt : (a b c : ℕ) → a ≤ b → b < c → a < c
le_lt a b c h k = omega arith

le_is : (a b c : ℕ) → a ≤ b → b ≡ c → a ≤ c
le_is a b c h e = omega arith

module _ {S : Type 0} (m n : IndexMap ℕ DomainFrames S) (t u : NumberPlaces) (owed : ℕ) (s : SegmentNo) (p : Place) (x y : DomainFrames) (h : IsStore m t owed)
    (at : table.place_of t s.0 ≡ Some p) (is : get nat_eq m p.domain ≡ Some x) (wrote : WritesThrough nat_eq (nat_eq p.domain) m y n)
    (ends : domain.Ends x y p.slot) (removes : Removes t u s.0) where
  -- a segment that still stands is another, and stood before
  before : (r : ℕ) (q : Place) → table.place_of u r ≡ Some q → (r ≢ s.0) × (table.place_of t r ≡ Some q)
  before r q e =
      let ne : r ≢ s.0 = λ e2. let f : table.place_of u r ≡ None = ap (table.place_of u) e2 ∙ removes.is_out in absurd (cc) in
      (ne, sym (removes.others r ne) ∙ e)

  live_in : (r : ℕ) (q : Place) → table.place_of t r ≡ Some q → q.domain ≡ p.domain → IsLive x.slots q.slot
  live_in r q e same =
      let e_get : get nat_eq m q.domain ≡ Some x = ap (get nat_eq m) same ∙ is in (
        lt_by q.slot x.chunks q.slot (size x.slots) (slot_in m n t owed s p x y h at is wrote r q e same) refl x.ok.slots_are,
        lt_by _ _ _ _ (h.is_live r q e)
            (sym (read_some (λ (z : DomainFrames). place_in z.slots q.slot) (get nat_eq m q.domain) x e_get))
            (sym (read_some (λ (z : DomainFrames). z.slots.live) (get nat_eq m q.domain) x e_get)),
      )

  -- what is known of it in its domain
  kept : (r : ℕ) (q : Place) → r ≢ s.0 → table.place_of t r ≡ Some q → q.domain ≡ p.domain → (number_of y.slots q.slot ≡ number_of x.slots q.slot)
      × IsLive y.slots q.slot
  kept r q ne e same =
      let live = live_in r q e same in
      let o = ends.gives.others q.slot live.0 (other_slot m n t owed s p x y h at is wrote r q e same ne) in
      (o.0, o.1 live)

  pub gone_kept : u.room < 2 ^ 63 → IsStore n u (owed + 1)
  gone_kept small =
      record {
        in_domain =
            λ r q e.
            lt_by q.slot (option_map_or (λ (z : DomainFrames). z.chunks) (get nat_eq m q.domain) 0) q.slot
            (option_map_or (λ (z : DomainFrames). z.chunks) (get nat_eq n q.domain) 0)
            (h.in_domain r q (before r q e).1) refl
            (read_same m n t owed s p x y h at is wrote (λ (z : DomainFrames). z.chunks) ends.same_chunks q.domain);
        is_live =
            λ r q e.
            let b = before r q e in
            elim (cases_eq q.domain p.domain) [
              | inl same ↦
                  let e_n : get nat_eq n q.domain ≡ Some y = ap (get nat_eq n) same ∙ get_here m n t owed s p x y h at is wrote in
                  lt_by _ _ _ _ (kept r q b.0 b.1 same).1.1
                  (read_some (λ (z : DomainFrames). place_in z.slots q.slot) (get nat_eq n q.domain) y e_n)
                  (read_some (λ (z : DomainFrames). z.slots.live) (get nat_eq n q.domain) y e_n)
              | inr ne ↦
                  let e_n = get_other m n t owed s p x y h at is wrote q.domain ne in
                  lt_by _ _ _ _ (h.is_live r q b.1)
                  (ap (λ o. option_map_or (λ (z : DomainFrames). place_in z.slots q.slot) o 0) e_n)
                  (ap (λ o. option_map_or (λ (z : DomainFrames). z.slots.live) o 0) e_n)
            ];
        has_number =
            λ r q e.
            let b = before r q e in
            elim (cases_eq q.domain p.domain) [
              | inl same ↦
                  let e_n : get nat_eq n q.domain ≡ Some y = ap (get nat_eq n) same ∙ get_here m n t owed s p x y h at is wrote in
                  let e_m : get nat_eq m q.domain ≡ Some x = ap (get nat_eq m) same ∙ is in
                  read_some (λ (z : DomainFrames). number_of z.slots q.slot) (get nat_eq n q.domain) y e_n
                  ∙ (kept r q b.0 b.1 same).0
                  ∙ sym (read_some (λ (z : DomainFrames). number_of z.slots q.slot) (get nat_eq m q.domain) x e_m)
                  ∙ h.has_number r q b.1
              | inr ne ↦
                  ap (λ o. option_map_or (λ (z : DomainFrames). number_of z.slots q.slot) o 0) (get_other m n t owed s p x y h at is wrote q.domain ne)
                  ∙ h.has_number r q b.1
            ];
        owes =
            one_more (sum_by owed_by (values n)) (owed_by x) (sum_by owed_by (values m)) (owed_by y) owed 0
            (ap (λ es. sum_by owed_by (values_of es) + owed_by x) wrote.0 ∙ sum_by-set_value owed_by (nat_eq p.domain) m.entries x y is)
            (ap (λ k. k - y.slots.live) ends.same_chunks ∙ owes_more x.chunks x.slots.live y.slots.live ends.gives.live
            (le_is x.slots.live (size x.slots) x.chunks x.slots.ok.few x.ok.slots_are))
            h.owes;
        enough = le_more owed t.room u.room h.enough removes.more_room;
        few = le_lt (owed + 1) u.room (2 ^ 63) (le_more owed t.room u.room h.enough removes.more_room) small;
      }

  pub gone_ends : Ends (content_of m t) (content_of n u) s
  gone_ends =
      let g = segment_in x p.domain p.slot in
      let c : Changes (content_of m t) (content_of n u) s (record { 0 = p.domain }) None (x.used - segment_chunks (frames_of x p.slot)) =
      record {
        domains = record {
          pages = refl;
          took_all = refl;
          quota = λ e. map_same m n t owed s p x y h at is wrote (λ (z : DomainFrames). z.chunks) ends.same_chunks e.0;
          first_page = λ _. refl;
        };
        becomes = ap (stored n) removes.is_out;
        others =
            λ r ne.
            let ne2 : r.0 ≢ s.0 = λ e. ne (ap (λ k. let z : SegmentNo = record { 0 = k } in z) e) in
            ap (stored n) (removes.others r.0 ne2)
            ∙ others_by m n t owed s p x y h at is wrote ends.others r.0 ne2 (table.place_of t r.0) refl;
        uses = read_some (λ (z : DomainFrames). z.used) (get nat_eq n p.domain) y (get_here m n t owed s p x y h at is wrote) ∙ ends.uses;
        other_domains =
            λ e ne. ap (λ o. option_map_or (λ (z : DomainFrames). z.used) o 0)
            (get_other m n t owed s p x y h at is wrote e.0 (λ same. ne (ap (λ k. let z : DomainId = record { 0 = k } in z) same)));
      } in
      let P : ℕ → Type 0 = λ k. Changes (content_of m t) (content_of n u) s (record { 0 = p.domain }) None (k - segment_chunks (frames_of x p.slot)) in
      (g, segment_is m n t owed s p x y h at is wrote, subst P (sym (used_is m n t owed s p x y h at is wrote)) c)
