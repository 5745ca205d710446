-- When the frames of one segment change in its domain, the store's content changes there alone.
use Rattle.std.proofs.Common.{◌≡◌, ◌≢◌, ℕ, ◌+◌, ◌-◌, ◌<◌, cond, List, [], ◌∷◌, ◌++◌, length, Option, Some, None, IsSome, is_some, option_map, nat_eq, refl, sym, ap, arith, inl, inr, ◌∙◌, sum_by}
use Rattle.std.specs.Option.{option_map_or}
use Rattle.std.proofs.lemmas.Bool.{cases_eq}
use Rattle.std.proofs.lemmas.Bool.Decides.{eqb_tells}
use Rattle.std.proofs.lemmas.Map.Entries.{sum_by-set_value}
use Rattle.std.specs.HashMap.{WritesThrough}
use Rattle.std.specs.Map.{values_of}
use Rattle.jk_model.specs.declared.identifiers.DomainId.{DomainId}
use Rattle.jk_model.specs.declared.identifiers.SegmentNo.{SegmentNo}
use Rattle.jk_model_frames.specs.Frames.{FrameState}
use Rattle.indexmap.specs.IndexMap.{IndexMap, get, values}
use Rattle.frame_store.specs.declared.domain_frames.DomainFrames.{DomainFrames}
use Rattle.frame_store.specs.declared.slot_set.SlotSet.{SlotSet}
use Rattle.number_table.specs.declared.entry_table.Place.{Place}
use Rattle.number_table.specs.NumberPlaces.{NumberPlaces}
use Rattle.frame_store.specs.FrameContents.{StoredSegment, Changes, TopFrame}
use Rattle.frame_store.specs.SlotMoves.{number_of, place_in, size}
use Rattle.number_table.specs.NumberPlaces as table
use Rattle.frame_store.specs.DomainMoves.{depth_of, frames_of, top_of, lower_of, value_at, IsSlot, HasTop, Becomes}
use Rattle.number_table.specs.ChainMoves.{place}
use Rattle.std.proofs.lemmas.List.{length_push}
use Rattle.std.proofs.lemmas.Option.{same_Some}
use Rattle.list_lemmas.proofs.LastItems.{one_last}
use Rattle.frame_store.specs.StoreContents.{content_of, stored, owed_by, IsStore, IsFound, IsStanding}
use Rattle.frame_store.specs.StoreIsContent.{placed}
use Rattle.frame_store.specs.Builds.{length-build}
use Rattle.frame_store.proofs.TopIsWritten.{frames_more}

abbrev pub segment_in : DomainFrames → ℕ → ℕ → StoredSegment
segment_in x d i = record { domain = record { 0 = d }; frames = frames_of x i }

-- what a domain has by a number
pub read_some : (f : DomainFrames → ℕ) (o : Option DomainFrames) (x : DomainFrames) → o ≡ Some x → option_map_or f o 0 ≡ f x
read_some f o x e = ap (λ p. option_map_or f p 0) e

sum_same : (a b c d : ℕ) → a + b ≡ c + d → d ≡ b → c ≡ a
sum_same a b c d e f = omega arith

pub lt_by : (a b c d : ℕ) → a < b → c ≡ a → d ≡ b → c < d
lt_by a b c d h e f = omega arith

module _ {S : Type 0} (m n : IndexMap ℕ DomainFrames S) (t : NumberPlaces) (owed : ℕ) (s : SegmentNo) (p : Place) (x y : DomainFrames) (h : IsStore m t owed)
    (at : table.place_of t s.0 ≡ Some p) (is : get nat_eq m p.domain ≡ Some x) (wrote : WritesThrough nat_eq (nat_eq p.domain) m y n) where
  some : IsSome (get nat_eq m p.domain)
  some = ap is_some is

  pub get_here : get nat_eq n p.domain ≡ Some y
  get_here = (wrote.3 some).1

  pub get_other : (q : ℕ) → q ≢ p.domain → get nat_eq n q ≡ get nat_eq m q
  get_other q ne =
      elim (eqb_tells p.domain q) [
        | inl same ↦ absurd (ne (sym same.1))
        | inr d ↦ (wrote.3 some).0 q ∙ ap (λ b. cond b (Some y) (get nat_eq m q)) d.0
      ]

  -- what is the same in the domain is the same in the store
  pub read_same : (f : DomainFrames → ℕ) → f y ≡ f x → (q : ℕ) → option_map_or f (get nat_eq n q) 0 ≡ option_map_or f (get nat_eq m q) 0
  read_same f e q =
      elim (cases_eq q p.domain) [
        | inl same ↦
            ap (λ k. option_map_or f (get nat_eq n k) 0) same ∙ read_some f (get nat_eq n p.domain) y get_here ∙ e
            ∙ sym (read_some f (get nat_eq m p.domain) x is) ∙ ap (λ k. option_map_or f (get nat_eq m k) 0) (sym same)
        | inr ne ↦ ap (λ o. option_map_or f o 0) (get_other q ne)
      ]

  pub map_same : (f : DomainFrames → ℕ) → f y ≡ f x → (q : ℕ) → option_map f (get nat_eq n q) ≡ option_map f (get nat_eq m q)
  map_same f e q =
      elim (cases_eq q p.domain) [
        | inl same ↦
            ap (λ k. option_map f (get nat_eq n k)) same ∙ ap (option_map f) get_here ∙ ap (λ k. Some k) e
            ∙ sym (ap (option_map f) is) ∙ ap (λ k. option_map f (get nat_eq m k)) (sym same)
        | inr ne ↦ ap (option_map f) (get_other q ne)
      ]

  pub store_kept_by : y.chunks ≡ x.chunks → y.slots.live ≡ x.slots.live → ((i : ℕ) → place_in y.slots i ≡ place_in x.slots i)
      → ((i : ℕ) → number_of y.slots i ≡ number_of x.slots i) → IsStore n t owed
  store_kept_by same_chunks same_live same_places same_numbers =
      record {
        in_domain =
            λ r q e.
            lt_by q.slot (option_map_or (λ (z : DomainFrames). z.chunks) (get nat_eq m q.domain) 0) q.slot
            (option_map_or (λ (z : DomainFrames). z.chunks) (get nat_eq n q.domain) 0)
            (h.in_domain r q e) refl (read_same (λ (z : DomainFrames). z.chunks) same_chunks q.domain);
        is_live =
            λ r q e.
            lt_by _ _ _ _ (h.is_live r q e)
            (read_same (λ (z : DomainFrames). place_in z.slots q.slot) (same_places q.slot) q.domain)
            (read_same (λ (z : DomainFrames). z.slots.live) same_live q.domain);
        has_number =
            λ r q e.
            read_same (λ (z : DomainFrames). number_of z.slots q.slot) (same_numbers q.slot) q.domain ∙ h.has_number r q e;
        owes =
            h.owes
            ∙ sum_same (sum_by owed_by (values n)) (owed_by x) (sum_by owed_by (values m)) (owed_by y)
            (ap (λ es. sum_by owed_by (values_of es) + owed_by x) wrote.0 ∙ sum_by-set_value owed_by (nat_eq p.domain) m.entries x y is)
            (ap (λ k. k - y.slots.live) same_chunks ∙ ap (λ k. x.chunks - k) same_live);
        enough = h.enough;
        few = h.few;
      }

  pub store_kept : y.chunks ≡ x.chunks → y.slots ≡ x.slots → IsStore n t owed
  store_kept same_chunks same_slots =
      store_kept_by same_chunks (ap (λ (k : SlotSet). k.live) same_slots) (λ i. ap (λ (k : SlotSet). place_in k i) same_slots)
      (λ i. ap (λ (k : SlotSet). number_of k i) same_slots)

  -- another segment of the domain is in another slot
  pub other_slot : (r : ℕ) (q : Place) → table.place_of t r ≡ Some q → q.domain ≡ p.domain → r ≢ s.0 → q.slot ≢ p.slot
  other_slot r q e same ne e2 =
      let e_get : get nat_eq m q.domain ≡ Some x = ap (get nat_eq m) same ∙ is in
      let a : number_of x.slots q.slot ≡ r = sym (read_some (λ (z : DomainFrames). number_of z.slots q.slot) (get nat_eq m q.domain) x e_get)
      ∙ h.has_number r q e in
      let b : number_of x.slots p.slot ≡ s.0 = sym (read_some (λ (z : DomainFrames). number_of z.slots p.slot) (get nat_eq m p.domain) x is)
      ∙ h.has_number s.0 p at in
      ne (sym a ∙ ap (number_of x.slots) e2 ∙ b)

  pub slot_in : (r : ℕ) (q : Place) → table.place_of t r ≡ Some q → q.domain ≡ p.domain → q.slot < x.chunks
  slot_in r q e same =
      let e_get : get nat_eq m q.domain ≡ Some x = ap (get nat_eq m) same ∙ is in
      lt_by q.slot (option_map_or (λ (z : DomainFrames). z.chunks) (get nat_eq m q.domain) 0) q.slot x.chunks (h.in_domain r q e) refl
      (sym (read_some (λ (z : DomainFrames). z.chunks) (get nat_eq m q.domain) x e_get))

  pub others_by : ((j : ℕ) → j < x.chunks → j ≢ p.slot → frames_of y j ≡ frames_of x j) → (r : ℕ) → r ≢ s.0 → (o : Option Place)
      → table.place_of t r ≡ o → stored n o ≡ stored m o
  others_by same r ne None e = refl
  others_by same r ne (Some q) e =
      elim (cases_eq q.domain p.domain) [
        | inl here ↦
            let e_m : get nat_eq m q.domain ≡ Some x = ap (get nat_eq m) here ∙ is in
            let e_n : get nat_eq n q.domain ≡ Some y = ap (get nat_eq n) here ∙ get_here in
            let f : DomainFrames → StoredSegment = λ (z : DomainFrames). segment_in z q.domain q.slot in
            let frames = same q.slot (slot_in r q e here) (other_slot r q e here ne) in
            ap (option_map f) e_n
            ∙ ap (λ (fs : List FrameState). let g : StoredSegment = record { domain = record { 0 = q.domain }; frames = fs } in Some g) frames
            ∙ sym (ap (option_map f) e_m)
        | inr d ↦ ap (option_map (λ (z : DomainFrames). segment_in z q.domain q.slot)) (get_other q.domain d)
      ]

  pub store_changes : (fs : List FrameState) (used : ℕ) → Becomes x y p.slot fs used
      → Changes (content_of m t) (content_of n t) s (record { 0 = p.domain }) (Some (record { domain = record { 0 = p.domain }; frames = fs })) used
  store_changes fs used b =
      record {
        domains = record {
          pages = refl;
          took_all = refl;
          quota = λ e. map_same (λ (z : DomainFrames). z.chunks) b.same_chunks e.0;
          first_page = λ _. refl;
        };
        becomes =
            ap (stored n) at
            ∙ ap (option_map (λ (z : DomainFrames). segment_in z p.domain p.slot)) get_here
            ∙ ap (λ (k : List FrameState). let g : StoredSegment = record { domain = record { 0 = p.domain }; frames = k } in Some g) b.becomes;
        others =
            λ r ne. others_by b.others r.0 (λ e. ne (ap (λ k. let z : SegmentNo = record { 0 = k } in z) e)) (table.place_of t r.0) refl;
        uses = read_some (λ (z : DomainFrames). z.used) (get nat_eq n p.domain) y get_here ∙ b.uses;
        other_domains =
            λ e ne. ap (λ o. option_map_or (λ (z : DomainFrames). z.used) o 0)
            (get_other e.0 (λ same. ne (ap (λ k. let z : DomainId = record { 0 = k } in z) same)));
      }

  pub used_is : (content_of m t).used (record { 0 = p.domain }) ≡ x.used
  used_is = read_some (λ (z : DomainFrames). z.used) (get nat_eq m p.domain) x is

  pub segment_is : (content_of m t).segment s ≡ Some (segment_in x p.domain p.slot)
  segment_is = ap (stored m) at ∙ ap (option_map (λ (z : DomainFrames). segment_in z p.domain p.slot)) is

-- ---- A segment and its top frame.

some_by : (a b : ℕ) → a ≡ b + 1 → 0 < a
some_by a b e = omega arith

module _ {S : Type 0} (m : IndexMap ℕ DomainFrames S) (t : NumberPlaces) (owed : ℕ) (s : SegmentNo) (h : IsStore m t owed) where
  pub standing_at : (g : StoredSegment) → (content_of m t).segment s ≡ Some g → IsStanding m t s.0
  standing_at g e =
      let p = placed m t owed h s g e in
      (p.domain, p.place.slot, record { domain = p.place.domain; at = p.at; is = p.stands.is })

  is_some_segment : (o : Option StoredSegment) → IsSome o → (g : StoredSegment) × (o ≡ Some g)
  is_some_segment None e = absurd (cc)
  is_some_segment (Some g) e = (g, refl)

  pub standing_there : IsSome ((content_of m t).segment s) → IsStanding m t s.0
  standing_there e = let g = is_some_segment ((content_of m t).segment s) e in standing_at g.0 g.1

  module _ (x : DomainFrames) (i : ℕ) (f : IsFound m t s.0 x i) where
    pub found_segment : (content_of m t).segment s ≡ Some (segment_in x f.domain i)
    found_segment = ap (stored m) f.at ∙ ap (option_map (λ (z : DomainFrames). segment_in z f.domain i)) f.is

    pub found_slot : IsSlot x i
    found_slot =
        let p : Place = record { domain = f.domain; slot = i } in
        let within = lt_by i (option_map_or (λ (z : DomainFrames). z.chunks) (get nat_eq m f.domain) 0) i x.chunks (h.in_domain s.0 p f.at) refl
        (sym (read_some (λ (z : DomainFrames). z.chunks) (get nat_eq m f.domain) x f.is)) in (
          within,
          (
            lt_by i x.chunks i (size x.slots) within refl x.ok.slots_are,
            lt_by _ _ _ _ (h.is_live s.0 p f.at)
                (sym (read_some (λ (z : DomainFrames). place_in z.slots i) (get nat_eq m f.domain) x f.is))
                (sym (read_some (λ (z : DomainFrames). z.slots.live) (get nat_eq m f.domain) x f.is)),
          ),
        )

    top_frames : (g : FrameState) (top : TopFrame (content_of m t) s g) → frames_of x i ≡ top.lower ++ g ∷ []
    top_frames g top =
        let same = same_Some (segment_in x f.domain i) top.segment (sym found_segment ∙ top.is_there) in
        ap (λ (k : StoredSegment). k.frames) same ∙ top.frames

    pub found_top : (g : FrameState) → TopFrame (content_of m t) s g → HasTop x i
    found_top g top = (
      found_slot.0,
      some_by (depth_of x i) (length top.lower)
          (sym (length-build (λ k. value_at x (place x.frames i k)) (depth_of x i))
          ∙ ap (λ (k : List FrameState). length k) (top_frames g top)
          ∙ length_push top.lower g),
    )

    pub found_top_is : (g : FrameState) (top : TopFrame (content_of m t) s g) → (top.lower ≡ lower_of x i) × (g ≡ top_of x i)
    found_top_is g top = one_last top.lower (lower_of x i) g (top_of x i) (sym (top_frames g top) ∙ frames_more x i (found_top g top))
