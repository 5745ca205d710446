-- A segment begins in its domain and in the table.
use Rattle.std.proofs.Common.{◌≡◌, ◌≢◌, ℕ, ◌+◌, ◌-◌, ◌<◌, ◌≤◌, ◌^◌, cond, List, [], ◌∷◌, Option, Some, None, is_some, option_map, nat_eq, refl, sym, ap, subst, arith, ◌∙◌, inl, inr, sum_by}
use Rattle.std.specs.Option.{option_map_or}
use Rattle.std.specs.HashMap.{WritesThrough}
use Rattle.std.specs.Map.{values_of}
use Rattle.std.proofs.lemmas.Bool.{cases_eq}
use Rattle.std.proofs.lemmas.Bool.Decides.{eqb_tells}
use Rattle.std.proofs.lemmas.Map.Entries.{sum_by-set_value}
use Rattle.jk_model.specs.declared.frames.FrameHead.{FrameHead}
use Rattle.jk_model.specs.declared.identifiers.DomainId.{DomainId}
use Rattle.jk_model.specs.declared.identifiers.SegmentNo.{SegmentNo}
use Rattle.jk_model_frames.specs.Frames.{FrameState, new_frame, head_chunks}
use Rattle.indexmap.specs.IndexMap.{IndexMap, get, values}
use Rattle.frame_store.specs.declared.domain_frames.DomainFrames.{DomainFrames}
use Rattle.number_table.specs.declared.entry_table.Place.{Place}
use Rattle.number_table.specs.NumberPlaces.{NumberPlaces, Inserts}
use Rattle.frame_store.specs.FrameContents.{StoredSegment, Changes, IsSame}
use Rattle.frame_store.specs.SlotMoves.{IsLive, number_of, place_in, size}
use Rattle.number_table.specs.NumberPlaces as table
use Rattle.frame_store.specs.DomainMoves.{frames_of}
use Rattle.frame_store.specs.DomainMoves as domain
use Rattle.frame_store.specs.StoreContents.{content_of, stored, owed_by, IsStore}
use Rattle.frame_store.specs.StoreIsContent.{stands}
use Rattle.frame_store.proofs.StoreChanges.{segment_in, read_some, lt_by}

same_sum : (a b c d : ℕ) → a + b ≡ c + d → d ≡ b → c ≡ a
same_sum a b c d e f = omega arith

not_both : (a b l : ℕ) → a ≡ b → a < l → l ≤ b → ⊥
not_both a b l e h k = omega arith

one_less : (a b c d e : ℕ) → a + b ≡ c + d → d + 1 ≡ b → e ≡ c → e - 1 ≡ a
one_less a b c d e s f g = omega arith

owes_less : (c l c2 l2 : ℕ) → c2 ≡ c → l2 ≡ l + 1 → l < c → c2 - l2 + 1 ≡ c - l
owes_less c l c2 l2 e f h = omega arith

some_by : (a b c d e : ℕ) → a + b ≡ c + d → d + 1 ≡ b → e ≡ c → 0 < e
some_by a b c d e s f g = omega arith

room_less : (a b c : ℕ) → a ≤ b → c + 1 ≡ b → a - 1 ≤ c
room_less a b c h e = omega arith

lt_less : (a b : ℕ) → a < b → a - 1 < b
lt_less a b h = omega arith

live_by : (used chunks sum live k : ℕ) → used ≡ sum + live → 1 + k ≤ chunks - used → live < chunks
live_by used chunks sum live k e h = omega arith

pub live_lt : (x : DomainFrames) (k : ℕ) → 1 + k ≤ x.chunks - x.used → x.slots.live < x.chunks
live_lt x k h = live_by x.used x.chunks _ x.slots.live k x.ok.uses h

-- a segment without a stored frame has no place
pub no_place : {S : Type 0} (m : IndexMap ℕ DomainFrames S) (t : NumberPlaces) (owed : ℕ) → IsStore m t owed → (s : ℕ) (o : Option Place)
    → table.place_of t s ≡ o → stored m o ≡ None → table.place_of t s ≡ None
no_place m t owed h s None e f = e
no_place m t owed h s (Some p) e f =
    let x = stands m t owed h s p e in
    let is : stored m (Some p) ≡ Some (segment_in x.0 p.domain p.slot) = ap (option_map (λ (z : DomainFrames). segment_in z p.domain p.slot)) x.1.is in
    absurd (cc)

-- ---- A domain is written.

module _ {S : Type 0} (m n : IndexMap ℕ DomainFrames S) (d : ℕ) (x y : DomainFrames) (is : get nat_eq m d ≡ Some x)
    (wrote : WritesThrough nat_eq (nat_eq d) m y n) where
  pub here : get nat_eq n d ≡ Some y
  here = (wrote.3 (ap is_some is)).1

  elsewhere : (q : ℕ) → q ≢ d → get nat_eq n q ≡ get nat_eq m q
  elsewhere q ne =
      elim (eqb_tells d q) [
        | inl same ↦ absurd (ne (sym same.1))
        | inr e ↦ (wrote.3 (ap is_some is)).0 q ∙ ap (λ b. cond b (Some y) (get nat_eq m q)) e.0
      ]

  map_is : (f : DomainFrames → ℕ) → f y ≡ f x → (q : ℕ) → option_map f (get nat_eq n q) ≡ option_map f (get nat_eq m q)
  map_is f e q =
      elim (cases_eq q d) [
        | inl same ↦
            ap (λ k. option_map f (get nat_eq n k)) same ∙ ap (option_map f) here ∙ ap (λ k. Some k) e
            ∙ sym (ap (option_map f) is) ∙ ap (λ k. option_map f (get nat_eq m k)) (sym same)
        | inr ne ↦ ap (option_map f) (elsewhere q ne)
      ]

  read_is : (f : DomainFrames → ℕ) → f y ≡ f x → (q : ℕ) → option_map_or f (get nat_eq n q) 0 ≡ option_map_or f (get nat_eq m q) 0
  read_is f e q =
      elim (cases_eq q d) [
        | inl same ↦
            ap (λ k. option_map_or f (get nat_eq n k) 0) same ∙ read_some f (get nat_eq n d) y here ∙ e
            ∙ sym (read_some f (get nat_eq m d) x is) ∙ ap (λ k. option_map_or f (get nat_eq m k) 0) (sym same)
        | inr ne ↦ ap (λ o. option_map_or f o 0) (elsewhere q ne)
      ]

  sum_is : sum_by owed_by (values n) + owed_by x ≡ sum_by owed_by (values m) + owed_by y
  sum_is = ap (λ es. sum_by owed_by (values_of es) + owed_by x) wrote.0 ∙ sum_by-set_value owed_by (nat_eq d) m.entries x y is

  -- the domain may begin a segment that it has begun after
  pub some_owed : (owed : ℕ) → owed ≡ sum_by owed_by (values m) → y.chunks ≡ x.chunks → y.slots.live ≡ x.slots.live + 1 → x.slots.live < x.chunks → 0 < owed
  some_owed owed e chunks live few = some_by _ _ _ _ owed sum_is (owes_less x.chunks x.slots.live y.chunks y.slots.live chunks live few) e

  -- the same is written
  all_is : y ≡ x → (q : ℕ) → get nat_eq n q ≡ get nat_eq m q
  all_is e q =
      elim (cases_eq q d) [
        | inl same ↦ ap (get nat_eq n) same ∙ here ∙ ap (λ (z : DomainFrames). Some z) e ∙ sym is ∙ ap (get nat_eq m) (sym same)
        | inr ne ↦ elsewhere q ne
      ]

  stored_is : y ≡ x → (o : Option Place) → stored n o ≡ stored m o
  stored_is e None = refl
  stored_is e (Some q) = ap (option_map (λ (z : DomainFrames). segment_in z q.domain q.slot)) (all_is e q.domain)

  pub same_content : y ≡ x → (t : NumberPlaces) → IsSame (content_of m t) (content_of n t)
  same_content e t =
      record {
        domains = record {
          pages = refl;
          took_all = refl;
          quota = λ k. ap (option_map (λ (z : DomainFrames). z.chunks)) (all_is e k.0);
          first_page = λ _. refl;
        };
        used = λ k. ap (λ o. option_map_or (λ (z : DomainFrames). z.used) o 0) (all_is e k.0);
        segment = λ r. stored_is e (table.place_of t r.0);
      }

  pub same_store : y ≡ x → (t : NumberPlaces) (owed : ℕ) → IsStore m t owed → IsStore n t owed
  same_store e t owed h =
      record {
        in_domain =
            λ r q f. lt_by q.slot (option_map_or (λ (z : DomainFrames). z.chunks) (get nat_eq m q.domain) 0) q.slot
            (option_map_or (λ (z : DomainFrames). z.chunks) (get nat_eq n q.domain) 0)
            (h.in_domain r q f) refl (ap (λ o. option_map_or (λ (z : DomainFrames). z.chunks) o 0) (all_is e q.domain));
        is_live =
            λ r q f. lt_by _ _ _ _ (h.is_live r q f)
            (ap (λ o. option_map_or (λ (z : DomainFrames). place_in z.slots q.slot) o 0) (all_is e q.domain))
            (ap (λ o. option_map_or (λ (z : DomainFrames). z.slots.live) o 0) (all_is e q.domain));
        has_number = λ r q f. ap (λ o. option_map_or (λ (z : DomainFrames). number_of z.slots q.slot) o 0) (all_is e q.domain) ∙ h.has_number r q f;
        owes = h.owes ∙ same_sum (sum_by owed_by (values n)) (owed_by x) (sum_by owed_by (values m)) (owed_by y) sum_is (ap owed_by e);
        enough = h.enough;
        few = h.few;
      }

  -- ---- A segment begins.

  module _ (t u : NumberPlaces) (owed : ℕ) (s : SegmentNo) (head : FrameHead) (slot : ℕ) (h : IsStore m t owed)
      (begins : domain.Begins x y s.0 head slot) (inserts : Inserts t u s.0 (record { domain = d; slot = slot })) where
    live_in : (r : ℕ) (q : Place) → table.place_of t r ≡ Some q → q.domain ≡ d → IsLive x.slots q.slot
    live_in r q e same =
        let e_get : get nat_eq m q.domain ≡ Some x = ap (get nat_eq m) same ∙ is in (
          lt_by q.slot (option_map_or (λ (z : DomainFrames). z.chunks) (get nat_eq m q.domain) 0) q.slot (size x.slots) (h.in_domain r q e) refl
              (x.ok.slots_are ∙ sym (read_some (λ (z : DomainFrames). z.chunks) (get nat_eq m q.domain) x e_get)),
          lt_by _ _ _ _ (h.is_live r q e)
              (sym (read_some (λ (z : DomainFrames). place_in z.slots q.slot) (get nat_eq m q.domain) x e_get))
              (sym (read_some (λ (z : DomainFrames). z.slots.live) (get nat_eq m q.domain) x e_get)),
        )

    other : (r : ℕ) (q : Place) → table.place_of t r ≡ Some q → q.domain ≡ d → q.slot ≢ slot
    other r q e same e2 = not_both _ _ _ (ap (place_in x.slots) e2) (live_in r q e same).1 begins.takes.was_vacant

    abbrev IsGood : ℕ → Place → Type 0
    IsGood r q =
        (q.slot < option_map_or (λ (z : DomainFrames). z.chunks) (get nat_eq n q.domain) 0)
        × (option_map_or (λ (z : DomainFrames). place_in z.slots q.slot) (get nat_eq n q.domain) 0
        < option_map_or (λ (z : DomainFrames). z.slots.live) (get nat_eq n q.domain) 0)
        × (option_map_or (λ (z : DomainFrames). number_of z.slots q.slot) (get nat_eq n q.domain) 0 ≡ r)

    good_here : IsGood s.0 (record { domain = d; slot = slot })
    good_here = (
      lt_by slot (size x.slots) slot (option_map_or (λ (z : DomainFrames). z.chunks) (get nat_eq n d) 0) begins.takes.within refl
          (read_some (λ (z : DomainFrames). z.chunks) (get nat_eq n d) y here ∙ begins.same_chunks ∙ sym x.ok.slots_are),
      lt_by _ _ _ _ begins.takes.is_live (read_some (λ (z : DomainFrames). place_in z.slots slot) (get nat_eq n d) y here)
          (read_some (λ (z : DomainFrames). z.slots.live) (get nat_eq n d) y here),
      read_some (λ (z : DomainFrames). number_of z.slots slot) (get nat_eq n d) y here ∙ begins.takes.has_number,
    )

    good_before : (r : ℕ) (q : Place) → table.place_of t r ≡ Some q → IsGood r q
    good_before r q e =
        let chunks =
        lt_by q.slot (option_map_or (λ (z : DomainFrames). z.chunks) (get nat_eq m q.domain) 0) q.slot
        (option_map_or (λ (z : DomainFrames). z.chunks) (get nat_eq n q.domain) 0)
        (h.in_domain r q e) refl (read_is (λ (z : DomainFrames). z.chunks) begins.same_chunks q.domain) in
        elim (cases_eq q.domain d) [
          | inl same ↦
              let e_n : get nat_eq n q.domain ≡ Some y = ap (get nat_eq n) same ∙ here in
              let e_m : get nat_eq m q.domain ≡ Some x = ap (get nat_eq m) same ∙ is in
              let live = live_in r q e same in
              let o = begins.takes.others q.slot live.0 (other r q e same) in (
                chunks,
                lt_by _ _ _ _ (o.1 live).1
                    (read_some (λ (z : DomainFrames). place_in z.slots q.slot) (get nat_eq n q.domain) y e_n)
                    (read_some (λ (z : DomainFrames). z.slots.live) (get nat_eq n q.domain) y e_n),
                read_some (λ (z : DomainFrames). number_of z.slots q.slot) (get nat_eq n q.domain) y e_n ∙ o.0
                    ∙ sym (read_some (λ (z : DomainFrames). number_of z.slots q.slot) (get nat_eq m q.domain) x e_m) ∙ h.has_number r q e,
              )
          | inr ne ↦ (
            chunks,
            lt_by _ _ _ _ (h.is_live r q e)
                (ap (λ o. option_map_or (λ (z : DomainFrames). place_in z.slots q.slot) o 0) (elsewhere q.domain ne))
                (ap (λ o. option_map_or (λ (z : DomainFrames). z.slots.live) o 0) (elsewhere q.domain ne)),
            ap (λ o. option_map_or (λ (z : DomainFrames). number_of z.slots q.slot) o 0) (elsewhere q.domain ne) ∙ h.has_number r q e,
          )
        ]

    good : (r : ℕ) (q : Place) → table.place_of u r ≡ Some q → IsGood r q
    good r q e =
        elim (cases_eq r s.0) [
          | inl same ↦
              let q_is : Some (record { domain = d; slot = slot }) ≡ Some q = sym inserts.is_in ∙ ap (table.place_of u) (sym same) ∙ e in
              let q_same : record { domain = d; slot = slot } ≡ q = cc in
              let P : Place → Type 0 = λ k. IsGood r k in
              let Q : ℕ → Type 0 = λ k. IsGood k (record { domain = d; slot = slot }) in
              subst P q_same (subst Q (sym same) good_here)
          | inr ne ↦ good_before r q (sym (inserts.others r ne) ∙ e)
        ]

    pub begun_store : x.slots.live < x.chunks → IsStore n u (owed - 1)
    begun_store room =
        record {
          in_domain = λ r q e. (good r q e).0;
          is_live = λ r q e. (good r q e).1;
          has_number = λ r q e. (good r q e).2;
          owes =
              one_less (sum_by owed_by (values n)) (owed_by x) (sum_by owed_by (values m)) (owed_by y) owed sum_is
              (owes_less x.chunks x.slots.live y.chunks y.slots.live begins.same_chunks begins.takes.live room) h.owes;
          enough = room_less owed t.room u.room h.enough inserts.less_room;
          few = lt_less owed (2 ^ 63) h.few;
        }

    others_are : (r : ℕ) (o : Option Place) → table.place_of t r ≡ o → stored n o ≡ stored m o
    others_are r None e = refl
    others_are r (Some q) e =
        elim (cases_eq q.domain d) [
          | inl same ↦
              let e_n : get nat_eq n q.domain ≡ Some y = ap (get nat_eq n) same ∙ here in
              let e_m : get nat_eq m q.domain ≡ Some x = ap (get nat_eq m) same ∙ is in
              let in_x : q.slot < x.chunks = lt_by q.slot (size x.slots) q.slot x.chunks (live_in r q e same).0 refl (sym x.ok.slots_are) in
              ap (option_map (λ (z : DomainFrames). segment_in z q.domain q.slot)) e_n
              ∙ ap (λ (fs : List FrameState). let g : StoredSegment = record { domain = record { 0 = q.domain }; frames = fs } in Some g)
              (begins.others q.slot in_x (other r q e same))
              ∙ sym (ap (option_map (λ (z : DomainFrames). segment_in z q.domain q.slot)) e_m)
          | inr ne ↦ ap (option_map (λ (z : DomainFrames). segment_in z q.domain q.slot)) (elsewhere q.domain ne)
        ]

    pub begun_changes : Changes (content_of m t) (content_of n u) s (record { 0 = d })
        (Some (record { domain = record { 0 = d }; frames = new_frame head ∷ [] })) ((content_of m t).used (record { 0 = d }) + 1 + head_chunks head)
    begun_changes =
        record {
          domains = record {
            pages = refl;
            took_all = refl;
            quota = λ k. map_is (λ (z : DomainFrames). z.chunks) begins.same_chunks k.0;
            first_page = λ _. refl;
          };
          becomes =
              ap (stored n) inserts.is_in ∙ ap (option_map (λ (z : DomainFrames). segment_in z d slot)) here
              ∙ ap (λ (fs : List FrameState). let g : StoredSegment = record { domain = record { 0 = d }; frames = fs } in Some g) begins.frames;
          others =
              λ r ne.
              ap (stored n) (inserts.others r.0 (λ e. ne (ap (λ k. let z : SegmentNo = record { 0 = k } in z) e)))
              ∙ others_are r.0 (table.place_of t r.0) refl;
          uses =
              read_some (λ (z : DomainFrames). z.used) (get nat_eq n d) y here ∙ begins.uses
              ∙ ap (λ k. k + 1 + head_chunks head) (sym (read_some (λ (z : DomainFrames). z.used) (get nat_eq m d) x is));
          other_domains =
              λ k ne. ap (λ o. option_map_or (λ (z : DomainFrames). z.used) o 0)
              (elsewhere k.0 (λ same. ne (ap (λ j. let z : DomainId = record { 0 = j } in z) same)));
        }
