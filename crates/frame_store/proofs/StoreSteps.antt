-- What the calls on one segment make of a store's content.
use Rattle.std.proofs.Common.{◌≡◌, ℕ, ◌+◌, ◌-◌, List, [], ◌∷◌, ◌++◌, Option, Some, None, option_map, nat_eq, refl, sym, ap, subst, ◌∙◌, inl, inr}
use Rattle.std.specs.Option.{option_map_or}
use Rattle.std.specs.HashMap.{WritesThrough}
use Rattle.std.proofs.lemmas.Bool.{cases_eq}
use Rattle.std.proofs.lemmas.Option.{same_Some}
use Rattle.jk_model.specs.declared.frames.FrameHead.{FrameHead}
use Rattle.jk_model.specs.declared.identifiers.SegmentNo.{SegmentNo}
use Rattle.jk_model.specs.declared.values.Value.{Value}
use Rattle.jk_model_frames.specs.Frames.{FrameState, called_frame, new_frame, head_chunks}
use Rattle.indexmap.specs.IndexMap.{IndexMap, get}
use Rattle.frame_store.specs.declared.domain_frames.DomainFrames.{DomainFrames}
use Rattle.number_table.specs.declared.entry_table.Place.{Place}
use Rattle.number_table.specs.NumberPlaces.{NumberPlaces}
use Rattle.frame_store.specs.FrameContents.{StoredSegment, Calls, Changes, GivesBack, IsSame, SetsTop, Pops, Pushes, gone_on}
use Rattle.number_table.specs.NumberPlaces as table
use Rattle.frame_store.specs.DomainMoves.{frames_of, top_of, lower_of, HasTop, Becomes, CallsOn, GivesTopBack}
use Rattle.frame_store.specs.StoreContents.{content_of, stored, IsFound, IsStore}
use Rattle.frame_store.proofs.TopIsWritten.{frames_more}
use Rattle.frame_store.proofs.StoreChanges.{segment_in, found_top_is, get_here, get_other, store_changes, used_is, segment_is}

module _ {S : Type 0} (m n : IndexMap ℕ DomainFrames S) (t : NumberPlaces) (owed : ℕ) (s : SegmentNo) (p : Place) (x y : DomainFrames) (h : IsStore m t owed)
    (at : table.place_of t s.0 ≡ Some p) (is : get nat_eq m p.domain ≡ Some x) (wrote : WritesThrough nat_eq (nat_eq p.domain) m y n) where
  abbrev segment_here : StoredSegment
  segment_here = segment_in x p.domain p.slot

  abbrev ChangesTo : List FrameState → ℕ → Type 0
  ChangesTo fs used =
      Changes (content_of m t) (content_of n t) s (record { 0 = p.domain }) (Some (record { domain = record { 0 = p.domain }; frames = fs })) used

  use_is : (content_of m t).used (record { 0 = p.domain }) ≡ x.used
  use_is = used_is m n t owed s p x y h at is wrote

  pub steps_top : HasTop x p.slot → (g : FrameState) → Becomes x y p.slot (lower_of x p.slot ++ g ∷ []) x.used → SetsTop (content_of m t) (content_of n t) s g
  steps_top top g b =
      let c = store_changes m n t owed s p x y h at is wrote (lower_of x p.slot ++ g ∷ []) x.used b in
      let P : ℕ → Type 0 = λ u. ChangesTo (lower_of x p.slot ++ g ∷ []) u in (
        top_of x p.slot,
        record {
          segment = segment_here;
          is_there = segment_is m n t owed s p x y h at is wrote;
          lower = lower_of x p.slot;
          frames = frames_more x p.slot top;
        },
        subst P (sym use_is) c,
      )

  pub steps_pop : HasTop x p.slot → Becomes x y p.slot (lower_of x p.slot) (x.used - head_chunks (top_of x p.slot).head)
      → Pops (content_of m t) (content_of n t) s
  steps_pop top b =
      let c = store_changes m n t owed s p x y h at is wrote (lower_of x p.slot) (x.used - head_chunks (top_of x p.slot).head) b in
      let P : ℕ → Type 0 = λ u. ChangesTo (lower_of x p.slot) (u - head_chunks (top_of x p.slot).head) in (
        top_of x p.slot,
        record {
          segment = segment_here;
          is_there = segment_is m n t owed s p x y h at is wrote;
          lower = lower_of x p.slot;
          frames = frames_more x p.slot top;
        },
        subst P (sym use_is) c,
      )

  pub steps_push : (head : FrameHead) → Becomes x y p.slot (frames_of x p.slot ++ new_frame head ∷ []) (x.used + head_chunks head)
      → Pushes (content_of m t) (content_of n t) s head
  steps_push head b =
      let fs = frames_of x p.slot ++ new_frame head ∷ [] in
      let c = store_changes m n t owed s p x y h at is wrote fs (x.used + head_chunks head) b in
      let P : ℕ → Type 0 = λ u. ChangesTo fs (u + head_chunks head) in
      (segment_here, segment_is m n t owed s p x y h at is wrote, subst P (sym use_is) c)

  pub steps_call : (head : FrameHead) (count : ℕ) → CallsOn x y p.slot head count → Calls (content_of m t) (content_of n t) s head count
  steps_call head count calls f top below given stack many =
      let found : IsFound m t s.0 x p.slot = record { domain = p.domain; at = at; is = is } in
      let same = found_top_is m t owed s h x p.slot found f top in
      let segment = same_Some segment_here top.segment (sym (segment_is m n t owed s p x y h at is wrote) ∙ top.is_there) in
      let frames : List FrameState → FrameState → List FrameState =
      λ lower (g : FrameState). lower ++ record g { stack = below } ∷ called_frame head given ∷ [] in
      let c = store_changes m n t owed s p x y h at is wrote (frames (lower_of x p.slot) (top_of x p.slot)) (x.used + head_chunks head)
      (calls below given (ap (λ (g : FrameState). g.stack) (sym same.1) ∙ stack) many) in
      let P : ℕ → Type 0 = λ u. ChangesTo (frames (lower_of x p.slot) (top_of x p.slot)) (u + head_chunks head) in
      let Q : StoredSegment → List FrameState → FrameState → Type 0 = λ k lower g.
      Changes (content_of m t) (content_of n t) s k.domain (Some (record k { frames = frames lower g })) ((content_of m t).used k.domain + head_chunks head) in
      let one : Q segment_here (lower_of x p.slot) (top_of x p.slot) = subst P (sym use_is) c in
      let two : Q segment_here top.lower (top_of x p.slot) = subst (λ l. Q segment_here l (top_of x p.slot)) (sym same.0) one in
      let three : Q segment_here top.lower f = subst (λ g. Q segment_here top.lower g) (sym same.1) two in
      subst (λ k. Q k top.lower f) segment three

  pub steps_give_back : (v : Option Value) → GivesTopBack x y p.slot v → GivesBack (content_of m t) (content_of n t) s v
  steps_give_back v gives g there lower below top are =
      let segment = same_Some segment_here g (sym (segment_is m n t owed s p x y h at is wrote) ∙ there) in
      let c = store_changes m n t owed s p x y h at is wrote (lower ++ gone_on v below ∷ []) (x.used - head_chunks top.head)
      (gives lower below top (ap (λ (k : StoredSegment). k.frames) segment ∙ are)) in
      let P : ℕ → Type 0 = λ u. ChangesTo (lower ++ gone_on v below ∷ []) (u - head_chunks top.head) in
      let Q : StoredSegment → Type 0 = λ (k : StoredSegment).
      Changes (content_of m t) (content_of n t) s k.domain (Some (record k { frames = lower ++ gone_on v below ∷ [] }))
      ((content_of m t).used k.domain - head_chunks top.head) in
      subst Q segment (subst P (sym use_is) c)

  -- nothing is written
  get_all : y ≡ x → (q : ℕ) → get nat_eq n q ≡ get nat_eq m q
  get_all e q =
      elim (cases_eq q p.domain) [
        | inl same ↦
            ap (get nat_eq n) same ∙ get_here m n t owed s p x y h at is wrote ∙ ap (λ (z : DomainFrames). Some z) e ∙ sym is ∙ ap (get nat_eq m) (sym same)
        | inr ne ↦ get_other m n t owed s p x y h at is wrote q ne
      ]

  stored_all : y ≡ x → (o : Option Place) → stored n o ≡ stored m o
  stored_all e None = refl
  stored_all e (Some q) = ap (option_map (λ (z : DomainFrames). segment_in z q.domain q.slot)) (get_all e q.domain)

  pub steps_none : y ≡ x → IsSame (content_of m t) (content_of n t)
  steps_none e =
      record {
        domains = record {
          pages = refl;
          took_all = refl;
          quota = λ d. ap (option_map (λ (z : DomainFrames). z.chunks)) (get_all e d.0);
          first_page = λ _. refl;
        };
        used = λ d. ap (λ o. option_map_or (λ (z : DomainFrames). z.used) o 0) (get_all e d.0);
        segment = λ r. stored_all e (table.place_of t r.0);
      }
