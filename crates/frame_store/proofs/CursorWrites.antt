-- What a write in the domain at the cursor makes of a store's content.
use Rattle.std.proofs.Common.{◌≡◌, ℕ, ◌<◌, ◌≤◌, ◌++◌, ◌∷◌, [], length, Some, nat_eq, slice_get, sym, ap, subst, ◌∙◌, List}
use Rattle.std.specs.HashMap.{WritesThrough}
use Rattle.jk_model.specs.declared.identifiers.SegmentNo.{SegmentNo}
use Rattle.jk_model.specs.declared.values.Value.{Value}
use Rattle.jk_model_frames.specs.Frames.{FrameState}
use Rattle.indexmap.specs.IndexMap.{IndexMap, IsUnique, values, with_value_at}
use Rattle.frame_store.specs.declared.cursor.Cursor.{Cursor}
use Rattle.frame_store.specs.declared.domain_frames.DomainFrames.{DomainFrames}
use Rattle.number_table.specs.declared.entry_table.Place.{Place}
use Rattle.number_table.specs.NumberPlaces.{NumberPlaces}
use Rattle.frame_store.specs.FrameContents.{FrameContent, TopFrame, SetsTop, TakesEntry, DropsEntries, ExchangesEntries}
use Rattle.frame_store.specs.DomainMoves.{locals_at, lower_of, top_of, value_at, IsFrameNumber, IsTopOf, Becomes, TakesTopEntry, DropsTopEntries, ExchangesTopEntries}
use Rattle.frame_store.specs.StoreContents.{content_of, IsStore, IsFound}
use Rattle.frame_store.specs.Cursors.{HasValuesAt, IsCursor, IsRightFor, PointsAt}
use Rattle.frame_store.proofs.TopEntries.{SomeOnTop, some_on_top}
use Rattle.frame_store.proofs.StoreChanges.{found_top, found_top_is, store_kept}
use Rattle.frame_store.proofs.StoreSteps.{steps_top}
use Rattle.frame_store.proofs.WrittenAt.{written_at}
use Rattle.frame_store.proofs.CursorPoints.{found_at, stands_at, found_read, frame_is, second_at, value_is, still_right, within}

module _ {S : Type 0} (old : FrameContent) (m : IndexMap ℕ DomainFrames S) (t : NumberPlaces) (owed : ℕ) (s : SegmentNo) (h : IsStore m t owed) (c : Cursor)
    (k : PointsAt m t s.0 c) (same : content_of m t ≡ old) where
  -- a domain is at the cursor
  pub at_domain : c.domain < length m.entries
  at_domain = within m t owed s h c.domain c.frame k.top

  module _ (x : DomainFrames) (d : ℕ) (reads : slice_get m.entries c.domain ≡ Some (d, x)) where
    abbrev read : Some x ≡ slice_get (values m) c.domain
    read = second_at m.entries c.domain d x reads

    abbrev slot : ℕ
    slot = (found_at m t owed s h c.domain c.frame k.top).1

    abbrev found : IsFound m t s.0 x slot
    found = found_read m t owed s h c.domain c.frame k.top x read

    top_is : IsTopOf x slot c.frame
    top_is = k.top.top x slot found

    still : (f : FrameState) → TopFrame old s f → TopFrame (content_of m t) s f
    still f top = subst (λ q. TopFrame q s f) (sym same) top

    was_top : (f : FrameState) → TopFrame old s f → f ≡ top_of x slot
    was_top f top = (found_top_is m t owed s h x slot found f (still f top)).1

    pub frame_at : IsFrameNumber x c.frame
    frame_at = frame_is m t owed s h c.domain c.frame k.top x slot found

    pub values_at : HasValuesAt x c
    values_at = k.values x slot found

    pub value_was : (f : FrameState) → TopFrame old s f → f ≡ value_at x c.frame
    value_was f top = value_is m t owed s h c.domain c.frame k.top x slot found f (still f top)

    module _ (y : DomainFrames) (unique : IsUnique nat_eq m) where
      abbrev n : IndexMap ℕ DomainFrames S
      n = with_value_at m c.domain y

      wrote : WritesThrough nat_eq (nat_eq found.domain) m y n
      wrote = written_at m found.domain c.domain (stands_at m t owed s h c.domain c.frame k.top) y unique

      -- the top frame becomes what the change makes of it
      abbrev SetsBy : (FrameState → FrameState) → Type 0
      SetsBy change = (i : ℕ) → IsTopOf x i c.frame → Becomes x y i (lower_of x i ++ change (top_of x i) ∷ []) x.used

      abbrev SameLocals : Type 0
      SameLocals = locals_at y c.frame ≡ locals_at x c.frame

      abbrev Stays : Type 0
      Stays = IsStore n t owed × IsCursor n t c

      stays_by : (fs : List FrameState) → Becomes x y slot fs x.used → y.frames ≡ x.frames → y.parts ≡ x.parts → SameLocals → c.segment ≡ s.0 → Stays
      stays_by fs b frames parts locals at =
          let p : Place = record { domain = found.domain; slot = slot } in
          let P : ℕ → Type 0 = λ q. IsRightFor n t q c in (
            store_kept m n t owed s p x y h found.at found.is wrote b.same_chunks b.same_slots,
            subst P (sym at) (still_right m t owed s x y slot h c k found wrote b.same_chunks frames parts locals),
          )

      sets_by : (f g : FrameState) → TopFrame old s f → Becomes x y slot (lower_of x slot ++ g ∷ []) x.used → SetsTop old (content_of n t) s g
      sets_by f g top b =
          let p : Place = record { domain = found.domain; slot = slot } in
          let P : FrameContent → Type 0 = λ q. SetsTop q (content_of n t) s g in
          subst P same (steps_top m n t owed s p x y h found.at found.is wrote (found_top m t owed s h x slot found f (still f top)) g b)

      pub set_stays : (change : FrameState → FrameState) → SetsBy change → y.frames ≡ x.frames → y.parts ≡ x.parts → SameLocals → c.segment ≡ s.0 → Stays
      set_stays change b frames parts locals at = stays_by (lower_of x slot ++ change (top_of x slot) ∷ []) (b slot top_is) frames parts locals at

      pub sets : (change : FrameState → FrameState) → SetsBy change → (f : FrameState) → TopFrame old s f → SetsTop old (content_of n t) s (change f)
      sets change b f top =
          let P : FrameState → Type 0 = λ g. SetsTop old (content_of n t) s (change g) in
          subst P (sym (was_top f top)) (sets_by f (change (top_of x slot)) top (b slot top_is))

      -- an entry is taken off the top frame
      abbrev TakesOff : Value → Type 0
      TakesOff v = (i : ℕ) → IsTopOf x i c.frame → TakesTopEntry x y i v

      pub taken_stays : (v : Value) → TakesOff v → y.frames ≡ x.frames → y.parts ≡ x.parts → SameLocals → c.segment ≡ s.0 → Stays
      taken_stays v b frames parts locals at = stays_by _ (b slot top_is).2 frames parts locals at

      pub takes : (v : Value) → TakesOff v → (f : FrameState) → TopFrame old s f → TakesEntry old (content_of n t) s f v
      takes v b f top =
          let e = b slot top_is in
          let P : FrameState → Type 0 = λ g. SetsTop old (content_of n t) s (record g { stack = e.0 }) in (
            e.0,
            ap (λ (g : FrameState). g.stack) (was_top f top) ∙ e.1,
            subst P (sym (was_top f top)) (sets_by f (record (top_of x slot) { stack = e.0 }) top e.2),
          )

      -- several entries are taken off the top frame
      module _ (many : ℕ) where
        enough_on_top : many ≤ length (value_at x c.frame).stack → SomeOnTop (top_of x slot).stack many
        enough_on_top enough = some_on_top (top_of x slot).stack many (subst (λ q. many ≤ length (value_at x q).stack) top_is.is enough)

        abbrev DropsOff : Type 0
        DropsOff = (i : ℕ) → IsTopOf x i c.frame → DropsTopEntries x y i many

        pub dropped_stays : DropsOff → many ≤ length (value_at x c.frame).stack → y.frames ≡ x.frames → y.parts ≡ x.parts → SameLocals
            → c.segment ≡ s.0 → Stays
        dropped_stays b enough frames parts locals at =
            let split = enough_on_top enough in
            stays_by _ (b slot top_is split.below split.given split.are split.many) frames parts locals at

        pub drops : DropsOff → (f : FrameState) → TopFrame old s f → DropsEntries old (content_of n t) s f many
        drops b f top below given stack as_many =
            let same = was_top f top in
            let e = b slot top_is below given (ap (λ (g : FrameState). g.stack) (sym same) ∙ stack) as_many in
            let P : FrameState → Type 0 = λ g. SetsTop old (content_of n t) s (record g { stack = below }) in
            subst P (sym same) (sets_by f (record (top_of x slot) { stack = below }) top e)

        -- and a value comes in their place
        module _ (v : Value) where
          abbrev Exchanges : Type 0
          Exchanges = (i : ℕ) → IsTopOf x i c.frame → ExchangesTopEntries x y i many v

          pub exchanged_stays : Exchanges → many ≤ length (value_at x c.frame).stack → y.frames ≡ x.frames → y.parts ≡ x.parts → SameLocals
              → c.segment ≡ s.0 → Stays
          exchanged_stays b enough frames parts locals at =
              let split = enough_on_top enough in
              stays_by _ (b slot top_is split.below split.given split.are split.many) frames parts locals at

          pub exchanges : Exchanges → (f : FrameState) → TopFrame old s f → ExchangesEntries old (content_of n t) s f many v
          exchanges b f top below given stack as_many =
              let same = was_top f top in
              let e = b slot top_is below given (ap (λ (g : FrameState). g.stack) (sym same) ∙ stack) as_many in
              let P : FrameState → Type 0 = λ g. SetsTop old (content_of n t) s (record g { stack = below ++ v ∷ [] }) in
              subst P (sym same) (sets_by f (record (top_of x slot) { stack = below ++ v ∷ [] }) top e)
