-- The top frame of a segment, where a cursor or a look-up has it.
use Rattle.std.proofs.Common.{◌≡◌, ◌*◌, ◌<◌, ◌≤◌, ◌-◌, ℕ, List, ◌∷◌, ◌++◌, [], length, arith, Option, Some, None, IsSome, is_some, nat_eq, option_map, slice_get, refl, sym, ap, subst, zero, suc, ◌∙◌}
use Rattle.std.specs.HashMap.{WritesThrough}
use Rattle.std.proofs.lemmas.List.{length_push}
use Rattle.std.proofs.lemmas.Option.{slice_get-map, slice_get_within, same_Some}
use Rattle.std.specs.Map.{values_of}
use Rattle.jk_model.specs.declared.identifiers.SegmentNo.{SegmentNo}
use Rattle.jk_model_frames.specs.Frames.{FrameState}
use Rattle.indexmap.specs.IndexMap.{IndexMap, IsUnique, get, values, with_value_at, set_value_at}
use Rattle.number_table.specs.declared.chains.Chains.{Chains}
use Rattle.frame_store.specs.declared.cursor.Cursor.{Cursor}
use Rattle.frame_store.specs.declared.domain_frames.DomainFrames.{DomainFrames}
use Rattle.number_table.specs.declared.entry_table.Place.{Place}
use Rattle.number_table.specs.NumberPlaces.{NumberPlaces}
use Rattle.frame_store.specs.declared.slot_set.SlotSet.{SlotSet}
use Rattle.frame_store.specs.FrameContents.{IsThere, TopFrame, HasTop as HasTopFrame}
use Rattle.number_table.specs.NumberPlaces as table
use Rattle.frame_store.specs.Builds.{length-build}
use Rattle.frame_store.specs.SlotMoves.{IsLive}
use Rattle.number_table.specs.ChainMoves.{count, place}
use Rattle.frame_store.specs.DomainMoves.{depth_of, frames_of, locals_at, start_of, top_number, value_at, HasTop, IsSlot, IsTopOf, IsFrameNumber, Becomes}
use Rattle.frame_store.specs.StoreContents.{content_of, IsStore, IsFound, IsStanding, StandsAt}
use Rattle.frame_store.specs.StoreIsContent.{stands}
use Rattle.frame_store.specs.Cursors.{AimsIfThere, HasDomainAt, HasValuesAt, IsAimed, IsCursor, IsRightFor, IsTopAt, PointsAt}
use Rattle.frame_store.proofs.StoreChanges.{found_slot, found_top, found_top_is, get_here, standing_at, standing_there}
use Rattle.frame_store.proofs.TopIsWritten.{is_top_frame}
use Rattle.frame_store.proofs.WrittenAt.{read_at, written_at}

-- where something stands at a place of a list of pairs
pub second_at : {X : Type 0} (es : List (ℕ × X)) (i k : ℕ) (x : X) → slice_get es i ≡ Some (k, x) → Some x ≡ slice_get (values_of es) i
second_at {X = X} es i k x e = sym (slice_get-map (λ (p : ℕ × X). p.1) es i ∙ ap (option_map (λ (p : ℕ × X). p.1)) e)

-- where an option has a place
pub some_place : (o : Option Place) → IsSome o → (p : Place) × (o ≡ Some p)
some_place None e = absurd (cc)
some_place (Some p) e = (p, refl)

-- the frame in a domain in which the segment is found
module _ {S : Type 0} (m : IndexMap ℕ DomainFrames S) (t : NumberPlaces) (owed : ℕ) (s : SegmentNo) (h : IsStore m t owed)
    (at frame : ℕ) (k : IsTopAt m t s.0 at frame)
    (x : DomainFrames) (slot : ℕ) (f : IsFound m t s.0 x slot) where
  pub frame_is : IsFrameNumber x frame
  frame_is = let top = k.top x slot f in is_top_frame x slot frame top.has_top top.is

  pub value_is : (g : FrameState) → TopFrame (content_of m t) s g → g ≡ value_at x frame
  value_is g top = (found_top_is m t owed s h x slot f g top).1 ∙ ap (value_at x) (sym (k.top x slot f).is)

module _ {S : Type 0} (m : IndexMap ℕ DomainFrames S) (t : NumberPlaces) (owed : ℕ) (s : SegmentNo) (h : IsStore m t owed)
    (at frame : ℕ) (k : IsTopAt m t s.0 at frame) where
  -- the segment's domain
  abbrev pub found_at : IsStanding m t s.0
  found_at =
      let p = some_place (table.place_of t s.0) k.in_table in
      let x = stands m t owed h s.0 p.0 p.1 in
      (x.0, p.0.slot, record { domain = p.0.domain; at = p.1; is = x.1.is })

  abbrev pub stands_at : StandsAt m found_at.2.domain at
  stands_at = record { domain = found_at.0; entry = k.entry found_at.0 found_at.1 found_at.2; is = found_at.2.is }

  pub has_domain : HasDomainAt m at
  has_domain = (found_at.2.domain, stands_at)

  pub within : at < length m.entries
  within = slice_get_within m.entries at _ stands_at.entry

  -- where the domain at the place is read from the map's entries
  module _ (es : List (ℕ × DomainFrames)) (same : es ≡ m.entries) where
    pub reads_within : at < length es
    reads_within = omega (arith, within, ap (λ (q : List (ℕ × DomainFrames)). length q) same)

    pub reads_at : (x : DomainFrames) → slice_get (values_of es) at ≡ Some x → (d : ℕ) (stands : StandsAt m d at) → x ≡ stands.domain
    reads_at x e d stands =
        let here = second_at m.entries at d stands.domain stands.entry in
        same_Some x stands.domain (sym e ∙ ap (λ (q : List (ℕ × DomainFrames)). slice_get (values_of q) at) same ∙ sym here)

  -- where a call reads the domain at the place
  module _ (x : DomainFrames) (reads : (d : ℕ) (stands : StandsAt m d at) → x ≡ stands.domain) where
    pub found_here : IsFound m t s.0 x found_at.1
    found_here =
        let same = reads found_at.2.domain stands_at in
        record { domain = found_at.2.domain; at = found_at.2.at; is = found_at.2.is ∙ ap (λ (z : DomainFrames). Some z) (sym same) }

    pub frame_here : IsFrameNumber x frame
    frame_here = frame_is m t owed s h at frame k x found_at.1 found_here

    pub value_here : (g : FrameState) → TopFrame (content_of m t) s g → g ≡ value_at x frame
    value_here = value_is m t owed s h at frame k x found_at.1 found_here

  -- where a call may write there
  abbrev pub found_read : (x : DomainFrames) → Some x ≡ slice_get (values m) at → IsFound m t s.0 x found_at.1
  found_read x e =
      record { domain = found_at.2.domain; at = found_at.2.at; is = read_at m found_at.2.domain at stands_at x e }

-- what is written at a place of a list of pairs
pub set_here : {X : Type 0} (es : List (ℕ × X)) (i d : ℕ) (x y : X) → slice_get es i ≡ Some (d, x) → slice_get (set_value_at es i y) i ≡ Some (d, y)
set_here [] i d x y e = absurd (cc)
set_here (f ∷ es) zero d x y e = let same : f.0 ≡ d = cc in ap (λ k. Some (k, y)) same
set_here (f ∷ es) (suc i) d x y e = set_here es i d x y e

-- ---- A cursor that has what is found.

module _ {S : Type 0} (m : IndexMap ℕ DomainFrames S) (t : NumberPlaces) (s : ℕ) (c : Cursor) (x : DomainFrames) (slot : ℕ) (f : IsFound m t s x slot)
    (is_place : c.place ≡ record { domain = f.domain; slot = slot }) (is_entry : slice_get m.entries c.domain ≡ Some (f.domain, x))
    (is_top : HasTop x slot → c.frame ≡ top_number x slot) (are_values : HasTop x slot → HasValuesAt x c) where
  module _ (z : DomainFrames) (i : ℕ) (g : IsFound m t s z i) where
    same_place : (let here : Place = record { domain = g.domain; slot = i } in let there : Place = record { domain = f.domain; slot = slot } in here ≡ there)
    same_place = same_Some _ _ (sym g.at ∙ f.at)

    same_domain : g.domain ≡ f.domain
    same_domain = ap (λ (q : Place). q.domain) same_place

    same_slot : i ≡ slot
    same_slot = ap (λ (q : Place). q.slot) same_place

    same_frames : z ≡ x
    same_frames = same_Some z x (sym g.is ∙ ap (get nat_eq m) same_domain ∙ f.is)

    entry_at : slice_get m.entries c.domain ≡ Some (g.domain, z)
    entry_at = is_entry ∙ ap (λ d. Some (d, x)) (sym same_domain) ∙ ap (λ (w : DomainFrames). Some (g.domain, w)) (sym same_frames)

    top_here : HasTop z i → HasTop x slot
    top_here top =
        let Here : ℕ → Type 0 = λ j. HasTop z j in
        let There : DomainFrames → Type 0 = λ (w : DomainFrames). HasTop w slot in
        subst There same_frames (subst Here same_slot top)

    frame_at : HasTop z i → c.frame ≡ top_number z i
    frame_at top = is_top (top_here top) ∙ ap (λ (w : DomainFrames). top_number w slot) (sym same_frames) ∙ ap (top_number z) (sym same_slot)

    values_at : HasTop z i → HasValuesAt z c
    values_at top =
        let P : DomainFrames → Type 0 = λ (w : DomainFrames). HasValuesAt w c in
        subst P (sym same_frames) (are_values (top_here top))

  pub is_right : IsRightFor m t s c
  is_right = record { place = λ z i g. is_place ∙ sym (same_place z i g); entry = entry_at; frame = frame_at; values = values_at }

module _ {S : Type 0} (m : IndexMap ℕ DomainFrames S) (t : NumberPlaces) (s : ℕ) (c : Cursor) (none : table.place_of t s ≡ None) where
  never_found : (x : DomainFrames) (slot : ℕ) → IsFound m t s x slot → ⊥
  never_found x slot f =
      let p : Place = record { domain = f.domain; slot = slot } in
      let some : None ≡ Some p = sym none ∙ f.at in
      absurd (cc)

  -- a cursor at a segment that isn't in the table says nothing
  pub right_nowhere : IsRightFor m t s c
  right_nowhere =
      record {
        place = λ x i f. absurd (never_found x i f);
        entry = λ x i f. absurd (never_found x i f);
        frame = λ x i f _. absurd (never_found x i f);
        values = λ x i f _. absurd (never_found x i f);
      }

-- ---- What a cursor at a segment has.

module _ {S : Type 0} (m : IndexMap ℕ DomainFrames S) (t : NumberPlaces) (owed : ℕ) (s : SegmentNo) (h : IsStore m t owed) (c : Cursor)
    (k : IsRightFor m t s.0 c) where
  pub points : HasTopFrame (content_of m t) s → PointsAt m t s.0 c
  points has =
      let there = standing_at m t owed s h has.1.segment has.1.is_there in
      let found = there.2 in
      let top : (x : DomainFrames) (slot : ℕ) → IsFound m t s.0 x slot → HasTop x slot = λ x slot f. found_top m t owed s h x slot f has.0 has.1 in
      record {
        place = found.at ∙ ap (λ q. Some q) (sym (k.place there.0 there.1 found));
        top = record {
          in_table = ap is_some found.at;
          entry = k.entry;
          top = λ x slot f. record { has_top = top x slot f; is = k.frame x slot f (top x slot f) };
        };
        values = λ x slot f. k.values x slot f (top x slot f);
      }

  module _ (there : IsThere (content_of m t) s) where
    abbrev found_there : IsStanding m t s.0
    found_there = standing_there m t owed s h there

    place_there : c.place ≡ record { domain = found_there.2.domain; slot = found_there.1 }
    place_there = k.place found_there.0 found_there.1 found_there.2

    -- the cursor's domain
    abbrev found_cursor : IsFound m t s.0 found_there.0 c.place.slot
    found_cursor =
        record {
          domain = c.place.domain;
          at = found_there.2.at ∙ ap (λ q. Some q) (sym place_there);
          is = ap (get nat_eq m) (ap (λ (q : Place). q.domain) place_there) ∙ found_there.2.is;
        }

    abbrev stands_cursor : StandsAt m c.place.domain c.domain
    stands_cursor = record { domain = found_there.0; entry = k.entry found_there.0 c.place.slot found_cursor; is = found_cursor.is }

    pub within_cursor : c.domain < length m.entries
    within_cursor = slice_get_within m.entries c.domain _ stands_cursor.entry

    -- where the domain at the cursor is read from the map's entries
    module _ (es : List (ℕ × DomainFrames)) (same : es ≡ m.entries) (x : DomainFrames) (reads : slice_get (values_of es) c.domain ≡ Some x) where
      same_read : found_there.0 ≡ x
      same_read =
          same_Some found_there.0 x
          (second_at m.entries c.domain _ found_there.0 stands_cursor.entry
          ∙ ap (λ (q : List (ℕ × DomainFrames)). slice_get (values_of q) c.domain) (sym same) ∙ reads)

      pub found_where_read : IsFound m t s.0 x c.place.slot
      found_where_read =
          record { domain = c.place.domain; at = found_cursor.at; is = found_cursor.is ∙ ap (λ (w : DomainFrames). Some w) same_read }

      pub slot_where_read : IsSlot x c.place.slot
      slot_where_read = found_slot m t owed s h x c.place.slot found_where_read

    module _ (x : DomainFrames) (d : ℕ) (reads : slice_get m.entries c.domain ≡ Some (d, x)) where
      same_there : found_there.0 ≡ x
      same_there = same_Some found_there.0 x (second_at m.entries c.domain _ found_there.0 stands_cursor.entry ∙ sym (second_at m.entries c.domain d x reads))

      pub placed_there : table.place_of t s.0 ≡ Some c.place
      placed_there = found_cursor.at

      pub read_there : get nat_eq m c.place.domain ≡ Some x
      read_there = found_cursor.is ∙ ap (λ (w : DomainFrames). Some w) same_there

      -- the domain that is read at the cursor
      abbrev pub found_read_at : IsFound m t s.0 x c.place.slot
      found_read_at = record { domain = c.place.domain; at = placed_there; is = read_there }

      pub slot_there : IsSlot x c.place.slot
      slot_there = found_slot m t owed s h x c.place.slot found_read_at

      pub top_there : HasTopFrame (content_of m t) s → HasTop x c.place.slot
      top_there has = found_top m t owed s h x c.place.slot found_read_at has.0 has.1

      module _ (y : DomainFrames) (unique : IsUnique nat_eq m) where
        pub wrote_cursor : WritesThrough nat_eq (nat_eq c.place.domain) m y (with_value_at m c.domain y)
        wrote_cursor = written_at m c.place.domain c.domain stands_cursor y unique

        abbrev found_wrote : IsFound (with_value_at m c.domain y) t s.0 y c.place.slot
        found_wrote =
            record {
              domain = c.place.domain;
              at = placed_there;
              is = get_here m (with_value_at m c.domain y) t owed s c.place x y h placed_there read_there wrote_cursor;
            }

        -- a cursor at the same place is right after a write there, if it is for the top frame
        pub right_again : (b : Cursor) → b.place ≡ c.place → b.domain ≡ c.domain → (HasTop y c.place.slot → b.frame ≡ top_number y c.place.slot)
            → (HasTop y c.place.slot → HasValuesAt y b) → IsRightFor (with_value_at m c.domain y) t s.0 b
        right_again b at_place at_domain at_frame at_values =
            let n = with_value_at m c.domain y in
            is_right n t s.0 b y c.place.slot found_wrote at_place
            (ap (slice_get n.entries) at_domain ∙ set_here m.entries c.domain c.place.domain found_there.0 y stands_cursor.entry) at_frame at_values

        pub aimed_again : (b : Cursor) → IsAimed y c b → c.segment ≡ s.0 → IsCursor (with_value_at m c.domain y) t b
        aimed_again b aimed here =
            let P : ℕ → Type 0 = λ r. IsRightFor (with_value_at m c.domain y) t r b in
            subst P (sym (aimed.segment ∙ here)) (right_again b aimed.place aimed.domain (λ _. aimed.frame) (λ _. aimed.values))

        pub aims_again : (b : Cursor) → AimsIfThere y c b → c.segment ≡ s.0 → IsCursor (with_value_at m c.domain y) t b
        aims_again b aims here =
            let P : ℕ → Type 0 = λ r. IsRightFor (with_value_at m c.domain y) t r b in
            subst P (sym (aims.segment ∙ here)) (right_again b aims.place aims.domain aims.frame aims.values)

module _ {S : Type 0} (m : IndexMap ℕ DomainFrames S) (t : NumberPlaces) (owed : ℕ) (s : SegmentNo) (h : IsStore m t owed) (c : Cursor)
    (k : IsRightFor m t s.0 c) (there : IsThere (content_of m t) s) (x : DomainFrames) (d : ℕ) (reads : slice_get m.entries c.domain ≡ Some (d, x))
    (unique : IsUnique nat_eq m) (here : c.segment ≡ s.0) where
  -- where nothing is written
  pub same_again : IsCursor (with_value_at m c.domain x) t c
  same_again =
      let f = found_read_at m t owed s h c k there x d reads in
      let P : ℕ → Type 0 = λ r. IsRightFor (with_value_at m c.domain x) t r c in
      subst P (sym here) (right_again m t owed s h c k there x d reads x unique c refl refl (k.frame x c.place.slot f) (k.values x c.place.slot f))

-- ---- After a write in the domain that leaves its chains as they are.

same_top : (x y : DomainFrames) (i frame : ℕ) → y.chunks ≡ x.chunks → y.frames ≡ x.frames → IsTopOf x i frame → IsTopOf y i frame
same_top x y i frame chunks frames top =
    let Deep : Chains → Type 0 = λ (q : Chains). 0 < count q i in
    let Is : Chains → Type 0 = λ (q : Chains). frame ≡ place q i (count q i - 1) in
    record { has_top = (subst (λ n. i < n) (sym chunks) top.has_top.0, subst Deep (sym frames) top.has_top.1); is = subst Is (sym frames) top.is }

module _ {S : Type 0} (m : IndexMap ℕ DomainFrames S) (t : NumberPlaces) (owed : ℕ) (s : SegmentNo) (x y : DomainFrames) (slot : ℕ)
    (h : IsStore m t owed) (c : Cursor) (k : PointsAt m t s.0 c) (f : IsFound m t s.0 x slot)
    (wrote : WritesThrough nat_eq (nat_eq f.domain) m y (with_value_at m c.domain y))
    (chunks : y.chunks ≡ x.chunks) (frames : y.frames ≡ x.frames) (parts : y.parts ≡ x.parts) (locals : locals_at y c.frame ≡ locals_at x c.frame) where
  still_there : start_of x c.frame ≡ start_of y c.frame
  still_there = ap (λ (q : Chains). 20 * place q c.frame 0) (sym parts)

  still_has : HasValuesAt y c
  still_has =
      let was = k.values x slot f in
      record {
        start = was.start ∙ still_there;
        base = omega (arith, was.base, still_there, locals);
        room = omega (arith, was.room, locals);
      }

  pub still_right : IsRightFor (with_value_at m c.domain y) t s.0 c
  still_right =
      let n = with_value_at m c.domain y in
      let p : Place = record { domain = f.domain; slot = slot } in
      let g : IsFound n t s.0 y slot = record { domain = f.domain; at = f.at; is = get_here m n t owed s p x y h f.at f.is wrote } in
      is_right n t s.0 c y slot g (same_Some c.place p (sym k.place ∙ f.at)) (set_here m.entries c.domain f.domain x y (k.top.entry x slot f))
      (λ _. (same_top x y slot c.frame chunks frames (k.top.top x slot f)).is) (λ _. still_has)

-- ---- After a frame is pushed or popped in the domain.

-- as many frames as the stack of the slot has nodes
depth_is : (x : DomainFrames) (i : ℕ) → length (frames_of x i) ≡ depth_of x i
depth_is x i = length-build (λ k. value_at x (place x.frames i k)) (depth_of x i)

some_by : (a b n : ℕ) → n ≡ a → a ≡ b → 0 < n → 0 < b
some_by a b n e f some = omega arith

-- a segment of which the depth isn't 0 has a frame
pub has_depth : (x : DomainFrames) (i : ℕ) → IsSlot x i → (n : ℕ) → n ≡ length (frames_of x i) → 0 < n → HasTop x i
has_depth x i slot n e some = (slot.0, some_by (length (frames_of x i)) (depth_of x i) n e (depth_is x i) some)

none_by : (a b n : ℕ) → n ≡ a → a ≡ b → n ≤ 0 → 0 < b → ⊥
none_by a b n e f none some = omega arith

-- a segment of which the depth is 0 has none
pub has_no_depth : (x : DomainFrames) (i n : ℕ) → n ≡ length (frames_of x i) → n ≤ 0 → HasTop x i → ⊥
has_no_depth x i n e none top = none_by (length (frames_of x i)) (depth_of x i) n e (depth_is x i) none top.1

module _ (x y : DomainFrames) (i used : ℕ) (frames : List FrameState) (b : Becomes x y i frames used) (was : IsSlot x i) where
  pub still_slot : IsSlot y i
  still_slot =
      let Within : ℕ → Type 0 = λ n. i < n in
      let Live : SlotSet → Type 0 = λ (q : SlotSet). IsLive q i in
      (subst Within (sym b.same_chunks) was.0, subst Live (sym b.same_slots) was.1)

  pub has_some : 0 < length frames → HasTop y i
  has_some some =
      let same : length frames ≡ depth_of y i = ap (λ (fs : List FrameState). length fs) (sym b.becomes) ∙ depth_is y i in
      let Some_there : ℕ → Type 0 = λ n. 0 < n in
      (still_slot.0, subst Some_there same some)

pub some_pushed : (fs : List FrameState) (f : FrameState) → 0 < length (fs ++ f ∷ [])
some_pushed fs f = omega (arith, length_push fs f)

pub some_of_two : (fs : List FrameState) (f g : FrameState) → 0 < length (fs ++ f ∷ g ∷ [])
some_of_two [] f g = omega arith
some_of_two (h ∷ fs) f g = omega arith

-- ---- After a change of the map or of the table elsewhere.

module _ {S : Type 0} (m n : IndexMap ℕ DomainFrames S) (t u : NumberPlaces) (s : ℕ) (c : Cursor) (k : IsRightFor m t s c)
    (placed : (p : Place) → table.place_of u s ≡ Some p → table.place_of t s ≡ Some p)
    (kept : (p : Place) (x : DomainFrames) → table.place_of u s ≡ Some p → get nat_eq n p.domain ≡ Some x → get nat_eq m p.domain ≡ Some x) where
  abbrev before : (x : DomainFrames) (slot : ℕ) → IsFound n u s x slot → IsFound m t s x slot
  before x slot f = record { domain = f.domain; at = placed _ f.at; is = kept _ x f.at f.is }

  values_before : (i : ℕ) (x : DomainFrames) → HasValuesAt x c → HasValuesAt x (record c { domain = i })
  values_before i x v = record { start = v.start; base = v.base; room = v.room }

  -- the segment's domain stands at this place of the map now
  pub right_moved : (i : ℕ)
      → ((x : DomainFrames) (slot : ℕ) (f : IsFound n u s x slot) → slice_get m.entries c.domain ≡ Some (f.domain, x)
      → slice_get n.entries i ≡ Some (f.domain, x)) → IsRightFor n u s (record c { domain = i })
  right_moved i entries =
      record {
        place = λ x slot f. k.place x slot (before x slot f);
        entry = λ x slot f. entries x slot f (k.entry x slot (before x slot f));
        frame = λ x slot f top. k.frame x slot (before x slot f) top;
        values = λ x slot f top. values_before i x (k.values x slot (before x slot f) top);
      }
