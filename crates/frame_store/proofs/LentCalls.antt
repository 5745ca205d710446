-- What a call on a lent segment makes of its content.
use Rattle.std.proofs.Common.{◌≡◌, ◌≢◌, ℕ, ◌+◌, ◌-◌, ◌<◌, List, [], ◌∷◌, ◌++◌, length, Option, Some, None, IsSome, nat_eq, false, refl, sym, ap, subst, arith, inl, inr, ◌∙◌}
use Rattle.std.specs.Prelude.{if◌then◌else◌}
use Rattle.std.proofs.lemmas.Bool.{eq-eqb}
use Rattle.std.proofs.lemmas.Bool.Decides.{eqb_tells}
use Rattle.std.proofs.lemmas.List.{length_push}
use Rattle.std.proofs.lemmas.Option.{same_Some}
use Rattle.list_lemmas.proofs.LastItems.{one_last}
use Rattle.jk_model.specs.declared.frames.FrameHead.{FrameHead}
use Rattle.jk_model.specs.declared.identifiers.DomainId.{DomainId}
use Rattle.jk_model.specs.declared.identifiers.SegmentNo.{SegmentNo}
use Rattle.jk_model.specs.declared.values.Value.{Value}
use Rattle.jk_model_frames.specs.Frames.{FrameState, called_frame, head_chunks, new_frame}
use Rattle.number_table.specs.declared.chains.Chains.{Chains}
use Rattle.frame_store.specs.declared.cursor.Cursor.{Cursor}
use Rattle.frame_store.specs.declared.domain_frames.DomainFrames.{DomainFrames}
use Rattle.number_table.specs.declared.entry_table.Place.{Place}
use Rattle.frame_store.specs.declared.slot_set.SlotSet.{SlotSet}
use Rattle.number_table.specs.ChainMoves.{count, place}
use Rattle.frame_store.specs.Cursors.{AimsIfThere, HasValuesAt, IsAimed}
use Rattle.frame_store.specs.DomainMoves.{depth_of, frames_of, locals_at, lower_of, top_number, top_of, value_at, Becomes, CallsOn, DropsTopEntries, ExchangesTopEntries, GivesTopBack, HasTop, IsFrameNumber, IsSlot, IsTopOf, TakesTopEntry}
use Rattle.frame_store.specs.FrameContents.{Calls, Changes, DropsEntries, ExchangesEntries, FrameContent, GivesBack, HasTop as HasTopFrame, IsThere, Pops, Pushes, SetsTop, StoredSegment, TakesEntry, TopFrame, gone_on}
use Rattle.frame_store.specs.LentSegments.{Beside, IsAtSegment, StaysBeside, content_at, segment_at}
use Rattle.frame_store.specs.SlotMoves.{number_of, place_in}
use Rattle.frame_store.specs.Builds.{length-build}
use Rattle.frame_store.proofs.CursorPoints.{still_slot}
use Rattle.frame_store.proofs.GivenBack.{number_still, values_still}
use Rattle.frame_store.proofs.TopIsWritten.{frames_more, is_top_frame}

-- ---- What the content says of the segment.

module _ (name : ℕ) (x : DomainFrames) (c : Cursor) (s : SegmentNo) where
  abbrev was : FrameContent
  was = content_at name x c

  pub segment_here : s.0 ≡ c.segment → was.segment s ≡ Some (segment_at x c)
  segment_here e = ap (λ b. if b then Some (segment_at x c) else None) (eq-eqb s.0 c.segment e)

  pub segment_elsewhere : (nat_eq s.0 c.segment ≡ false) → was.segment s ≡ None
  segment_elsewhere e = ap (λ b. if b then Some (segment_at x c) else None) e

  pub is_segment : (g : StoredSegment) → was.segment s ≡ Some g → (s.0 ≡ c.segment) × (segment_at x c ≡ g)
  is_segment g e =
      elim (eqb_tells s.0 c.segment) [
        | inl y ↦ (y.1, same_Some (segment_at x c) g (sym (segment_here y.1) ∙ e))
        | inr n ↦ let never : None ≡ Some g = sym (segment_elsewhere n.0) ∙ e in absurd (cc)
      ]

  some_segment : (o : Option StoredSegment) → IsSome o → (g : StoredSegment) × (o ≡ Some g)
  some_segment None e = absurd (cc)
  some_segment (Some g) e = (g, refl)

  pub is_here : IsThere was s → s.0 ≡ c.segment
  is_here there = let g = some_segment (was.segment s) there in (is_segment g.0 g.1).0

  -- the segment's domain
  abbrev domain : DomainId
  domain = record { 0 = c.place.domain }

  pub used_here : was.used domain ≡ x.used
  used_here = ap (λ b. if b then x.used else 0) (eq-eqb c.place.domain c.place.domain refl)

  pub quota_here : was.quota domain ≡ Some x.chunks
  quota_here = ap (λ b. if b then Some x.chunks else None) (eq-eqb c.place.domain c.place.domain refl)

  -- its top frame
  module _ (k : IsAtSegment x c) where
    some_by : (a b n : ℕ) → n ≡ a → a ≡ b + 1 → 0 < n
    some_by a b n e f = omega arith

    top_frames : (f : FrameState) (top : TopFrame was s f) → frames_of x c.place.slot ≡ top.lower ++ f ∷ []
    top_frames f top = ap (λ (g : StoredSegment). g.frames) (is_segment top.segment top.is_there).1 ∙ top.frames

    pub top_there : (f : FrameState) → TopFrame was s f → HasTop x c.place.slot
    top_there f top = (
      k.slot.0,
      some_by (length (frames_of x c.place.slot)) (length top.lower) (depth_of x c.place.slot)
          (sym (length-build (λ j. value_at x (place x.frames c.place.slot j)) (depth_of x c.place.slot)))
          (ap (λ (fs : List FrameState). length fs) (top_frames f top) ∙ length_push top.lower f),
    )

    pub top_was : (f : FrameState) (top : TopFrame was s f) → (top.lower ≡ lower_of x c.place.slot) × (f ≡ top_of x c.place.slot)
    top_was f top =
        one_last top.lower (lower_of x c.place.slot) f (top_of x c.place.slot)
        (sym (top_frames f top) ∙ frames_more x c.place.slot (top_there f top))

    pub here_of : (f : FrameState) → TopFrame was s f → s.0 ≡ c.segment
    here_of f top = (is_segment top.segment top.is_there).0

    pub frame_there : (f : FrameState) → TopFrame was s f → IsFrameNumber x c.frame
    frame_there f top = is_top_frame x c.place.slot c.frame (top_there f top) (k.frame (top_there f top))

    pub on_top : (f : FrameState) → TopFrame was s f → IsTopOf x c.place.slot c.frame
    on_top f top = record { has_top = top_there f top; is = k.frame (top_there f top) }

    pub value_was : (f : FrameState) → TopFrame was s f → f ≡ value_at x c.frame
    value_was f top = (top_was f top).1 ∙ ap (value_at x) (sym (k.frame (top_there f top)))

    pub values_there : (f : FrameState) → TopFrame was s f → HasValuesAt x c
    values_there f top = k.values (top_there f top)

-- ---- What a change in the domain makes of the content.

module _ (name : ℕ) (x y : DomainFrames) (c b : Cursor) (s : SegmentNo) (segment : b.segment ≡ c.segment) (place : b.place ≡ c.place)
    (here : s.0 ≡ c.segment) where
  abbrev old : FrameContent
  old = content_at name x c

  abbrev new : FrameContent
  new = content_at name y b

  abbrev of_domain : DomainId
  of_domain = record { 0 = c.place.domain }

  abbrev ChangesTo : List FrameState → ℕ → Type 0
  ChangesTo fs used = Changes old new s of_domain (Some (record { domain = of_domain; frames = fs })) used

  different : (r : SegmentNo) → r ≢ s → nat_eq r.0 c.segment ≡ false
  different r ne =
      elim (eqb_tells r.0 c.segment) [
        | inl y ↦ absurd (ne (ap (λ n. let z : SegmentNo = record { 0 = n } in z) (y.1 ∙ sym here)))
        | inr n ↦ n.0
      ]

  other_domain : (e : DomainId) → e ≢ of_domain → nat_eq e.0 c.place.domain ≡ false
  other_domain e ne =
      elim (eqb_tells e.0 c.place.domain) [
        | inl y ↦ absurd (ne (ap (λ n. let z : DomainId = record { 0 = n } in z) y.1))
        | inr n ↦ n.0
      ]

  new_used : (e : DomainId) → new.used e ≡ (if nat_eq e.0 c.place.domain then y.used else 0)
  new_used e = ap (λ (p : Place). if nat_eq e.0 p.domain then y.used else 0) place

  pub changes : (fs : List FrameState) (used : ℕ) → Becomes x y c.place.slot fs used → ChangesTo fs used
  changes fs used becomes =
      record {
        domains = record {
          pages = refl;
          took_all = refl;
          quota =
              λ d. ap (λ (p : Place). if nat_eq d.0 p.domain then Some y.chunks else None) place
              ∙ ap (λ n. if nat_eq d.0 c.place.domain then Some n else None) becomes.same_chunks;
          first_page = λ _. refl;
        };
        becomes =
            segment_here name y b s (here ∙ sym segment)
            ∙ ap (λ (p : Place). let g : StoredSegment = record { domain = record { 0 = p.domain }; frames = frames_of y p.slot } in Some g) place
            ∙ ap (λ (k : List FrameState). let g : StoredSegment = record { domain = of_domain; frames = k } in Some g) becomes.becomes;
        others =
            λ r ne.
            segment_elsewhere name y b r (ap (λ n. nat_eq r.0 n) segment ∙ different r ne) ∙ sym (segment_elsewhere name x c r (different r ne));
        uses = new_used of_domain ∙ ap (λ t. if t then y.used else 0) (eq-eqb c.place.domain c.place.domain refl) ∙ becomes.uses;
        other_domains =
            λ e ne.
            new_used e ∙ ap (λ t. if t then y.used else 0) (other_domain e ne) ∙ sym (ap (λ t. if t then x.used else 0) (other_domain e ne));
      }

  was_here : old.segment s ≡ Some (segment_at x c)
  was_here = segment_here name x c s here

  was_used : old.used of_domain ≡ x.used
  was_used = used_here name x c s

  module _ (top : HasTop x c.place.slot) where
    abbrev own_top : TopFrame old s (top_of x c.place.slot)
    own_top =
        record {
          segment = segment_at x c;
          is_there = was_here;
          lower = lower_of x c.place.slot;
          frames = frames_more x c.place.slot top;
        }

    pub sets : (g : FrameState) → Becomes x y c.place.slot (lower_of x c.place.slot ++ g ∷ []) x.used → SetsTop old new s g
    sets g becomes =
        let P : ℕ → Type 0 = λ u. ChangesTo (lower_of x c.place.slot ++ g ∷ []) u in
        (top_of x c.place.slot, own_top, subst P (sym was_used) (changes _ _ becomes))

    pub pops : Becomes x y c.place.slot (lower_of x c.place.slot) (x.used - head_chunks (top_of x c.place.slot).head) → Pops old new s
    pops becomes =
        let P : ℕ → Type 0 = λ u. ChangesTo (lower_of x c.place.slot) (u - head_chunks (top_of x c.place.slot).head) in
        (top_of x c.place.slot, own_top, subst P (sym was_used) (changes _ _ becomes))

  pub pushes : (head : FrameHead) → Becomes x y c.place.slot (frames_of x c.place.slot ++ new_frame head ∷ []) (x.used + head_chunks head)
      → Pushes old new s head
  pushes head becomes =
      let P : ℕ → Type 0 = λ u. ChangesTo (frames_of x c.place.slot ++ new_frame head ∷ []) (u + head_chunks head) in
      (segment_at x c, was_here, subst P (sym was_used) (changes _ _ becomes))

  module _ (k : IsAtSegment x c) where
    -- the top frame becomes what a change makes of it
    pub sets_by : (change : FrameState → FrameState)
        → ((i : ℕ) → IsTopOf x i c.frame → Becomes x y i (lower_of x i ++ change (top_of x i) ∷ []) x.used)
        → (f : FrameState) → TopFrame old s f → SetsTop old new s (change f)
    sets_by change becomes f top =
        let P : FrameState → Type 0 = λ (g : FrameState). SetsTop old new s (change g) in
        subst P (sym (top_was name x c s k f top).1)
        (sets (top_there name x c s k f top) (change (top_of x c.place.slot)) (becomes c.place.slot (on_top name x c s k f top)))

    pub takes : (v : Value) → ((i : ℕ) → IsTopOf x i c.frame → TakesTopEntry x y i v) → (f : FrameState) → TopFrame old s f → TakesEntry old new s f v
    takes v becomes f top =
        let e = becomes c.place.slot (on_top name x c s k f top) in
        let same = (top_was name x c s k f top).1 in
        let P : FrameState → Type 0 = λ (g : FrameState). SetsTop old new s (record g { stack = e.0 }) in (
          e.0,
          ap (λ (g : FrameState). g.stack) same ∙ e.1,
          subst P (sym same) (sets (top_there name x c s k f top) (record (top_of x c.place.slot) { stack = e.0 }) e.2),
        )

    pub drops : (count : ℕ) → ((i : ℕ) → IsTopOf x i c.frame → DropsTopEntries x y i count) → (f : FrameState) → TopFrame old s f
        → DropsEntries old new s f count
    drops count becomes f top below given stack many =
        let same = (top_was name x c s k f top).1 in
        let e = becomes c.place.slot (on_top name x c s k f top) below given (ap (λ (g : FrameState). g.stack) (sym same) ∙ stack) many in
        let P : FrameState → Type 0 = λ (g : FrameState). SetsTop old new s (record g { stack = below }) in
        subst P (sym same) (sets (top_there name x c s k f top) (record (top_of x c.place.slot) { stack = below }) e)

    pub exchanges : (count : ℕ) (v : Value) → ((i : ℕ) → IsTopOf x i c.frame → ExchangesTopEntries x y i count v) → (f : FrameState) → TopFrame old s f
        → ExchangesEntries old new s f count v
    exchanges count v becomes f top below given stack many =
        let same = (top_was name x c s k f top).1 in
        let e = becomes c.place.slot (on_top name x c s k f top) below given (ap (λ (g : FrameState). g.stack) (sym same) ∙ stack) many in
        let P : FrameState → Type 0 = λ (g : FrameState). SetsTop old new s (record g { stack = below ++ v ∷ [] }) in
        subst P (sym same) (sets (top_there name x c s k f top) (record (top_of x c.place.slot) { stack = below ++ v ∷ [] }) e)

    pub pops_off : Becomes x y c.place.slot (lower_of x c.place.slot) (x.used - head_chunks (top_of x c.place.slot).head) → HasTopFrame old s
        → Pops old new s
    pops_off becomes has = pops (top_there name x c s k has.0 has.1) becomes

    pub calls : (head : FrameHead) (count : ℕ) → CallsOn x y c.place.slot head count → Calls old new s head count
    calls head count on f top below given stack many =
        let same = top_was name x c s k f top in
        let segment = (is_segment name x c s top.segment top.is_there).1 in
        let frames : List FrameState → FrameState → List FrameState =
        λ lower (g : FrameState). lower ++ record g { stack = below } ∷ called_frame head given ∷ [] in
        let e = on below given (ap (λ (g : FrameState). g.stack) (sym same.1) ∙ stack) many in
        let P : ℕ → Type 0 = λ u. ChangesTo (frames (lower_of x c.place.slot) (top_of x c.place.slot)) (u + head_chunks head) in
        let Q : StoredSegment → List FrameState → FrameState → Type 0 = λ g lower f.
        Changes old new s g.domain (Some (record g { frames = frames lower f })) (old.used g.domain + head_chunks head) in
        let one : Q (segment_at x c) (lower_of x c.place.slot) (top_of x c.place.slot) = subst P (sym was_used) (changes _ _ e) in
        let two : Q (segment_at x c) top.lower (top_of x c.place.slot) = subst (λ l. Q (segment_at x c) l (top_of x c.place.slot)) (sym same.0) one in
        let three : Q (segment_at x c) top.lower f = subst (λ g. Q (segment_at x c) top.lower g) (sym same.1) two in
        subst (λ g. Q g top.lower f) segment three

  pub gives_back : (v : Option Value) → GivesTopBack x y c.place.slot v → GivesBack old new s v
  gives_back v gives g is lower below top are =
      let segment = (is_segment name x c s g is).1 in
      let e = gives lower below top (ap (λ (h : StoredSegment). h.frames) segment ∙ are) in
      let P : ℕ → Type 0 = λ u. ChangesTo (lower ++ gone_on v below ∷ []) (u - head_chunks top.head) in
      let Q : StoredSegment → Type 0 = λ (h : StoredSegment).
      Changes old new s h.domain (Some (record h { frames = lower ++ gone_on v below ∷ [] })) (old.used h.domain - head_chunks top.head) in
      let one : Q (segment_at x c) = subst P (sym was_used) (changes _ _ e) in
      subst Q segment one

-- ---- What stays.

module _ (x y : DomainFrames) (c b : Cursor) (fs : List FrameState) (used : ℕ) (becomes : Becomes x y c.place.slot fs used) where
  pub stays : (beside : Beside) → b.segment ≡ c.segment → b.place ≡ c.place → b.domain ≡ c.domain → StaysBeside beside x c → StaysBeside beside y b
  stays beside segment place domain was =
      let in_x : (j : ℕ) → j < beside.chunks → j < x.chunks = λ j lt. omega (arith, was.chunks) in
      record {
        segment = segment ∙ was.segment;
        place = place ∙ was.place;
        domain = domain ∙ was.domain;
        chunks = becomes.same_chunks ∙ was.chunks;
        live = ap (λ (q : SlotSet). q.live) becomes.same_slots ∙ was.live;
        places = λ i. ap (λ (q : SlotSet). place_in q i) becomes.same_slots ∙ was.places i;
        numbers = λ i. ap (λ (q : SlotSet). number_of q i) becomes.same_slots ∙ was.numbers i;
        frames =
            λ j lt ne. becomes.others j (in_x j lt) (λ e. ne (e ∙ ap (λ (p : Place). p.slot) was.place)) ∙ was.frames j lt ne;
      }

  module _ (k : IsAtSegment x c) where
    slot_now : IsSlot y c.place.slot
    slot_now = still_slot x y c.place.slot used fs becomes k.slot

    -- the chains are as they were
    pub right_still : y.frames ≡ x.frames → y.parts ≡ x.parts → locals_at y c.frame ≡ locals_at x c.frame → IsAtSegment y c
    right_still frames parts locals =
        let Deep : Chains → Type 0 = λ (q : Chains). 0 < count q c.place.slot in
        let was_top : HasTop y c.place.slot → HasTop x c.place.slot = λ top. (k.slot.0, subst Deep frames top.1) in
        record {
          slot = slot_now;
          frame = λ top. k.frame (was_top top) ∙ sym (number_still x y c.place.slot frames);
          values = λ top. values_still x y c parts locals (k.values (was_top top));
        }

    -- the cursor is moved
    pub right_aimed : IsAimed y c b → IsAtSegment y b
    right_aimed aimed =
        let P : Place → Type 0 = λ (p : Place). IsSlot y p.slot in
        record {
          slot = subst P (sym aimed.place) slot_now;
          frame = λ _. aimed.frame ∙ ap (λ (p : Place). top_number y p.slot) (sym aimed.place);
          values = λ _. aimed.values;
        }

    pub right_if_there : AimsIfThere y c b → IsAtSegment y b
    right_if_there aims =
        let P : Place → Type 0 = λ (p : Place). IsSlot y p.slot in
        let Q : Place → Type 0 = λ (p : Place). HasTop y p.slot in
        record {
          slot = subst P (sym aims.place) slot_now;
          frame = λ top. aims.frame (subst Q aims.place top) ∙ ap (λ (p : Place). top_number y p.slot) (sym aims.place);
          values = λ top. aims.values (subst Q aims.place top);
        }
