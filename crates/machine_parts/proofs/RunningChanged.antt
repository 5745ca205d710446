-- The segment of the running one's number is the running one, and a domain that is set to what it has is as it was.
use Rattle.std.proofs.Common.{◌≡◌, ℕ, ◌==◌, Bool, true, false, cond, List, [], ◌∷◌, ◌++◌, length, map, slice_get, Contains, Some, refl, sym, ap, ◌∙◌, arith}
use Rattle.std.proofs.lemmas.Bool.{eqb-false, eqb-true}
use Rattle.std.proofs.lemmas.List.{map-append, map-id}
use Rattle.std.proofs.lemmas.Option.{same_Some}
use Rattle.jk_model.specs.declared.identifiers.DomainId.{DomainId}
use Rattle.jk_model.specs.declared.identifiers.SegmentNo.{SegmentNo}
use Rattle.jk_model.specs.declared.identifiers.ThreadNo.{ThreadNo}
use Rattle.jk_model_frames.specs.Frames.{FrameState}
use Rattle.jk_model_heaps.specs.Workings.{Inside}
use Rattle.jk_model_sharing.specs.Segments.{SharedSegment, changed, with_segment}
use Rattle.jk_model_sharing.specs.SharedStates.{with_flags as with_shared_flags}
use Rattle.jk_model_machine_state.specs.Machines.{DomainState, Machine, Segment, Thread, segment_form, with_inside, with_segments, with_stacks}
use Rattle.jk_model_machine_state.specs.Places.{LiveDomain, RunningSegment, with_flags, with_running}
use Rattle.frame_store.specs.FrameContents.{Changes, FrameContent}
use Rattle.list_lemmas.proofs.ItemsByPlace.{slice_get-front, slice_get-last}
use Rattle.list_lemmas.proofs.ItemsOfLists.{place_of, stands_at}
use Rattle.machine_parts.specs.ChangedParts.{AreSegmentsApart}
use Rattle.machine_parts.specs.FittingParts.{HaveOneList}
use Rattle.machine_parts.specs.MachineParts.{MachineParts, machine_of}
use Rattle.machine_parts.proofs.DomainsChanged.{map_same}
use Rattle.machine_parts.proofs.DomainsOfParts.{at_place}
use Rattle.machine_parts.proofs.SegmentsChanged.{frames_change_machines, running_frames_change, thread_at}
use Rattle.machine_parts.proofs.SharedChanged.{flags_change_machines}

-- ---- What a domain has.

abbrev Numbered : List DomainState → Type 0
Numbered domains = (i : ℕ) (e : DomainState) → slice_get domains i ≡ Some e → e.number.0 ≡ i

set_step : (b : Bool) (d : DomainId) (inside : Inside) (e : DomainState) → e.number.0 == d.0 ≡ b → (e.number.0 ≡ d.0 → e.inside ≡ Some inside)
    → cond b (record e { inside = Some inside }) e ≡ e
set_step true d inside e is has = λ i. record e { inside = sym (has (eqb-true e.number.0 d.0 is)) i }
set_step false d inside e is has = refl

pub inside_stays : (m : Machine) (d : DomainId) (l : LiveDomain m d) → Numbered m.domains → with_inside d l.inside m ≡ m
inside_stays m d l numbered = ap (λ (ds : List DomainState). record m { domains = ds }) (all ∙ map-id m.domains)
  where
    has : (e : DomainState) → Contains m.domains e → e.number.0 ≡ d.0 → e.inside ≡ Some l.inside
    has e there same =
        let place = place_of m.domains e there in
        let k : place.0 ≡ d.0 = sym (numbered place.0 e place.1) ∙ same in
        let one : e ≡ l.domain = same_Some e l.domain (sym place.1 ∙ ap (slice_get m.domains) k ∙ l.is_domain) in
        ap (λ (x : DomainState). x.inside) one ∙ l.is_inside

    all : map (λ (e : DomainState). cond (e.number.0 == d.0) (record e { inside = Some l.inside }) e) m.domains ≡ map (λ (e : DomainState). e) m.domains
    all =
        map_same (λ (e : DomainState). cond (e.number.0 == d.0) (record e { inside = Some l.inside }) e) (λ (e : DomainState). e) m.domains
        (λ e there. set_step (e.number.0 == d.0) d l.inside e refl (has e there))

numbered_parts : (p : MachineParts) → HaveOneList p → Numbered (machine_of p).domains
numbered_parts p one i e is =
    let a = at_place p.heap p.frames p.world.domains p.shared.domains p.owns i e is in
    ap (λ (x : DomainState). x.number.0) a.is_state ∙ one.numbered i a.names a.is_named

-- ---- A segment by its number.

module _ (n : SegmentNo) (change : Segment → Segment) where
  abbrev changed_at : Segment → Segment
  changed_at s = cond (s.shared.number.0 == n.0) (change s) s

  stays_by : (b : Bool) (s : Segment) → s.shared.number.0 == n.0 ≡ b → (s.shared.number.0 ≡ n.0 → ⊥) → cond b (change s) s ≡ s
  stays_by true s is ne = absurd (ne (eqb-true s.shared.number.0 n.0 is))
  stays_by false s is ne = refl

  changes_by : (b : Bool) (s : Segment) → s.shared.number.0 == n.0 ≡ b → s.shared.number.0 ≡ n.0 → cond b (change s) s ≡ change s
  changes_by true s is same = refl
  changes_by false s is same = absurd (eqb-false s.shared.number.0 n.0 is same)

  none_changes : (segments : List Segment) → ((s : Segment) → Contains segments s → s.shared.number.0 ≡ n.0 → ⊥)
      → map changed_at segments ≡ segments
  none_changes segments apart =
      map_same changed_at (λ (s : Segment). s) segments (λ s there. stays_by (s.shared.number.0 == n.0) s refl (apart s there))
      ∙ map-id segments

  top_changes : (lower : List Segment) (top : Segment) → ((s : Segment) → Contains lower s → s.shared.number.0 ≡ n.0 → ⊥)
      → top.shared.number.0 ≡ n.0 → map changed_at (lower ++ top ∷ []) ≡ lower ++ change top ∷ []
  top_changes lower top apart same =
      map-append changed_at lower (top ∷ []) ∙ ap (λ (xs : List Segment). xs ++ changed_at top ∷ []) (none_changes lower apart)
      ∙ ap (λ (s : Segment). lower ++ s ∷ []) (changes_by (top.shared.number.0 == n.0) top refl same)

module _ (m : Machine) (t : ThreadNo) (r : RunningSegment m t) (apart : AreSegmentsApart m) where
  -- the top segment stands behind the lower ones
  top_at : slice_get r.thread.segments (length r.lower) ≡ Some r.segment
  top_at = ap (λ (xs : List Segment). slice_get xs (length r.lower)) r.are_segments ∙ slice_get-last r.lower r.segment

  same_number : (s : Segment) → s.shared.number.0 ≡ r.segment.shared.number.0 → s.shared.number ≡ r.segment.shared.number
  same_number s same = λ i. record { 0 = same i }

  -- no lower segment has its number, and none of another thread
  pub lower_apart : (s : Segment) → Contains r.lower s → s.shared.number.0 ≡ r.segment.shared.number.0 → ⊥
  lower_apart s there same =
      let found = thread_at m t r [] apart in
      let place = stands_at r.lower s there in
      let at : slice_get r.thread.segments place.0 ≡ Some s =
      ap (λ (xs : List Segment). slice_get xs place.0) r.are_segments ∙ slice_get-front r.lower (r.segment ∷ []) place.0 place.1 ∙ place.2 in
      let e = apart.segments found.0 found.0 place.0 (length r.lower) r.thread r.thread s r.segment found.1 found.1 at top_at (same_number s same) in
      omega (arith, e.1, place.1)

  pub others_apart : (e : Thread) → Contains m.threads e → (e.number.0 ≡ t.0 → ⊥) → (s : Segment) → Contains e.segments s
      → s.shared.number.0 ≡ r.segment.shared.number.0 → ⊥
  others_apart e there other s in_it same =
      let found = thread_at m t r [] apart in
      let place = place_of m.threads e there in
      let at = place_of e.segments s in_it in
      let both = apart.segments place.0 found.0 at.0 (length r.lower) e r.thread s r.segment place.1 found.1 at.1 top_at (same_number s same) in
      let one : e ≡ r.thread = same_Some e r.thread (sym place.1 ∙ ap (slice_get m.threads) both.0 ∙ found.1) in
      other (ap (λ (x : Thread). x.number.0) one ∙ found.2)

  -- a thread of its number is its thread
  pub thread_is : (e : Thread) → Contains m.threads e → e.number.0 ≡ t.0 → e ≡ r.thread
  thread_is e there number =
      let found = thread_at m t r [] apart in
      let place = place_of m.threads e there in
      let same : e.number ≡ r.thread.number = (λ i. record { 0 = (number ∙ sym found.2) i }) in
      let k : place.0 ≡ found.0 = apart.threads place.0 found.0 e r.thread place.1 found.1 same in
      same_Some e r.thread (sym place.1 ∙ ap (slice_get m.threads) k ∙ found.1)

module _ (m : Machine) (t : ThreadNo) (r : RunningSegment m t) (change : Segment → Segment) (apart : AreSegmentsApart m) where
  thread_step : (b : Bool) (e : Thread) → Contains m.threads e → e.number.0 == t.0 ≡ b
      → record e { segments = map (changed_at r.segment.shared.number change) e.segments }
      ≡ cond b (record e { segments = r.lower ++ change r.segment ∷ [] }) e
  thread_step true e there is =
      let one : e ≡ r.thread = thread_is m t r apart e there (eqb-true e.number.0 t.0 is) in
      let segments : e.segments ≡ r.lower ++ r.segment ∷ [] = ap (λ (x : Thread). x.segments) one ∙ r.are_segments in
      ap (λ (xs : List Segment). record e { segments = xs })
      (ap (map (changed_at r.segment.shared.number change)) segments
      ∙ top_changes r.segment.shared.number change r.lower r.segment (lower_apart m t r apart) refl)
  thread_step false e there is =
      ap (λ (xs : List Segment). record e { segments = xs })
      (none_changes r.segment.shared.number change e.segments
      (others_apart m t r apart e there (λ same. eqb-false e.number.0 t.0 is same)))

  running_changes : with_stacks (map (changed_at r.segment.shared.number change)) m ≡ with_segments t (r.lower ++ change r.segment ∷ []) m
  running_changes =
      ap (λ (ts : List Thread). record m { threads = ts })
      (map_same (λ (e : Thread). record e { segments = map (changed_at r.segment.shared.number change) e.segments })
      (λ (e : Thread). cond (e.number.0 == t.0) (record e { segments = r.lower ++ change r.segment ∷ [] }) e) m.threads
      (λ e there. thread_step (e.number.0 == t.0) e there refl))

pub flags_alone : (m : Machine) (t : ThreadNo) (r : RunningSegment m t) (change : SharedSegment → SharedSegment) → AreSegmentsApart m
    → with_stacks (with_segment segment_form r.segment.shared.number change) m
    ≡ with_segments t (r.lower ++ changed segment_form change r.segment ∷ []) m
flags_alone m t r change apart = running_changes m t r (changed segment_form change) apart

-- ---- By the parts.

-- the running domain has what it has
home_stays : (p : MachineParts) (t : ThreadNo) (r : RunningSegment (machine_of p) t) (s : Segment) → HaveOneList p
    → with_segments t (r.lower ++ s ∷ []) (machine_of p) ≡ with_running r s r.home.inside
home_stays p t r s one =
    ap (λ (x : Machine). with_segments t (r.lower ++ s ∷ []) x)
    (sym (inside_stays (machine_of p) r.segment.shared.domain r.home (numbered_parts p one)))

pub frames_run : (p : MachineParts) (new : FrameContent) (t : ThreadNo) (r : RunningSegment (machine_of p) t) (d : DomainId)
    (frames : List FrameState) (used : ℕ) → HaveOneList p → AreSegmentsApart (machine_of p)
    → Changes p.frames new r.segment.shared.number d (Some (record { domain = d; frames = frames })) used
    → machine_of (record p { frames = new }) ≡ with_running r (record r.segment { frames = frames }) r.home.inside
frames_run p new t r d frames used one apart h =
    frames_change_machines p new r.segment.shared.number d (Some (record { domain = d; frames = frames })) used h
    ∙ running_frames_change (machine_of p) t r frames apart ∙ home_stays p t r (record r.segment { frames = frames }) one

pub flags_run : (p : MachineParts) (t : ThreadNo) (r : RunningSegment (machine_of p) t) (change : SharedSegment → SharedSegment)
    → ((s : SharedSegment) → (change s).number ≡ s.number) → HaveOneList p → AreSegmentsApart (machine_of p)
    → machine_of (record p { shared = with_shared_flags r.segment.shared.number change p.shared }) ≡ with_flags r (change r.segment.shared)
flags_run p t r change keeps one apart =
    flags_change_machines p r.segment.shared.number change keeps ∙ flags_alone (machine_of p) t r change apart
    ∙ home_stays p t r (changed segment_form change r.segment) one
