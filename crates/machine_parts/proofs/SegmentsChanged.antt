-- A change of one segment's frames in the store changes that segment of the machine, and nothing else.
use Rattle.std.proofs.Common.{◌≡◌, ◌≢◌, ℕ, ◌==◌, Bool, true, false, cond, find, List, [], ◌∷◌, ◌++◌, length, map, slice_get, Contains, Option, Some, None, option_map, refl, sym, ap, subst, ◌∙◌, arith}
use Rattle.std.proofs.lemmas.Bool.{eqb-false, eqb-true}
use Rattle.std.proofs.lemmas.List.{map-append, map-id}
use Rattle.std.proofs.lemmas.Option.{same_Some}
use Rattle.jk_model.specs.declared.identifiers.DomainId.{DomainId}
use Rattle.jk_model.specs.declared.identifiers.SegmentNo.{SegmentNo}
use Rattle.jk_model.specs.declared.identifiers.ThreadNo.{ThreadNo}
use Rattle.jk_model_classes.specs.Worlds.{DomainRecord}
use Rattle.jk_model_domains.specs.OwnStates.{OwnState}
use Rattle.jk_model_frames.specs.Frames.{FrameState}
use Rattle.jk_model_sharing.specs.Segments.{SharedSegment, SharedThread}
use Rattle.jk_model_sharing.specs.SharedStates.{SharedDomain}
use Rattle.jk_model_machine_state.specs.Machines.{Machine, Segment, Thread, with_segments}
use Rattle.jk_model_machine_state.specs.Places.{RunningSegment}
use Rattle.object_store.specs.HeapContents.{HeapContent}
use Rattle.frame_store.specs.FrameContents.{Changes, FrameContent, KeepsDomains, StoredSegment}
use Rattle.list_lemmas.proofs.FoundItems.{Finds, finds}
use Rattle.list_lemmas.proofs.ItemsByPlace.{slice_get-front, slice_get-last}
use Rattle.list_lemmas.proofs.ItemsOfLists.{place_of, stands_at}
use Rattle.machine_parts.specs.ChangedParts.{AreSegmentsApart, frames_stored, with_frames_in, with_frames_of}
use Rattle.machine_parts.specs.MachineParts.{MachineParts, domain_state, domain_states, inside_of, machine_of, segment_with_frames, thread_with_frames}
use Rattle.machine_parts.proofs.DomainsChanged.{map_same}

-- ---- Domains don't change.

inside_stays : (heap : HeapContent) (old new : FrameContent) (d : DomainId) → KeepsDomains old new → (own : Option OwnState)
    → option_map (inside_of heap new d) own ≡ option_map (inside_of heap old d) own
inside_stays heap old new d h None = refl
inside_stays heap old new d h (Some own) =
    λ i. Some (record { own = own; heap = heap.heap d; heap_at = heap.first_page d; stack_at = h.first_page d i })

states_stay : (heap : HeapContent) (old new : FrameContent) → KeepsDomains old new → (world : List DomainRecord) (shared : List SharedDomain)
    (owns : List (Option OwnState)) → domain_states heap new world shared owns ≡ domain_states heap old world shared owns
states_stay heap old new h (n ∷ world) (s ∷ shared) (o ∷ owns) =
    λ i. record (domain_state heap old n s o) { inside = inside_stays heap old new n.id h o i } ∷ states_stay heap old new h world shared owns i
states_stay heap old new h [] shared owns = refl
states_stay heap old new h (n ∷ world) [] owns = refl
states_stay heap old new h (n ∷ world) (s ∷ shared) [] = refl

-- ---- Segments.

same_segment : (n r : SegmentNo) → r.0 ≡ n.0 → r ≡ n
same_segment n r same = λ i. record { 0 = same i }

segment_step : (t : Bool) (old new : FrameContent) (n : SegmentNo) (d : DomainId) (segment : Option StoredSegment) (used : ℕ)
    → Changes old new n d segment used → (s : SharedSegment) → s.number.0 == n.0 ≡ t
    → segment_with_frames new s ≡ cond t (record (segment_with_frames old s) { frames = frames_stored segment }) (segment_with_frames old s)
segment_step true old new n d segment used h s is =
    let there : new.segment s.number ≡ segment = ap new.segment (same_segment n s.number (eqb-true s.number.0 n.0 is)) ∙ h.becomes in
    ap (λ (g : Option StoredSegment). record (segment_with_frames old s) { frames = frames_stored g }) there
segment_step false old new n d segment used h s is =
    let other : s.number ≢ n = λ e. eqb-false s.number.0 n.0 is (ap (λ (x : SegmentNo). x.0) e) in
    ap (λ (g : Option StoredSegment). record (segment_with_frames old s) { frames = frames_stored g }) (h.others s.number other)

segments_change : (old new : FrameContent) (n : SegmentNo) (d : DomainId) (segment : Option StoredSegment) (used : ℕ)
    → Changes old new n d segment used → (segments : List SharedSegment)
    → map (segment_with_frames new) segments ≡ map (with_frames_in n (frames_stored segment)) (map (segment_with_frames old) segments)
segments_change old new n d segment used h [] = refl
segments_change old new n d segment used h (s ∷ segments) =
    λ i. segment_step (s.number.0 == n.0) old new n d segment used h s refl i ∷ segments_change old new n d segment used h segments i

threads_change : (old new : FrameContent) (n : SegmentNo) (d : DomainId) (segment : Option StoredSegment) (used : ℕ)
    → Changes old new n d segment used → (threads : List SharedThread)
    → map (thread_with_frames new) threads
    ≡ map (λ (e : Thread). record e { segments = map (with_frames_in n (frames_stored segment)) e.segments }) (map (thread_with_frames old) threads)
threads_change old new n d segment used h [] = refl
threads_change old new n d segment used h (t ∷ threads) =
    λ i. record (thread_with_frames old t) { segments = segments_change old new n d segment used h t.segments i }
    ∷ threads_change old new n d segment used h threads i

pub frames_change_machines : (p : MachineParts) (new : FrameContent) (n : SegmentNo) (d : DomainId) (segment : Option StoredSegment) (used : ℕ)
    → Changes p.frames new n d segment used
    → machine_of (record p { frames = new }) ≡ with_frames_of n (frames_stored segment) (machine_of p)
frames_change_machines p new n d segment used h =
    λ i. record (machine_of p) {
      stack_pages = h.domains.pages i;
      domains = states_stay p.heap p.frames new h.domains p.world.domains p.shared.domains p.owns i;
      threads = threads_change p.frames new n d segment used h p.shared.threads i;
    }

-- ---- Of the running segment.

-- a segment of another number
stays_by : (t : Bool) (n : SegmentNo) (frames : List FrameState) (s : Segment) → s.shared.number.0 == n.0 ≡ t → (s.shared.number.0 ≡ n.0 → ⊥)
    → cond t (record s { frames = frames }) s ≡ s
stays_by true n frames s is ne = absurd (ne (eqb-true s.shared.number.0 n.0 is))
stays_by false n frames s is ne = refl

changes_by : (t : Bool) (n : SegmentNo) (frames : List FrameState) (s : Segment) → s.shared.number.0 == n.0 ≡ t → s.shared.number.0 ≡ n.0
    → cond t (record s { frames = frames }) s ≡ record s { frames = frames }
changes_by true n frames s is same = refl
changes_by false n frames s is same = absurd (eqb-false s.shared.number.0 n.0 is same)

-- none of these has the number
pub none_changes : (n : SegmentNo) (frames : List FrameState) (segments : List Segment)
    → ((s : Segment) → Contains segments s → s.shared.number.0 ≡ n.0 → ⊥) → map (with_frames_in n frames) segments ≡ segments
none_changes n frames segments apart =
    map_same (with_frames_in n frames) (λ (s : Segment). s) segments
    (λ s there. stays_by (s.shared.number.0 == n.0) n frames s refl (apart s there)) ∙ map-id segments

top_changes : (n : SegmentNo) (frames : List FrameState) (lower : List Segment) (top : Segment)
    → ((s : Segment) → Contains lower s → s.shared.number.0 ≡ n.0 → ⊥) → top.shared.number.0 ≡ n.0
    → map (with_frames_in n frames) (lower ++ top ∷ []) ≡ lower ++ record top { frames = frames } ∷ []
top_changes n frames lower top apart same =
    map-append (with_frames_in n frames) lower (top ∷ [])
    ∙ ap (λ (xs : List Segment). xs ++ with_frames_in n frames top ∷ []) (none_changes n frames lower apart)
    ∙ ap (λ (s : Segment). lower ++ s ∷ []) (changes_by (top.shared.number.0 == n.0) n frames top refl same)

module _ (m : Machine) (t : ThreadNo) (r : RunningSegment m t) (frames : List FrameState) (apart : AreSegmentsApart m) where
  -- where the thread stands
  pub thread_at : (i : ℕ) × (slice_get m.threads i ≡ Some r.thread) × (r.thread.number.0 ≡ t.0)
  thread_at = by (find has_number m.threads) r.is_thread (finds has_number m.threads)
    where
      has_number : Thread → Bool
      has_number e = e.number.0 == t.0

      by : (o : Option Thread) → o ≡ Some r.thread → Finds has_number m.threads o
          → (i : ℕ) × (slice_get m.threads i ≡ Some r.thread) × (r.thread.number.0 ≡ t.0)
      by None e h = absurd cc
      by (Some x) e h =
          let same : x ≡ r.thread = same_Some x r.thread e in
          (h.0, h.1 ∙ ap (λ (y : Thread). Some y) same, subst (λ (y : Thread). y.number.0 ≡ t.0) same (eqb-true x.number.0 t.0 h.2))

  -- the top segment stands behind the lower ones
  top_at : slice_get r.thread.segments (length r.lower) ≡ Some r.segment
  top_at = ap (λ (xs : List Segment). slice_get xs (length r.lower)) r.are_segments ∙ slice_get-last r.lower r.segment

  same_number : (s : Segment) → s.shared.number.0 ≡ r.segment.shared.number.0 → s.shared.number ≡ r.segment.shared.number
  same_number s same = same_segment r.segment.shared.number s.shared.number same

  lower_apart : (s : Segment) → Contains r.lower s → s.shared.number.0 ≡ r.segment.shared.number.0 → ⊥
  lower_apart s there same =
      let place = stands_at r.lower s there in
      let at : slice_get r.thread.segments place.0 ≡ Some s =
      ap (λ (xs : List Segment). slice_get xs place.0) r.are_segments ∙ slice_get-front r.lower (r.segment ∷ []) place.0 place.1 ∙ place.2 in
      let e = apart.segments thread_at.0 thread_at.0 place.0 (length r.lower) r.thread r.thread s r.segment thread_at.1 thread_at.1 at top_at
      (same_number s same) in
      omega (arith, e.1, place.1)

  -- threads of other numbers have no such segment
  thread_step : (b : Bool) (e : Thread) → Contains m.threads e → e.number.0 == t.0 ≡ b
      → record e { segments = map (with_frames_in r.segment.shared.number frames) e.segments }
      ≡ cond b (record e { segments = r.lower ++ record r.segment { frames = frames } ∷ [] }) e
  thread_step true e there is =
      let place = place_of m.threads e there in
      let same : e.number ≡ r.thread.number = (λ i. record { 0 = (eqb-true e.number.0 t.0 is ∙ sym thread_at.2) i }) in
      let k : place.0 ≡ thread_at.0 = apart.threads place.0 thread_at.0 e r.thread place.1 thread_at.1 same in
      let one : e ≡ r.thread = same_Some e r.thread (sym place.1 ∙ ap (slice_get m.threads) k ∙ thread_at.1) in
      let segments : e.segments ≡ r.lower ++ r.segment ∷ [] = ap (λ (x : Thread). x.segments) one ∙ r.are_segments in
      ap (λ (xs : List Segment). record e { segments = xs })
      (ap (map (with_frames_in r.segment.shared.number frames)) segments
      ∙ top_changes r.segment.shared.number frames r.lower r.segment lower_apart refl)
  thread_step false e there is =
      let place = place_of m.threads e there in
      let none : map (with_frames_in r.segment.shared.number frames) e.segments ≡ e.segments =
      none_changes r.segment.shared.number frames e.segments (λ s in_it same.
      let at = place_of e.segments s in_it in
      let both = apart.segments place.0 thread_at.0 at.0 (length r.lower) e r.thread s r.segment place.1 thread_at.1 at.1 top_at
      (same_number s same) in
      let one : e ≡ r.thread = same_Some e r.thread (sym place.1 ∙ ap (slice_get m.threads) both.0 ∙ thread_at.1) in
      eqb-false e.number.0 t.0 is (ap (λ (x : Thread). x.number.0) one ∙ thread_at.2)) in
      ap (λ (xs : List Segment). record e { segments = xs }) none

  pub running_frames_change : with_frames_of r.segment.shared.number frames m
      ≡ with_segments t (r.lower ++ record r.segment { frames = frames } ∷ []) m
  running_frames_change =
      ap (λ (ts : List Thread). record m { threads = ts })
      (map_same (λ (e : Thread). record e { segments = map (with_frames_in r.segment.shared.number frames) e.segments })
      (λ (e : Thread). cond (e.number.0 == t.0) (record e { segments = r.lower ++ record r.segment { frames = frames } ∷ [] }) e) m.threads
      (λ e there. thread_step (e.number.0 == t.0) e there refl))
