-- Where each part is without a domain, the domain has ended in the machine.
use Rattle.std.proofs.Common.{◌≡◌, ◌≢◌, ℕ, zero, suc, ◌+◌, ◌<◌, ◌==◌, Bool, true, false, not, cond, filter, List, [], ◌∷◌, length, map, slice_get, slice_set, Contains, Option, Some, None, option_map, refl, sym, ap, subst, ◌∙◌, inl, inr, arith}
use Rattle.std.specs.Option.{option_map_or}
use Rattle.std.proofs.lemmas.Bool.{eqb-false, eqb-true}
use Rattle.std.proofs.lemmas.Option.{same_Some, slice_get_within}
use Rattle.jk_model.specs.declared.identifiers.DomainId.{DomainId}
use Rattle.jk_model.specs.declared.output.Line.{Line}
use Rattle.jk_model.specs.declared.output.Line.TheVariants.{EndedByKill, Killed}
use Rattle.jk_model_classes.specs.Worlds.{DomainRecord, WorldRecord}
use Rattle.jk_model_domains.specs.OwnStates.{OwnState}
use Rattle.jk_model_heaps.specs.Workings.{Inside}
use Rattle.jk_model_sharing.specs.BoundNames.{without_names_of}
use Rattle.jk_model_sharing.specs.CapabilityCalls.{all_revoked}
use Rattle.jk_model_sharing.specs.Segments.{SharedSegment, SharedThread, as_orphan, changed, has_segments, left_above, segments_left, shared_form, top_is_of, with_revoked, with_segments, with_top}
use Rattle.jk_model_sharing.specs.SharedStates.{SharedDomain}
use Rattle.jk_model_machine_state.specs.Machines.{DomainState, IsLiveDomain, Machine, Segment, Thread, is_live_domain, segment_form, with_domain}
use Rattle.jk_model_machine_state.specs.Places.{LiveDomain}
use Rattle.jk_model_crossings.specs.DomainEnds.{Terminates, ended_domain, without_segments_of}
use Rattle.jk_model_crossings.specs.DomainEnds.{has_segments as has_running}
use Rattle.object_store.specs.HeapContents.{HeapContent}
use Rattle.frame_store.specs.FrameContents.{FrameContent, IsLeftOf, StoredSegment}
use Rattle.list_lemmas.proofs.ItemsOfLists.{Contains-here, Contains-there}
use Rattle.machine_parts.specs.EndedParts.{EndsInParts, ended_threads, lines_of_end}
use Rattle.machine_parts.specs.FittingParts.{AreFittingParts}
use Rattle.machine_parts.specs.MachineParts.{MachineParts, domain_state, domain_states, frames_in, inside_of, machine_of, segment_with_frames, thread_with_frames}
use Rattle.machine_parts.proofs.DomainsOfParts.{numbered_shared}

-- ---- Domains.

-- what other domains have stays
record KeepsInsides (heap nh : HeapContent) (frames nf : FrameContent) (d : DomainId) : Type 0 where
  objects : (e : DomainId) → e ≢ d → nh.heap e ≡ heap.heap e
  heap_at : (e : DomainId) → e ≢ d → nh.first_page e ≡ heap.first_page e
  stack_at : (e : DomainId) → e ≢ d → nf.first_page e ≡ frames.first_page e

other_domain : (d e : DomainId) → (e.0 ≡ d.0 → ⊥) → e ≢ d
other_domain d e ne same = ne (ap (λ (x : DomainId). x.0) same)

module _ (heap nh : HeapContent) (frames nf : FrameContent) (d : DomainId) (keeps : KeepsInsides heap nh frames nf d) where
  inside_kept : (e : DomainId) → e ≢ d → (own : Option OwnState) → option_map (inside_of nh nf e) own ≡ option_map (inside_of heap frames e) own
  inside_kept e other None = refl
  inside_kept e other (Some own) =
      λ i. Some (record { own = own; heap = keeps.objects e other i; heap_at = keeps.heap_at e other i; stack_at = keeps.stack_at e other i })

  abbrev dropped_in : SharedDomain → SharedDomain
  dropped_in s = cond (s.number.0 == d.0) (record s { live = false; caps = all_revoked s.caps }) s

  abbrev ended_in : DomainState → DomainState
  ended_in e = cond (e.number.0 == d.0) (ended_domain e) e

  ends_here : (t u : Bool) (x : DomainRecord) (s : SharedDomain) (o : Option OwnState) → s.number.0 == d.0 ≡ t → x.id.0 == d.0 ≡ u
      → s.number.0 ≡ d.0 → x.id.0 ≡ d.0
      → domain_state nh nf (record x { live = false }) (cond t (record s { live = false; caps = all_revoked s.caps }) s) None
      ≡ cond u (ended_domain (domain_state heap frames x s o)) (domain_state heap frames x s o)
  ends_here true true x s o is at n k = refl
  ends_here true false x s o is at n k = absurd (eqb-false x.id.0 d.0 at k)
  ends_here false u x s o is at n k = absurd (eqb-false s.number.0 d.0 is n)

  ends_elsewhere : (t u : Bool) (x : DomainRecord) (s : SharedDomain) (o : Option OwnState) → s.number.0 == d.0 ≡ t → x.id.0 == d.0 ≡ u
      → (s.number.0 ≡ d.0 → ⊥) → (x.id.0 ≡ d.0 → ⊥)
      → domain_state nh nf x (cond t (record s { live = false; caps = all_revoked s.caps }) s) o
      ≡ cond u (ended_domain (domain_state heap frames x s o)) (domain_state heap frames x s o)
  ends_elsewhere true u x s o is at n k = absurd (n (eqb-true s.number.0 d.0 is))
  ends_elsewhere false true x s o is at n k = absurd (k (eqb-true x.id.0 d.0 at))
  ends_elsewhere false false x s o is at n k =
      λ i. record (domain_state heap frames x s o) { inside = inside_kept x.id (other_domain d x.id k) o i }

  -- the names stand at their numbers, the first of which is this; and so do what is shared
  abbrev NumberedFrom : ℕ → List DomainRecord → Type 0
  NumberedFrom n world = (i : ℕ) (names : DomainRecord) → slice_get world i ≡ Some names → names.id.0 ≡ n + i

  abbrev SharedFrom : ℕ → List SharedDomain → Type 0
  SharedFrom n shared = (i : ℕ) (s : SharedDomain) → slice_get shared i ≡ Some s → s.number.0 ≡ n + i

  later_names : (n : ℕ) (x : DomainRecord) (world : List DomainRecord) → NumberedFrom n (x ∷ world) → NumberedFrom (suc n) world
  later_names n x world h i names at = omega (arith, h (suc i) names at)

  later_shared : (n : ℕ) (x : SharedDomain) (shared : List SharedDomain) → SharedFrom n (x ∷ shared) → SharedFrom (suc n) shared
  later_shared n x shared h i s at = omega (arith, h (suc i) s at)

  after : (n : ℕ) (world : List DomainRecord) (shared : List SharedDomain) (owns : List (Option OwnState)) → NumberedFrom n world
      → SharedFrom n shared → d.0 < n
      → domain_states nh nf world (map dropped_in shared) owns ≡ map ended_in (domain_states heap frames world shared owns)
  after n (x ∷ world) (s ∷ shared) (o ∷ owns) names numbers low =
      λ i. ends_elsewhere (s.number.0 == d.0) (x.id.0 == d.0) x s o refl refl (λ same. omega (arith, numbers 0 s refl, low, same))
      (λ same. omega (arith, names 0 x refl, low, same)) i
      ∷ after (suc n) world shared owns (later_names n x world names) (later_shared n s shared numbers) (omega (arith, low)) i
  after n [] shared owns names numbers low = refl
  after n (x ∷ world) [] owns names numbers low = refl
  after n (x ∷ world) (s ∷ shared) [] names numbers low = refl

  ends_at : (n k : ℕ) (r : DomainRecord) (world : List DomainRecord) (shared : List SharedDomain) (owns : List (Option OwnState))
      → NumberedFrom n world → SharedFrom n shared → d.0 ≡ n + k → slice_get world k ≡ Some r → k < length owns
      → domain_states nh nf (slice_set world k (record r { live = false })) (map dropped_in shared) (slice_set owns k None)
      ≡ map ended_in (domain_states heap frames world shared owns)
  ends_at n zero r (x ∷ world) (s ∷ shared) (o ∷ owns) names numbers at is low =
      let one : r ≡ x = sym (same_Some x r is) in
      let first : domain_state nh nf (record x { live = false }) (dropped_in s) None ≡ ended_in (domain_state heap frames x s o) =
      ends_here (s.number.0 == d.0) (x.id.0 == d.0) x s o refl refl (omega (arith, numbers 0 s refl, at)) (omega (arith, names 0 x refl, at)) in
      λ i. (ap (λ (y : DomainRecord). domain_state nh nf (record y { live = false }) (dropped_in s) None) one ∙ first) i
      ∷ after (suc n) world shared owns (later_names n x world names) (later_shared n s shared numbers) (omega (arith, at)) i
  ends_at n (suc k) r (x ∷ world) (s ∷ shared) (o ∷ owns) names numbers at is low =
      λ i. ends_elsewhere (s.number.0 == d.0) (x.id.0 == d.0) x s o refl refl (λ same. omega (arith, numbers 0 s refl, at, same))
      (λ same. omega (arith, names 0 x refl, at, same)) i
      ∷ ends_at (suc n) k r world shared owns (later_names n x world names) (later_shared n s shared numbers) (omega (arith, at)) is (omega (arith, low)) i
  ends_at n k r [] shared owns names numbers at is low = absurd cc
  ends_at n zero r (x ∷ world) [] owns names numbers at is low = refl
  ends_at n (suc k) r (x ∷ world) [] owns names numbers at is low = refl
  ends_at n k r (x ∷ world) (s ∷ shared) [] names numbers at is low = absurd (omega (arith, low))

-- ---- Segments.

module _ (d : DomainId) (old new : FrameContent) where
  -- the frames of the segments of other domains stay
  abbrev AllKept : List SharedSegment → Type 0
  AllKept segments = (s : SharedSegment) → Contains segments s → (s.domain.0 ≡ d.0 → ⊥) → frames_in new s.number ≡ frames_in old s.number

  left_step : (t gap : Bool) (s : SharedSegment) (a b : List SharedSegment) (x y : List Segment) → s.domain.0 == d.0 ≡ t
      → ((s.domain.0 ≡ d.0 → ⊥) → frames_in new s.number ≡ frames_in old s.number) → map (segment_with_frames new) a ≡ x
      → map (segment_with_frames new) b ≡ y
      → map (segment_with_frames new) (cond t a (cond gap (as_orphan s) s ∷ b))
      ≡ cond t x (cond gap (record (segment_with_frames old s) { shared = as_orphan s }) (segment_with_frames old s) ∷ y)
  left_step true gap s a b x y is kept p q = p
  left_step false true s a b x y is kept p q =
      λ i. record { shared = as_orphan s; frames = kept (λ same. eqb-false s.domain.0 d.0 is same) i } ∷ q i
  left_step false false s a b x y is kept p q =
      λ i. record { shared = s; frames = kept (λ same. eqb-false s.domain.0 d.0 is same) i } ∷ q i

  above_left : (gap : Bool) (segments : List SharedSegment) → AllKept segments
      → map (segment_with_frames new) (left_above shared_form d gap segments)
      ≡ left_above segment_form d gap (map (segment_with_frames old) segments)
  above_left gap [] h = refl
  above_left gap (s ∷ more) h =
      left_step (s.domain.0 == d.0) gap s (left_above shared_form d true more) (left_above shared_form d false more)
      (left_above segment_form d true (map (segment_with_frames old) more)) (left_above segment_form d false (map (segment_with_frames old) more)) refl
      (h s (Contains-here s more)) (above_left true more (λ x later. h x (Contains-there x s more later)))
      (above_left false more (λ x later. h x (Contains-there x s more later)))

  top_same : (segments : List SharedSegment)
      → top_is_of segment_form d (map (segment_with_frames old) segments) ≡ top_is_of shared_form d segments
  top_same [] = refl
  top_same (s ∷ []) = refl
  top_same (s ∷ above ∷ more) = top_same (above ∷ more)

  top_revoked : (segments : List SharedSegment)
      → map (segment_with_frames new) (with_top (changed shared_form (with_revoked true)) segments)
      ≡ with_top (changed segment_form (with_revoked true)) (map (segment_with_frames new) segments)
  top_revoked [] = refl
  top_revoked (s ∷ []) = refl
  top_revoked (s ∷ above ∷ more) = ap (λ (xs : List Segment). segment_with_frames new s ∷ xs) (top_revoked (above ∷ more))

  left_by : (t u : Bool) → u ≡ t → (left : List SharedSegment) (other : List Segment) → map (segment_with_frames new) left ≡ other
      → map (segment_with_frames new) (cond t (with_top (changed shared_form (with_revoked true)) left) left)
      ≡ cond u (with_top (changed segment_form (with_revoked true)) other) other
  left_by true u e left other h =
      top_revoked left ∙ ap (with_top (changed segment_form (with_revoked true))) h
      ∙ ap (λ (b : Bool). cond b (with_top (changed segment_form (with_revoked true)) other) other) (sym e)
  left_by false u e left other h = h ∙ ap (λ (b : Bool). cond b (with_top (changed segment_form (with_revoked true)) other) other) (sym e)

  stack_left : (segments : List SharedSegment) → AllKept segments
      → map (segment_with_frames new) (segments_left shared_form d segments)
      ≡ segments_left segment_form d (map (segment_with_frames old) segments)
  stack_left segments h =
      left_by (top_is_of shared_form d segments) (top_is_of segment_form d (map (segment_with_frames old) segments)) (top_same segments)
      (left_above shared_form d false segments) (left_above segment_form d false (map (segment_with_frames old) segments)) (above_left false segments h)

  threads_left : (threads : List SharedThread) → ((t : SharedThread) → Contains threads t → AllKept t.segments)
      → map (thread_with_frames new) (map (with_segments (segments_left shared_form d)) threads)
      ≡ map (λ (e : Thread). record e { segments = segments_left segment_form d e.segments }) (map (thread_with_frames old) threads)
  threads_left [] h = refl
  threads_left (t ∷ threads) h =
      λ i. record (thread_with_frames old t) { segments = stack_left t.segments (h t (Contains-here t threads)) i }
      ∷ threads_left threads (λ x later. h x (Contains-there x t threads later)) i

-- ---- Threads that have segments left, and those that haven't.

live_same : (c : FrameContent) (t : SharedThread) (segments : List SharedSegment)
    → has_running (thread_with_frames c (record t { segments = segments })) ≡ has_segments (record t { segments = segments })
live_same c t [] = refl
live_same c t (s ∷ more) = refl

live_step : (c : FrameContent) (t u : Bool) → u ≡ t → (x : SharedThread) (rest : List SharedThread) (more : List Thread)
    → map (thread_with_frames c) rest ≡ more
    → map (thread_with_frames c) (cond t (x ∷ rest) rest) ≡ cond u (thread_with_frames c x ∷ more) more
live_step c true u e x rest more h =
    ap (λ (xs : List Thread). thread_with_frames c x ∷ xs) h ∙ ap (λ (b : Bool). cond b (thread_with_frames c x ∷ more) more) (sym e)
live_step c false u e x rest more h = h ∙ ap (λ (b : Bool). cond b (thread_with_frames c x ∷ more) more) (sym e)

live_left : (c : FrameContent) (threads : List SharedThread)
    → map (thread_with_frames c) (filter has_segments threads) ≡ filter has_running (map (thread_with_frames c) threads)
live_left c [] = refl
live_left c (t ∷ threads) =
    live_step c (has_segments t) (has_running (thread_with_frames c t)) (live_same c t t.segments) t (filter has_segments threads)
    (filter has_running (map (thread_with_frames c) threads)) (live_left c threads)

abbrev ends : Thread → Line
ends t = EndedByKill t.number

abbrev shared_ends : SharedThread → Line
shared_ends t = EndedByKill t.number

ended_step : (c : FrameContent) (t u : Bool) → u ≡ t → (x : SharedThread) (rest : List SharedThread) (more : List Thread)
    → map ends more ≡ map shared_ends rest
    → map ends (cond (not u) (thread_with_frames c x ∷ more) more) ≡ map shared_ends (cond (not t) (x ∷ rest) rest)
ended_step c true u e x rest more h = ap (λ (b : Bool). map ends (cond (not b) (thread_with_frames c x ∷ more) more)) e ∙ h
ended_step c false u e x rest more h =
    ap (λ (b : Bool). map ends (cond (not b) (thread_with_frames c x ∷ more) more)) e ∙ ap (λ (xs : List Line). EndedByKill x.number ∷ xs) h

ended_said : (c : FrameContent) (threads : List SharedThread)
    → map ends (filter (λ (t : Thread). not (has_running t)) (map (thread_with_frames c) threads))
    ≡ map shared_ends (filter (λ (t : SharedThread). not (has_segments t)) threads)
ended_said c [] = refl
ended_said c (t ∷ threads) =
    ended_step c (has_segments t) (has_running (thread_with_frames c t)) (live_same c t t.segments) t
    (filter (λ (x : SharedThread). not (has_segments x)) threads) (filter (λ (x : Thread). not (has_running x)) (map (thread_with_frames c) threads))
    (ended_said c threads)

-- ---- The whole.

module _ (p new : MachineParts) (d : DomainId) (l : LiveDomain (machine_of p) d) (fit : AreFittingParts p) (h : EndsInParts p new d) where
  keeps : KeepsInsides p.heap new.heap p.frames new.frames d
  keeps = record { objects = h.heap.others.heap; heap_at = h.heap.others.first_page; stack_at = h.frames.other_places }

  abbrev cut : Machine
  cut = without_segments_of d (with_domain d ended_domain (machine_of p))

  domains_are : (machine_of new).domains ≡ cut.domains
  domains_are =
      ap (λ (w : WorldRecord). domain_states new.heap new.frames w.domains new.shared.domains new.owns) h.world
      ∙ ap (λ (ds : List SharedDomain). domain_states new.heap new.frames names ds new.owns) h.shared.domains
      ∙ ap (λ (os : List (Option OwnState)). domain_states new.heap new.frames names shared os) h.owns
      ∙ ends_at p.heap new.heap p.frames new.frames d keeps 0 d.0 h.names p.world.domains p.shared.domains p.owns
      (λ i names at. omega (arith, fit.domains.numbered i names at)) (λ i s at. omega (arith, numbered_shared p fit.domains i s at))
      (omega arith) h.is_named low
    where
      names : List DomainRecord
      names = slice_set p.world.domains d.0 (record h.names { live = false })

      shared : List SharedDomain
      shared = map (λ (s : SharedDomain). cond (s.number.0 == d.0) (record s { live = false; caps = all_revoked s.caps }) s) p.shared.domains

      low : d.0 < length p.owns
      low = omega (arith, slice_get_within p.world.domains d.0 h.names h.is_named, fit.domains.owns)

  kept : (t : SharedThread) → Contains p.shared.threads t → (s : SharedSegment) → Contains t.segments s → (s.domain.0 ≡ d.0 → ⊥)
      → frames_in new.frames s.number ≡ frames_in p.frames s.number
  kept t there s in_it other = by (subst (λ (o : Option StoredSegment). IsLeftOf d o (new.frames.segment s.number)) is (h.frames.segment s.number))
    where
      stored : StoredSegment
      stored = record { domain = s.domain; frames = frames_in p.frames s.number }

      is : p.frames.segment s.number ≡ Some stored
      is = fit.segments.each t s there in_it

      by : IsLeftOf d (Some stored) (new.frames.segment s.number) → frames_in new.frames s.number ≡ frames_in p.frames s.number
      by (inl gone) = absurd (other (ap (λ (x : DomainId). x.0) gone.0))
      by (inr left) = ap (λ (o : Option StoredSegment). option_map_or (λ (g : StoredSegment). g.frames) o []) left.1

  abbrev stacks : List SharedThread
  stacks = map (with_segments (segments_left shared_form d)) p.shared.threads

  stacks_are : map (thread_with_frames new.frames) stacks ≡ cut.threads
  stacks_are = threads_left d p.frames new.frames p.shared.threads kept

  threads_are : (machine_of new).threads ≡ filter has_running cut.threads
  threads_are =
      ap (map (thread_with_frames new.frames)) h.shared.threads ∙ live_left new.frames stacks ∙ ap (filter has_running) stacks_are

  leads : machine_of new ≡ record cut { names = without_names_of d cut.names; threads = filter has_running cut.threads }
  leads = λ i. record {
    heap_pages = h.heap.pages i;
    stack_pages = h.frames.pages i;
    classes = ap (λ (w : WorldRecord). w.classes) h.world i;
    domains = domains_are i;
    names = h.shared.names i;
    threads = threads_are i;
    next_thread = h.shared.next_thread i;
    next_segment = h.shared.next_segment i;
  }

  said : lines_of_end l.domain.name (ended_threads d p.shared)
      ≡ Killed l.domain.name ∷ map ends (filter (λ (t : Thread). not (has_running t)) cut.threads)
  said =
      ap (λ (xs : List Line). Killed l.domain.name ∷ xs)
      (sym (ended_said new.frames stacks) ∙ ap (λ (ts : List Thread). map ends (filter (λ (t : Thread). not (has_running t)) ts)) stacks_are)

  lives : IsLiveDomain l.domain
  lives = ap (λ (x : Option Inside). is_live_domain (record l.domain { inside = x })) l.is_inside

  pub ends_change_machines : Terminates (machine_of p) l.domain (lines_of_end l.domain.name (ended_threads d p.shared)) (machine_of new)
  ends_change_machines = record {
    live = lives;
    cut = cut;
    is_cut = ap (λ (n : DomainId). without_segments_of n (with_domain n ended_domain (machine_of p))) (sym l.numbered);
    leads = leads
        ∙ ap (λ (n : DomainId). record cut { names = without_names_of n cut.names; threads = filter has_running cut.threads }) (sym l.numbered);
    said = said;
  }
