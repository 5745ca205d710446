-- What domains share stands in the machine: its segments with their frames, its domains with all else.
use Rattle.std.proofs.Common.{◌≡◌, ℕ, suc, ◌==◌, Bool, true, false, not, cond, filter, List, [], ◌∷◌, ◌++◌, map, slice_get, Contains, Option, Some, refl, sym, ap, subst, ◌∙◌, inl, inr}
use Rattle.std.proofs.lemmas.Bool.{eqb-true}
use Rattle.std.proofs.lemmas.List.{map-append}
use Rattle.std.proofs.lemmas.Option.{same_Some}
use Rattle.jk_model.specs.declared.identifiers.DomainId.{DomainId}
use Rattle.jk_model.specs.declared.identifiers.SegmentNo.{SegmentNo}
use Rattle.jk_model.specs.declared.identifiers.ThreadNo.{ThreadNo}
use Rattle.jk_model_classes.specs.Worlds.{DomainRecord}
use Rattle.jk_model_domains.specs.OwnStates.{OwnState}
use Rattle.jk_model_frames.specs.Frames.{FrameState}
use Rattle.jk_model_heaps.specs.Capabilities.{CapRange}
use Rattle.jk_model_sharing.specs.Segments.{SharedSegment, SharedThread, has_segments, shared_form, with_segment, with_segments, without_top}
use Rattle.jk_model_sharing.specs.SharedStates.{SharedDomain, begun, drawn_segment, popped, pushed, with_caps, with_flags}
use Rattle.jk_model_machine_state.specs.Machines.{DomainState, Machine, Segment, Thread, segment_form, with_domain, with_stacks, with_thread, without_thread}
use Rattle.jk_model_machine_state.specs.Places.{RunningSegment, first_segment, with_segment_drawn}
use Rattle.jk_model_machine_state.specs.Places.{without_top as without_running}
use Rattle.object_store.specs.HeapContents.{HeapContent}
use Rattle.frame_store.specs.FrameContents.{FrameContent}
use Rattle.list_lemmas.proofs.ItemsOfLists.{Contains-cases, Contains-here, Contains-none, Contains-there, place_of}
use Rattle.machine_parts.specs.ChangedParts.{AreSegmentsApart, with_frames_in, with_frames_of}
use Rattle.machine_parts.specs.FittingParts.{HaveOneList}
use Rattle.machine_parts.specs.MachineParts.{MachineParts, domain_state, domain_states, frames_in, machine_of, segment_with_frames, thread_with_frames}
use Rattle.machine_parts.specs.SharedInMachines.{HaveAllSegments}
use Rattle.machine_parts.proofs.SegmentsChanged.{none_changes, thread_at}

-- ---- Flags.

flags_step : (b : Bool) (c : FrameContent) (change : SharedSegment → SharedSegment) → ((s : SharedSegment) → (change s).number ≡ s.number)
    → (s : SharedSegment)
    → segment_with_frames c (cond b (change s) s) ≡ cond b (record (segment_with_frames c s) { shared = change s }) (segment_with_frames c s)
flags_step true c change h s = λ i. record { shared = change s; frames = frames_in c (h s i) }
flags_step false c change h s = refl

flags_in : (c : FrameContent) (n : SegmentNo) (change : SharedSegment → SharedSegment) → ((s : SharedSegment) → (change s).number ≡ s.number)
    → (segments : List SharedSegment)
    → map (segment_with_frames c) (with_segment shared_form n change segments)
    ≡ with_segment segment_form n change (map (segment_with_frames c) segments)
flags_in c n change h [] = refl
flags_in c n change h (s ∷ segments) = λ i. flags_step (s.number.0 == n.0) c change h s i ∷ flags_in c n change h segments i

flags_on : (c : FrameContent) (n : SegmentNo) (change : SharedSegment → SharedSegment) → ((s : SharedSegment) → (change s).number ≡ s.number)
    → (threads : List SharedThread)
    → map (thread_with_frames c) (map (with_segments (with_segment shared_form n change)) threads)
    ≡ map (λ (e : Thread). record e { segments = with_segment segment_form n change e.segments }) (map (thread_with_frames c) threads)
flags_on c n change h [] = refl
flags_on c n change h (t ∷ threads) =
    λ i. record (thread_with_frames c t) { segments = flags_in c n change h t.segments i } ∷ flags_on c n change h threads i

pub flags_change_machines : (p : MachineParts) (n : SegmentNo) (change : SharedSegment → SharedSegment)
    → ((s : SharedSegment) → (change s).number ≡ s.number)
    → machine_of (record p { shared = with_flags n change p.shared }) ≡ with_stacks (with_segment segment_form n change) (machine_of p)
flags_change_machines p n change h =
    ap (λ (ts : List Thread). record (machine_of p) { threads = ts }) (flags_on p.frames n change h p.shared.threads)

-- ---- Capabilities.

abbrev caps_in : DomainId → CapRange → DomainState → DomainState
caps_in d range e = cond (e.number.0 == d.0) (record e { caps = range }) e

abbrev shared_caps_in : DomainId → CapRange → SharedDomain → SharedDomain
shared_caps_in d range e = cond (e.number.0 == d.0) (record e { caps = range }) e

caps_step : (t : Bool) (heap : HeapContent) (frames : FrameContent) (names : DomainRecord) (s : SharedDomain) (own : Option OwnState)
    (range : CapRange) → domain_state heap frames names (cond t (record s { caps = range }) s) own
    ≡ cond t (record (domain_state heap frames names s own) { caps = range }) (domain_state heap frames names s own)
caps_step true heap frames names s own range = refl
caps_step false heap frames names s own range = refl

-- the same numbers at the same places
abbrev AreSame : List DomainRecord → List SharedDomain → Type 0
AreSame world shared = (i : ℕ) (names : DomainRecord) (s : SharedDomain) → slice_get world i ≡ Some names → slice_get shared i ≡ Some s → s.number ≡ names.id

caps_change : (heap : HeapContent) (frames : FrameContent) (d : DomainId) (range : CapRange) (world : List DomainRecord)
    (shared : List SharedDomain) (owns : List (Option OwnState)) → AreSame world shared
    → domain_states heap frames world (map (shared_caps_in d range) shared) owns ≡ map (caps_in d range) (domain_states heap frames world shared owns)
caps_change heap frames d range (x ∷ world) (s ∷ shared) (o ∷ owns) same =
    let test : (s.number.0 == d.0) ≡ (x.id.0 == d.0) = ap (λ (e : DomainId). e.0 == d.0) (same 0 x s refl refl) in
    let first : domain_state heap frames x (shared_caps_in d range s) o ≡ caps_in d range (domain_state heap frames x s o) =
    ap (λ (t : Bool). domain_state heap frames x (cond t (record s { caps = range }) s) o) test ∙ caps_step (x.id.0 == d.0) heap frames x s o range in
    λ i. first i ∷ caps_change heap frames d range world shared owns (λ k names e at there. same (suc k) names e at there) i
caps_change heap frames d range [] shared owns same = refl
caps_change heap frames d range (x ∷ world) [] owns same = refl
caps_change heap frames d range (x ∷ world) (s ∷ shared) [] same = refl

pub caps_change_machines : (p : MachineParts) (d : DomainId) (range : CapRange) → HaveOneList p
    → machine_of (record p { shared = with_caps d range p.shared })
    ≡ with_domain d (λ (e : DomainState). record e { caps = range }) (machine_of p)
caps_change_machines p d range one =
    ap (λ (ds : List DomainState). record (machine_of p) { domains = ds })
    (caps_change p.heap p.frames d range p.world.domains p.shared.domains p.owns (λ i names s at there. (one.same_number i names s at there).0))

-- ---- Segments that come.

push_step : (b : Bool) (c : FrameContent) (s : SharedSegment) (t : SharedThread)
    → thread_with_frames c (cond b (record t { segments = t.segments ++ s ∷ [] }) t)
    ≡ cond b (record (thread_with_frames c t) { segments = map (segment_with_frames c) t.segments ++ segment_with_frames c s ∷ [] }) (thread_with_frames c t)
push_step true c s t = λ i. record (thread_with_frames c t) { segments = map-append (segment_with_frames c) t.segments (s ∷ []) i }
push_step false c s t = refl

push_on : (c : FrameContent) (n : ThreadNo) (s : SharedSegment) (threads : List SharedThread)
    → map (thread_with_frames c) (map (λ (e : SharedThread). cond (e.number.0 == n.0) (record e { segments = e.segments ++ s ∷ [] }) e) threads)
    ≡ map (λ (e : Thread). cond (e.number.0 == n.0) (record e { segments = e.segments ++ segment_with_frames c s ∷ [] }) e)
    (map (thread_with_frames c) threads)
push_on c n s [] = refl
push_on c n s (t ∷ threads) = λ i. push_step (t.number.0 == n.0) c s t i ∷ push_on c n s threads i

-- the segment that comes is the first of its frame
comes : (p : MachineParts) (d : DomainId) (frame : FrameState) → frames_in p.frames (record { 0 = p.shared.next_segment }) ≡ frame ∷ []
    → segment_with_frames p.frames (drawn_segment p.shared d) ≡ first_segment (machine_of p) d frame
comes p d frame h = λ i. record { shared = drawn_segment p.shared d; frames = h i }

pub pushes_change_machines : (p : MachineParts) (t : ThreadNo) (d : DomainId) (frame : FrameState)
    → frames_in p.frames (record { 0 = p.shared.next_segment }) ≡ frame ∷ []
    → machine_of (record p { shared = pushed t d p.shared })
    ≡ with_segment_drawn (with_thread t (λ (e : Thread). record e { segments = e.segments ++ first_segment (machine_of p) d frame ∷ [] }) (machine_of p))
pushes_change_machines p t d frame h =
    ap (λ (ts : List Thread). record (machine_of p) { threads = ts; next_segment = suc p.shared.next_segment })
    (push_on p.frames t (drawn_segment p.shared d) p.shared.threads
    ∙ ap (λ (s : Segment). map (λ (e : Thread). cond (e.number.0 == t.0) (record e { segments = e.segments ++ s ∷ [] }) e) (machine_of p).threads)
    (comes p d frame h))

pub starts_change_machines : (p : MachineParts) (d : DomainId) (frame : FrameState)
    → frames_in p.frames (record { 0 = p.shared.next_segment }) ≡ frame ∷ []
    → machine_of (record p { shared = begun d p.shared })
    ≡ with_segment_drawn (record (machine_of p) {
      threads = (machine_of p).threads
          ++ record { number = record { 0 = (machine_of p).next_thread }; domain = d; segments = first_segment (machine_of p) d frame ∷ [] } ∷ [];
      next_thread = suc (machine_of p).next_thread;
    })
starts_change_machines p d frame h =
    ap (λ (ts : List Thread). record (machine_of p) {
      threads = ts;
      next_thread = suc p.shared.next_thread;
      next_segment = suc p.shared.next_segment;
    })
    (map-append (thread_with_frames p.frames) p.shared.threads (new ∷ [])
    ∙ ap (λ (s : Segment). (machine_of p).threads ++ record { number = new.number; domain = d; segments = s ∷ [] } ∷ []) (comes p d frame h))
  where
    new : SharedThread
    new = record { number = record { 0 = p.shared.next_thread }; domain = d; segments = drawn_segment p.shared d ∷ [] }

-- ---- Segments that go.

top_goes : (c : FrameContent) (segments : List SharedSegment)
    → map (segment_with_frames c) (without_top segments) ≡ without_top (map (segment_with_frames c) segments)
top_goes c [] = refl
top_goes c (s ∷ []) = refl
top_goes c (s ∷ above ∷ more) = ap (λ (xs : List Segment). segment_with_frames c s ∷ xs) (top_goes c (above ∷ more))

last_goes : (lower : List Segment) (top : Segment) → without_top (lower ++ top ∷ []) ≡ lower
last_goes [] top = refl
last_goes (s ∷ []) top = refl
last_goes (s ∷ above ∷ lower) top = ap (λ (xs : List Segment). s ∷ xs) (last_goes (above ∷ lower) top)

abbrev has_any : List Segment → Bool
has_any [] = false
has_any (s ∷ more) = true

any_with_frames : (c : FrameContent) (segments : List SharedSegment) (t : SharedThread) → has_segments (record t { segments = segments })
    ≡ has_any (map (segment_with_frames c) segments)
any_with_frames c [] t = refl
any_with_frames c (s ∷ more) t = refl

any_behind : (lower : List Segment) (s : Segment) → has_any (lower ++ s ∷ []) ≡ true
any_behind [] s = refl
any_behind (x ∷ lower) s = refl

abbrev popped_in : ThreadNo → SharedThread → SharedThread
popped_in t e = cond (e.number.0 == t.0) (record e { segments = without_top e.segments }) e

module _ (c : FrameContent) (t : ThreadNo) (lower : List Segment) where
  abbrev lower_in : Thread → Thread
  lower_in e = cond (e.number.0 == t.0) (record e { segments = lower }) e

  -- of the thread of the number these are left
  abbrev LeavesLower : SharedThread → Type 0
  LeavesLower e = (e.number.0 ≡ t.0 → map (segment_with_frames c) (without_top e.segments) ≡ lower) × (has_segments e ≡ true)

  lower_step : (b : Bool) (e : SharedThread) → e.number.0 == t.0 ≡ b → LeavesLower e
      → thread_with_frames c (cond b (record e { segments = without_top e.segments }) e)
      ≡ cond b (record (thread_with_frames c e) { segments = lower }) (thread_with_frames c e)
  lower_step true e is h = ap (λ (xs : List Segment). record (thread_with_frames c e) { segments = xs }) (h.0 (eqb-true e.number.0 t.0 is))
  lower_step false e is h = refl

  stays_live : has_any lower ≡ true → (b : Bool) (e : SharedThread) → e.number.0 == t.0 ≡ b → LeavesLower e
      → has_segments (cond b (record e { segments = without_top e.segments }) e) ≡ true
  stays_live some true e is h = any_with_frames c (without_top e.segments) e ∙ ap has_any (h.0 (eqb-true e.number.0 t.0 is)) ∙ some
  stays_live some false e is h = h.1

  higher_goes : has_any lower ≡ true → (threads : List SharedThread) → ((e : SharedThread) → Contains threads e → LeavesLower e)
      → map (thread_with_frames c) (filter has_segments (map (popped_in t) threads)) ≡ map lower_in (map (thread_with_frames c) threads)
  higher_goes some [] h = refl
  higher_goes some (e ∷ threads) h =
      let here = h e (Contains-here e threads) in
      let rest : List SharedThread = filter has_segments (map (popped_in t) threads) in
      ap (λ (b : Bool). map (thread_with_frames c) (cond b (popped_in t e ∷ rest) rest))
      (stays_live some (e.number.0 == t.0) e refl here)
      ∙ (λ i. lower_step (e.number.0 == t.0) e refl here i ∷ higher_goes some threads (λ x later. h x (Contains-there x e threads later)) i)

  lowest_step : has_any lower ≡ false → (b : Bool) (e : SharedThread) (rest : List SharedThread) (more : List Thread) → e.number.0 == t.0 ≡ b
      → LeavesLower e → map (thread_with_frames c) rest ≡ more
      → map (thread_with_frames c)
      (cond (has_segments (cond b (record e { segments = without_top e.segments }) e)) (cond b (record e { segments = without_top e.segments }) e ∷ rest)
      rest)
      ≡ cond (not b) (thread_with_frames c e ∷ more) more
  lowest_step none true e rest more is h later =
      ap (λ (b : Bool). map (thread_with_frames c) (cond b (record e { segments = without_top e.segments } ∷ rest) rest))
      (any_with_frames c (without_top e.segments) e ∙ ap has_any (h.0 (eqb-true e.number.0 t.0 is)) ∙ none) ∙ later
  lowest_step none false e rest more is h later =
      ap (λ (b : Bool). map (thread_with_frames c) (cond b (e ∷ rest) rest)) h.1 ∙ ap (λ (xs : List Thread). thread_with_frames c e ∷ xs) later

  lowest_goes : has_any lower ≡ false → (threads : List SharedThread) → ((e : SharedThread) → Contains threads e → LeavesLower e)
      → map (thread_with_frames c) (filter has_segments (map (popped_in t) threads))
      ≡ filter (λ (e : Thread). not (e.number.0 == t.0)) (map (thread_with_frames c) threads)
  lowest_goes none [] h = refl
  lowest_goes none (e ∷ threads) h =
      lowest_step none (e.number.0 == t.0) e (filter has_segments (map (popped_in t) threads))
      (filter (λ (x : Thread). not (x.number.0 == t.0)) (map (thread_with_frames c) threads)) refl (h e (Contains-here e threads))
      (lowest_goes none threads (λ x later. h x (Contains-there x e threads later)))

-- ---- The thread of the running segment.

Contains-mapped : {X Y : Type 0} (f : X → Y) (xs : List X) (x : X) → Contains xs x → Contains (map f xs) (f x)
Contains-mapped f [] x h = absurd (Contains-none x h)
Contains-mapped {X = X} f (y ∷ ys) x h = elim (Contains-cases x y ys h) [
  | inl same ↦ subst (λ (z : X). Contains (f y ∷ map f ys) (f z)) same (Contains-here (f y) (map f ys))
  | inr later ↦ Contains-there (f x) (f y) (map f ys) (Contains-mapped f ys x later)
]

module _ (p : MachineParts) (t : ThreadNo) (r : RunningSegment (machine_of p) t) (all : HaveAllSegments p)
    (apart : AreSegmentsApart (machine_of p)) where
  leaves : (e : SharedThread) → Contains p.shared.threads e → LeavesLower p.frames t r.lower e
  leaves e there = (with_number, all e there)
    where
      with_number : e.number.0 ≡ t.0 → map (segment_with_frames p.frames) (without_top e.segments) ≡ r.lower
      with_number same =
          let at = thread_at (machine_of p) t r [] apart in
          let here = Contains-mapped (thread_with_frames p.frames) p.shared.threads e there in
          let place = place_of (machine_of p).threads (thread_with_frames p.frames e) here in
          let number : e.number ≡ r.thread.number = (λ i. record { 0 = (same ∙ sym at.2) i }) in
          let k : place.0 ≡ at.0 = apart.threads place.0 at.0 (thread_with_frames p.frames e) r.thread place.1 at.1 number in
          let one : thread_with_frames p.frames e ≡ r.thread =
          same_Some (thread_with_frames p.frames e) r.thread (sym place.1 ∙ ap (slice_get (machine_of p).threads) k ∙ at.1) in
          top_goes p.frames e.segments ∙ ap (λ (x : Thread). without_top x.segments) one ∙ ap without_top r.are_segments
          ∙ last_goes r.lower r.segment

  pub lowest_pops : r.lower ≡ [] → machine_of (record p { shared = popped t p.shared }) ≡ without_thread t (machine_of p)
  lowest_pops lowest =
      ap (λ (ts : List Thread). record (machine_of p) { threads = ts })
      (lowest_goes p.frames t r.lower (ap has_any lowest) p.shared.threads leaves)

  pub higher_pops : (lower : List Segment) (below : Segment) → r.lower ≡ lower ++ below ∷ []
      → machine_of (record p { shared = popped t p.shared }) ≡ without_running r
  higher_pops lower below is =
      ap (λ (ts : List Thread). record (machine_of p) { threads = ts })
      (higher_goes p.frames t r.lower (ap has_any is ∙ any_behind lower below) p.shared.threads leaves)

-- ---- Frames of a segment that is gone.

pub gone_frames : (m : Machine) (n : SegmentNo) (frames : List FrameState)
    → ((thread : Thread) (s : Segment) → Contains m.threads thread → Contains thread.segments s → s.shared.number.0 ≡ n.0 → ⊥)
    → with_frames_of n frames m ≡ m
gone_frames m n frames none = ap (λ (ts : List Thread). record m { threads = ts }) (threads_stay m.threads none)
  where
    threads_stay : (threads : List Thread)
        → ((thread : Thread) (s : Segment) → Contains threads thread → Contains thread.segments s → s.shared.number.0 ≡ n.0 → ⊥)
        → map (λ (e : Thread). record e { segments = map (with_frames_in n frames) e.segments }) threads ≡ threads
    threads_stay [] h = refl
    threads_stay (e ∷ threads) h =
        λ i. record e { segments = none_changes n frames e.segments (λ s there. h e s (Contains-here e threads) there) i }
        ∷ threads_stay threads (λ x s later. h x s (Contains-there x e threads later)) i
