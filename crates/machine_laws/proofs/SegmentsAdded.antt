-- The running segment of a sealed machine has made a call, and a new segment of some domain is on top of it: the machine is sealed.
use Rattle.std.proofs.Common.{◌≡◌, ◌≢◌, ℕ, suc, ◌+◌, ◌<◌, ◌≤◌, ◌==◌, ◌⊎◌, inl, inr, Bool, true, false, cond, List, [], ◌∷◌, ◌++◌, append_assoc, length, map, set, sum_by, Contains, Some, slice_get, refl, sym, ap, subst, ◌∙◌, arith, eq-eqb}
use Rattle.std.specs.Option.{option_map}
use Rattle.std.specs.Prelude.{count_by}
use Rattle.std.proofs.lemmas.Bool.{cases_eq, cases_lt, eqb-true}
use Rattle.std.proofs.lemmas.List.Sums.{sum_by_push}
use Rattle.std.proofs.lemmas.Option.{same_Some}
use Rattle.jk_model.specs.declared.identifiers.ClassId.{ClassId}
use Rattle.jk_model.specs.declared.identifiers.DomainId.{DomainId}
use Rattle.jk_model.specs.declared.identifiers.SegmentNo.{SegmentNo}
use Rattle.jk_model.specs.declared.identifiers.ThreadNo.{ThreadNo}
use Rattle.jk_model_domains.specs.Objects.{Task}
use Rattle.jk_model_frames.specs.Frames.{FrameState, frames_chunks, head_chunks, segment_chunks}
use Rattle.jk_model_heaps.specs.Workings.{Inside}
use Rattle.jk_model_sealing.specs.ClassesInProgress.{initialises, progress_by}
use Rattle.jk_model_sealing.specs.FittingFrames.{FitsAsTop, FitsAtCall}
use Rattle.jk_model_sealing.specs.SealedRuns.{AreSealedFrames}
use Rattle.jk_model_machine_state.specs.Machines.{DomainState, IsLiveThread, Machine, Segment, Thread, chunks_of, chunks_used, free_chunks, with_segments}
use Rattle.jk_model_machine_state.specs.Places.{LiveDomain, RunningSegment, first_segment}
use Rattle.jk_model_runs.specs.Sealed.{AreSealedDomains, AreSealedThreads, CallerFits, IsSealed, IsSealedSegment, SegmentsFit, TopFits, initialisers_of, segment_initialisers, surroundings}
use Rattle.list_lemmas.proofs.ItemsByPlace.{comes_from, slice_get-last, slice_get-longer, slice_get-push_cases}
use Rattle.list_lemmas.proofs.ItemsOfLists.{Contains-at, place_of}
use Rattle.machine_laws.proofs.ChangedItems.{as_many_pass, one_changed, sum_changed}
use Rattle.machine_laws.proofs.DomainsAfterRuns.{costs_elsewhere, costs_here}
use Rattle.machine_laws.proofs.InitialisersAfterRuns.{found_still}
use Rattle.machine_laws.proofs.RunningSegmentsFit.{frames_weaker, thread_place}
use Rattle.machine_laws.proofs.RunsAgain.{set_segments, thread_number}
use Rattle.machine_laws.proofs.ThreadsThinned.{thinned}
use Rattle.machine_laws.proofs.TopSegmentsTaken.{each_changed, one_thread}

-- The running segment, as it is where it has made its call; and the frame with which a segment of this domain begins.
pub record MayEnter (m : Machine) (t : ThreadNo) : Type 0 where
  pub sealed : IsSealed m
  pub place : RunningSegment m t
  pub waiting : List FrameState
  pub calls : AreSealedFrames (surroundings m place.home.domain) (FitsAtCall m.classes place.home.inside.heap) place.home.inside.heap waiting
  -- it costs and initialises what it did
  pub cost : frames_chunks waiting ≡ frames_chunks place.segment.frames
  pub counts : (c : ClassId) → count_by (initialises c) waiting ≡ count_by (initialises c) place.segment.frames
  pub number : DomainId
  pub home : LiveDomain m number
  pub frame : FrameState
  pub fits : AreSealedFrames (surroundings m home.domain) (FitsAsTop m.classes home.inside.heap) home.inside.heap (frame ∷ [])
  pub plain : (c : ClassId) → count_by (initialises c) (frame ∷ []) ≡ 0
  pub room : 1 + head_chunks frame.head ≤ free_chunks m home.domain

module _ (m : Machine) (t : ThreadNo) (e : MayEnter m t) where
  abbrev sealed : IsSealed m
  sealed = e.sealed

  abbrev p : RunningSegment m t
  p = e.place

  abbrev pub called : Segment
  called = record e.place.segment { frames = e.waiting }

  abbrev pub added : Segment
  added = first_segment m e.number e.frame

  abbrev pub next : List Segment
  next = e.place.lower ++ called ∷ added ∷ []

  abbrev pub entered : Machine
  entered = record (with_segments t next m) { next_segment = suc m.next_segment }

  abbrev changed : Machine
  changed = thinned m (set_segments t next)

  abbrev front : List Segment
  front = e.place.lower ++ called ∷ []

  next_is : next ≡ front ++ added ∷ []
  next_is = sym (append_assoc e.place.lower (called ∷ []) (added ∷ []))

  -- ---- What is counted of the thread.

  all_before : (f : Segment → ℕ) → sum_by f p.thread.segments ≡ sum_by f p.lower + f p.segment
  all_before f = ap (sum_by f) p.are_segments ∙ sum_by_push f p.lower p.segment

  all_after : (f : Segment → ℕ) → sum_by f next ≡ sum_by f p.lower + f called + f added
  all_after f = ap (sum_by f) next_is ∙ sum_by_push f front added ∙ ap (λ (n : ℕ). n + f added) (sum_by_push f p.lower called)

  cost_if : (b : Bool) (a c : ℕ) → a ≡ c → cond b a 0 ≡ cond b c 0
  cost_if b a c same = ap (λ (n : ℕ). cond b n 0) same

  same_cost : (d : DomainId) → chunks_of d called ≡ chunks_of d p.segment
  same_cost d =
      cost_if (p.segment.shared.domain.0 == d.0) (segment_chunks e.waiting) (segment_chunks p.segment.frames) (ap (λ (n : ℕ). 1 + n) e.cost)

  same_count : (d : DomainId) (c : ClassId) → segment_initialisers d c called ≡ segment_initialisers d c p.segment
  same_count d c =
      cost_if (p.segment.shared.domain.0 == d.0) (count_by (initialises c) e.waiting) (count_by (initialises c) p.segment.frames) (e.counts c)

  zero_by : (b : Bool) (n : ℕ) → n ≡ 0 → cond b n 0 ≡ 0
  zero_by true n e = e
  zero_by false n e = refl

  none_added : (d : DomainId) (c : ClassId) → segment_initialisers d c added ≡ 0
  none_added d c = zero_by (e.number.0 == d.0) (count_by (initialises c) (e.frame ∷ [])) (e.plain c)

  abbrev place : (i : ℕ) × (slice_get m.threads i ≡ Some p.thread) × (p.thread.number.0 ≡ t.0)
  place = thread_place m t p

  cond_if : {X : Type 0} (b : Bool) (x y : X) → b ≡ true → cond b x y ≡ x
  cond_if true x y e = refl
  cond_if false x y e = absurd cc

  threads_are : map (set_segments t next) m.threads ≡ set m.threads place.0 (record p.thread { segments = next })
  threads_are =
      one_changed (set_segments t next) m.threads place.0 p.thread place.1
      (λ i x differ at. kept i x differ at (x.number.0 == t.0) refl)
      ∙ ap (set m.threads place.0)
      (cond_if (p.thread.number.0 == t.0) (record p.thread { segments = next }) p.thread (eq-eqb p.thread.number.0 t.0 place.2))
    where
      kept : (i : ℕ) (x : Thread) → i ≢ place.0 → slice_get m.threads i ≡ Some x → (b : Bool) → (x.number.0 == t.0) ≡ b
          → cond b (record x { segments = next }) x ≡ x
      kept i x differ at false none = refl
      kept i x differ at true same =
          let one = one_thread m t sealed p x (Contains-at m.threads i x at) (eqb-true x.number.0 t.0 same) in
          absurd (differ (same_places i x at one))
        where
          same_places : (i : ℕ) (x : Thread) → slice_get m.threads i ≡ Some x → x ≡ p.thread → i ≡ place.0
          same_places i x at one = elim (cases_eq i place.0) [
            | inl e ↦ e
            | inr other ↦ elim (cases_lt i place.0) [
              | inl less ↦
                  let rise = sealed.threads.rise i place.0 x p.thread less at place.1 in
                  let number : x.number.0 ≡ p.thread.number.0 = ap (λ (y : Thread). y.number.0) one in
                  absurd (omega (arith, rise, number))
              | inr more ↦
                  let rise = sealed.threads.rise place.0 i p.thread x (omega (arith, more, other)) place.1 at in
                  let number : x.number.0 ≡ p.thread.number.0 = ap (λ (y : Thread). y.number.0) one in
                  absurd (omega (arith, rise, number))
            ]
          ]

  all_chunks : (d : DomainId) → chunks_used entered d ≡ chunks_used m d + chunks_of d added
  all_chunks d =
      let f : Thread → ℕ = λ (x : Thread). sum_by (chunks_of d) x.segments in
      let sums = sum_changed f m.threads place.0 p.thread (record p.thread { segments = next }) place.1 in
      let now : chunks_used entered d ≡ sum_by f (set m.threads place.0 (record p.thread { segments = next })) = ap (sum_by f) threads_are in
      let before = all_before (chunks_of d) in
      let then = all_after (chunks_of d) in
      let same = same_cost d in
      omega (arith, sums, now, before, then, same)

  chunks_within : (d : DomainState) → Contains m.domains d → chunks_used entered d.number ≤ d.quotas.chunks
  chunks_within d on = by (cases_eq e.number.0 d.number.0)
    where
      by : (e.number.0 ≡ d.number.0) ⊎ (e.number.0 ≢ d.number.0) → chunks_used entered d.number ≤ d.quotas.chunks
      by (inl same) =
          let at = place_of m.domains d on in
          let number = sealed.domains.numbered at.0 d at.1 in
          let one : d ≡ e.home.domain =
          same_Some d e.home.domain (sym at.1 ∙ ap (slice_get m.domains) (sym number ∙ sym same) ∙ e.home.is_domain) in
          let cost = costs_here d.number added same in
          let single : frames_chunks (e.frame ∷ []) ≡ 0 + head_chunks e.frame.head = sum_by_push (λ (x : FrameState). head_chunks x.head) [] e.frame in
          let room : 1 + head_chunks e.frame.head ≤ free_chunks m d =
          subst (λ (x : DomainState). 1 + head_chunks e.frame.head ≤ free_chunks m x) (sym one) e.room in
          let used = all_chunks d.number in
          let within = sealed.domains.chunks d on in
          omega (arith, cost, single, room, used, within)
      by (inr other) =
          let none = costs_elsewhere d.number added other in
          let used = all_chunks d.number in
          let within = sealed.domains.chunks d on in
          omega (arith, none, used, within)

  domains_sealed : AreSealedDomains entered
  domains_sealed = record {
    numbered = sealed.domains.numbered;
    few = sealed.domains.few;
    names_differ = sealed.domains.names_differ;
    insides = sealed.domains.insides;
    chunks = chunks_within;
    budgets = sealed.domains.budgets;
    started = λ d on.
        subst (λ (n : ℕ). n ≤ d.quotas.threads)
        (sym (as_many_pass (set_segments t next) (λ (x : Thread). x.domain.0 == d.number.0) m.threads
        (λ x there. domain_by (x.number.0 == t.0) x d))) (sealed.domains.started d on);
  }
    where
      domain_by : (b : Bool) (x : Thread) (d : DomainState)
          → ((cond b (record x { segments = next }) x).domain.0 == d.number.0) ≡ (x.domain.0 == d.number.0)
      domain_by true x d = refl
      domain_by false x d = refl

  -- ---- Segments fit.

  abbrev lives : (d : DomainId) → LiveDomain m d → LiveDomain entered d
  lives d l = record { domain = l.domain; is_domain = l.is_domain; numbered = l.numbered; inside = l.inside; is_inside = l.is_inside }

  segment_fits : (Top : Inside → FrameState → Type 0) (s : Segment) → IsSealedSegment m Top s → IsSealedSegment entered Top s
  segment_fits Top s h = record { home = lives s.shared.domain h.home; frames = h.frames }

  segments_fit : (segments : List Segment) → SegmentsFit m segments → SegmentsFit entered segments
  segments_fit [] h = h
  segments_fit (s ∷ []) h = segment_fits (λ inside f. TopFits m inside s f) s h
  segments_fit (s ∷ above ∷ more) h = (segment_fits (CallerFits m) s h.0, segments_fit (above ∷ more) h.1)

  called_fits : IsSealedSegment entered (CallerFits entered) called
  called_fits = record { home = lives p.segment.shared.domain p.home; frames = e.calls }

  added_fits : IsSealedSegment entered (λ inside f. TopFits entered inside added f) added
  added_fits = record {
    home = lives e.number e.home;
    frames = frames_weaker (surroundings m e.home.domain) e.home.inside.heap (FitsAsTop m.classes e.home.inside.heap)
        (TopFits entered e.home.inside added) (λ f top. inl top) (e.frame ∷ []) e.fits;
  }

  own_fits : (lower : List Segment) → SegmentsFit m (lower ++ p.segment ∷ []) → SegmentsFit entered (lower ++ called ∷ added ∷ [])
  own_fits [] h = (called_fits, added_fits)
  own_fits (a ∷ []) h = (segment_fits (CallerFits m) a h.0, (called_fits, added_fits))
  own_fits (a ∷ b ∷ lower) h = (segment_fits (CallerFits m) a h.0, own_fits (b ∷ lower) h.1)

  -- ---- Which segment stands where.

  -- it stood there with that number and domain, or is the new one
  record WasAt (x : Thread) (k : ℕ) (s : Segment) : Type 0 where
    before : Segment
    stood : slice_get x.segments k ≡ Some before
    number : s.shared.number ≡ before.shared.number
    domain : s.shared.domain ≡ before.shared.domain

  abbrev IsNew : Thread → ℕ → Segment → Type 0
  IsNew x k s = (x ≡ p.thread) × (k ≡ length front) × (s ≡ added)

  Stands : Thread → ℕ → Segment → Type 0
  Stands x k s = WasAt x k s ⊎ IsNew x k s

  own_stands : (k : ℕ) (s : Segment) → slice_get next k ≡ Some s → Stands p.thread k s
  unfolding Stands
  own_stands k s at = by (slice_get-push_cases front added s k (ap (λ (ss : List Segment). slice_get ss k) (sym next_is) ∙ at))
    where
      in_front : slice_get front k ≡ Some s → Stands p.thread k s
      in_front there = elim (slice_get-push_cases p.lower called s k there) [
        | inl (within, was) ↦ inl (record {
          before = s;
          stood = ap (λ (ss : List Segment). slice_get ss k) p.are_segments ∙ slice_get-longer p.lower (p.segment ∷ []) k s was;
          number = refl;
          domain = refl;
        })
        | inr (last, is) ↦ inl (record {
          before = p.segment;
          stood = ap (λ (ss : List Segment). slice_get ss k) p.are_segments ∙ ap (slice_get (p.lower ++ p.segment ∷ [])) last
              ∙ slice_get-last p.lower p.segment;
          number = ap (λ (x : Segment). x.shared.number) (sym is);
          domain = ap (λ (x : Segment). x.shared.domain) (sym is);
        })
      ]

      by : ((k < length front) × (slice_get front k ≡ Some s)) ⊎ ((k ≡ length front) × (added ≡ s)) → Stands p.thread k s
      by (inl (within, there)) = in_front there
      by (inr (last, is)) = inr (refl, last, sym is)

  stands : (x : Thread) → Contains m.threads x → (k : ℕ) (s : Segment) → slice_get (set_segments t next x).segments k ≡ Some s → Stands x k s
  unfolding Stands
  stands x on k s =
      each_changed m t sealed p next (λ new old. slice_get new.segments k ≡ Some s → Stands old k s) (λ at. own_stands k s at)
      (λ y there at. inl (record { before = s; stood = at; number = refl; domain = refl })) x on

  -- the thread that stood there
  record WasThread (i : ℕ) (x : Thread) : Type 0 where
    before : Thread
    at : slice_get m.threads i ≡ Some before
    is : set_segments t next before ≡ x

  was_thread : (i : ℕ) (x : Thread) → slice_get entered.threads i ≡ Some x → WasThread i x
  was_thread i x at =
      let from = comes_from (set_segments t next) m.threads i x at in record { before = from.from; at = from.there; is = from.gives }

  each : (P : Thread → Type 0) → ((x : Thread) → Contains m.threads x → P (set_segments t next x)) → (x : Thread) → Contains entered.threads x → P x
  each P holds x on =
      let at = place_of entered.threads x on in
      let was = was_thread at.0 x at.1 in
      subst P was.is (holds was.before (Contains-at m.threads at.0 was.before was.at))

  numbers : (x : Thread) → (set_segments t next x).number.0 ≡ x.number.0
  numbers x = thread_number t next x

  rising : (i j : ℕ) (a b : Thread) → i < j → slice_get entered.threads i ≡ Some a → slice_get entered.threads j ≡ Some b → a.number.0 < b.number.0
  rising i j a b less at there =
      let x = was_thread i a at in
      let y = was_thread j b there in
      moved a.number.0 b.number.0 x.before.number.0 y.before.number.0 (sealed.threads.rise i j x.before y.before less x.at y.at)
      (ap (λ (z : Thread). z.number.0) (sym x.is) ∙ numbers x.before) (ap (λ (z : Thread). z.number.0) (sym y.is) ∙ numbers y.before)
    where
      moved : (a b c d : ℕ) → c < d → a ≡ c → b ≡ d → a < b
      moved a b c d less left right = omega arith

  before_next : (x : Thread) (k : ℕ) (s : Segment) → Contains m.threads x → slice_get x.segments k ≡ Some s
      → (1 ≤ s.shared.number.0) × (s.shared.number.0 < m.next_segment)
  before_next x k s on at = sealed.threads.segments_before x s on (Contains-at x.segments k s at)

  differ_by : (i j k l : ℕ) (x y : Thread) (s u : Segment) → slice_get m.threads i ≡ Some x → slice_get m.threads j ≡ Some y → Stands x k s → Stands y l u
      → s.shared.number ≡ u.shared.number → (i ≡ j) × (k ≡ l)
  unfolding Stands
  differ_by i j k l x y s u at there (inl v) (inl w) same =
      sealed.threads.segments_differ i j k l x y v.before w.before at there v.stood w.stood (sym v.number ∙ same ∙ w.number)
  differ_by i j k l x y s u at there (inl v) (inr w) same =
      let low = (before_next x k v.before (Contains-at m.threads i x at) v.stood).1 in
      let number : v.before.shared.number.0 ≡ m.next_segment =
      ap (λ (z : SegmentNo). z.0) (sym v.number ∙ same) ∙ ap (λ (z : Segment). z.shared.number.0) w.2 in
      absurd (omega (arith, low, number))
  differ_by i j k l x y s u at there (inr v) (inl w) same =
      let low = (before_next y l w.before (Contains-at m.threads j y there) w.stood).1 in
      let number : w.before.shared.number.0 ≡ m.next_segment =
      ap (λ (z : SegmentNo). z.0) (sym w.number ∙ sym same) ∙ ap (λ (z : Segment). z.shared.number.0) v.2 in
      absurd (omega (arith, low, number))
  differ_by i j k l x y s u at there (inr v) (inr w) same = (own_place i x at v.0 ∙ sym (own_place j y there w.0), v.1 ∙ sym w.1)
    where
      own_place : (i : ℕ) (x : Thread) → slice_get m.threads i ≡ Some x → x ≡ p.thread → i ≡ place.0
      own_place i x at one = elim (cases_eq i place.0) [
        | inl e ↦ e
        | inr other ↦ elim (cases_lt i place.0) [
          | inl less ↦
              let rise = sealed.threads.rise i place.0 x p.thread less at place.1 in
              let number : x.number.0 ≡ p.thread.number.0 = ap (λ (y : Thread). y.number.0) one in
              absurd (omega (arith, rise, number))
          | inr more ↦
              let rise = sealed.threads.rise place.0 i p.thread x (omega (arith, more, other)) place.1 at in
              let number : x.number.0 ≡ p.thread.number.0 = ap (λ (y : Thread). y.number.0) one in
              absurd (omega (arith, rise, number))
        ]
      ]

  segments_differ : (i j k l : ℕ) (a b : Thread) (s u : Segment) → slice_get entered.threads i ≡ Some a → slice_get entered.threads j ≡ Some b
      → slice_get a.segments k ≡ Some s → slice_get b.segments l ≡ Some u → s.shared.number ≡ u.shared.number → (i ≡ j) × (k ≡ l)
  segments_differ i j k l a b s u at there s_at u_at same =
      let x = was_thread i a at in
      let y = was_thread j b there in
      differ_by i j k l x.before y.before s u x.at y.at
      (stands x.before (Contains-at m.threads i x.before x.at) k s (ap (λ (z : Thread). slice_get z.segments k) x.is ∙ s_at))
      (stands y.before (Contains-at m.threads j y.before y.at) l u (ap (λ (z : Thread). slice_get z.segments l) y.is ∙ u_at)) same

  below_next : (x : Thread) (s : Segment) → Contains m.threads x → Contains (set_segments t next x).segments s
      → (1 ≤ s.shared.number.0) × (s.shared.number.0 < suc m.next_segment)
  unfolding Stands
  below_next x s on has =
      let at = place_of (set_segments t next x).segments s has in
      by at.0 (stands x on at.0 s at.1)
    where
      by : (k : ℕ) → Stands x k s → (1 ≤ s.shared.number.0) × (s.shared.number.0 < suc m.next_segment)
      by k (inl w) =
          let low = before_next x k w.before on w.stood in
          let number : s.shared.number.0 ≡ w.before.shared.number.0 = ap (λ (z : SegmentNo). z.0) w.number in
          (omega (arith, low.0, number), omega (arith, low.1, number))
      by k (inr w) =
          let first = sealed.threads.first_numbers.1 in
          let number : s.shared.number.0 ≡ m.next_segment = ap (λ (z : Segment). z.shared.number.0) w.2 in
          (omega (arith, first, number), omega (arith, number))

  threads_sealed : AreSealedThreads entered
  threads_sealed = record {
    segments = each (λ x. SegmentsFit entered x.segments)
        (each_changed m t sealed p next (λ new old. SegmentsFit entered new.segments)
        (own_fits p.lower
        (subst (SegmentsFit m) p.are_segments (sealed.threads.segments p.thread (Contains-at m.threads place.0 p.thread place.1))))
        (λ x on. segments_fit x.segments (sealed.threads.segments x on)));
    rise = rising;
    before = each (λ x. (1 ≤ x.number.0) × (x.number.0 < m.next_thread))
        (λ x on. subst (λ (n : ℕ). (1 ≤ n) × (n < m.next_thread)) (sym (numbers x)) (sealed.threads.before x on));
    first_numbers = (sealed.threads.first_numbers.0, omega arith);
    segments_before = λ x s.
        each (λ x. Contains x.segments s → (1 ≤ s.shared.number.0) × (s.shared.number.0 < suc m.next_segment)) (λ x on has. below_next x s on has) x;
    segments_differ = segments_differ;
  }

  -- ---- Tasks, and classes in progress.

  initialisers_stay : (d : DomainId) (c : ClassId) (x : Thread) → Contains m.threads x → initialisers_of d c (set_segments t next x) ≡ initialisers_of d c x
  initialisers_stay d c =
      each_changed m t sealed p next (λ new old. initialisers_of d c new ≡ initialisers_of d c old)
      (let before = all_before (segment_initialisers d c) in
      let then = all_after (segment_initialisers d c) in
      let same = same_count d c in
      let none = none_added d c in
      omega (arith, before, then, same, none)) (λ x on. refl)

  lives_on : (u : ThreadNo) → IsLiveThread m u → IsLiveThread entered u
  lives_on u (x, is) = (
    set_segments t next x,
    found_still (set_segments t next) (λ (y : Thread). y.number.0 == u.0) (λ y. ap (λ (n : ℕ). n == u.0) (numbers y)) m.threads
        ∙ ap (option_map (set_segments t next)) is,
  )

  thread_no : (x : Thread) → (set_segments t next x).number ≡ x.number
  thread_no x = by (x.number.0 == t.0)
    where
      by : (b : Bool) → (cond b (record x { segments = next }) x).number ≡ x.number
      by true = refl
      by false = refl

  pub entered_sealed : IsSealed entered
  unfolding Stands
  entered_sealed = record {
    domains = domains_sealed;
    heap_places = record { placed = sealed.heap_places.placed; apart = sealed.heap_places.apart };
    stack_places = record { placed = sealed.stack_places.placed; apart = sealed.stack_places.apart };
    capabilities = record {
      owner = sealed.capabilities.owner;
      count = sealed.capabilities.count;
      chained = sealed.capabilities.chained;
      within = sealed.capabilities.within;
      few = sealed.capabilities.few;
      remote = sealed.capabilities.remote;
      targets = sealed.capabilities.targets;
    };
    names = record {
      given_out = sealed.names.given_out;
      binders = λ n on. lives n.binder (sealed.names.binders n on);
      short = sealed.names.short;
      differ = sealed.names.differ;
      within = sealed.names.within;
    };
    threads = threads_sealed;
    tasks = record {
      given_out = λ d inside a n on is task.
          let given = sealed.tasks.given_out d inside a n on is task in let low = given.1 in (given.0, omega (arith, low));
      own = λ d inside a x s on is task there.
          each (λ x. Contains x.segments s → s.shared.domain ≡ d.number)
          (λ y of_thread has.
          let at = place_of (set_segments t next y).segments s has in
          own_by d inside a y s on is task of_thread at.0 (stands y of_thread at.0 s at.1)) x there;
    };
    initialisers = record {
      one = λ x d inside c there on is.
          each (λ x. initialisers_of d.number c x ≡ progress_by x.number inside.own c)
          (λ y of_thread.
          initialisers_stay d.number c y of_thread ∙ sealed.initialisers.one y d inside c of_thread on is
          ∙ ap (λ (n : ThreadNo). progress_by n inside.own c) (sym (thread_no y))) x there;
      live = λ d inside c u on is state. lives_on u (sealed.initialisers.live d inside c u on is state);
    };
  }
    where
      own_by : (d : DomainState) (inside : Inside) (a : ℕ) (y : Thread) (s : Segment) → Contains m.domains d → d.inside ≡ Some inside
          → Contains inside.heap (record { name = a; object = Task s.shared.number }) → Contains m.threads y → (k : ℕ) → Stands y k s
          → s.shared.domain ≡ d.number
      own_by d inside a y s on is task of_thread k (inl w) =
          w.domain
          ∙ sealed.tasks.own d inside a y w.before on is
          (subst (λ (n : SegmentNo). Contains inside.heap (record { name = a; object = Task n })) w.number task) of_thread
          (Contains-at y.segments k w.before w.stood)
      own_by d inside a y s on is task of_thread k (inr w) =
          let low = (sealed.tasks.given_out d inside a s.shared.number on is task).1 in
          let number : s.shared.number.0 ≡ m.next_segment = ap (λ (z : Segment). z.shared.number.0) w.2 in
          absurd (omega (arith, low, number))
