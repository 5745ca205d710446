-- The top segment of a thread, of which no frame is left, is taken off: the machine is sealed but for the segment below it, whose top frame has
-- made a call, and sealed where a RevokedException is pending for that one.
use Rattle.std.proofs.Common.{◌≡◌, ◌≢◌, ℕ, ◌+◌, ◌<◌, ◌≤◌, ◌==◌, ◌⊎◌, inl, inr, Bool, true, false, cond, List, [], ◌∷◌, ◌++◌, map, sum_by, append_assoc, Contains, Some, slice_get, refl, sym, ap, subst, ◌∙◌, arith}
use Rattle.std.proofs.lemmas.Bool.{cases_eq, cases_lt, eqb-true}
use Rattle.std.proofs.lemmas.List.Sums.{sum_by_push}
use Rattle.std.proofs.lemmas.Option.{same_Some}
use Rattle.jk_model.specs.declared.identifiers.ClassId.{ClassId}
use Rattle.jk_model.specs.declared.identifiers.DomainId.{DomainId}
use Rattle.jk_model.specs.declared.identifiers.ThreadNo.{ThreadNo}
use Rattle.jk_model_heaps.specs.Workings.{Inside}
use Rattle.jk_model_sealing.specs.FittingFrames.{FitsAtCall}
use Rattle.jk_model_sharing.specs.Segments.{with_revoked}
use Rattle.jk_model_machine_state.specs.Machines.{DomainState, Machine, Segment, Thread, chunks_of}
use Rattle.jk_model_machine_state.specs.Places.{RunningSegment, with_running, without_top}
use Rattle.jk_model_crossings.specs.Throwing.{TopTwo, with_revoked_below}
use Rattle.jk_model_runs.specs.Sealed.{CallerFits, IsSealed, IsSealedSegment, SegmentsFit, TopFits, initialisers_of, segment_initialisers, surroundings}
use Rattle.list_lemmas.proofs.ItemsByPlace.{slice_get-last, slice_get-longer, slice_get-push_cases}
use Rattle.list_lemmas.proofs.ItemsOfLists.{Contains-at, place_of}
use Rattle.machine_laws.proofs.ChangedItems.{none_changed}
use Rattle.machine_laws.proofs.LowestSegmentsLeft.{no_initialisers}
use Rattle.machine_laws.proofs.RunningSegmentsFit.{frames_weaker, thread_place}
use Rattle.machine_laws.proofs.RunsAgain.{segments_twice, set_inside, set_segments, thread_set}
use Rattle.machine_laws.proofs.ThreadsThinned.{Thins, WasIn, lives_thinned, sealed_thinned, segment_thinned, segments_thinned, thinned}

-- ---- In a sealed machine.

-- threads of one number are one
pub thread_is : (m : Machine) (t : ThreadNo)
    → ((i j : ℕ) (a b : Thread) → i < j → slice_get m.threads i ≡ Some a → slice_get m.threads j ≡ Some b → a.number.0 < b.number.0)
    → (p : RunningSegment m t) → (e : Thread) → Contains m.threads e → e.number.0 ≡ t.0 → e ≡ p.thread
thread_is m t rise p e on same = by (cases_eq at.0 place.0)
  where
    at : (i : ℕ) × (slice_get m.threads i ≡ Some e)
    at = place_of m.threads e on

    place : (i : ℕ) × (slice_get m.threads i ≡ Some p.thread) × (p.thread.number.0 ≡ t.0)
    place = thread_place m t p

    by : (at.0 ≡ place.0) ⊎ (at.0 ≢ place.0) → e ≡ p.thread
    by (inl one) = same_Some e p.thread (sym at.1 ∙ ap (slice_get m.threads) one ∙ place.1)
    by (inr differ) = elim (cases_lt at.0 place.0) [
      | inl below ↦
          let less = rise at.0 place.0 e p.thread below at.1 place.1 in
          let number = place.2 in
          absurd (omega (arith, less, same, number))
      | inr above ↦
          let less = rise place.0 at.0 p.thread e (omega (arith, above, differ)) place.1 at.1 in
          let number = place.2 in
          absurd (omega (arith, less, same, number))
    ]

pub one_thread : (m : Machine) (t : ThreadNo) → IsSealed m → (p : RunningSegment m t) → (e : Thread) → Contains m.threads e → e.number.0 ≡ t.0
    → e ≡ p.thread
one_thread m t sealed p e on same = thread_is m t sealed.threads.rise p e on same

set_segments_by : (b : Bool) (e : Thread) (segments : List Segment) → (b ≡ true → e.segments ≡ segments)
    → cond b (record e { segments = segments }) e ≡ e
set_segments_by true e segments has = λ i. record e { segments = sym (has refl) i }
set_segments_by false e segments has = refl

-- a thread that is set to what it has is as it was
pub segments_stay : (m : Machine) (t : ThreadNo)
    → ((i j : ℕ) (a b : Thread) → i < j → slice_get m.threads i ≡ Some a → slice_get m.threads j ≡ Some b → a.number.0 < b.number.0)
    → (p : RunningSegment m t) → map (set_segments t (p.lower ++ p.segment ∷ [])) m.threads ≡ m.threads
segments_stay m t rise p =
    none_changed (set_segments t (p.lower ++ p.segment ∷ [])) m.threads
    (λ i e there.
    set_segments_by (e.number.0 == t.0) e (p.lower ++ p.segment ∷ [])
    (λ same.
    ap (λ (x : Thread). x.segments) (thread_is m t rise p e (Contains-at m.threads i e there) (eqb-true e.number.0 t.0 same)) ∙ p.are_segments))

set_by : (b : Bool) (e : DomainState) (inside : Inside) → (b ≡ true → e.inside ≡ Some inside) → cond b (record e { inside = Some inside }) e ≡ e
set_by true e inside has = λ i. record e { inside = sym (has refl) i }
set_by false e inside has = refl

-- a domain that is set to what it has is as it was
pub inside_stays : (m : Machine) (d : DomainId) → ((i : ℕ) (e : DomainState) → slice_get m.domains i ≡ Some e → e.number.0 ≡ i)
    → (domain : DomainState) (inside : Inside) → slice_get m.domains d.0 ≡ Some domain
    → domain.inside ≡ Some inside → map (set_inside d inside) m.domains ≡ m.domains
inside_stays m d numbered domain inside at is =
    none_changed (set_inside d inside) m.domains (λ i e there. set_by (e.number.0 == d.0) e inside (has i e there))
  where
    has : (i : ℕ) (e : DomainState) → slice_get m.domains i ≡ Some e → (e.number.0 == d.0) ≡ true → e.inside ≡ Some inside
    has i e there same =
        let place = sym (numbered i e there) ∙ eqb-true e.number.0 d.0 same in
        ap (λ (x : DomainState). x.inside) (same_Some e domain (sym there ∙ ap (slice_get m.domains) place ∙ at)) ∙ is

-- ---- One thread's segments are others.

module _ (m : Machine) (t : ThreadNo) (sealed : IsSealed m) (p : RunningSegment m t) (next : List Segment) where
  abbrev pub changes : Thread → Thread
  changes = set_segments t next

  pub each_changed : (P : Thread → Thread → Type 0) → P (record p.thread { segments = next }) p.thread
      → ((e : Thread) → Contains m.threads e → P e e) → (e : Thread) → Contains m.threads e → P (changes e) e
  each_changed P new old e on = by (e.number.0 == t.0) refl
    where
      by : (b : Bool) → (e.number.0 == t.0) ≡ b → P (cond b (record e { segments = next }) e) e
      by true same =
          subst (λ (x : Thread). P (record x { segments = next }) x) (sym (one_thread m t sealed p e on (eqb-true e.number.0 t.0 same))) new
      by false same = old e on

  number_by : (b : Bool) (e : Thread) → (cond b (record e { segments = next }) e).number ≡ e.number
  number_by true e = refl
  number_by false e = refl

  domain_by : (b : Bool) (e : Thread) → (cond b (record e { segments = next }) e).domain ≡ e.domain
  domain_by true e = refl
  domain_by false e = refl

  -- the segment at each place stood there before, with the same number and domain
  pub record WasAt (k : ℕ) (s : Segment) : Type 0 where
    pub before : Segment
    pub stood : slice_get p.thread.segments k ≡ Some before
    pub number : s.shared.number ≡ before.shared.number
    pub domain : s.shared.domain ≡ before.shared.domain

  pub thins : ((k : ℕ) (s : Segment) → slice_get next k ≡ Some s → WasAt k s) → SegmentsFit (thinned m changes) next
      → ((d : DomainId) → sum_by (chunks_of d) next ≤ sum_by (chunks_of d) p.thread.segments)
      → ((d : DomainId) (c : ClassId) → sum_by (segment_initialisers d c) next ≡ initialisers_of d c p.thread) → Thins m changes
  thins was fits chunks initialisers = record {
    sealed = sealed;
    number = λ e. number_by (e.number.0 == t.0) e;
    domain = λ e. domain_by (e.number.0 == t.0) e;
    was = λ e s on.
        each_changed (λ new old. Contains new.segments s → WasIn old s)
        (λ has.
        let at = place_of next s has in
        let w = was at.0 s at.1 in
        record { before = w.before; there = Contains-at p.thread.segments at.0 w.before w.stood; number = w.number; domain = w.domain })
        (λ x there has. record { before = s; there = has; number = refl; domain = refl }) e on;
    differ = λ e k l s u on.
        each_changed
        (λ new old. slice_get new.segments k ≡ Some s → slice_get new.segments l ≡ Some u → s.shared.number ≡ u.shared.number → k ≡ l)
        (λ s_at u_at same.
        let v = was k s s_at in
        let w = was l u u_at in
        let place = thread_place m t p in
        (sealed.threads.segments_differ place.0 place.0 k l p.thread p.thread v.before w.before place.1 place.1 v.stood w.stood
        (sym v.number ∙ same ∙ w.number)).1)
        (λ x there s_at u_at same.
        let at = place_of m.threads x there in
        (sealed.threads.segments_differ at.0 at.0 k l x x s u at.1 at.1 s_at u_at same).1) e on;
    fits = each_changed (λ new old. SegmentsFit (thinned m changes) new.segments) fits
        (λ x there. segments_thinned m changes x.segments (sealed.threads.segments x there));
    chunks = λ e d on.
        each_changed (λ new old. sum_by (chunks_of d) new.segments ≤ sum_by (chunks_of d) old.segments) (chunks d) (λ x there. omega arith) e on;
    initialisers = λ e d c on.
        each_changed (λ new old. initialisers_of d c new ≡ initialisers_of d c old) (initialisers d c) (λ x there. refl) e on;
  }

-- ---- The top one is gone.

module _ (m : Machine) (t : ThreadNo) (sealed : IsSealed m) (s : TopTwo m t) (left : s.left.segment.frames ≡ []) where
  abbrev pub below : Segment
  below = s.below.segment

  -- the segment below, for which a RevokedException is pending
  abbrev pub waiting : Segment
  waiting = record below { shared = with_revoked true below.shared }

  abbrev pub lower : List Segment
  lower = s.below.lower

  abbrev pub next : List Segment
  next = lower ++ waiting ∷ []

  abbrev pub g : Thread → Thread
  g = changes m t sealed s.left next

  below_thread : s.below.thread ≡ record s.left.thread { segments = s.left.lower }
  below_thread =
      same_Some s.below.thread (record s.left.thread { segments = s.left.lower })
      (sym s.below.is_thread ∙ thread_set m t s.left.lower s.left)

  pub lower_is : s.left.lower ≡ lower ++ below ∷ []
  lower_is = sym (ap (λ (e : Thread). e.segments) below_thread) ∙ s.below.are_segments

  segments_are : s.left.thread.segments ≡ (lower ++ below ∷ []) ++ s.left.segment ∷ []
  segments_are = s.left.are_segments ∙ ap (λ (ss : List Segment). ss ++ s.left.segment ∷ []) lower_is

  stood_at : (k : ℕ) (u : Segment) → slice_get (lower ++ below ∷ []) k ≡ Some u → slice_get s.left.thread.segments k ≡ Some u
  stood_at k u at =
      ap (λ (ss : List Segment). slice_get ss k) segments_are ∙ slice_get-longer (lower ++ below ∷ []) (s.left.segment ∷ []) k u at

  was : (k : ℕ) (u : Segment) → slice_get next k ≡ Some u → WasAt m t sealed s.left next k u
  was k u at = elim (slice_get-push_cases lower waiting u k at) [
    | inl (within, there) ↦ record {
      before = u;
      stood = stood_at k u (slice_get-longer lower (below ∷ []) k u there);
      number = refl;
      domain = refl;
    }
    | inr (last, is) ↦ record {
      before = below;
      stood = stood_at k below (ap (slice_get (lower ++ below ∷ [])) last ∙ slice_get-last lower below);
      number = ap (λ (x : Segment). x.shared.number) (sym is);
      domain = ap (λ (x : Segment). x.shared.domain) (sym is);
    }
  ]

  waits_well : IsSealedSegment m (CallerFits m) below → IsSealedSegment (thinned m g) (λ inside f. TopFits (thinned m g) inside waiting f) waiting
  waits_well h = record {
    home = lives_thinned m g below.shared.domain h.home;
    frames = frames_weaker (surroundings m h.home.domain) h.home.inside.heap (FitsAtCall m.classes h.home.inside.heap)
        (TopFits m h.home.inside waiting) (λ f call. inr (refl, call)) below.frames h.frames;
  }

  fits_from : (front : List Segment) → SegmentsFit m (front ++ below ∷ s.left.segment ∷ []) → SegmentsFit (thinned m g) (front ++ waiting ∷ [])
  fits_from [] h = waits_well h.0
  fits_from (a ∷ []) h = (segment_thinned m g (CallerFits m) a h.0, waits_well h.1.0)
  fits_from (a ∷ b ∷ front) h = (segment_thinned m g (CallerFits m) a h.0, fits_from (b ∷ front) h.1)

  fits : SegmentsFit (thinned m g) next
  fits =
      let place = thread_place m t s.left in
      fits_from lower
      (subst (SegmentsFit m) (segments_are ∙ append_assoc lower (below ∷ []) (s.left.segment ∷ []))
      (sealed.threads.segments s.left.thread (Contains-at m.threads place.0 s.left.thread place.1)))

  all_of : (f : Segment → ℕ) → sum_by f s.left.thread.segments ≡ sum_by f lower + f below + f s.left.segment
  all_of f =
      ap (sum_by f) segments_are ∙ sum_by_push f (lower ++ below ∷ []) s.left.segment
      ∙ ap (λ (n : ℕ). n + f s.left.segment) (sum_by_push f lower below)

  chunks : (d : DomainId) → sum_by (chunks_of d) next ≤ sum_by (chunks_of d) s.left.thread.segments
  chunks d =
      let now : sum_by (chunks_of d) next ≡ sum_by (chunks_of d) lower + chunks_of d below = sum_by_push (chunks_of d) lower waiting in
      let all = all_of (chunks_of d) in
      omega (arith, now, all)

  initialisers : (d : DomainId) (c : ClassId) → sum_by (segment_initialisers d c) next ≡ initialisers_of d c s.left.thread
  initialisers d c =
      let f : Segment → ℕ = segment_initialisers d c in
      let now : sum_by f next ≡ sum_by f lower + f below = sum_by_push f lower waiting in
      let none : f s.left.segment ≡ 0 = no_initialisers d c s.left.segment left in
      let all = all_of f in
      omega (arith, now, none, all)

  taken : IsSealed (thinned m g)
  taken = sealed_thinned m g (thins m t sealed s.left next was fits chunks initialisers)

  is_taken : with_revoked_below s ≡ thinned m g
  is_taken = λ i. record m {
    domains = inside_stays m below.shared.domain sealed.domains.numbered s.below.home.domain s.below.home.inside s.below.home.is_domain s.below.home.is_inside i;
    threads = segments_twice t s.left.lower next m.threads i;
  }

  pub taken_sealed : IsSealed (with_revoked_below s)
  taken_sealed = subst IsSealed (sym is_taken) taken

  -- ---- The segment below runs there.

  -- the machine without the top segment, in which a RevokedException is pending for the one below
  abbrev pub without : Machine
  without = thinned m g

  pub sealed_there : IsSealed without
  sealed_there = taken

  abbrev pub below_there : RunningSegment without t
  below_there = record {
    thread = record s.left.thread { segments = next };
    is_thread = thread_set m t next s.left;
    lower = lower;
    segment = waiting;
    are_segments = refl;
    home = record {
      domain = s.below.home.domain;
      is_domain = s.below.home.is_domain;
      numbered = s.below.home.numbered;
      inside = s.below.home.inside;
      is_inside = s.below.home.is_inside;
    };
  }

  -- it leads where it leads in the machine without the top segment
  pub leads_there : (segment : Segment) (inside : Inside) → with_running below_there segment inside ≡ with_running s.below segment inside
  leads_there segment inside = λ i. record m {
    domains = map (set_inside below.shared.domain inside) m.domains;
    threads = (segments_twice t next (lower ++ segment ∷ []) m.threads ∙ sym (segments_twice t s.left.lower (lower ++ segment ∷ []) m.threads)) i;
  }

  pub stands_there : without_top s.left ≡ with_running below_there below s.below.home.inside
  stands_there = λ i. record m {
    domains = sym (inside_stays m below.shared.domain sealed.domains.numbered s.below.home.domain s.below.home.inside s.below.home.is_domain s.below.home.is_inside) i;
    threads = (ap (λ (ss : List Segment). map (set_segments t ss) m.threads) lower_is
        ∙ sym (segments_twice t next (lower ++ below ∷ []) m.threads)) i;
  }
