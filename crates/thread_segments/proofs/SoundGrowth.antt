-- Threads and segments stay sound with one more thread, and with one more segment.
use Rattle.std.proofs.Common.{◌≡◌, ◌≢◌, ℕ, zero, suc, ◌<◌, ◌≤◌, ◌⊎◌, inl, inr, false, List, [], ◌∷◌, ◌++◌, length, find, Option, Some, Contains, slice_get, refl, sym, ap, subst, ◌∙◌, arith, append-nil, append_assoc, lit≤}
use Rattle.std.specs.Prelude.{◌==◌}
use Rattle.std.proofs.lemmas.Bool.{cases_Bool, eqb-true, ne_eqb}
use Rattle.std.proofs.lemmas.Option.{same_Some}
use Rattle.jk_model.specs.declared.identifiers.DomainId.{DomainId}
use Rattle.jk_model.specs.declared.identifiers.SegmentNo.{SegmentNo}
use Rattle.jk_model.specs.declared.identifiers.ThreadNo.{ThreadNo}
use Rattle.jk_model_sharing.specs.Segments.{SharedSegment, SharedThread, count_segments_of, count_started_in, is_of, shared_form, thread_numbered, with_stack}
use Rattle.jk_model_sharing.specs.SharedStates.{MayBegin, SharedDomain, SharedState, begun, domain_numbered, drawn_segment, first_state, pushed}
use Rattle.list_lemmas.proofs.ItemsByPlace.{slice_get-push_cases}
use Rattle.list_lemmas.proofs.ItemsOfLists.{Contains-at, Contains-cases, Contains-here, Contains-none, Contains-there, place_of}
use Rattle.list_lemmas.proofs.FoundItems.{Finds, finds}
use Rattle.thread_segments.specs.Asked.{HasRoomForSegment, IsAdmitted, IsLiveDomain, IsLiveThread, MayDrawSegment, MayDrawThread}
use Rattle.thread_segments.specs.SoundStates.{AreNumbered, AreSound, AreSoundSegments, AreSoundThreads, all_segments}
use Rattle.thread_segments.proofs.OneMore.{HasOneMore, differ_more, last_more, more_behind, more_in_front, new_or_old, one_passes}
use Rattle.thread_segments.proofs.Remaining.{changed_remain}
use Rattle.thread_stacks.proofs.Filtered.{one_if}
use Rattle.thread_stacks.specs.StackAnswers.{segments_in}
use Rattle.thread_segments.proofs.SoundThreads.{SameThread, counted_in, one_thread, segment_number, threads_left}

-- ---- Domains stand at their numbers.

pub place_is : (domains : List SharedDomain) → AreNumbered domains → (e : SharedDomain) → Contains domains e → slice_get domains e.number.0 ≡ Some e
place_is domains numbered e there =
    let at = place_of domains e there in
    let P : ℕ → Type 0 = λ k. slice_get domains k ≡ Some e in
    subst P (sym (numbered at.0 e at.1)) at.1

pub one_domain : (domains : List SharedDomain) → AreNumbered domains → (e f : SharedDomain) → Contains domains e → Contains domains f
    → e.number.0 ≡ f.number.0 → e ≡ f
one_domain domains numbered e f in_e in_f same =
    same_Some e f (sym (place_is domains numbered e in_e) ∙ ap (slice_get domains) same ∙ place_is domains numbered f in_f)

pub found_domain : (s : SharedState) (d : DomainId) (e : SharedDomain) → domain_numbered s d ≡ Some e → Contains s.domains e × (e.number.0 ≡ d.0)
found_domain s d e is =
    let P : (o : Option SharedDomain) → Type 0 = λ o. Finds (λ (x : SharedDomain). x.number.0 == d.0) s.domains o in
    let f = subst P is (finds (λ (x : SharedDomain). x.number.0 == d.0) s.domains) in
    (Contains-at s.domains f.0 e f.1, eqb-true e.number.0 d.0 f.2)

-- what the domain of a number has, each that has the number has
pub of_domain : (s : SharedState) → AreNumbered s.domains → (d : DomainId) (e f : SharedDomain) → domain_numbered s d ≡ Some e → Contains s.domains f
    → f.number.0 ≡ d.0 → e ≡ f
of_domain s numbered d e f is there same =
    let found = found_domain s d e is in
    one_domain s.domains numbered e f found.0 there (found.1 ∙ sym same)

-- ---- One more segment.

pub record DrawsSegment (s new : SharedState) (n : SharedSegment) : Type 0 where
  pub more : HasOneMore n (all_segments s) (all_segments new)
  pub number : n.number.0 ≡ s.next_segment
  pub next : new.next_segment ≡ suc s.next_segment
  pub domains : new.domains ≡ s.domains
  pub live : IsLiveDomain s n.domain
  pub room : HasRoomForSegment s n.domain

segments_more : (s new : SharedState) (n : SharedSegment) → AreNumbered s.domains → 0 < s.next_segment → DrawsSegment s new n → AreSoundSegments s
    → AreSoundSegments new
segments_more s new n numbered first g h = record {
  before = λ e there. before_of e (new_or_old n (all_segments s) (all_segments new) e g.more there);
  homes = λ e there. home_of e (new_or_old n (all_segments s) (all_segments new) e g.more there);
  differ =
      λ i j e f p q same. differ_more n segment_number (all_segments s) (all_segments new) g.more
      (λ i j e f p q k. h.differ i j e f p q (ap (λ (m : ℕ). let b : SegmentNo = record { 0 = m } in b) k))
      (λ y there same. let b = h.before y there in omega (arith, b.1, same, g.number)) i j e f p q (ap (λ (m : SegmentNo). m.0) same);
  few = few_of;
}
  where
    before_of : (e : SharedSegment) → (n ≡ e) ⊎ Contains (all_segments s) e → (0 < e.number.0) × (e.number.0 < new.next_segment)
    before_of e (inl here) =
        let same : n.number.0 ≡ e.number.0 = ap (λ (x : SharedSegment). x.number.0) here in
        (omega (arith, same, g.number, first), omega (arith, same, g.number, g.next))
    before_of e (inr old) = let b = h.before e old in (b.0, omega (arith, b.1, g.next))

    live_still : (d : DomainId) → IsLiveDomain s d → IsLiveDomain new d
    live_still d l = (l.0, ap (find (λ (x : SharedDomain). x.number.0 == d.0)) g.domains ∙ l.1, l.2)

    home_of : (e : SharedSegment) → (n ≡ e) ⊎ Contains (all_segments s) e → IsLiveDomain new e.domain
    home_of e (inl here) =
        let P : SharedSegment → Type 0 = λ x. IsLiveDomain new x.domain in subst P here (live_still n.domain g.live)
    home_of e (inr old) = live_still e.domain (h.homes e old)

    few_of : (e : SharedDomain) → Contains new.domains e → count_segments_of new.threads e.number ≤ e.quotas.chunks
    few_of e there =
        let P : List SharedDomain → Type 0 = λ ds. Contains ds e in
        let among = subst P g.domains there in
        let was = h.few e among in
        let one = one_passes n (is_of shared_form e.number) (all_segments s) (all_segments new) g.more in
        let old = counted_in e.number s.threads in
        let now = counted_in e.number new.threads in
        elim (cases_Bool (n.domain.0 == e.number.0)) [
          | inl hit ↦
              let number : n.domain.0 ≡ e.number.0 = eqb-true n.domain.0 e.number.0 hit in
              let domain : e ≡ g.room.0 = sym (of_domain s numbered n.domain g.room.0 e g.room.1 among (sym number)) in
              let quota = ap (λ (x : SharedDomain). x.quotas.chunks) domain in
              let same : n.domain ≡ e.number = ap (λ (m : ℕ). let b : DomainId = record { 0 = m } in b) number in
              let low = subst (λ (d : DomainId). count_segments_of s.threads d < g.room.0.quotas.chunks) same g.room.2 in
              let counts : one_if (n.domain.0 == e.number.0) ≡ 1 = rw hit refl in
              omega (arith, one, old, now, low, quota, counts)
          | inr miss ↦
              let counts : one_if (n.domain.0 == e.number.0) ≡ 0 = rw miss refl in
              omega (arith, one, old, now, was, counts)
        ]

-- ---- A thread begins.

segments_push : (threads : List SharedThread) (t : SharedThread) → segments_in (threads ++ t ∷ []) ≡ segments_in threads ++ t.segments
segments_push [] t = append-nil t.segments
segments_push (u ∷ threads) t = ap (λ xs. u.segments ++ xs) (segments_push threads t) ∙ sym (append_assoc u.segments (segments_in threads) t.segments)

abbrev new_thread : SharedState → DomainId → SharedThread
new_thread s d = record { number = record { 0 = s.next_thread }; domain = d; segments = drawn_segment s d ∷ [] }

threads_more : (s : SharedState) (d : DomainId) → AreNumbered s.domains → 0 < s.next_thread → IsLiveDomain s d → MayBegin s d → AreSoundThreads s
    → AreSoundThreads (begun d s)
threads_more s d numbered first live may h = record {
  rise = λ i j x y low p q. by_places i j x y low (slice_get-push_cases s.threads t x i p) (slice_get-push_cases s.threads t y j q);
  before = λ x there. before_of x (new_or_old t s.threads (s.threads ++ t ∷ []) x (last_more t s.threads) there);
  have_segments = λ x there. some_of x (new_or_old t s.threads (s.threads ++ t ∷ []) x (last_more t s.threads) there);
  started = λ x there. started_of x (new_or_old t s.threads (s.threads ++ t ∷ []) x (last_more t s.threads) there);
  few = few_of;
}
  where
    t : SharedThread
    t = new_thread s d

    by_places : (i j : ℕ) (x y : SharedThread) → i < j → ((i < length s.threads) × (slice_get s.threads i ≡ Some x)) ⊎ ((i ≡ length s.threads) × (t ≡ x))
        → ((j < length s.threads) × (slice_get s.threads j ≡ Some y)) ⊎ ((j ≡ length s.threads) × (t ≡ y)) → x.number.0 < y.number.0
    by_places i j x y low (inl p) (inl q) = h.rise i j x y low p.1 q.1
    by_places i j x y low (inl p) (inr q) =
        let b = h.before x (Contains-at s.threads i x p.1) in
        let same : s.next_thread ≡ y.number.0 = ap (λ (z : SharedThread). z.number.0) q.1 in
        omega (arith, b.1, same)
    by_places i j x y low (inr p) (inl q) = absurd (omega (arith, p.0, q.0, low))
    by_places i j x y low (inr p) (inr q) = absurd (omega (arith, p.0, q.0, low))

    before_of : (x : SharedThread) → (t ≡ x) ⊎ Contains s.threads x → (0 < x.number.0) × (x.number.0 < suc s.next_thread)
    before_of x (inl here) =
        let same : s.next_thread ≡ x.number.0 = ap (λ (z : SharedThread). z.number.0) here in
        (omega (arith, same, first), omega (arith, same))
    before_of x (inr old) = let b = h.before x old in (b.0, omega (arith, b.1))

    some_of : (x : SharedThread) → (t ≡ x) ⊎ Contains s.threads x → x.segments ≢ []
    some_of x (inl here) none =
        let never : drawn_segment s d ∷ [] ≡ [] = ap (λ (z : SharedThread). z.segments) here ∙ none in cc
    some_of x (inr old) none = h.have_segments x old none

    started_of : (x : SharedThread) → (t ≡ x) ⊎ Contains s.threads x → IsAdmitted s x.domain
    started_of x (inl here) =
        let P : SharedThread → Type 0 = λ z. IsAdmitted s z.domain in subst P here (live.0, live.1)
    started_of x (inr old) = h.started x old

    few_of : (e : SharedDomain) → Contains s.domains e → count_started_in (s.threads ++ t ∷ []) e.number ≤ e.quotas.threads
    few_of e among =
        let was = h.few e among in
        let one = one_passes t (λ (x : SharedThread). x.domain.0 == e.number.0) s.threads (s.threads ++ t ∷ []) (last_more t s.threads) in
        elim (cases_Bool (d.0 == e.number.0)) [
          | inl hit ↦
              let number : d.0 ≡ e.number.0 = eqb-true d.0 e.number.0 hit in
              let domain : e ≡ may.0 = sym (of_domain s numbered d may.0 e may.1 among (sym number)) in
              let quota = ap (λ (x : SharedDomain). x.quotas.threads) domain in
              let same : d ≡ e.number = ap (λ (m : ℕ). let b : DomainId = record { 0 = m } in b) number in
              let low = subst (λ (c : DomainId). count_started_in s.threads c < may.0.quotas.threads) same may.2 in
              let counts : one_if (d.0 == e.number.0) ≡ 1 = rw hit refl in
              omega (arith, one, low, quota, counts)
          | inr miss ↦
              let counts : one_if (d.0 == e.number.0) ≡ 0 = rw miss refl in
              omega (arith, one, was, counts)
        ]

pub sound_begun : (s : SharedState) (d : DomainId) → IsLiveDomain s d → HasRoomForSegment s d → MayDrawThread s → MayDrawSegment s → MayBegin s d
    → AreSound s → AreSound (begun d s)
sound_begun s d live room thread segment may h = record {
  numbered = h.numbered;
  budgets = h.budgets;
  next_thread = (omega arith, omega (arith, thread));
  next_segment = (omega arith, omega (arith, segment));
  ranges = record {
    owner = h.ranges.owner;
    count = h.ranges.count;
    chained = h.ranges.chained;
    made = h.ranges.made;
    few = h.ranges.few;
    dead = h.ranges.dead;
    have_stubs = h.ranges.have_stubs;
  };
  names = record { short = h.names.short; given_out = h.names.given_out; binders = h.names.binders; differ = h.names.differ; few = h.names.few };
  threads = threads_more s d h.numbered h.next_thread.0 live may h.threads;
  segments =
      let n = drawn_segment s d in
      let P : List SharedSegment → Type 0 = λ xs. HasOneMore n (all_segments s) xs in
      segments_more s (begun d s) n h.numbered h.next_segment.0
      (record {
        more = subst P (sym (segments_push s.threads (new_thread s d))) (last_more n (all_segments s));
        number = refl;
        next = refl;
        domains = refl;
        live = live;
        room = room;
      })
      h.segments;
}

-- ---- A segment is put on top of a thread.

abbrev with_push : SharedSegment → List SharedSegment → List SharedSegment
with_push n segments = segments ++ n ∷ []

-- threads of other numbers stay
others_stay : (t : ThreadNo) (n : SharedSegment) (threads : List SharedThread) → ((u : SharedThread) → Contains threads u → (u.number.0 ≡ t.0) → ⊥)
    → with_stack t (with_push n) threads ≡ threads
others_stay t n [] other = refl
others_stay t n (u ∷ threads) other =
    let miss : (u.number.0 == t.0) ≡ false = ne_eqb u.number.0 t.0 (other u (Contains-here u threads)) in
    rw (miss, others_stay t n threads (λ x there. other x (Contains-there x u threads there))) refl

abbrev AreRisingThreads : List SharedThread → Type 0
AreRisingThreads threads =
    (i j : ℕ) (t u : SharedThread) → i < j → slice_get threads i ≡ Some t → slice_get threads j ≡ Some u → t.number.0 < u.number.0

later_rise : (u : SharedThread) (threads : List SharedThread) → AreRisingThreads (u ∷ threads) → AreRisingThreads threads
later_rise u threads h i j a b low p q = h (suc i) (suc j) a b (omega arith) p q

pushed_more : (t : ThreadNo) (n : SharedSegment) (threads : List SharedThread) (e : SharedThread) → AreRisingThreads threads
    → thread_numbered threads t ≡ Some e → HasOneMore n (segments_in threads) (segments_in (with_stack t (with_push n) threads))
pushed_more t n [] e rise is = absurd cc
pushed_more t n (u ∷ threads) e rise is = elim (cases_Bool (u.number.0 == t.0)) [
  | inl hit ↦
      let same : u.number.0 ≡ t.0 = eqb-true u.number.0 t.0 hit in
      let rest : with_stack t (with_push n) threads ≡ threads =
      others_stay t n threads
      (λ x there k. let at = place_of threads x there in let low = rise zero (suc at.0) u x (omega arith) refl at.1 in omega (arith, low, k, same)) in
      rw (hit, rest) (more_in_front n (segments_in threads) u.segments (u.segments ++ n ∷ []) (last_more n u.segments))
  | inr miss ↦
      let later : thread_numbered threads t ≡ Some e = rw miss at is in
      rw miss (more_behind n u.segments (segments_in threads) (segments_in (with_stack t (with_push n) threads))
      (pushed_more t n threads e (later_rise u threads rise) later))
]

push_keeps : (t : ThreadNo) (n : SharedSegment) (e : SharedThread) → SameThread e (one_thread t (with_push n) e)
push_keeps t n e = elim (cases_Bool (e.number.0 == t.0)) [ inl hit ↦ rw hit (refl, refl) | inr miss ↦ rw miss (refl, refl) ]

push_some : (n : SharedSegment) (xs : List SharedSegment) → with_push n xs ≡ [] → ⊥
push_some n [] none = cc
push_some n (x ∷ xs) none = cc

pushed_have : (t : ThreadNo) (n : SharedSegment) (threads : List SharedThread) → ((u : SharedThread) → Contains threads u → u.segments ≢ [])
    → (x : SharedThread) → Contains (with_stack t (with_push n) threads) x → x.segments ≢ []
pushed_have t n [] some x there none = absurd (Contains-none x there)
pushed_have t n (u ∷ threads) some x there none =
    elim (Contains-cases x (one_thread t (with_push n) u) (with_stack t (with_push n) threads) there) [
      | inl here ↦
          let empty : (one_thread t (with_push n) u).segments ≡ [] = ap (λ (y : SharedThread). y.segments) here ∙ none in
          elim (cases_Bool (u.number.0 == t.0)) [
            | inl hit ↦ push_some n u.segments (rw hit at empty)
            | inr miss ↦ some u (Contains-here u threads) (rw miss at empty)
          ]
      | inr later ↦ pushed_have t n threads (λ y among. some y (Contains-there y u threads among)) x later none
    ]

pub sound_pushed : (s : SharedState) (t : ThreadNo) (d : DomainId) → IsLiveDomain s d → IsLiveThread s t → HasRoomForSegment s d → MayDrawSegment s
    → AreSound s → AreSound (pushed t d s)
sound_pushed s t d live thread room segment h =
    let n = drawn_segment s d in
    let new = pushed t d s in
    record {
      numbered = h.numbered;
      budgets = h.budgets;
      next_thread = h.next_thread;
      next_segment = (omega arith, omega (arith, segment));
      ranges = record {
        owner = h.ranges.owner;
        count = h.ranges.count;
        chained = h.ranges.chained;
        made = h.ranges.made;
        few = h.ranges.few;
        dead = h.ranges.dead;
        have_stubs = h.ranges.have_stubs;
      };
      names = record { short = h.names.short; given_out = h.names.given_out; binders = h.names.binders; differ = h.names.differ; few = h.names.few };
      threads =
          threads_left s new (record { from = λ e there. (e, there, refl, refl); live = λ c l. l; admitted = λ c a. a })
          (changed_remain SameThread (one_thread t (with_push n)) (push_keeps t n) s.threads) (omega arith)
          (pushed_have t n s.threads h.threads.have_segments) h.threads;
      segments =
          segments_more s new n h.numbered h.next_segment.0
          (record {
            more = pushed_more t n s.threads thread.0 h.threads.rise thread.1;
            number = refl;
            next = refl;
            domains = refl;
            live = live;
            room = room;
          })
          h.segments;
    }

-- ---- Nothing was admitted yet.

pub sound_first : AreSound first_state
sound_first = record {
  numbered = λ i e at. absurd cc;
  budgets = λ e there. absurd (Contains-none e there);
  next_thread = (omega arith, lit≤ tt);
  next_segment = (omega arith, lit≤ tt);
  ranges = record {
    owner = λ e there. absurd (Contains-none e there);
    count = λ e there. absurd (Contains-none e there);
    chained = λ i e at. absurd cc;
    made = λ e there. absurd (Contains-none e there);
    few = omega arith;
    dead = λ e c there. absurd (Contains-none e there);
    have_stubs = λ e c there. absurd (Contains-none e there);
  };
  names = record {
    short = λ n there. absurd (Contains-none n there);
    given_out = λ n there. absurd (Contains-none n there);
    binders = λ n there. absurd (Contains-none n there);
    differ = λ i j m n at. absurd cc;
    few = λ e there. absurd (Contains-none e there);
  };
  threads = record {
    rise = λ i j t u low at. absurd cc;
    before = λ t there. absurd (Contains-none t there);
    have_segments = λ t there. absurd (Contains-none t there);
    started = λ t there. absurd (Contains-none t there);
    few = λ e there. absurd (Contains-none e there);
  };
  segments = record {
    before = λ e there. absurd (Contains-none e there);
    homes = λ e there. absurd (Contains-none e there);
    differ = λ i j e f at. absurd cc;
    few = λ e there. absurd (Contains-none e there);
  };
}
