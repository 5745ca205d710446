-- Threads and segments stay sound where some are taken out and others are changed but for their numbers and domains.
use Rattle.std.proofs.Common.{◌≡◌, ◌≢◌, ℕ, ◌+◌, ◌≤◌, inl, inr, Bool, false, List, [], ◌∷◌, length, filter, map, Contains, refl, sym, ap, subst, ◌∙◌, arith, length-append}
use Rattle.std.specs.Prelude.{◌==◌, if◌then◌else◌}
use Rattle.std.proofs.lemmas.Bool.{cases_Bool}
use Rattle.std.proofs.lemmas.List.Elements.{filter-append}
use Rattle.std.proofs.lemmas.List.Sums.{sum_by-cons}
use Rattle.jk_model.specs.declared.identifiers.DomainId.{DomainId}
use Rattle.jk_model.specs.declared.identifiers.SegmentNo.{SegmentNo}
use Rattle.jk_model.specs.declared.identifiers.ThreadNo.{ThreadNo}
use Rattle.jk_model_sharing.specs.Segments.{SharedSegment, SharedThread, count_segments_of, count_started_in, has_segments, is_of, live_threads, shared_form, with_segments, with_stacks, without_top, with_segment, is_numbered}
use Rattle.jk_model_sharing.specs.SharedStates.{SharedDomain, SharedState, popped, with_flags}
use Rattle.list_lemmas.proofs.ItemsOfLists.{Contains-cases, Contains-here, Contains-none, Contains-there}
use Rattle.thread_stacks.specs.StackAnswers.{segments_in}
use Rattle.thread_stacks.proofs.CountedAlive.{live_segments}
use Rattle.thread_segments.specs.Asked.{IsAdmitted, IsLiveDomain}
use Rattle.thread_segments.specs.SoundStates.{AreSound, AreSoundSegments, AreSoundThreads, all_segments}
use Rattle.thread_segments.proofs.Remaining.{Remains, all_remain, changed_remain, filtered_remain, goes, no_more_pass, nothing, remain_further, remain_together, remained, stays, still_differ, still_rise}

abbrev pub SameThread : SharedThread → SharedThread → Type 0
SameThread t u = (t.number ≡ u.number) × (t.domain ≡ u.domain)

abbrev pub SameSegment : SharedSegment → SharedSegment → Type 0
SameSegment s r = (s.number ≡ r.number) × (s.domain ≡ r.domain)

pub segment_is : (s : SharedSegment) → SameSegment s s
segment_is s = (refl, refl)

pub thread_is : (t : SharedThread) → SameThread t t
thread_is t = (refl, refl)

-- Domains keep their numbers and quotas, and are live where they were.
pub record KeepsDomains (old new : SharedState) : Type 0 where
  pub from : (e : SharedDomain) → Contains new.domains e → (x : SharedDomain) × Contains old.domains x × (x.number ≡ e.number) × (x.quotas ≡ e.quotas)
  pub live : (d : DomainId) → IsLiveDomain old d → IsLiveDomain new d
  pub admitted : (d : DomainId) → IsAdmitted old d → IsAdmitted new d

-- ---- Threads.

abbrev pub thread_number : SharedThread → ℕ
thread_number t = t.number.0

abbrev pub segment_number : SharedSegment → ℕ
segment_number s = s.number.0

pub threads_left : (old new : SharedState) → KeepsDomains old new → Remains SameThread old.threads new.threads → old.next_thread ≤ new.next_thread
    → ((t : SharedThread) → Contains new.threads t → t.segments ≢ []) → AreSoundThreads old → AreSoundThreads new
threads_left old new keeps left next whole h = record {
  rise =
      λ i j t u low p q. still_rise thread_number SameThread (λ t u s. ap (λ (n : ThreadNo). n.0) s.0) old.threads new.threads left
      (λ i j t u low p q. h.rise i j t u low p q) i j t u low p q;
  before =
      λ t there.
      let r = remained SameThread old.threads new.threads t left there in
      let b = h.before r.0 r.1 in
      let same : r.0.number.0 ≡ t.number.0 = ap (λ (n : ThreadNo). n.0) r.2.0 in
      (omega (arith, b.0, same), omega (arith, b.1, same, next));
  have_segments = whole;
  started =
      λ t there.
      let r = remained SameThread old.threads new.threads t left there in
      let P : DomainId → Type 0 = λ d. IsAdmitted old d in
      keeps.admitted t.domain (subst P r.2.1 (h.started r.0 r.1));
  few =
      λ e there.
      let x = keeps.from e there in
      let P : DomainId → Type 0 = λ d. count_started_in old.threads d ≤ x.0.quotas.threads in
      let was = subst P x.2 (h.few x.0 x.1) in
      let quota = ap (λ q. q.threads) x.3 in
      let fewer =
      no_more_pass SameThread (λ (t : SharedThread). t.domain.0 == e.number.0) (λ t u s. ap (λ (d : DomainId). d.0 == e.number.0) s.1)
      old.threads new.threads left in
      omega (arith, was, quota, fewer);
}

-- ---- Segments.

pub counted_in : (d : DomainId) (threads : List SharedThread)
    → count_segments_of threads d ≡ length (filter (is_of shared_form d) (segments_in threads))
counted_in d [] = refl
counted_in d (t ∷ threads) =
    let of_it : SharedSegment → Bool = is_of shared_form d in
    sum_by-cons (λ (x : SharedThread). length (filter of_it x.segments)) t threads
    ∙ ap (λ n. length (filter of_it t.segments) + n) (counted_in d threads)
    ∙ sym (length-append (filter of_it t.segments) (filter of_it (segments_in threads)))
    ∙ ap length (sym (filter-append of_it t.segments (segments_in threads)))

pub segments_left : (old new : SharedState) → KeepsDomains old new → Remains SameSegment (all_segments old) (all_segments new)
    → old.next_segment ≤ new.next_segment → AreSoundSegments old → AreSoundSegments new
segments_left old new keeps left next h = record {
  before =
      λ e there.
      let r = remained SameSegment (all_segments old) (all_segments new) e left there in
      let b = h.before r.0 r.1 in
      let same : r.0.number.0 ≡ e.number.0 = ap (λ (n : SegmentNo). n.0) r.2.0 in
      (omega (arith, b.0, same), omega (arith, b.1, same, next));
  homes =
      λ e there.
      let r = remained SameSegment (all_segments old) (all_segments new) e left there in
      let P : DomainId → Type 0 = λ d. IsLiveDomain old d in
      keeps.live e.domain (subst P r.2.1 (h.homes r.0 r.1));
  differ =
      λ i j e f p q same. still_differ segment_number SameSegment (λ s r k. ap (λ (n : SegmentNo). n.0) k.0) (all_segments old) (all_segments new) left
      (λ i j e f p q k. h.differ i j e f p q (ap (λ (n : ℕ). let m : SegmentNo = record { 0 = n } in m) k)) i j e f p q
      (ap (λ (n : SegmentNo). n.0) same);
  few =
      λ e there.
      let x = keeps.from e there in
      let P : DomainId → Type 0 = λ d. count_segments_of old.threads d ≤ x.0.quotas.chunks in
      let was = subst P x.2 (h.few x.0 x.1) in
      let quota = ap (λ q. q.chunks) x.3 in
      let fewer =
      no_more_pass SameSegment (is_of shared_form e.number) (λ s r k. ap (λ (d : DomainId). d.0 == e.number.0) k.1) (all_segments old) (all_segments new)
      left in
      omega (arith, was, quota, fewer, counted_in e.number old.threads, counted_in e.number new.threads);
}

-- ---- Each thread is changed, and those without segments go.

pub record Lessens (f : SharedThread → SharedThread) : Type 0 where
  pub same : (t : SharedThread) → SameThread t (f t)
  pub less : (t : SharedThread) → Remains SameSegment t.segments (f t).segments

pub segments_lessened : (f : SharedThread → SharedThread) → Lessens f → (threads : List SharedThread)
    → Remains SameSegment (segments_in threads) (segments_in (map f threads))
segments_lessened f h [] = nothing
segments_lessened f h (t ∷ threads) =
    remain_together SameSegment t.segments (f t).segments (segments_in threads) (segments_in (map f threads)) (h.less t) (segments_lessened f h threads)

pub live_have_segments : (threads : List SharedThread) (t : SharedThread) → Contains (live_threads threads) t → t.segments ≢ []
live_have_segments [] t there none = absurd (Contains-none t there)
live_have_segments (u ∷ threads) t there none =
    elim (cases_Bool (has_segments u)) [
      | inl hit ↦
          let among : Contains (u ∷ live_threads threads) t = rw hit at there in
          elim (Contains-cases t u (live_threads threads) among) [
            | inl here ↦
                let empty : u.segments ≡ [] = ap (λ (x : SharedThread). x.segments) here ∙ none in
                let never : has_segments u ≡ false = rw empty refl in
                absurd cc
            | inr later ↦ live_have_segments threads t later none
          ]
      | inr miss ↦
          let among : Contains (live_threads threads) t = rw miss at there in
          live_have_segments threads t among none
    ]

-- ---- Flags of a segment.

abbrev flagged : SegmentNo → (SharedSegment → SharedSegment) → SharedSegment → SharedSegment
flagged n change s = if is_numbered shared_form n s then change s else s

pub flags_lessen : (n : SegmentNo) (change : SharedSegment → SharedSegment) → ((s : SharedSegment) → SameSegment s (change s))
    → Lessens (with_segments (with_segment shared_form n change))
flags_lessen n change same = record {
  same = λ t. (refl, refl);
  less = λ t. changed_remain SameSegment (flagged n change) each t.segments;
}
  where
    each : (s : SharedSegment) → SameSegment s (flagged n change s)
    each s = elim (cases_Bool (is_numbered shared_form n s)) [ inl hit ↦ rw hit (same s) | inr miss ↦ rw miss (refl, refl) ]

some_left : (f : SharedSegment → SharedSegment) (xs : List SharedSegment) → xs ≢ [] → map f xs ≢ []
some_left f [] some none = some refl
some_left f (x ∷ xs) some none = cc

pub flags_leave_segments : (f : SharedSegment → SharedSegment) (threads : List SharedThread)
    → ((t : SharedThread) → Contains threads t → t.segments ≢ []) → (t : SharedThread)
    → Contains (with_stacks (map f) threads) t → t.segments ≢ []
flags_leave_segments f [] some t there = absurd (Contains-none t there)
flags_leave_segments f (u ∷ threads) some t there = elim (Contains-cases t (with_segments (map f) u) (with_stacks (map f) threads) there) [
  | inl here ↦ λ none.
      some_left f u.segments (some u (Contains-here u threads)) (ap (λ (x : SharedThread). x.segments) here ∙ none)
  | inr later ↦ flags_leave_segments f threads (λ x among. some x (Contains-there x u threads among)) t later
]

-- ---- The top segment of a thread is gone.

without_top_remains : (xs : List SharedSegment) → Remains SameSegment xs (without_top xs)
without_top_remains [] = nothing
without_top_remains (s ∷ []) = goes s [] [] nothing
without_top_remains (s ∷ r ∷ more) = stays s s (r ∷ more) (without_top (r ∷ more)) (refl, refl) (without_top_remains (r ∷ more))

abbrev pub one_thread : ThreadNo → (List SharedSegment → List SharedSegment) → SharedThread → SharedThread
one_thread t change e = if e.number.0 == t.0 then with_segments change e else e

pub pop_lessens : (t : ThreadNo) → Lessens (one_thread t without_top)
pop_lessens t = record { same = same; less = less }
  where
    same : (e : SharedThread) → SameThread e (one_thread t without_top e)
    same e = elim (cases_Bool (e.number.0 == t.0)) [ inl hit ↦ rw hit (refl, refl) | inr miss ↦ rw miss (refl, refl) ]

    less : (e : SharedThread) → Remains SameSegment e.segments (one_thread t without_top e).segments
    less e = elim (cases_Bool (e.number.0 == t.0)) [
      | inl hit ↦ rw hit (without_top_remains e.segments)
      | inr miss ↦ rw miss (all_remain SameSegment segment_is e.segments)
    ]

-- ---- The state after one of these.

-- all but the threads is as before
abbrev pub with_threads : List SharedThread → SharedState → SharedState
with_threads threads s = record s { threads = threads }

pub same_domains : (s : SharedState) → KeepsDomains s s
same_domains s = record { from = λ e there. (e, there, refl, refl); live = λ d h. h; admitted = λ d h. h }

module _ (s : SharedState) (h : AreSound s) where
  pub threads_changed : (threads : List SharedThread) → Remains SameThread s.threads threads → Remains SameSegment (all_segments s) (segments_in threads)
      → ((t : SharedThread) → Contains threads t → t.segments ≢ []) → AreSound (with_threads threads s)
  threads_changed threads left less whole =
      let new = with_threads threads s in
      record {
        numbered = h.numbered;
        budgets = h.budgets;
        next_thread = h.next_thread;
        next_segment = h.next_segment;
        ranges = record {
          owner = h.ranges.owner;
          count = h.ranges.count;
          chained = h.ranges.chained;
          made = h.ranges.made;
          few = h.ranges.few;
          dead = h.ranges.dead;
          have_stubs = h.ranges.have_stubs;
        };
        names = record { short = h.names.short; given_out = h.names.given_out; binders = h.names.binders; differ = h.names.differ; few = h.names.few };
        threads = threads_left s new (record { from = (same_domains s).from; live = λ d e. e; admitted = λ d e. e }) left (omega arith) whole h.threads;
        segments = segments_left s new (record { from = (same_domains s).from; live = λ d e. e; admitted = λ d e. e }) less (omega arith) h.segments;
      }

  pub sound_flags : (n : SegmentNo) (change : SharedSegment → SharedSegment) → ((x : SharedSegment) → SameSegment x (change x))
      → AreSound (with_flags n change s)
  sound_flags n change same =
      let f = with_segments (with_segment shared_form n change) in
      let less = flags_lessen n change same in
      threads_changed (map f s.threads) (changed_remain SameThread f less.same s.threads) (segments_lessened f less s.threads)
      (flags_leave_segments (flagged n change) s.threads h.threads.have_segments)

  pub sound_popped : (t : ThreadNo) → AreSound (popped t s)
  sound_popped t =
      let f = one_thread t without_top in
      let less = pop_lessens t in
      let changed = map f s.threads in
      let P : List SharedSegment → Type 0 = λ xs. Remains SameSegment (all_segments s) xs in
      threads_changed (live_threads changed)
      (remain_further SameThread (λ x y z a b. (a.0 ∙ b.0, a.1 ∙ b.1)) s.threads changed (live_threads changed) (changed_remain SameThread
      f less.same s.threads) (filtered_remain SameThread thread_is has_segments changed))
      (subst P (sym (live_segments changed)) (segments_lessened f less s.threads))
      (live_have_segments changed)
