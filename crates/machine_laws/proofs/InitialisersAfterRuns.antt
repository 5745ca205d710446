-- Where a segment has run, classes in progress have their initialiser frames: they come and go with frames of the running segment.
use Rattle.std.proofs.Common.{◌≡◌, ◌≢◌, ℕ, ◌+◌, ◌==◌, ◌⊎◌, inl, inr, Bool, true, false, cond, List, [], ◌∷◌, map, find, sum_by, Contains, Option, Some, slice_get, refl, sym, ap, subst, ◌∙◌, arith, eq-eqb, ne_eqb}
use Rattle.std.specs.Prelude.{count_by}
use Rattle.std.specs.Option.{option_map}
use Rattle.std.proofs.lemmas.Bool.{cases_eq, eqb-true}
use Rattle.std.proofs.lemmas.List.Sums.{sum_by_push}
use Rattle.jk_model.specs.declared.identifiers.ClassId.{ClassId}
use Rattle.jk_model.specs.declared.identifiers.DomainId.{DomainId}
use Rattle.jk_model.specs.declared.identifiers.ThreadNo.{ThreadNo}
use Rattle.jk_model_domains.specs.declared.states.ClassState.{ClassState}
use Rattle.jk_model_domains.specs.declared.states.ClassState.TheVariants as State
use Rattle.jk_model_domains.specs.OwnStates.{OwnState, state_of}
use Rattle.jk_model_heaps.specs.Workings.{Inside}
use Rattle.jk_model_sealing.specs.ClassesInProgress.{initialises, progress_by}
use Rattle.jk_model_machine_state.specs.Machines.{DomainState, IsLiveThread, Machine, Segment, Thread}
use Rattle.jk_model_runs.specs.Sealed.{AreSealedInitialisers, initialisers_of, segment_initialisers}
use Rattle.list_lemmas.proofs.ItemsOfLists.{Contains-at}
use Rattle.machine_laws.proofs.RunningSegmentsFit.{counted_here, same_thread_number}
use Rattle.machine_laws.proofs.SegmentsThatRan.{HasRun, after, changed_thread, each_inside, home_number, home_there, number_here, one_place, stood, thread_here, thread_part, thread_there}
use Rattle.machine_laws.proofs.ThreadsAfterRuns.{each_thread}

-- ---- By one thread.

taken_by : ThreadNo → ClassState → ℕ
taken_by t (State.InProgress by) = cond (by.0 == t.0) 1 0
taken_by t state = 0

one_if : (b : Bool) → b ≡ true → ◌≡◌ {A = ℕ} (cond b 1 0) 1
one_if true e = refl
one_if false e = absurd cc

pub progress_is : (t : ThreadNo) (own : OwnState) (c : ClassId) (by : ThreadNo) → state_of own c ≡ State.InProgress by → by.0 ≡ t.0
    → progress_by t own c ≡ 1
unfolding taken_by
progress_is t own c by e same = ap (taken_by t) e ∙ one_if (by.0 == t.0) (eq-eqb by.0 t.0 same)

taken_from : (t : ThreadNo) (s : ClassState) → taken_by t s ≡ 1 → (by : ThreadNo) × (s ≡ State.InProgress by) × (by.0 ≡ t.0)
unfolding taken_by
taken_from t (State.InProgress by) h = (by, refl, passes (by.0 == t.0) refl h)
  where
    passes : (b : Bool) → (by.0 == t.0) ≡ b → ◌≡◌ {A = ℕ} (cond b 1 0) 1 → by.0 ≡ t.0
    passes true e h = eqb-true by.0 t.0 e
    passes false e h = absurd (omega arith)
taken_from t State.Untouched h = absurd (omega arith)
taken_from t State.Done h = absurd (omega arith)
taken_from t State.Broken h = absurd (omega arith)

progress_from : (t : ThreadNo) (own : OwnState) (c : ClassId) → progress_by t own c ≡ 1
    → (by : ThreadNo) × (state_of own c ≡ State.InProgress by) × (by.0 ≡ t.0)
unfolding taken_by
progress_from t own c h = taken_from t (state_of own c) h

-- ---- The thread of a number is there still.

found_by : (g : Thread → Thread) (y : Thread) (b c : Bool) (old new : Option Thread) → c ≡ b → new ≡ option_map g old
    → cond c (Some (g y)) new ≡ option_map g (cond b (Some y) old)
found_by g y true true old new e h = refl
found_by g y true false old new e h = absurd cc
found_by g y false true old new e h = absurd cc
found_by g y false false old new e h = h

pub found_still : (g : Thread → Thread) (test : Thread → Bool) → ((e : Thread) → test (g e) ≡ test e) → (es : List Thread)
    → find test (map g es) ≡ option_map g (find test es)
found_still g test h [] = refl
found_still g test h (e ∷ es) =
    found_by g e (test e) (test (g e)) (find test es) (find test (map g es)) (h e) (found_still g test h es)

counts_nothing : (b : Bool) (n : ℕ) → b ≡ false → cond b n 0 ≡ 0
counts_nothing true n e = absurd cc
counts_nothing false n e = refl

counted_elsewhere : (d : DomainId) (c : ClassId) (s : Segment) → s.shared.domain.0 ≢ d.0 → segment_initialisers d c s ≡ 0
counted_elsewhere d c s differ = counts_nothing (s.shared.domain.0 == d.0) (count_by (initialises c) s.frames) (ne_eqb s.shared.domain.0 d.0 differ)

module _ (m : Machine) (t : ThreadNo) (r : HasRun m t) where
  pub lives_still : (u : ThreadNo) → IsLiveThread m u → IsLiveThread (after r) u
  lives_still u (e, is) = (
    changed_thread m t r e,
    found_still (changed_thread m t r) (λ (x : Thread). x.number.0 == u.0) (thread_part m t r (λ (x : Thread). x.number.0 == u.0) (λ x s. refl)) m.threads
        ∙ ap (option_map (changed_thread m t r)) is,
  )

  is_t : r.place.thread.number ≡ t
  is_t = same_thread_number r.place.thread.number t (stood m t r).2

  of_lower : DomainId → ClassId → ℕ
  of_lower d c = sum_by (segment_initialisers d c) r.place.lower

  before : (d : DomainId) (c : ClassId) → initialisers_of d c r.place.thread ≡ of_lower d c + segment_initialisers d c r.place.segment
  unfolding of_lower
  before d c =
      ap (sum_by (segment_initialisers d c)) r.place.are_segments ∙ sum_by_push (segment_initialisers d c) r.place.lower r.place.segment

  now : (d : DomainId) (c : ClassId) → initialisers_of d c (thread_here r) ≡ of_lower d c + segment_initialisers d c r.segment
  unfolding of_lower
  now d c = sum_by_push (segment_initialisers d c) r.place.lower r.segment

  new_domain : r.segment.shared.domain.0 ≡ (number_here r).0
  new_domain = ap (λ (n : DomainId). n.0) r.domain

  balance : (all_now all_before lower now old new was count_old count_new : ℕ) → all_before ≡ lower + old → all_now ≡ lower + new
      → old ≡ count_old → new ≡ count_new → all_before ≡ was → count_new + was ≡ count_old + now → all_now ≡ now
  balance all_now all_before lower now old new was count_old count_new a b c d e f = omega arith

  one_here : (c : ClassId) → initialisers_of r.place.home.domain.number c (thread_here r) ≡ progress_by r.place.thread.number r.inside.own c
  one_here c =
      let d = r.place.home.domain.number in
      subst (λ (u : ThreadNo). initialisers_of d c (thread_here r) ≡ progress_by u r.inside.own c) (sym is_t)
      (balance (initialisers_of d c (thread_here r)) (initialisers_of d c r.place.thread) (of_lower d c) (progress_by t r.inside.own c)
      (segment_initialisers d c r.place.segment) (segment_initialisers d c r.segment) (progress_by t r.place.home.inside.own c)
      (count_by (initialises c) r.place.segment.frames) (count_by (initialises c) r.segment.frames) (before d c) (now d c)
      (counted_here d c r.place.segment (sym (home_number m t r))) (counted_here d c r.segment (new_domain ∙ sym (home_number m t r)))
      (subst (λ (u : ThreadNo). initialisers_of d c r.place.thread ≡ progress_by u r.place.home.inside.own c) is_t
      (r.sealed.initialisers.one r.place.thread r.place.home.domain r.place.home.inside c (thread_there m t r) (home_there m t r)
      r.place.home.is_inside)) (r.progress.own c))

  one_elsewhere : (c : ClassId) (i : ℕ) (e : DomainState) (x : Inside) → i ≢ (number_here r).0 → slice_get m.domains i ≡ Some e
      → e.inside ≡ Some x → initialisers_of e.number c (thread_here r) ≡ progress_by r.place.thread.number x.own c
  one_elsewhere c i e x differ at is =
      let number = r.sealed.domains.numbered i e at in
      let old = counted_elsewhere e.number c r.place.segment (λ same. differ (sym number ∙ sym same)) in
      let new = counted_elsewhere e.number c r.segment (λ same. differ (sym number ∙ sym same ∙ new_domain)) in
      now e.number c ∙ ap (λ (n : ℕ). of_lower e.number c + n) (new ∙ sym old) ∙ sym (before e.number c)
      ∙ r.sealed.initialisers.one r.place.thread e x c (thread_there m t r) (Contains-at m.domains i e at) is

  others_one : (i : ℕ) (u : Thread) → i ≢ (stood m t r).0 → slice_get m.threads i ≡ Some u → (c : ClassId) (d : DomainState) (inside : Inside)
      → Contains (after r).domains d → d.inside ≡ Some inside → initialisers_of d.number c u ≡ progress_by u.number inside.own c
  others_one i u differ there c =
      each_inside m t r (λ d inside. initialisers_of d.number c u ≡ progress_by u.number inside.own c)
      (r.sealed.initialisers.one u r.place.home.domain r.place.home.inside c (Contains-at m.threads i u there) (home_there m t r)
      r.place.home.is_inside ∙ sym (r.progress.others u.number c apart))
      (λ k e x elsewhere at is. r.sealed.initialisers.one u e x c (Contains-at m.threads i u there) (Contains-at m.domains k e at) is)
    where
      apart : u.number ≢ t
      apart same =
          differ (one_place m t r i (stood m t r).0 u r.place.thread there (stood m t r).1
          (ap (λ (n : ThreadNo). n.0) same ∙ sym (stood m t r).2))

  live_here : (c : ClassId) (u : ThreadNo) → state_of r.inside.own c ≡ State.InProgress u → IsLiveThread m u
  live_here c u state = by (cases_eq u.0 t.0)
    where
      by : (u.0 ≡ t.0) ⊎ (u.0 ≢ t.0) → IsLiveThread m u
      by (inl same) = subst (IsLiveThread m) (same_thread_number t u (sym same)) (r.place.thread, r.place.is_thread)
      by (inr differ) =
          let one : progress_by u r.place.home.inside.own c ≡ 1 =
          sym (r.progress.others u c (λ same. differ (ap (λ (n : ThreadNo). n.0) same))) ∙ progress_is u r.inside.own c u state refl in
          let was = progress_from u r.place.home.inside.own c one in
          subst (IsLiveThread m) (same_thread_number was.0 u was.2)
          (r.sealed.initialisers.live r.place.home.domain r.place.home.inside c was.0 (home_there m t r) r.place.home.is_inside was.1)

  pub initialisers_sealed : AreSealedInitialisers (after r)
  initialisers_sealed = record {
    one = λ thread d inside c on there is.
        each_thread m t r (λ e. initialisers_of d.number c e ≡ progress_by e.number inside.own c)
        (each_inside m t r (λ e x. initialisers_of e.number c (thread_here r) ≡ progress_by r.place.thread.number x.own c) (one_here c)
        (one_elsewhere c) d inside there is)
        (λ i u differ at. others_one i u differ at c d inside there is) thread on;
    live = λ d inside c u on is state.
        lives_still u
        (each_inside m t r (λ e x. state_of x.own c ≡ State.InProgress u → IsLiveThread m u) (live_here c u)
        (λ i e x differ at has in_progress. r.sealed.initialisers.live e x c u (Contains-at m.domains i e at) has in_progress) d inside on is state);
  }
