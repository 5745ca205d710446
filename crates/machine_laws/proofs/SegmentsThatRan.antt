-- A sealed machine in which the running segment has run: what its domain has inside, and its frames, are others that are sealed again. The machine
-- after that, and which domain and which thread stand where in it.
use Rattle.std.proofs.Common.{◌≡◌, ◌≢◌, ℕ, ◌+◌, ◌≤◌, ◌==◌, ◌⊎◌, inl, inr, Bool, true, false, cond, List, [], ◌∷◌, ◌++◌, set, Option, Some, None, slice_get, Contains, refl, sym, ap, subst, ◌∙◌, arith, eq-eqb, ne_eqb}
use Rattle.std.proofs.lemmas.Bool.{cases_eq, cases_lt}
use Rattle.std.proofs.lemmas.Option.{same_Some}
use Rattle.jk_model.specs.declared.identifiers.DomainId.{DomainId}
use Rattle.jk_model.specs.declared.identifiers.ThreadNo.{ThreadNo}
use Rattle.jk_model_frames.specs.Frames.{frames_chunks}
use Rattle.jk_model_heaps.specs.Workings.{Inside}
use Rattle.jk_model_sealing.specs.SealedRuns.{AreSealedFrames}
use Rattle.jk_model_machine_state.specs.Machines.{DomainState, Machine, Segment, Thread, caps_of}
use Rattle.jk_model_machine_state.specs.Places.{RunningSegment, run_of, setting_of, with_running}
use Rattle.jk_model_runs.specs.Sealed.{IsSealed, TopFits, surroundings}
use Rattle.list_lemmas.proofs.ItemsByPlace.{comes_from, mapped_at}
use Rattle.list_lemmas.proofs.ItemsOfLists.{Contains-at, place_of}
use Rattle.heap_laws.specs.ClassesInProgress.{KeepsProgress}
use Rattle.heap_laws.specs.KeptInsides.{KeepsInside}
use Rattle.machine_laws.proofs.ChangedItems.{one_changed, parts_stay}
use Rattle.machine_laws.proofs.RunningSegmentsFit.{thread_place}

-- the running segment of a sealed machine, and what it and its domain's inside are after that
pub record HasRun (m : Machine) (t : ThreadNo) : Type 0 where
  pub place : RunningSegment m t
  pub sealed : IsSealed m
  pub segment : Segment
  pub inside : Inside
  pub number : segment.shared.number ≡ place.segment.shared.number
  pub domain : segment.shared.domain ≡ place.segment.shared.domain
  pub keeps : KeepsInside (surroundings m place.home.domain) (setting_of place) place.home.inside inside
  pub frames : AreSealedFrames (surroundings m place.home.domain) (TopFits m inside segment) inside.heap segment.frames
  pub progress : KeepsProgress t (run_of place) (record { inside = inside; frames = segment.frames })
  pub chunks : frames_chunks segment.frames ≤ frames_chunks place.segment.frames + (setting_of place).chunks

abbrev pub after : {m : Machine} {t : ThreadNo} → HasRun m t → Machine
after r = with_running r.place r.segment r.inside

-- its domain, and its thread
abbrev pub here : {m : Machine} {t : ThreadNo} → HasRun m t → DomainState
here r = record r.place.home.domain { inside = Some r.inside }

abbrev pub thread_here : {m : Machine} {t : ThreadNo} → HasRun m t → Thread
thread_here r = record r.place.thread { segments = r.place.lower ++ r.segment ∷ [] }

-- its domain's number
abbrev pub number_here : {m : Machine} {t : ThreadNo} → HasRun m t → DomainId
number_here r = r.place.segment.shared.domain

-- what becomes of each domain
abbrev pub changed : {m : Machine} {t : ThreadNo} → HasRun m t → DomainState → DomainState
changed r e = cond (e.number.0 == (number_here r).0) (record e { inside = Some r.inside }) e

changed_if : {X : Type 0} (b : Bool) (x y : X) → b ≡ true → cond b x y ≡ x
changed_if true x y e = refl
changed_if false x y e = absurd cc

kept_if : {X : Type 0} (b : Bool) (x y : X) → b ≡ false → cond b x y ≡ y
kept_if true x y e = absurd cc
kept_if false x y e = refl

module _ (m : Machine) (t : ThreadNo) (r : HasRun m t) where
  -- ---- Domains.

  pub home_at : slice_get m.domains (number_here r).0 ≡ Some r.place.home.domain
  home_at = r.place.home.is_domain

  pub home_there : Contains m.domains r.place.home.domain
  home_there = Contains-at m.domains (number_here r).0 r.place.home.domain home_at

  pub home_number : r.place.home.domain.number.0 ≡ (number_here r).0
  home_number = ap (λ (n : DomainId). n.0) r.place.home.numbered

  part_by : {X : Type 0} (part : DomainState → X) → ((e : DomainState) (x : Option Inside) → part (record e { inside = x }) ≡ part e)
      → (b : Bool) (e : DomainState) → part (cond b (record e { inside = Some r.inside }) e) ≡ part e
  part_by part h true e = h e (Some r.inside)
  part_by part h false e = refl

  -- a part that isn't the inside stays
  pub part_stays : {X : Type 0} (part : DomainState → X) → ((e : DomainState) (x : Option Inside) → part (record e { inside = x }) ≡ part e)
      → (e : DomainState) → part (changed r e) ≡ part e
  part_stays part h e = part_by part h (e.number.0 == (number_here r).0) e

  changed_here : changed r r.place.home.domain ≡ here r
  changed_here =
      changed_if (r.place.home.domain.number.0 == (number_here r).0) (here r) r.place.home.domain
      (eq-eqb r.place.home.domain.number.0 (number_here r).0 home_number)

  pub here_at : slice_get (after r).domains (number_here r).0 ≡ Some (here r)
  here_at = mapped_at (changed r) m.domains (number_here r).0 r.place.home.domain home_at ∙ ap (λ (e : DomainState). Some e) changed_here

  changed_elsewhere : (i : ℕ) (e : DomainState) → i ≢ (number_here r).0 → slice_get m.domains i ≡ Some e → changed r e ≡ e
  changed_elsewhere i e differ at =
      kept_if (e.number.0 == (number_here r).0) (record e { inside = Some r.inside }) e
      (ne_eqb e.number.0 (number_here r).0 (λ same. differ (sym (r.sealed.domains.numbered i e at) ∙ same)))

  pub others_at : (i : ℕ) (e : DomainState) → i ≢ (number_here r).0 → slice_get m.domains i ≡ Some e
      → slice_get (after r).domains i ≡ Some e
  others_at i e differ at =
      mapped_at (changed r) m.domains i e at ∙ ap (λ (x : DomainState). Some x) (changed_elsewhere i e differ at)

  -- which domain stands where
  pub domain_cases : (i : ℕ) (e : DomainState) → slice_get (after r).domains i ≡ Some e
      → ((i ≡ (number_here r).0) × (here r ≡ e)) ⊎ ((i ≢ (number_here r).0) × (slice_get m.domains i ≡ Some e))
  domain_cases i e at = by (cases_eq i (number_here r).0)
    where
      by : (i ≡ (number_here r).0) ⊎ (i ≢ (number_here r).0)
          → ((i ≡ (number_here r).0) × (here r ≡ e)) ⊎ ((i ≢ (number_here r).0) × (slice_get m.domains i ≡ Some e))
      by (inl same) =
          inl (same, same_Some (here r) e (sym here_at ∙ ap (slice_get (after r).domains) (sym same) ∙ at))
      by (inr differ) =
          let from = comes_from (changed r) m.domains i e at in
          let is : from.from ≡ e = sym (changed_elsewhere i from.from differ from.there) ∙ from.gives in
          inr (differ, from.there ∙ ap (λ (x : DomainState). Some x) is)

  pub each_domain : (P : DomainState → Type 0) → P (here r)
      → ((i : ℕ) (e : DomainState) → i ≢ (number_here r).0 → slice_get m.domains i ≡ Some e → P e)
      → (e : DomainState) → Contains (after r).domains e → P e
  each_domain P new old e on =
      let at = place_of (after r).domains e on in
      elim (domain_cases at.0 e at.1) [
        | inl (same, is) ↦ subst P is new
        | inr (differ, is) ↦ old at.0 e differ is
      ]

  -- what holds of its inside, and of those of the others, holds of each
  pub each_inside : (P : DomainState → Inside → Type 0) → P (here r) r.inside
      → ((i : ℕ) (e : DomainState) (x : Inside) → i ≢ (number_here r).0 → slice_get m.domains i ≡ Some e → e.inside ≡ Some x → P e x)
      → (e : DomainState) (x : Inside) → Contains (after r).domains e → e.inside ≡ Some x → P e x
  each_inside P new old e x on =
      each_domain (λ e. e.inside ≡ Some x → P e x) (λ is. subst (P (here r)) (same_Some r.inside x is) new)
      (λ i e differ at is. old i e x differ at is) e on

  -- what is so of its domain as before is so of each as before
  pub parts_of_each : {X : Type 0} (part : DomainState → X) → part (here r) ≡ part r.place.home.domain → (e : DomainState)
      → Contains m.domains e → part (changed r e) ≡ part e
  parts_of_each part h e on = by (cases_eq place.0 (number_here r).0)
    where
      place : (k : ℕ) × (slice_get m.domains k ≡ Some e)
      place = place_of m.domains e on

      by : (place.0 ≡ (number_here r).0) ⊎ (place.0 ≢ (number_here r).0) → part (changed r e) ≡ part e
      by (inl same) =
          let one : r.place.home.domain ≡ e =
          same_Some r.place.home.domain e (sym home_at ∙ ap (slice_get m.domains) (sym same) ∙ place.1) in
          subst (λ (x : DomainState). part (changed r x) ≡ part x) one (ap part changed_here ∙ h)
      by (inr differ) = ap part (changed_elsewhere place.0 e differ place.1)

  -- at other places nothing changes
  pub elsewhere_at : (i : ℕ) → i ≢ (number_here r).0 → slice_get (after r).domains i ≡ slice_get m.domains i
  elsewhere_at i differ = by (slice_get m.domains i) (slice_get (after r).domains i) refl refl
    where
      by : (old new : Option DomainState) → slice_get m.domains i ≡ old → slice_get (after r).domains i ≡ new → new ≡ old
      by None None e h = refl
      by (Some a) new e h = sym h ∙ others_at i a differ e
      by None (Some b) e h = elim (domain_cases i b h) [
        | inl (same, is) ↦ absurd (differ same)
        | inr (other, is) ↦ sym is ∙ e
      ]

  -- the capabilities of all domains
  pub caps_stay : caps_of (after r) ≡ caps_of m
  caps_stay = parts_stay (changed r) (λ (e : DomainState). e.caps) (part_stays (λ (e : DomainState). e.caps) (λ e x. refl)) m.domains

  -- a domain is in the same surroundings
  pub surroundings_stay : (old new : DomainState) → new.table ≡ old.table → surroundings m old ≡ surroundings (after r) new
  surroundings_stay old new table = λ i. record { classes = m.classes; table = sym table i; caps = sym caps_stay i }

  -- ---- Threads.

  pub stood : (i : ℕ) × (slice_get m.threads i ≡ Some r.place.thread) × (r.place.thread.number.0 ≡ t.0)
  stood = thread_place m t r.place

  pub thread_there : Contains m.threads r.place.thread
  thread_there = Contains-at m.threads stood.0 r.place.thread stood.1

  -- what becomes of each thread
  abbrev pub changed_thread : Thread → Thread
  changed_thread e = cond (e.number.0 == t.0) (record e { segments = r.place.lower ++ r.segment ∷ [] }) e

  thread_part_by : {X : Type 0} (part : Thread → X) → ((e : Thread) (x : List Segment) → part (record e { segments = x }) ≡ part e)
      → (b : Bool) (e : Thread) → part (cond b (record e { segments = r.place.lower ++ r.segment ∷ [] }) e) ≡ part e
  thread_part_by part h true e = h e (r.place.lower ++ r.segment ∷ [])
  thread_part_by part h false e = refl

  -- a part that isn't its segments stays
  pub thread_part : {X : Type 0} (part : Thread → X) → ((e : Thread) (x : List Segment) → part (record e { segments = x }) ≡ part e)
      → (e : Thread) → part (changed_thread e) ≡ part e
  thread_part part h e = thread_part_by part h (e.number.0 == t.0) e

  -- threads of one number stand at one place
  pub one_place : (i j : ℕ) (a b : Thread) → slice_get m.threads i ≡ Some a → slice_get m.threads j ≡ Some b → a.number.0 ≡ b.number.0 → i ≡ j
  one_place i j a b at bt same = elim (cases_eq i j) [
    | inl e ↦ e
    | inr differ ↦ elim (cases_lt i j) [
      | inl below ↦ let less = r.sealed.threads.rise i j a b below at bt in absurd (omega (arith, less, same))
      | inr above ↦ let less = r.sealed.threads.rise j i b a (omega (arith, above, differ)) bt at in absurd (omega (arith, less, same))
    ]
  ]

  pub threads_are : (after r).threads ≡ set m.threads stood.0 (thread_here r)
  threads_are =
      one_changed changed_thread m.threads stood.0 r.place.thread stood.1
      (λ i e differ at.
      kept_if (e.number.0 == t.0) (record e { segments = r.place.lower ++ r.segment ∷ [] }) e
      (ne_eqb e.number.0 t.0 (λ same. differ (one_place i stood.0 e r.place.thread at stood.1 (same ∙ sym stood.2)))))
      ∙ ap (set m.threads stood.0)
      (changed_if (r.place.thread.number.0 == t.0) (thread_here r) r.place.thread (eq-eqb r.place.thread.number.0 t.0 stood.2))
