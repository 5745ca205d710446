-- A throwable that has left the top segment of a thread goes down: it ends the thread, is dropped, or is raised in the segment below, and so on.
-- And what is raised where a thread's top frame stands is caught there, or goes down.
use Rattle.std.proofs.Common.{◌≡◌, ℕ, zero, suc, ◌==◌, inl, inr, Bool, true, false, cond, List, [], ◌∷◌, ◌++◌, append_assoc, length, length-append, Some, refl, sym, ap, subst, ◌∙◌, arith}
use Rattle.jk_model.specs.declared.identifiers.ThreadNo.{ThreadNo}
use Rattle.jk_model.specs.declared.output.Line.TheVariants.{Ended, EndedBy}
use Rattle.jk_model.specs.declared.steps.Raise.{Raise}
use Rattle.jk_model.specs.declared.steps.Raise.TheVariants as Raised
use Rattle.jk_model.specs.declared.steps.Standing.TheVariants as Stands
use Rattle.jk_model.specs.declared.values.Value.{Value}
use Rattle.jk_model.specs.declared.values.Value.TheVariants as Held
use Rattle.jk_model_domains.specs.Objects.{Plain}
use Rattle.jk_model_graphs.specs.Copies.{EachCorresponds}
use Rattle.jk_model_heaps.specs.declared.shapes.Unwound.{Unwound}
use Rattle.jk_model_heaps.specs.declared.shapes.Unwound.TheVariants as Unwinding
use Rattle.jk_model_heaps.specs.Heaps.{named}
use Rattle.jk_model_heaps.specs.SystemClasses.{THREAD_DEATH}
use Rattle.jk_model_heaps.specs.Workings.{Inside, Run}
use Rattle.jk_model_running.specs.Raising.{RaisesIn}
use Rattle.jk_model_sealing.specs.SealedInsides.{IsSealedInside}
use Rattle.jk_model_machine_state.specs.Machines.{DomainState, Machine, Segment, caps_of, without_thread}
use Rattle.jk_model_machine_state.specs.Places.{LiveDomain, RunningSegment, run_of, setting_of, with_run, without_top}
use Rattle.jk_model_crossings.specs.Passages.{Passes}
use Rattle.jk_model_crossings.specs.Throwing.{Brings, RaisesInThread, Throws, TopTwo, passed_down, with_revoked_below}
use Rattle.jk_model_crossings.specs.Throwing as Crossing
use Rattle.jk_model_runs.specs.Sealed.{IsSealed, SegmentsFit, surroundings}
use Rattle.decided_lookups.proofs.DecidedRecords.{subclass_decided}
use Rattle.list_lemmas.proofs.ItemsOfLists.{Contains-none}
use Rattle.list_lemmas.proofs.LastItems.{last_of}
use Rattle.heap_laws.proofs.ObjectsAfterChanges.{found_stands}
use Rattle.heap_laws.proofs.SealedGraphs.{sealed_is_wholly_there}
use Rattle.heap_laws.specs.RaisableObjects.{MayBeRaised}
use Rattle.machine_laws.specs.CallsAndAnswers.{MayBeRaised as MayRaiseHere}
use Rattle.machine_laws.specs.SoundMachines.{HasSoundClasses, IsSealedAtCall}
use Rattle.machine_laws.proofs.AnswersSealed.{calls_from}
use Rattle.machine_laws.proofs.ChangedItems.{parts_stay}
use Rattle.machine_laws.proofs.PassagesDecided.{passages_are_decided}
use Rattle.machine_laws.proofs.RaisesKeep.{MayRaise}
use Rattle.machine_laws.proofs.RaisesWhereMet.{IsMet, met}
use Rattle.machine_laws.proofs.RaisesSealed.{flagged, is_met, may_raise, met_there}
use Rattle.machine_laws.proofs.RunningSegmentsFit.{home_there, thread_there}
use Rattle.machine_laws.proofs.RunsAgain.{running_then, runs_there, set_inside, thread_set}
use Rattle.machine_laws.proofs.SegmentsRunAgain.{EndsSo, raise_found}
use Rattle.machine_laws.proofs.ThrowablesSealed.{HasThrown, IsBrought, brought, leads_well}
use Rattle.machine_laws.proofs.TopSegmentsTaken.{without}
use Rattle.std.proofs.lemmas.Option.{same_Some}
use Rattle.list_lemmas.proofs.LastItems.{one_last}

-- ---- Something is raised where it is met.

pub record RaisedThere (m : Machine) (t : ThreadNo) (r : Raise) : Type 0 where
  pub place : RunningSegment m t
  pub ended : Unwound
  pub run : Run
  pub raises : RaisesIn (setting_of place) (run_of place) r run ended

caps_by : (b : Bool) (inside : Inside) (e : DomainState) → (cond b (record e { inside = Some inside }) e).caps ≡ e.caps
caps_by true inside e = refl
caps_by false inside e = refl

module _ (m : Machine) (t : ThreadNo) (h : IsMet m t) (r : Raise) (can : MayBeRaised m.classes h.inside.heap r) where
  abbrev q : RunningSegment (met m t h) t
  q = running_then m t h.place h.segment h.inside h.domain

  caps_same : caps_of (met m t h) ≡ caps_of m
  caps_same =
      parts_stay (set_inside h.place.segment.shared.domain h.inside) (λ (e : DomainState). e.caps)
      (λ e. caps_by (e.number.0 == h.place.segment.shared.domain.0) h.inside e) m.domains

  may : MayRaise (surroundings m h.place.home.domain) (setting_of q) t (run_of q)
  may = record {
    setting = record {
      classes = refl;
      ranges = caps_same;
      stand_ins = λ s i on none lists. absurd (Contains-none s on);
      codes = h.sound.codes;
      table = h.sound.tables h.place.home.domain (home_there m t h.place h.sealed);
    };
    sealed = record { inside = h.keeps.sealed; frames = h.frames };
    progress = h.in_progress;
  }

  raised_at_met : RaisedThere (met m t h) t r
  raised_at_met =
      let found = raise_found (surroundings m h.place.home.domain) (setting_of q) t (run_of q) may r can in
      record { place = q; ended = found.0; run = found.1; raises = found.2 }

  pub raised_there : (mid : Machine) → mid ≡ met m t h → RaisedThere mid t r
  raised_there mid is = subst (λ (x : Machine). RaisedThere x t r) (sym is) raised_at_met

-- ---- The segment below a top one.

module _ (m : Machine) (t : ThreadNo) (sealed : IsSealed m) (p : RunningSegment m t) (front : List Segment) (last : Segment)
    (are : p.lower ≡ front ++ last ∷ []) where
  pub home_below : LiveDomain m last.shared.domain
  home_below =
      (calls_from m front last p.segment
      (subst (SegmentsFit m)
      (p.are_segments ∙ ap (λ (ss : List Segment). ss ++ p.segment ∷ []) are ∙ append_assoc front (last ∷ []) (p.segment ∷ []))
      (sealed.threads.segments p.thread (thread_there m t p sealed)))).home

  abbrev pub two : TopTwo m t
  two = record {
    left = p;
    below = record {
      thread = record p.thread { segments = p.lower };
      is_thread = thread_set m t p.lower p;
      lower = front;
      segment = last;
      are_segments = are;
      home = record {
        domain = home_below.domain;
        is_domain = home_below.is_domain;
        numbered = home_below.numbered;
        inside = home_below.inside;
        is_inside = home_below.is_inside;
      };
    };
  }

-- however it is brought there, as many stand below
brings_lower : (m : Machine) (t : ThreadNo) (s : TopTwo m t) (a : ℕ) (r : Raise) (mid : Machine) → Brings s a r mid → (q : RunningSegment mid t)
    → q.lower ≡ s.below.lower
brings_lower m t s a r mid (Brings.is_death b death) q = same_lower m t s q
  where
    same_lower : (m : Machine) (t : ThreadNo) (s : TopTwo m t) (q : RunningSegment (without_top s.left) t) → q.lower ≡ s.below.lower
    same_lower m t s q =
        (one_last q.lower s.below.lower q.segment s.below.segment
        (sym q.are_segments ∙ ap (λ e. e.segments) (same_Some q.thread s.below.thread (sym q.is_thread ∙ s.below.is_thread)) ∙ s.below.are_segments)).0
brings_lower m t s a r mid (Brings.is_uncopiable b alive not) q =
    (one_last q.lower s.below.lower q.segment s.below.segment
    (sym q.are_segments ∙ ap (λ e. e.segments) (same_Some q.thread s.below.thread (sym q.is_thread ∙ s.below.is_thread)) ∙ s.below.are_segments)).0
brings_lower m t s a r mid (Brings.is_too_large b alive large) q =
    (one_last q.lower s.below.lower q.segment s.below.segment
    (sym q.are_segments ∙ ap (λ e. e.segments) (same_Some q.thread s.below.thread (sym q.is_thread ∙ s.below.is_thread)) ∙ s.below.are_segments)).0
brings_lower m t s a r mid (Brings.is_copied b alive heap c passes) q =
    (runs_there (without_top s.left) t s.below s.below.segment (record s.below.home.inside { heap = heap }) refl q).0

-- ---- One segment down.

one_copy : (pairs : List (ℕ × ℕ)) (a : ℕ) (ws : List Value) → EachCorresponds pairs (Held.Obj a ∷ []) ws → (c : ℕ) × (ws ≡ Held.Obj c ∷ [])
one_copy pairs a (Held.Obj c ∷ []) h = (c, refl)
one_copy pairs a (Held.Obj c ∷ w ∷ ws) h = absurd h.1
one_copy pairs a [] h = absurd h
one_copy pairs a (w ∷ ws) h = absurd h.0

abbrev Brought : {m : Machine} {t : ThreadNo} → TopTwo m t → ℕ → Type 0
Brought s a = (r : Raise) × (mid : Machine) × Brings s a r mid

-- where so many segments stand below
abbrev GoesFurther : ℕ → Type 0
GoesFurther k =
    (m : Machine) (t : ThreadNo) (a : ℕ) → IsSealed m → HasSoundClasses m → (p : RunningSegment m t) → HasThrown m t a → length p.lower ≡ k
    → EndsSo (λ n lines new. Throws t n m a lines new)

module _ (m : Machine) (t : ThreadNo) (a : ℕ) (sealed : IsSealed m) (sound : HasSoundClasses m) (p : RunningSegment m t) (thrown : HasThrown m t a) where
  inside_sealed : IsSealedInside (surroundings m p.home.domain) p.home.domain.quotas.heap p.home.inside
  inside_sealed = sealed.domains.insides p.home.domain p.home.inside (home_there m t p sealed) p.home.is_inside

  throwable : Crossing.IsThrowable p a
  throwable =
      let x = thrown.throwable p in
      let named_there = inside_sealed.objects (named a (Plain x.0 x.1)) (found_stands a (Plain x.0 x.1) p.home.inside.heap x.2) in
      let there = (sound.tables p.home.domain (home_there m t p sealed)).closed x.0 named_there.0 in
      record { class = x.0; fields = x.1; is_object = x.2; of_class = there.0; is_class = there.1 }

  ends_here : p.lower ≡ [] → EndsSo (λ n lines new. Throws t n m a lines new)
  ends_here lowest = by p.segment.shared.orphan refl
    where
      by : (orphan : Bool) → p.segment.shared.orphan ≡ orphan → EndsSo (λ n lines new. Throws t n m a lines new)
      by false plain = (1, EndedBy t throwable.of_class.name ∷ [], without_thread t m, Throws.ends m a p throwable lowest plain)
      by true orphan = (1, Ended t ∷ [], without_thread t m, Throws.ends_orphan m a p lowest orphan)

  module _ (front : List Segment) (last : Segment) (are : p.lower ≡ front ++ last ∷ []) where
    abbrev s : TopTwo m t
    s = two m t sealed p front last are

    brings_there : Brought s a
    brings_there = elim (subclass_decided m.classes throwable.class THREAD_DEATH) [
      | inl death ↦ (Raised.Standing Stands.Remote, without_top p, Brings.is_death throwable death)
      | inr alive ↦ elim (passages_are_decided (passed_down s (Held.Obj a ∷ []))
          (sealed_is_wholly_there (surroundings m p.home.domain) p.home.domain.quotas.heap p.home.inside (Held.Obj a ∷ []) inside_sealed
          ((Plain throwable.class throwable.fields, throwable.is_object), tt))) [
            | inl uncopiable ↦ (Raised.Standing Stands.Remote, without_top p, Brings.is_uncopiable throwable alive uncopiable)
            | inr (inl large) ↦ (Raised.Standing Stands.OutOfMemoryError, without_top p, Brings.is_too_large throwable alive large)
            | inr (inr (heap, values, passes)) ↦
                let one = one_copy passes.pairs a values passes.copy.values in (
                  Raised.Object one.0,
                  Crossing.received s heap,
                  Brings.is_copied throwable alive heap one.0 (subst (Passes (passed_down s (Held.Obj a ∷ [])) heap) one.1 passes),
                )
          ]
    ]

    -- where so many segments stand below the one below
    module _ (k : ℕ) (as_many : length front ≡ k) (further : GoesFurther k) (orphan : p.segment.shared.orphan ≡ false) where
      raised_below : (r : Raise) (mid : Machine) (brings : Brings s a r mid) → IsBrought m t sealed s (thrown.left p) r mid
          → (q : RunningSegment mid t) (u : Unwound) (run : Run) → RaisesIn (setting_of q) (run_of q) r run u
          → EndsSo (λ n lines new. Throws t n m a lines new)
      raised_below r mid brings x q Unwinding.Caught run raises =
          (1, [], with_run q run, Throws.caught m mid a s r orphan brings q run raises)
      raised_below r mid brings x q (Unwinding.Uncaught b) run raises =
          let l = leads_well (without m t sealed s (thrown.left p)) t x.met_there r x.may mid x.is q run (Unwinding.Uncaught b) raises in
          let rest = further (with_run q run) t b l.sealed l.sound (running_then mid t q (record q.segment { frames = run.frames }) run.inside refl)
          l.remains (ap (λ (ss : List Segment). length ss) (brings_lower m t s a r mid brings q) ∙ as_many) in
          (suc rest.0, rest.1, rest.2, Throws.goes_on rest.0 m mid rest.2 a b rest.1 s r orphan brings q run raises rest.3)

      goes_below : EndsSo (λ n lines new. Throws t n m a lines new)
      goes_below =
          let b = brings_there in
          let x = brought m t sealed sound s (thrown.left p) a (thrown.throwable p) b.0 b.1 b.2 in
          let there = raised_there (without m t sealed s (thrown.left p)) t x.met_there b.0 x.may b.1 x.is in
          raised_below b.0 b.1 b.2 x there.place there.ended there.run there.raises

    goes_down : (k : ℕ) → length front ≡ k → GoesFurther k → EndsSo (λ n lines new. Throws t n m a lines new)
    goes_down k as_many further = by p.segment.shared.orphan refl
      where
        by : (orphan : Bool) → p.segment.shared.orphan ≡ orphan → EndsSo (λ n lines new. Throws t n m a lines new)
        by true orphan = (1, [], with_revoked_below s, Throws.drops m a s orphan)
        by false orphan = goes_below k as_many further orphan

  step_down : (k : ℕ) → GoesFurther k → (lower : List Segment) → p.lower ≡ lower → length lower ≡ suc k
      → EndsSo (λ n lines new. Throws t n m a lines new)
  step_down k further [] is many = absurd (omega (arith, many))
  step_down k further (u ∷ lower) is many =
      let f = last_of u lower in
      let long = ap (λ (ss : List Segment). length ss) f.2 in
      let sum = length-append f.0 (f.1 ∷ []) in
      goes_down f.0 f.1 (is ∙ f.2) k (omega (arith, many, long, sum)) further

none_below : (lower : List Segment) → length lower ≡ 0 → lower ≡ []
none_below [] h = refl
none_below (s ∷ lower) h = absurd (omega (arith, h))

throws_by : (k : ℕ) → GoesFurther k
throws_by zero m t a sealed sound p thrown many = ends_here m t a sealed sound p thrown (none_below p.lower many)
throws_by (suc k) m t a sealed sound p thrown many = step_down m t a sealed sound p thrown k (throws_by k) p.lower refl many

pub throws_there : (m : Machine) (t : ThreadNo) (a : ℕ) → IsSealed m → HasSoundClasses m → RunningSegment m t → HasThrown m t a
    → EndsSo (λ n lines new. Throws t n m a lines new)
throws_there m t a sealed sound p thrown = throws_by (length p.lower) m t a sealed sound p thrown refl

-- ---- What is raised.

pub raises_found : (m : Machine) (t : ThreadNo) (h : IsMet m t) (r : Raise) → MayBeRaised m.classes h.inside.heap r → (mid : Machine)
    → mid ≡ met m t h → EndsSo (λ n lines new. RaisesInThread mid t r n lines new)
raises_found m t h r can mid is =
    let there = raised_there m t h r can mid is in
    by there.place there.ended there.run there.raises
  where
    by : (q : RunningSegment mid t) (u : Unwound) (run : Run) → RaisesIn (setting_of q) (run_of q) r run u
        → EndsSo (λ n lines new. RaisesInThread mid t r n lines new)
    by q Unwinding.Caught run raises = (0, [], with_run q run, RaisesInThread.caught q run raises)
    by q (Unwinding.Uncaught a) run raises =
        let l = leads_well m t h r can mid is q run (Unwinding.Uncaught a) raises in
        let rest = throws_there (with_run q run) t a l.sealed l.sound (running_then mid t q (record q.segment { frames = run.frames }) run.inside refl)
        l.remains in
        (rest.0, rest.1, rest.2, RaisesInThread.goes_down q run a rest.0 rest.1 rest.2 raises rest.3)

-- in a machine that is sealed but for the thread
pub raises_there : (m : Machine) (t : ThreadNo) (p : RunningSegment m t) (r : Raise) → IsSealedAtCall m t → HasSoundClasses m → MayRaiseHere p r
    → EndsSo (λ n lines new. RaisesInThread m t r n lines new)
raises_there m t p r waits sound may =
    raises_found (flagged m t p waits sound) t (met_there m t p waits sound) r (may_raise m t p r may) m (is_met m t p waits sound)
