-- A step of a thread is paid, and the thread's top segment becomes another one of its domain: the machine then, and what a whole step is confined to.
use Rattle.std.proofs.Common.{ℕ, ◌≡◌, ◌≢◌, ◌⊎◌, inl, inr, List, [], ◌∷◌, ◌++◌, length, Some, slice_get, refl, sym, ap, subst, ◌∙◌, Bool, true, false, cond, ◌-◌, ◌==◌, Option}
use Rattle.std.specs.Option.{option_map}
use Rattle.std.proofs.lemmas.Bool.{cases_eq}
use Rattle.std.proofs.lemmas.List.{length-map}
use Rattle.std.proofs.lemmas.Option.{same_Some}
use Rattle.jk_model.specs.declared.identifiers.DomainId.{DomainId}
use Rattle.jk_model.specs.declared.identifiers.ThreadNo.{ThreadNo}
use Rattle.jk_model.specs.declared.output.Line.{Line}
use Rattle.jk_model_heaps.specs.Workings.{Inside}
use Rattle.jk_model_sharing.specs.BoundNames.{without_names_of}
use Rattle.jk_model_machine_state.specs.Machines.{DomainState, IsLiveThread, caps_of, Machine, Segment, Thread, domain_at, paid, thread_numbered}
use Rattle.jk_model_machine_state.specs.Places.{LiveDomain, RunningSegment, with_running}
use Rattle.jk_model_runs.specs.Confined.{Confined, DomainChanges, OthersChange, OwnChange, StepOf, ThreadChanges}
use Rattle.jk_model_runs.specs.Steps.{Deed, EndedDomain, StepsBy}
use Rattle.list_lemmas.proofs.ItemsByPlace.{comes_from, mapped_at}
use Rattle.list_lemmas.proofs.LastItems.{one_last}
use Rattle.machine_laws.specs.KeptWorlds.{KeepsWorld, LastingDomain, lasting}
use Rattle.machine_laws.specs.KnownMachines.{IsKnownMachine}
use Rattle.machine_laws.proofs.ChangedItems.{parts_stay}
use Rattle.machine_laws.proofs.ElsewhereSame.{other_domains, other_insides, other_running}
use Rattle.machine_laws.proofs.MachinesThatGrow.{AreNumbered}
use Rattle.machine_laws.proofs.NumbersDrawn.{steps_draw}
use Rattle.machine_laws.proofs.PaidSteps.{known_paid}
use Rattle.machine_laws.proofs.RunningSegmentsFit.{same_thread_number}
use Rattle.machine_laws.proofs.RunsAgain.{set_inside, thread_set}
use Rattle.machine_laws.proofs.ThreadsEnded.{thread_found}
use Rattle.machine_laws.proofs.WorldsKept.{running_keeps, steps_keep}

-- domains stand at their numbers still
pub numbered_kept : (m new : Machine) → KeepsWorld m new → AreNumbered m → AreNumbered new
numbered_kept m new keeps numbered i e at =
    let was =
    comes_from lasting m.domains i (lasting e)
    (ap (λ (ls : List LastingDomain). slice_get ls i) (sym keeps.domains) ∙ mapped_at lasting new.domains i e at) in
    ap (λ (l : LastingDomain). l.number.0) (sym was.gives) ∙ numbered i was.from was.there

-- a thread runs in one segment
pub one_top : (m : Machine) (t : ThreadNo) (p q : RunningSegment m t) → (q.thread ≡ p.thread) × (q.lower ≡ p.lower) × (q.segment ≡ p.segment)
one_top m t p q =
    let thread : q.thread ≡ p.thread = same_Some q.thread p.thread (sym q.is_thread ∙ p.is_thread) in
    let last =
    one_last q.lower p.lower q.segment p.segment (sym q.are_segments ∙ ap (λ (e : Thread). e.segments) thread ∙ p.are_segments) in
    (thread, last.0, last.1)

-- what is the same of other domains
pub unchanged : (x : StepOf) (old after : DomainState) → after ≡ old → DomainChanges x old after
unchanged x old after is = record {
  rest = subst (λ (y : DomainState). y ≡ record old { inside = y.inside }) (sym is) refl;
  inside = inl (ap (λ (y : DomainState). y.inside) is);
}

-- a thread that is found as before
pub thread_same : (Change : List Segment → List Segment → Type 0) → ((ss : List Segment) → Change ss ss) → (m new : Machine) (u : ThreadNo) (old : Thread)
    → thread_numbered m u ≡ Some old → thread_numbered new u ≡ thread_numbered m u → ThreadChanges Change old new
thread_same Change same m new u old at is =
    inl (old, ap (thread_numbered new) (same_thread_number old.number u (thread_found m u old at).1) ∙ is ∙ at, refl, same old.segments)

-- what is there where it is known to be the same
pub live_same : (m new : Machine) (u : ThreadNo) → thread_numbered new u ≡ thread_numbered m u → IsLiveThread new u → IsLiveThread m u
live_same m new u is lives = (lives.0, sym is ∙ lives.1)

-- ---- What the world keeps anyway is left out.

pub record ChangesHere (x : StepOf) (d : DomainId) (p : RunningSegment x.machine x.thread) (new : Machine) : Type 0 where
  pub domains : (e : DomainId) (old after : DomainState) → e ≢ d → domain_at x.machine e ≡ Some old → domain_at new e ≡ Some after
      → DomainChanges x old after
  pub names : without_names_of d new.names ≡ without_names_of d x.machine.names
  pub threads : (u : ThreadNo) (old : Thread) → u ≢ x.thread → thread_numbered x.machine u ≡ Some old
      → ThreadChanges (OthersChange d x.deed) old new
  pub own_thread : ThreadChanges (OwnChange x d x.deed) p.thread new
  pub no_more : (u : ThreadNo) → u ≢ x.thread → IsLiveThread new u → IsLiveThread x.machine u
  pub own_end : (e : DomainId) → x.deed ≡ EndedDomain e → e ≡ d

pub confined_by : (m new : Machine) (t : ThreadNo) (deed : Deed) (lines : List Line) (p : RunningSegment m t) → StepsBy m t deed lines new
    → ChangesHere (record { machine = m; thread = t; deed = deed }) p.segment.shared.domain p new
    → Confined (record { machine = m; thread = t; deed = deed }) p.segment.shared.domain new
confined_by m new t deed lines p step h = record {
  classes = keeps.classes;
  pools = keeps.pools;
  as_many = sym (length-map new.domains lasting) ∙ ap (λ (ls : List LastingDomain). length ls) keeps.domains ∙ length-map m.domains lasting;
  domains = h.domains;
  names = h.names;
  threads = h.threads;
  own_thread = λ old at.
      subst (λ (e : Thread). ThreadChanges (OwnChange (record { machine = m; thread = t; deed = deed }) p.segment.shared.domain deed) e new)
      (same_Some p.thread old (sym p.is_thread ∙ at)) h.own_thread;
  no_more = λ u lives. live u lives (cases_eq u.0 t.0);
  own_end = h.own_end;
  next_thread = keeps.next_thread;
  next_segment = steps_draw m new t deed lines step;
}
  where
    keeps : KeepsWorld m new
    keeps = steps_keep m new t deed lines step

    live : (u : ThreadNo) → IsLiveThread new u → (u.0 ≡ t.0) ⊎ (u.0 ≢ t.0) → IsLiveThread m u
    live u lives (inl is) = (p.thread, ap (thread_numbered m) (same_thread_number u t is) ∙ p.is_thread)
    live u lives (inr differ) = h.no_more u (λ is. differ (ap (λ (n : ThreadNo). n.0) is)) lives

-- ---- The segment has run.

module _ (m : Machine) (t : ThreadNo) (p : RunningSegment m t) (known : IsKnownMachine m) (payer : DomainId) (pays : payer ≡ p.segment.shared.domain)
    (z : RunningSegment (paid payer m) t) (s : Segment) (inside : Inside) where
  abbrev pub ran : Machine
  ran = with_running z s inside

  -- the thread that was there, and the top segment
  pub was_top : (z.thread ≡ p.thread) × (z.lower ≡ p.lower) × (z.segment ≡ p.segment)
  was_top =
      one_top m t p
      (record {
        thread = z.thread;
        is_thread = z.is_thread;
        lower = z.lower;
        segment = z.segment;
        are_segments = z.are_segments;
        home = subst (λ (u : Segment). LiveDomain m u.shared.domain) (sym here) p.home;
      })
    where
      here : z.segment ≡ p.segment
      here =
          (one_last z.lower p.lower z.segment p.segment
          (sym z.are_segments ∙ ap (λ (e : Thread). e.segments) (same_Some z.thread p.thread (sym z.is_thread ∙ p.is_thread)) ∙ p.are_segments)).1

  pub numbered_paid : AreNumbered (paid payer m)
  numbered_paid = (known_paid m payer known).0.0.domains.numbered

  pub ran_numbered : AreNumbered ran
  ran_numbered = numbered_kept (paid payer m) ran (running_keeps z s inside) numbered_paid

  pub ran_domains : (e : DomainId) → e ≢ p.segment.shared.domain → domain_at ran e ≡ domain_at m e
  ran_domains e differ =
      other_insides numbered_paid z s inside e (λ is. differ (is ∙ ap (λ (u : Segment). u.shared.domain) was_top.2))
      ∙ other_domains m known.0.0.domains.numbered payer _ e (λ is. differ (is ∙ pays))

  pub ran_threads : (u : ThreadNo) → u ≢ t → thread_numbered ran u ≡ thread_numbered m u
  ran_threads u differ = other_running z s inside u differ

  -- the thread in it
  pub ran_own : thread_numbered ran t ≡ Some (record p.thread { segments = p.lower ++ s ∷ [] })
  ran_own =
      thread_set (paid payer m) t (z.lower ++ s ∷ []) z
      ∙ (λ i. Some (record (was_top.0 i) { segments = was_top.1 i ++ s ∷ [] }))

  caps_by : (b : Bool) (e : DomainState) (x : Inside) → (cond b (record e { inside = Some x }) e).caps ≡ e.caps
  caps_by true e x = refl
  caps_by false e x = refl

  paid_by : (b : Bool) (e : DomainState) (left : Option ℕ) → (cond b (record e { steps_left = left }) e).caps ≡ e.caps
  paid_by true e left = refl
  paid_by false e left = refl

  -- no capability changed
  pub ran_caps : caps_of ran ≡ caps_of m
  ran_caps =
      parts_stay (set_inside z.segment.shared.domain inside) (λ (e : DomainState). e.caps)
      (λ e. caps_by (e.number.0 == z.segment.shared.domain.0) e inside) (paid payer m).domains
      ∙ parts_stay (λ (e : DomainState). cond (e.number.0 == payer.0) (record e { steps_left = option_map (λ (n : ℕ). n - 1) e.steps_left }) e)
      (λ (e : DomainState). e.caps) (λ e. paid_by (e.number.0 == payer.0) e (option_map (λ (n : ℕ). n - 1) e.steps_left)) m.domains
