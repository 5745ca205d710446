-- A thread has worked in its top segment so far: its own segment and domain, that one's capabilities and names alone are others.
use Rattle.std.proofs.Common.{inl, ◌≡◌, ◌≢◌, ◌==◌, Bool, true, false, cond, List, [], ◌∷◌, ◌++◌, Some, refl, sym, ap, ◌∙◌}
use Rattle.std.proofs.lemmas.Option.{same_Some}
use Rattle.jk_model.specs.declared.identifiers.DomainId.{DomainId}
use Rattle.jk_model.specs.declared.identifiers.ThreadNo.{ThreadNo}
use Rattle.jk_model_heaps.specs.Workings.{Inside}
use Rattle.jk_model_sharing.specs.BoundNames.{BoundName, without_names_of}
use Rattle.jk_model_machine_state.specs.Machines.{DomainState, Machine, Segment, Thread, domain_at, thread_numbered, with_domain}
use Rattle.jk_model_machine_state.specs.Places.{RunningSegment, with_running}
use Rattle.jk_model_runs.specs.Confined.{HasOtherTop, StepOf}
use Rattle.jk_model_runs.specs.Steps.{Worked}
use Rattle.list_lemmas.proofs.ItemsByPlace.{comes_from}
use Rattle.list_lemmas.proofs.LastItems.{one_last}
use Rattle.machine_laws.proofs.ElsewhereSame.{other_domains, other_insides, other_running}
use Rattle.machine_laws.proofs.MachinesThatGrow.{AreNumbered}
use Rattle.machine_laws.proofs.RanInSteps.{ChangesHere, live_same, numbered_kept, thread_same, unchanged}
use Rattle.machine_laws.proofs.RunningSegmentsFit.{same_thread_number, thread_place}
use Rattle.machine_laws.proofs.RunsAgain.{thread_set}
use Rattle.machine_laws.proofs.WorldsKept.{running_keeps}

pub record WorkedSo (m : Machine) (t : ThreadNo) (p : RunningSegment m t) (mid : Machine) : Type 0 where
  pub numbered : AreNumbered mid
  pub domains : (e : DomainId) → e ≢ p.segment.shared.domain → domain_at mid e ≡ domain_at m e
  pub names : without_names_of p.segment.shared.domain mid.names ≡ without_names_of p.segment.shared.domain m.names
  pub threads : (u : ThreadNo) → u ≢ t → thread_numbered mid u ≡ thread_numbered m u
  -- the segment that is on top
  pub top : Segment
  pub own : thread_numbered mid t ≡ Some (record p.thread { segments = p.lower ++ top ∷ [] })
  pub number : top.shared.number ≡ p.segment.shared.number
  pub domain : top.shared.domain ≡ p.segment.shared.domain
  pub orphan : top.shared.orphan ≡ p.segment.shared.orphan

-- nothing was done
pub starts : (m : Machine) (t : ThreadNo) (p : RunningSegment m t) → AreNumbered m → WorkedSo m t p m
starts m t p numbered = record {
  numbered = numbered;
  domains = λ e differ. refl;
  names = refl;
  threads = λ u differ. refl;
  top = p.segment;
  own = p.is_thread ∙ ap (λ (ss : List Segment). Some (record p.thread { segments = ss })) p.are_segments;
  number = refl;
  domain = refl;
  orphan = refl;
}

numbers_by : (b : Bool) (change : DomainState → DomainState) → ((e : DomainState) → (change e).number ≡ e.number) → (e : DomainState)
    → (cond b (change e) e).number ≡ e.number
numbers_by true change keeps e = keeps e
numbers_by false change keeps e = refl

module _ (m : Machine) (t : ThreadNo) (p : RunningSegment m t) (mid : Machine) (w : WorkedSo m t p mid) where
  abbrev d : DomainId
  d = p.segment.shared.domain

  -- its domain is another one, of the same number
  pub changes_domain : (n : DomainId) → n ≡ d → (change : DomainState → DomainState) → ((e : DomainState) → (change e).number ≡ e.number)
      → WorkedSo m t p (with_domain n change mid)
  changes_domain n is change keeps = record {
    numbered = λ i e at.
        let from = comes_from (λ (x : DomainState). cond (x.number.0 == n.0) (change x) x) mid.domains i e at in
        ap (λ (x : DomainState). x.number.0) (sym from.gives)
        ∙ ap (λ (k : DomainId). k.0) (numbers_by (from.from.number.0 == n.0) change keeps from.from) ∙ w.numbered i from.from from.there;
    domains = λ e differ. other_domains mid w.numbered n change e (λ same. differ (same ∙ is)) ∙ w.domains e differ;
    names = w.names;
    threads = w.threads;
    top = w.top;
    own = w.own;
    number = w.number;
    domain = w.domain;
    orphan = w.orphan;
  }

  pub changes_names : (names : List BoundName) → without_names_of d names ≡ without_names_of d mid.names → WorkedSo m t p (record mid { names = names })
  changes_names names same = record {
    numbered = w.numbered;
    domains = w.domains;
    names = same ∙ w.names;
    threads = w.threads;
    top = w.top;
    own = w.own;
    number = w.number;
    domain = w.domain;
    orphan = w.orphan;
  }

  -- ---- The segment that runs.

  module _ (q : RunningSegment mid t) where
    one_thread : q.thread ≡ record p.thread { segments = p.lower ++ w.top ∷ [] }
    one_thread = same_Some q.thread (record p.thread { segments = p.lower ++ w.top ∷ [] }) (sym q.is_thread ∙ w.own)

    pub runs_on_top : (q.lower ≡ p.lower) × (q.segment ≡ w.top)
    runs_on_top = one_last q.lower p.lower q.segment w.top (sym q.are_segments ∙ ap (λ (e : Thread). e.segments) one_thread)

    pub of_domain : q.segment.shared.domain ≡ d
    of_domain = ap (λ (s : Segment). s.shared.domain) runs_on_top.1 ∙ w.domain

    pub works_on : (s : Segment) (inside : Inside) → s.shared.number ≡ q.segment.shared.number → s.shared.domain ≡ q.segment.shared.domain
        → s.shared.orphan ≡ q.segment.shared.orphan → WorkedSo m t p (with_running q s inside)
    works_on s inside number domain orphan = record {
      numbered = numbered_kept mid (with_running q s inside) (running_keeps q s inside) w.numbered;
      domains = λ e differ. other_insides w.numbered q s inside e (λ same. differ (same ∙ of_domain)) ∙ w.domains e differ;
      names = w.names;
      threads = λ u differ. other_running q s inside u differ ∙ w.threads u differ;
      top = s;
      own = thread_set mid t (q.lower ++ s ∷ []) q
          ∙ (λ i. Some (record (one_thread i) { segments = runs_on_top.0 i ++ s ∷ [] }));
      number = number ∙ ap (λ (u : Segment). u.shared.number) runs_on_top.1 ∙ w.number;
      domain = domain ∙ of_domain;
      orphan = orphan ∙ ap (λ (u : Segment). u.shared.orphan) runs_on_top.1 ∙ w.orphan;
    }

  -- ---- All that the step does.

  pub other_top : HasOtherTop p.thread.segments (p.lower ++ w.top ∷ [])
  other_top = record {
    lower = p.lower;
    before = p.segment;
    after = w.top;
    were = p.are_segments;
    are = refl;
    same = (w.number, w.domain);
  }

  abbrev x : StepOf
  x = record { machine = m; thread = t; deed = Worked }

  pub worked_changes : ChangesHere x d p mid
  worked_changes = record {
    domains = λ e old after differ at there. unchanged x old after (same_Some after old (sym there ∙ w.domains e differ ∙ at));
    names = w.names;
    threads = λ u old differ at. thread_same (λ a b. b ≡ a) (λ ss. refl) m mid u old at (w.threads u differ);
    own_thread = inl (
      record p.thread { segments = p.lower ++ w.top ∷ [] },
      ap (thread_numbered mid) (same_thread_number p.thread.number t (thread_place m t p).2) ∙ w.own,
      refl,
      other_top,
    );
    no_more = λ u differ. live_same m mid u (w.threads u differ);
    own_end = λ e is. absurd cc;
  }
