-- A thread has left some of its segments so far, and the next one is on top. The domains below got objects, and classes of theirs are broken.
use Rattle.std.proofs.Common.{◌≡◌, ◌≢◌, ◌⊎◌, inl, inr, ℕ, suc, ◌≤◌, false, List, [], ◌∷◌, ◌++◌, append_assoc, length, Some, refl, sym, ap, subst, ◌∙◌, arith}
use Rattle.std.specs.List.{AllByRecursion}
use Rattle.std.proofs.lemmas.Bool.{cases_eq}
use Rattle.std.proofs.lemmas.Option.{same_Some}
use Rattle.jk_model.specs.declared.identifiers.ClassId.{ClassId}
use Rattle.jk_model.specs.declared.identifiers.DomainId.{DomainId}
use Rattle.jk_model.specs.declared.identifiers.ThreadNo.{ThreadNo}
use Rattle.jk_model_domains.specs.declared.states.ClassState.TheVariants as State
use Rattle.jk_model_domains.specs.Objects.{NamedObject}
use Rattle.jk_model_domains.specs.OwnStates.{OwnState, state_of}
use Rattle.jk_model_heaps.specs.Workings.{Inside}
use Rattle.jk_model_sharing.specs.BoundNames.{without_names_of}
use Rattle.jk_model_machine_state.specs.Machines.{DomainState, Machine, Segment, Thread, domain_at, thread_numbered}
use Rattle.jk_model_machine_state.specs.Places.{RunningSegment, with_running, without_top}
use Rattle.jk_model_crossings.specs.Throwing.{TopTwo}
use Rattle.jk_model_runs.specs.Confined.{DomainChanges, HasBrokenClasses, IsReached, OwnChange, Resumes, StepOf, ThreadChanges}
use Rattle.jk_model_runs.specs.Steps.{LeftSegments}
use Rattle.list_lemmas.proofs.LastItems.{one_last}
use Rattle.machine_laws.proofs.ElsewhereSame.{other_insides, other_running, other_threads}
use Rattle.machine_laws.proofs.LeavingChanges.{Initialises, Leaving}
use Rattle.machine_laws.proofs.MachinesThatGrow.{AreNumbered}
use Rattle.machine_laws.proofs.RanInSteps.{ChangesHere, live_same, numbered_kept, thread_same}
use Rattle.machine_laws.proofs.RunningSegmentsFit.{same_thread_number, thread_place}
use Rattle.machine_laws.proofs.RunsAgain.{home_set_there, thread_set}
use Rattle.machine_laws.proofs.WorkedSoFar.{WorkedSo}
use Rattle.machine_laws.proofs.WorldsKept.{running_keeps}

module _ (m : Machine) (t : ThreadNo) (p : RunningSegment m t) (n : ℕ) where
  abbrev pub d : DomainId
  d = p.segment.shared.domain

  abbrev pub x : StepOf
  x = record { machine = m; thread = t; deed = LeftSegments n }

  -- ---- Domains.

  -- something came to a segment of the domain
  pub record FellInto (e : DomainId) (old new : Inside) : Type 0 where
    pub segment : Segment
    pub reached : IsReached x n segment
    pub home : segment.shared.domain ≡ e
    pub more : List NamedObject
    pub own : HasBrokenClasses x n e old.own new.own
    pub is : new ≡ record old { own = new.own; heap = old.heap ++ more }

  pub record DomainFell (old new : DomainState) : Type 0 where
    pub rest : new ≡ record old { inside = new.inside }
    pub inside : (new.inside ≡ old.inside)
        ⊎ ((before : Inside) × (after : Inside) × (old.inside ≡ Some before) × (new.inside ≡ Some after) × FellInto old.number before after)

  broken_both : (e : DomainId) (a b c : OwnState) → HasBrokenClasses x n e a b → HasBrokenClasses x n e b c → HasBrokenClasses x n e a c
  broken_both e a b c g h = record {
    states = λ k. elim (g.states k) [
      | inl same ↦ elim (h.states k) [
        | inl still ↦ inl (still ∙ same)
        | inr (was, now, dropped) ↦ inr (sym same ∙ was, now, dropped)
      ]
      | inr (was, now, dropped) ↦ elim (h.states k) [
        | inl still ↦ inr (was, still ∙ now, dropped)
        | inr (later, then, again) ↦ inr (was, then, dropped)
      ]
    ];
    statics = λ k. h.statics k ∙ g.statics k;
    rest = (h.rest.0 ∙ g.rest.0, h.rest.1 ∙ g.rest.1, h.rest.2 ∙ g.rest.2);
  }

  fell_both : (e : DomainId) (a b c : Inside) → FellInto e a b → FellInto e b c → FellInto e a c
  fell_both e a b c g h = record {
    segment = g.segment;
    reached = g.reached;
    home = g.home;
    more = g.more ++ h.more;
    own = broken_both e a.own b.own c.own g.own h.own;
    is = h.is
        ∙ (λ i. record (g.is i) { own = c.own; heap = (ap (λ (y : Inside). y.heap ++ h.more) g.is ∙ append_assoc a.heap g.more h.more) i });
  }

  inside_both : (a b c : DomainState) → b.number ≡ a.number
      → (b.inside ≡ a.inside)
      ⊎ ((before : Inside) × (after : Inside) × (a.inside ≡ Some before) × (b.inside ≡ Some after) × FellInto a.number before after)
      → (c.inside ≡ b.inside)
      ⊎ ((before : Inside) × (after : Inside) × (b.inside ≡ Some before) × (c.inside ≡ Some after) × FellInto b.number before after)
      → (c.inside ≡ a.inside)
      ⊎ ((before : Inside) × (after : Inside) × (a.inside ≡ Some before) × (c.inside ≡ Some after) × FellInto a.number before after)
  inside_both a b c number (inl g) (inl h) = inl (h ∙ g)
  inside_both a b c number (inl g) (inr (before, after, was, now, fell)) =
      inr (before, after, sym g ∙ was, now, subst (λ (e : DomainId). FellInto e before after) number fell)
  inside_both a b c number (inr (before, after, was, now, fell)) (inl h) = inr (before, after, was, h ∙ now, fell)
  inside_both a b c number (inr (before, mid, was, now, fell)) (inr (other, after, were, then, again)) =
      let one : other ≡ mid = same_Some other mid (sym were ∙ now) in
      inr (
        before,
        after,
        was,
        then,
        fell_both a.number before mid after fell
            (subst (λ (y : Inside). FellInto a.number y after) one (subst (λ (e : DomainId). FellInto e other after) number again)),
      )

  fell_twice : (a b c : DomainState) → DomainFell a b → DomainFell b c → DomainFell a c
  fell_twice a b c g h = record {
    rest = h.rest ∙ ap (λ (y : DomainState). record y { inside = c.inside }) g.rest;
    inside = inside_both a b c (ap (λ (y : DomainState). y.number) g.rest) g.inside h.inside;
  }

  fell_not : (a : DomainState) → DomainFell a a
  fell_not a = record { rest = refl; inside = inl refl }

  fell_changes : (a b : DomainState) → DomainFell a b → DomainChanges x a b
  fell_changes a b h = record {
    rest = h.rest;
    inside = elim h.inside [
      | inl same ↦ inl same
      | inr (before, after, was, now, fell) ↦ inr (
        before,
        after,
        was,
        now,
        inr (record {
          segment = fell.segment;
          reached = fell.reached;
          home = fell.home;
          grown = record before { heap = before.heap ++ fell.more };
          objects = (fell.more, refl);
          own = fell.own;
          rest = fell.is;
        }),
      )
    ];
  }

  abbrev pub DomainsFell : Machine → Type 0
  DomainsFell mid =
      (e : DomainId) (old : DomainState) → e ≢ d → domain_at m e ≡ Some old
      → (after : DomainState) × (domain_at mid e ≡ Some after) × DomainFell old after

  -- ---- So many segments are left.

  pub record Falls (k : ℕ) (mid : Machine) : Type 0 where
    pub numbered : AreNumbered mid
    pub domains : DomainsFell mid
    pub names : without_names_of d mid.names ≡ without_names_of d m.names
    pub threads : (u : ThreadNo) → u ≢ t → thread_numbered mid u ≡ thread_numbered m u
    pub lower : List Segment
    -- the one that is on top as it was before the step, and those above it
    pub old : Segment
    pub above : List Segment
    pub are : p.thread.segments ≡ lower ++ old ∷ above
    pub many : length above ≡ k
    pub no_orphans : AllByRecursion (λ (r : Segment). r.shared.orphan ≡ false) above
    pub top : Segment
    pub own : thread_numbered mid t ≡ Some (record p.thread { segments = lower ++ top ∷ [] })
    pub orphan : top.shared.orphan ≡ old.shared.orphan

  pub falls_from : (mid : Machine) → WorkedSo m t p mid → Falls 0 mid
  falls_from mid w = record {
    numbered = w.numbered;
    domains = λ e old differ at. (old, w.domains e differ ∙ at, fell_not old);
    names = w.names;
    threads = w.threads;
    lower = p.lower;
    old = p.segment;
    above = [];
    are = p.are_segments;
    many = refl;
    no_orphans = tt;
    top = w.top;
    own = w.own;
    orphan = w.orphan;
  }

  -- ---- The step is over.

  pub record LeavesWell (new : Machine) : Type 0 where
    pub domains : DomainsFell new
    pub names : without_names_of d new.names ≡ without_names_of d m.names
    pub threads : (u : ThreadNo) → u ≢ t → thread_numbered new u ≡ thread_numbered m u
    pub own : ThreadChanges (OwnChange x d (LeftSegments n)) p.thread new

  pub left_changes : (new : Machine) → LeavesWell new → ChangesHere x d p new
  left_changes new h = record {
    domains = λ e old after differ at there.
        let fell = h.domains e old differ at in
        subst (DomainChanges x old) (same_Some fell.0 after (sym fell.1 ∙ there)) (fell_changes old fell.0 fell.2);
    names = h.names;
    threads = λ u old differ at. thread_same (λ a b. b ≡ a) (λ ss. refl) m new u old at (h.threads u differ);
    own_thread = h.own;
    no_more = λ u differ. live_same m new u (h.threads u differ);
    own_end = λ e is. absurd cc;
  }

  -- ---- The segment below.

  module _ (k : ℕ) (mid : Machine) (f : Falls k mid) where
    pub on_top : (q : RunningSegment mid t) → (q.thread ≡ record p.thread { segments = f.lower ++ f.top ∷ [] }) × (q.lower ≡ f.lower) × (q.segment ≡ f.top)
    on_top q =
        let thread : q.thread ≡ record p.thread { segments = f.lower ++ f.top ∷ [] } =
        same_Some q.thread (record p.thread { segments = f.lower ++ f.top ∷ [] }) (sym q.is_thread ∙ f.own) in
        let last = one_last q.lower f.lower q.segment f.top (sym q.are_segments ∙ ap (λ (e : Thread). e.segments) thread) in
        (thread, last.0, last.1)

    module _ (s : TopTwo mid t) where
      abbrev pub below : Segment
      below = s.below.segment

      abbrev pub rest : List Segment
      rest = s.below.lower

      abbrev bare : Machine
      bare = without_top s.left

      below_thread : s.below.thread ≡ record p.thread { segments = s.left.lower }
      below_thread =
          same_Some s.below.thread (record s.left.thread { segments = s.left.lower })
          (sym s.below.is_thread ∙ thread_set mid t s.left.lower s.left)
          ∙ ap (λ (e : Thread). record e { segments = s.left.lower }) (on_top s.left).0

      pub left_lower : s.left.lower ≡ rest ++ below ∷ []
      left_lower = ap (λ (e : Thread). e.segments) (sym below_thread) ∙ s.below.are_segments

      pub lower_is : f.lower ≡ rest ++ below ∷ []
      lower_is = sym (on_top s.left).1 ∙ left_lower

      orphan_is : s.left.segment.shared.orphan ≡ f.old.shared.orphan
      orphan_is = ap (λ (u : Segment). u.shared.orphan) (on_top s.left).2 ∙ f.orphan

      stood : p.thread.segments ≡ rest ++ below ∷ f.old ∷ f.above
      stood =
          f.are ∙ ap (λ (ss : List Segment). ss ++ f.old ∷ f.above) lower_is ∙ append_assoc rest (below ∷ []) (f.old ∷ f.above)

      bare_numbered : AreNumbered bare
      bare_numbered = f.numbered

      pub below_numbered : (segment : Segment) (inside : Inside) → AreNumbered (with_running s.below segment inside)
      below_numbered segment inside = numbered_kept bare (with_running s.below segment inside) (running_keeps s.below segment inside) bare_numbered

      pub below_threads : (segment : Segment) (inside : Inside) (u : ThreadNo) → u ≢ t
          → thread_numbered (with_running s.below segment inside) u ≡ thread_numbered m u
      below_threads segment inside u differ =
          other_running s.below segment inside u differ
          ∙ other_threads mid t (λ (e : Thread). record e { segments = s.left.lower }) (λ e. refl) u differ ∙ f.threads u differ

      pub below_own : (segment : Segment) (inside : Inside)
          → thread_numbered (with_running s.below segment inside) t ≡ Some (record p.thread { segments = rest ++ segment ∷ [] })
      below_own segment inside =
          thread_set bare t (rest ++ segment ∷ []) s.below
          ∙ ap (λ (e : Thread). Some (record e { segments = rest ++ segment ∷ [] })) below_thread

      -- ---- It is reached.

      module _ (alive : s.left.segment.shared.orphan ≡ false) (few : suc k ≤ n) where
        reached : IsReached x n below
        reached = record {
          of = p.thread;
          is_thread = p.is_thread;
          lower = rest;
          above = f.old ∷ f.above;
          are_segments = stood;
          few = let many = f.many in (omega (arith, many), omega (arith, many, few));
          no_orphans = (sym orphan_is ∙ alive, f.no_orphans);
        }

        module _ (progress : (c : ClassId) → Initialises below.frames c → state_of s.below.home.inside.own c ≡ State.InProgress t) (segment : Segment)
            (same : segment.shared.domain ≡ below.shared.domain) (inside : Inside) (leaving : Leaving below.frames s.below.home.inside inside) where
          abbrev next : Machine
          next = with_running s.below segment inside

          fallen : FellInto s.below.home.domain.number s.below.home.inside inside
          fallen = record {
            segment = below;
            reached = reached;
            home = sym s.below.home.numbered;
            more = leaving.more;
            own = record {
              states = λ c. elim (leaving.own.states c) [
                | inl still ↦ inl still
                | inr (broken, by) ↦ inr (
                  progress c by,
                  broken,
                  (below, by.0, reached, sym s.below.home.numbered, by.1, by.2),
                )
              ];
              statics = leaving.own.statics;
              rest = leaving.own.rest;
            };
            is = leaving.is;
          }

          home_fell : DomainFell s.below.home.domain (record s.below.home.domain { inside = Some inside })
          home_fell = record {
            rest = refl;
            inside = inr (s.below.home.inside, inside, s.below.home.is_inside, refl, fallen);
          }

          pub next_domains : DomainsFell next
          next_domains e old differ at = by (cases_eq e.0 below.shared.domain.0)
            where
              before : (mid_e : DomainState) × (domain_at mid e ≡ Some mid_e) × DomainFell old mid_e
              before = f.domains e old differ at

              by : (e.0 ≡ below.shared.domain.0) ⊎ (e.0 ≢ below.shared.domain.0)
                  → (after : DomainState) × (domain_at next e ≡ Some after) × DomainFell old after
              by (inl is) =
                  let here : e ≡ below.shared.domain = λ i. record { 0 = is i } in
                  let one : before.0 ≡ s.below.home.domain =
                  same_Some before.0 s.below.home.domain (sym before.1 ∙ ap (domain_at bare) here ∙ s.below.home.is_domain) in (
                    record s.below.home.domain { inside = Some inside },
                    ap (domain_at next) (here ∙ sym same) ∙ home_set_there bare t s.below segment inside same,
                    fell_twice old s.below.home.domain (record s.below.home.domain { inside = Some inside }) (subst (DomainFell old) one before.2) home_fell,
                  )
              by (inr other) = (
                before.0,
                other_insides bare_numbered s.below segment inside e (λ is. other (ap (λ (u : DomainId). u.0) is)) ∙ before.1,
                before.2,
              )

          -- it is left too
          pub falls_on : segment.shared.orphan ≡ below.shared.orphan → Falls (suc k) next
          falls_on orphan = record {
            numbered = below_numbered segment inside;
            domains = next_domains;
            names = f.names;
            threads = below_threads segment inside;
            lower = rest;
            old = below;
            above = f.old ∷ f.above;
            are = stood;
            many = let many = f.many in omega (arith, many);
            no_orphans = (sym orphan_is ∙ alive, f.no_orphans);
            top = segment;
            own = below_own segment inside;
            orphan = orphan;
          }

      -- ---- It goes on.

      own_resumes : suc k ≡ n → (segment : Segment) (inside : Inside) → Resumes f.old below segment
          → ThreadChanges (OwnChange x d (LeftSegments n)) p.thread (with_running s.below segment inside)
      own_resumes all segment inside resumes =
          inl (
            record p.thread { segments = rest ++ segment ∷ [] },
            ap (thread_numbered (with_running s.below segment inside)) (same_thread_number p.thread.number t (thread_place m t p).2)
                ∙ below_own segment inside,
            refl,
            record {
              kept = rest ++ below ∷ [];
              lowest = f.old;
              others = f.above;
              were = f.are ∙ ap (λ (ss : List Segment). ss ++ f.old ∷ f.above) lower_is;
              as_many = let many = f.many in omega (arith, many, all);
              are = inr (rest, below, segment, refl, refl, resumes);
            },
          )

      pub resumes_well : suc k ≡ n → (segment : Segment) (inside : Inside) → DomainsFell (with_running s.below segment inside)
          → ((f.old.shared.orphan ≡ s.left.segment.shared.orphan) → Resumes f.old below segment) → LeavesWell (with_running s.below segment inside)
      resumes_well all segment inside domains resumes = record {
        domains = domains;
        names = f.names;
        threads = below_threads segment inside;
        own = own_resumes all segment inside (resumes (sym orphan_is));
      }
