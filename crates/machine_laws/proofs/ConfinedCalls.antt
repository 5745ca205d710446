-- A call through a capability enters its owner's domain: that one's heap has more objects, and the thread has one segment more.
use Rattle.std.proofs.Common.{◌≡◌, ◌≢◌, ◌⊎◌, inl, inr, ◌==◌, Bool, true, false, cond, List, [], ◌∷◌, ◌++◌, Some, refl, sym, ap, subst, ◌∙◌, eq-eqb}
use Rattle.std.proofs.lemmas.Bool.{cases_eq}
use Rattle.std.proofs.lemmas.Option.{same_Some}
use Rattle.jk_model.specs.declared.identifiers.CapId.{CapId}
use Rattle.jk_model.specs.declared.identifiers.DomainId.{DomainId}
use Rattle.jk_model.specs.declared.identifiers.MemberId.{MemberId}
use Rattle.jk_model.specs.declared.identifiers.ThreadNo.{ThreadNo}
use Rattle.jk_model_heaps.specs.Capabilities.{CapRange, capability_numbered}
use Rattle.jk_model_heaps.specs.Workings.{Inside, Run, with_heap}
use Rattle.jk_model_sharing.specs.BoundNames.{without_names_of}
use Rattle.jk_model_machine_state.specs.Machines.{DomainState, Machine, Segment, Thread, caps_of, domain_at, paid, thread_numbered, with_inside}
use Rattle.jk_model_machine_state.specs.Places.{LiveDomain, RunningSegment, first_segment, with_run, with_running}
use Rattle.jk_model_crossings.specs.RemoteCalls.{Enters, RemoteCall, arrived, departed}
use Rattle.jk_model_runs.specs.Confined.{DomainChanges, HasMoreObjects, OwnChange, Owns, StepOf, ThreadChanges}
use Rattle.jk_model_runs.specs.Steps.{Entered}
use Rattle.list_lemmas.proofs.ItemsByPlace.{mapped_at}
use Rattle.machine_laws.specs.KnownMachines.{IsKnownMachine}
use Rattle.machine_laws.proofs.ElsewhereSame.{other_domains, other_threads, own_changed}
use Rattle.machine_laws.proofs.RanInSteps.{ChangesHere, live_same, ran_caps, ran_domains, ran_numbered, ran_own, ran_threads, thread_same, unchanged, was_top}
use Rattle.machine_laws.proofs.RunningSegmentsFit.{same_thread_number, thread_place}
use Rattle.machine_laws.proofs.RunsAgain.{runs_on, runs_there}

changed_if : {X : Type 0} (b : Bool) (x y : X) → b ≡ true → cond b x y ≡ x
changed_if true x y e = refl
changed_if false x y e = absurd cc

module _ (m : Machine) (t : ThreadNo) (p : RunningSegment m t) (known : IsKnownMachine m) (payer : DomainId) (pays : payer ≡ p.segment.shared.domain)
    (z : RunningSegment (paid payer m) t) (run : Run) (c : RemoteCall (with_run z run) t) (new : Machine) (h : Enters c new) (k : CapId)
    (method : MemberId) (of_cap : c.capability ≡ k) where
  abbrev d : DomainId
  d = p.segment.shared.domain

  abbrev x : StepOf
  x = record { machine = m; thread = t; deed = Entered k method }

  abbrev left : Segment
  left = record z.segment { frames = run.frames }

  -- the caller's segment, whose frame has made the call
  abbrev called : Segment
  called = record c.place.segment { frames = c.callers ++ record c.frame { stack = c.below } ∷ [] }

  abbrev from : Machine
  from = with_running z called c.place.home.inside

  departs : departed c ≡ from
  departs = runs_on (paid payer m) t z left run.inside refl c.place called c.place.home.inside

  same_top : (called.shared.number ≡ p.segment.shared.number) × (called.shared.domain ≡ d)
  same_top =
      let place = (runs_there (paid payer m) t z left run.inside refl c.place).1 in
      let top = (was_top m t p known payer pays z left run.inside).2 in (
        ap (λ (s : Segment). s.shared.number) place ∙ ap (λ (s : Segment). s.shared.number) top,
        ap (λ (s : Segment). s.shared.domain) place ∙ ap (λ (s : Segment). s.shared.domain) top,
      )

  -- ---- The owner.

  abbrev o : DomainId
  o = c.known.owner

  abbrev owner : LiveDomain (with_run z run) o
  owner = h.is_open.has_target.is_shown.live.owner

  abbrev grown : Inside
  grown = with_heap owner.inside h.heap

  abbrev entered : Machine
  entered = with_inside o grown from

  abbrev flat : Machine
  flat = arrived owner t h.heap h.frame from

  is_flat : new ≡ flat
  is_flat = h.leads ∙ ap (arrived owner t h.heap h.frame) departs

  owns : (e : DomainId) → o ≡ e → Owns m e k
  owns e same = (
    c.known,
    ap (λ (ranges : List CapRange). capability_numbered ranges k) (sym (ran_caps m t p known payer pays z left run.inside))
        ∙ ap (capability_numbered (caps_of (with_run z run))) (sym of_cap) ∙ c.is_known,
    same,
  )

  more : HasMoreObjects owner.inside grown
  more = (h.passes.copy.made, ap (with_heap owner.inside) h.passes.copy.grown)

  -- ---- Domains.

  abbrev gives : DomainState → DomainState
  gives e = cond (e.number.0 == o.0) (record e { inside = Some grown }) e

  owner_changes : (old after : DomainState) → o ≢ d → domain_at m o ≡ Some old → domain_at flat o ≡ Some after → DomainChanges x old after
  owner_changes old after differ at there = record {
    rest = subst (λ (y : DomainState). y ≡ record old { inside = y.inside }) is refl;
    inside = inr (
      owner.inside,
      grown,
      ap (λ (y : DomainState). y.inside) (sym one) ∙ owner.is_inside,
      ap (λ (y : DomainState). y.inside) (sym is),
      inr (owns old.number (sym owner.numbered ∙ ap (λ (y : DomainState). y.number) one), more),
    );
  }
    where
      one : owner.domain ≡ old
      one =
          same_Some owner.domain old
          (sym owner.is_domain ∙ ran_domains m t p known payer pays z left run.inside o differ ∙ at)

      number : old.number.0 ≡ o.0
      number = ap (λ (y : DomainState). y.number.0) (sym one) ∙ ap (λ (n : DomainId). n.0) owner.numbered

      is : record old { inside = Some grown } ≡ after
      is =
          same_Some (record old { inside = Some grown }) after
          (ap (λ (y : DomainState). Some y) (sym (changed_if (old.number.0 == o.0) (record old { inside = Some grown }) old (eq-eqb old.number.0 o.0 number)))
          ∙ sym (mapped_at gives from.domains o.0 old
          (ran_domains m t p known payer pays z called c.place.home.inside o differ ∙ at))
          ∙ there)

  domain_changes : (e : DomainId) (old after : DomainState) → e ≢ d → domain_at m e ≡ Some old → domain_at new e ≡ Some after → DomainChanges x old after
  domain_changes e old after differ at there = by (cases_eq e.0 o.0)
    where
      now : domain_at flat e ≡ Some after
      now = ap (λ (w : Machine). domain_at w e) (sym is_flat) ∙ there

      by : (e.0 ≡ o.0) ⊎ (e.0 ≢ o.0) → DomainChanges x old after
      by (inl is) =
          let same : e ≡ o = λ i. record { 0 = is i } in
          owner_changes old after (λ of. differ (same ∙ of)) (ap (domain_at m) (sym same) ∙ at) (ap (domain_at flat) (sym same) ∙ now)
      by (inr other) =
          unchanged x old after
          (same_Some after old
          (sym now
          ∙ other_domains from (ran_numbered m t p known payer pays z called c.place.home.inside) o (λ (y : DomainState). record y { inside = Some grown }) e
          (λ is. other (ap (λ (n : DomainId). n.0) is))
          ∙ ran_domains m t p known payer pays z called c.place.home.inside e differ ∙ at))

  -- ---- Threads.

  abbrev taller : Thread → Thread
  taller y = record y { segments = y.segments ++ first_segment m o h.frame ∷ [] }

  others : (u : ThreadNo) → u ≢ t → thread_numbered new u ≡ thread_numbered m u
  others u differ =
      ap (λ (w : Machine). thread_numbered w u) is_flat ∙ other_threads entered t taller (λ y. refl) u differ
      ∙ ran_threads m t p known payer pays z called c.place.home.inside u differ

  abbrev mid : List Segment
  mid = p.lower ++ called ∷ []

  own : ThreadChanges (OwnChange x d (Entered k method)) p.thread new
  own =
      inl (
        taller (record p.thread { segments = mid }),
        ap (thread_numbered new) (same_thread_number p.thread.number t (thread_place m t p).2) ∙ ap (λ (w : Machine). thread_numbered w t) is_flat
            ∙ own_changed entered t taller (λ y. refl) (record p.thread { segments = mid })
            (ran_own m t p known payer pays z called c.place.home.inside) (thread_place m t p).2,
        refl,
        (
          mid,
          o,
          h.frame,
          record {
            lower = p.lower;
            before = p.segment;
            after = called;
            were = p.are_segments;
            are = refl;
            same = same_top;
          },
          owns o refl,
          refl,
        ),
      )

  pub call_changes : ChangesHere x d p new
  call_changes = record {
    domains = domain_changes;
    names = ap (λ (w : Machine). without_names_of d w.names) is_flat;
    threads = λ u old differ at. thread_same (λ a b. b ≡ a) (λ ss. refl) m new u old at (others u differ);
    own_thread = own;
    no_more = λ u differ. live_same m new u (others u differ);
    own_end = λ e is. absurd cc;
  }
