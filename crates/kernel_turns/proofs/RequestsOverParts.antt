-- What is answered over what domains share to what a thread's top segment asks for is answered so by the machine in which that segment waits.
use Rattle.std.proofs.Common.{◌≡◌, ℕ, ◌==◌, Bool, true, false, cond, List, slice_get, Option, Some, Result, Ok, Err, [], ◌∷◌, ◌++◌, length, ◌≤◌, refl, sym, ap, subst, ◌∙◌}
use Rattle.std.proofs.lemmas.Bool.{eqb-true}
use Rattle.std.proofs.lemmas.Option.{same_Some}
use Rattle.jk_model.specs.declared.identifiers.CapId.{CapId}
use Rattle.jk_model.specs.declared.identifiers.ClassId.{ClassId}
use Rattle.jk_model.specs.declared.identifiers.DomainId.{DomainId}
use Rattle.jk_model.specs.declared.identifiers.ThreadNo.{ThreadNo}
use Rattle.jk_model.specs.declared.identifiers.SegmentNo.{SegmentNo}
use Rattle.jk_model.specs.declared.steps.Raise.{Raise}
use Rattle.jk_model.specs.declared.values.Value.{Value}
use Rattle.jk_model_frames.specs.Frames.{FrameState}
use Rattle.jk_model_heaps.specs.Capabilities.{CapRange, has_number}
use Rattle.jk_model_heaps.specs.Workings.{Request, Run}
use Rattle.jk_model_heaps.specs.Workings.{Binds as AsksToBind, Creates as AsksToCreate, LooksUp as AsksToLookUp, Resumes as AsksToResume, Revokes as AsksToRevoke, Stops as AsksToStop, Suspends as AsksToSuspend, Unbinds as AsksToUnbind}
use Rattle.jk_model_sharing.specs.Answers.{Answers, Granted, as_capability, as_nothing, binds, creates, looks_up, resumes, revokes, stops, suspends, unbinds}
use Rattle.jk_model_sharing.specs.BoundNames.{Binds, BoundName, Unbinds}
use Rattle.jk_model_sharing.specs.CapabilityCalls.{Creates, Revokes}
use Rattle.jk_model_sharing.specs.SharedStates.{SharedDomain, SharedState, domain_numbered, with_caps, with_flags}
use Rattle.jk_model_sharing.specs.Segments.{SharedSegment, with_segment, with_stop, with_suspended}
use Rattle.jk_model_machine_state.specs.Machines.{DomainState, Machine, segment_form, with_stacks}
use Rattle.jk_model_machine_state.specs.Places.{RunningSegment, with_run}
use Rattle.jk_model_crossings.specs.Requests.{Grants, with_range}
use Rattle.machine_laws.proofs.ChangedItems.{none_changed}
use Rattle.machine_laws.proofs.RaisesSealed.{numbered}
use Rattle.machine_laws.proofs.RunsAgain.{running_then}
use Rattle.machine_laws.specs.SoundMachines.{HasSoundClasses, IsSealedAtCall}
use Rattle.class_init.specs.KeptStates.{KeptState}
use Rattle.object_store.specs.HeapContents.{HeapContent}
use Rattle.frame_store.specs.FrameContents.{FrameContent}
use Rattle.machine_parts.proofs.SharedChanged.{caps_change_machines, flags_change_machines}
use Rattle.machine_parts.proofs.DomainsOfParts.{numbered_shared}
use Rattle.machine_parts.specs.FittingParts.{HaveOneList}
use Rattle.domain_crossing.proofs.DomainsByPlace.{shared_found, shared_there}
use Rattle.kernel_parts.specs.SoundKernels.{KernelContent, kernel_machine, parts_of}
use Rattle.kernel_turns.specs.RunningPlaces.{RunsAt, paying}
use Rattle.kernel_turns.specs.SteppedParts.{MayStep}
use Rattle.kernel_turns.proofs.AnswersReceived.{TakesAnswer, takes_alone, takes_flagged, takes_named, takes_ranged, went_on}
use Rattle.kernel_turns.proofs.PlacedThreads.{own_at}
use Rattle.kernel_turns.proofs.StepsPaid.{at_paid, fit_paid, place_paid}

-- It is denied, and nothing has changed.
pub record Denies {w : Machine} {t : ThreadNo} (goes : RunningSegment w t) (request : Request) (r : Raise) (after before : SharedState) : Type 0 where
  pub same : after ≡ before
  pub mid : Machine
  pub is : mid ≡ w
  pub grants : Grants goes request (Err r) mid

-- It is granted, and the segment goes on with the answer, to this machine.
pub record Allows {w : Machine} {t : ThreadNo} (goes : RunningSegment w t) (request : Request) (v : Option Value) (last : Machine) : Type 0 where
  pub mid : Machine
  pub grants : Grants goes request (Ok v) mid
  pub takes : TakesAnswer mid t v last

module _ (k : KernelContent) (t : ThreadNo) (at : RunsAt k t) (ms : MayStep k at) (run : Run) where
  abbrev s : SharedState
  s = (paying at.segment.domain k).shared

  abbrev d : DomainId
  d = at.segment.domain

  abbrev p : RunningSegment (kernel_machine (paying at.segment.domain k)) t
  p = place_paid k t at ms

  abbrev w : Machine
  w = with_run (place_paid k t at ms) run

  abbrev goes : RunningSegment (with_run (place_paid k t at ms) run) t
  goes =
      running_then (kernel_machine (paying at.segment.domain k)) t (place_paid k t at ms)
      (record (place_paid k t at ms).segment { frames = run.frames }) run.inside refl

  abbrev one : HaveOneList (parts_of (paying at.segment.domain k))
  one = (fit_paid k t at ms).domains

  -- what domains share of the domain is what it has in the machine
  module _ (e : SharedDomain) (is : domain_numbered (paying at.segment.domain k).shared at.segment.domain ≡ Some e) where
    entry_is : e ≡ (shared_there (parts_of (paying at.segment.domain k)) one d at.own.state
        (own_at (paying at.segment.domain k) t (at_paid k t at ms) one)).0
    entry_is =
        let there = shared_there (parts_of (paying at.segment.domain k)) one d at.own.state (own_at (paying at.segment.domain k) t (at_paid k t at ms) one) in
        same_Some e there.0 (sym is ∙ shared_found (parts_of (paying at.segment.domain k)) one d there.0 there.1)

    pub caps_are : e.caps ≡ goes.home.domain.caps
    caps_are = ap (λ (x : SharedDomain). x.caps) entry_is

    pub names_are : e.quotas.names ≡ goes.home.domain.quotas.names
    names_are = ap (λ (x : SharedDomain). x.quotas.names) entry_is

    entry_at : slice_get s.domains d.0 ≡ Some e
    entry_at =
        let there = shared_there (parts_of (paying at.segment.domain k)) one d at.own.state (own_at (paying at.segment.domain k) t (at_paid k t at ms) one) in
        there.1 ∙ ap (λ (x : SharedDomain). Some x) (sym entry_is)

    set_by : (b : Bool) (x : SharedDomain) → (b ≡ true → x ≡ e) → cond b (record x { caps = e.caps }) x ≡ x
    set_by true x h = ap (λ (y : SharedDomain). record x { caps = y.caps }) (sym (h refl))
    set_by false x h = refl

    -- its capabilities are set to what they are
    pub shared_stays : with_caps d e.caps s ≡ s
    shared_stays =
        ap (λ (ds : List SharedDomain). record s { domains = ds })
        (none_changed (λ (x : SharedDomain). cond (x.number.0 == d.0) (record x { caps = e.caps }) x) s.domains
        (λ i x there. set_by (x.number.0 == d.0) x (λ same.
        let place : i ≡ d.0 =
        sym (numbered_shared (parts_of (paying at.segment.domain k)) one i x there) ∙ eqb-true x.number.0 d.0 same in
        same_Some x e (sym there ∙ ap (slice_get s.domains) place ∙ entry_at))))

  module _ (waits : IsSealedAtCall (with_run (place_paid k t at ms) run) t) (sound : HasSoundClasses (with_run (place_paid k t at ms) run)) where
    range_by : (b : Bool) (x : DomainState) → (b ≡ true → x ≡ goes.home.domain) → cond b (record x { caps = goes.home.domain.caps }) x ≡ x
    range_by true x h = ap (λ (y : DomainState). record x { caps = y.caps }) (sym (h refl))
    range_by false x h = refl

    pub range_stays : with_range goes.home.domain.number goes.home.domain.caps w ≡ w
    range_stays =
        ap (λ (ds : List DomainState). record w { domains = ds })
        (none_changed (λ (x : DomainState). cond (x.number.0 == goes.home.domain.number.0) (record x { caps = goes.home.domain.caps }) x) w.domains
        (λ i x there. range_by (x.number.0 == goes.home.domain.number.0) x (λ same.
        let place : i ≡ d.0 =
        sym (numbered w t goes waits sound i x there) ∙ eqb-true x.number.0 goes.home.domain.number.0 same
        ∙ ap (λ (n : DomainId). n.0) goes.home.numbered in
        same_Some x goes.home.domain (sym there ∙ ap (slice_get w.domains) place ∙ goes.home.is_domain))))

    -- ---- By what was asked for.

    created : (class : ClassId) (target : ℕ) (e : SharedDomain) → domain_numbered (paying at.segment.domain k).shared at.segment.domain ≡ Some e
        → (answer : Result CapId Raise) (range : CapRange) → Creates e.caps class target answer range → (r : Raise) → as_capability answer ≡ Err r
        → Denies goes (AsksToCreate class target) r (with_caps at.segment.domain range (paying at.segment.domain k).shared)
        (paying at.segment.domain k).shared
    created class target e is answer range (Creates.used_up full) r g = record {
      same = shared_stays e is;
      mid = with_range goes.home.domain.number goes.home.domain.caps w;
      is = range_stays;
      grants = Grants.creates class target answer goes.home.domain.caps (Err r)
          (Creates.used_up (subst (λ (c : CapRange). c.count ≤ length c.made) (caps_are e is) full)) (sym g);
    }
    created class target e is answer range (Creates.has_room few) r g = absurd cc

    revoked : (cap : CapId) (e : SharedDomain) → domain_numbered (paying at.segment.domain k).shared at.segment.domain ≡ Some e
        → (answer : Result (Unit {0}) Raise) (range : CapRange) → Revokes e.caps cap answer range → (r : Raise) → as_nothing answer ≡ Err r
        → Denies goes (AsksToRevoke cap) r (with_caps at.segment.domain range (paying at.segment.domain k).shared) (paying at.segment.domain k).shared
    revoked cap e is answer range (Revokes.of_another other) r g = record {
      same = shared_stays e is;
      mid = with_range goes.home.domain.number goes.home.domain.caps w;
      is = range_stays;
      grants = Grants.revokes cap answer goes.home.domain.caps (Err r)
          (Revokes.of_another (ap (has_number cap) (sym (caps_are e is)) ∙ other)) (sym g);
    }
    revoked cap e is answer range (Revokes.own own) r g = absurd cc

    bound : (text : List ℕ) (cap : CapId) (e : SharedDomain) → domain_numbered (paying at.segment.domain k).shared at.segment.domain ≡ Some e
        → (answer : Result (Unit {0}) Raise) (names : List BoundName)
        → Binds k.shared.names e.quotas.names (record { text = text; cap = cap; binder = at.segment.domain }) answer names → (r : Raise)
        → as_nothing answer ≡ Err r → names ≡ k.shared.names
        → Denies goes (AsksToBind text cap) r (record (paying at.segment.domain k).shared { names = names }) (paying at.segment.domain k).shared
    bound text cap e is answer names does r g kept = record {
      same = ap (λ (ns : List BoundName). record s { names = ns }) kept;
      mid = record w { names = names };
      is = ap (λ (ns : List BoundName). record w { names = ns }) kept;
      grants = Grants.binds text cap answer names (Err r)
          (subst (λ (n : DomainId). Binds k.shared.names goes.home.domain.quotas.names (record { text = text; cap = cap; binder = n }) answer names)
          (sym goes.home.numbered)
          (subst (λ (q : ℕ). Binds k.shared.names q (record { text = text; cap = cap; binder = d }) answer names) (names_are e is) does)) (sym g);
    }

    bound_kept : (text : List ℕ) (cap : CapId) (quota : ℕ) (answer : Result (Unit {0}) Raise) (names : List BoundName)
        → Binds k.shared.names quota (record { text = text; cap = cap; binder = at.segment.domain }) answer names → (r : Raise)
        → as_nothing answer ≡ Err r → names ≡ k.shared.names
    bound_kept text cap quota answer names (Binds.too_long long) r g = refl
    bound_kept text cap quota answer names (Binds.of_another b short is other) r g = refl
    bound_kept text cap quota answer names (Binds.own_name b short is own) r g = absurd cc
    bound_kept text cap quota answer names (Binds.one_too_many short is full) r g = refl
    bound_kept text cap quota answer names (Binds.new_name short is few) r g = absurd cc

    unbound_kept : (text : List ℕ) (answer : Result (Unit {0}) Raise) (names : List BoundName)
        → Unbinds k.shared.names at.segment.domain text answer names → (r : Raise) → as_nothing answer ≡ Err r → names ≡ k.shared.names
    unbound_kept text answer names (Unbinds.not_own b is other) r g = refl
    unbound_kept text answer names (Unbinds.removed b is own) r g = absurd cc
    unbound_kept text answer names (Unbinds.not_bound none) r g = absurd cc

    unbound : (text : List ℕ) (answer : Result (Unit {0}) Raise) (names : List BoundName)
        → Unbinds k.shared.names at.segment.domain text answer names → (r : Raise) → as_nothing answer ≡ Err r → names ≡ k.shared.names
        → Denies goes (AsksToUnbind text) r (record (paying at.segment.domain k).shared { names = names }) (paying at.segment.domain k).shared
    unbound text answer names does r g kept = record {
      same = ap (λ (ns : List BoundName). record s { names = ns }) kept;
      mid = record w { names = names };
      is = ap (λ (ns : List BoundName). record w { names = ns }) kept;
      grants = Grants.unbinds text answer names (Err r)
          (subst (λ (n : DomainId). Unbinds k.shared.names n text answer names) (sym goes.home.numbered) does) (sym g);
    }

    by : (request : Request) (granted : Granted) (after : SharedState) → Answers (paying at.segment.domain k).shared at.segment.domain request granted after
        → (r : Raise) → granted ≡ Err r → Denies goes request r after (paying at.segment.domain k).shared
    by request granted after (creates e class target answer range is does) r g = created class target e is answer range does r g
    by request granted after (revokes e cap answer range is does) r g = revoked cap e is answer range does r g
    by request granted after (binds e text cap answer names is does) r g =
        bound text cap e is answer names does r g (bound_kept text cap e.quotas.names answer names does r g)
    by request granted after (looks_up text found is) r g = absurd cc
    by request granted after (unbinds text answer names does) r g = unbound text answer names does r g (unbound_kept text answer names does r g)
    by request granted after (suspends n new is) r g = absurd cc
    by request granted after (resumes n new is) r g = absurd cc
    by request granted after (stops n new is) r g = absurd cc

    -- ---- It is granted: over parts in which the segment has gone on with the answer.

    module _ (callers : List FrameState) (caller : FrameState) (are : run.frames ≡ callers ++ caller ∷ []) (v : Option Value)
        (owns : List (Option KeptState)) (heap : HeapContent) (frames : FrameContent) where
      -- the parts, over what domains share then
      abbrev pub over : SharedState → KernelContent
      over shared = record (paying at.segment.domain k) { owns = owns; shared = shared; heap = heap; frames = frames }

      abbrev pub on : Machine
      on = went_on (kernel_machine (paying at.segment.domain k)) t (place_paid k t at ms) run callers caller are v

      module _ (one_over : HaveOneList (parts_of (over (paying at.segment.domain k).shared)))
          (is_on : kernel_machine (over (paying at.segment.domain k).shared) ≡ on) where
        allowed : (request : Request) (after : SharedState) (mid last : Machine) → Grants goes request (Ok v) mid → TakesAnswer mid t v last
            → kernel_machine (over after) ≡ last → Allows goes request v (kernel_machine (over after))
        allowed request after mid last grants takes is = record {
          mid = mid;
          grants = grants;
          takes = subst (TakesAnswer mid t v) (sym is) takes;
        }

        ranged_so : (range : CapRange) → kernel_machine (over (with_caps at.segment.domain range (paying at.segment.domain k).shared))
            ≡ with_range goes.home.domain.number range on
        ranged_so range =
            caps_change_machines (parts_of (over (paying at.segment.domain k).shared)) d range one_over ∙ ap (with_range d range) is_on
            ∙ ap (λ (n : DomainId). with_range n range on) (sym goes.home.numbered)

        flagged_so : (n : SegmentNo) (change : SharedSegment → SharedSegment) → ((x : SharedSegment) → (change x).number ≡ x.number)
            → (after : SharedState) → after ≡ with_flags n change (paying at.segment.domain k).shared
            → kernel_machine (over after) ≡ with_stacks (with_segment segment_form n change) on
        flagged_so n change keeps after is =
            ap (λ (x : SharedState). kernel_machine (over x)) is
            ∙ flags_change_machines (parts_of (over (paying at.segment.domain k).shared)) n change keeps
            ∙ ap (with_stacks (with_segment segment_form n change)) is_on

        grant : (request : Request) (granted : Granted) (after : SharedState)
            → Answers (paying at.segment.domain k).shared at.segment.domain request granted after → granted ≡ Ok v
            → Allows goes request v (kernel_machine (over after))
        grant request granted after (creates e class target answer range is does) g =
            allowed (AsksToCreate class target) (with_caps d range s) (with_range goes.home.domain.number range w)
            (with_range goes.home.domain.number range on)
            (Grants.creates class target answer range (Ok v)
            (subst (λ (c : CapRange). Creates c class target answer range) (caps_are e is) does) (sym g))
            (takes_ranged (kernel_machine (paying at.segment.domain k)) t p run callers caller are v goes.home.domain.number range) (ranged_so range)
        grant request granted after (revokes e cap answer range is does) g =
            allowed (AsksToRevoke cap) (with_caps d range s) (with_range goes.home.domain.number range w)
            (with_range goes.home.domain.number range on)
            (Grants.revokes cap answer range (Ok v)
            (subst (λ (c : CapRange). Revokes c cap answer range) (caps_are e is) does) (sym g))
            (takes_ranged (kernel_machine (paying at.segment.domain k)) t p run callers caller are v goes.home.domain.number range) (ranged_so range)
        grant request granted after (binds e text cap answer names is does) g =
            allowed (AsksToBind text cap) (record s { names = names }) (record w { names = names }) (record on { names = names })
            (Grants.binds text cap answer names (Ok v)
            (subst (λ (n : DomainId). Binds k.shared.names goes.home.domain.quotas.names (record { text = text; cap = cap; binder = n }) answer names)
            (sym goes.home.numbered)
            (subst (λ (q : ℕ). Binds k.shared.names q (record { text = text; cap = cap; binder = d }) answer names) (names_are e is) does)) (sym g))
            (takes_named (kernel_machine (paying at.segment.domain k)) t p run callers caller are v names)
            (ap (λ (x : Machine). record x { names = names }) is_on)
        grant request granted after (looks_up text found is) g =
            allowed (AsksToLookUp text) s w on
            (subst (λ (x : Granted). Grants goes (AsksToLookUp text) x w) g (Grants.looks_up text found is))
            (takes_alone (kernel_machine (paying at.segment.domain k)) t p run callers caller are v) is_on
        grant request granted after (unbinds text answer names does) g =
            allowed (AsksToUnbind text) (record s { names = names }) (record w { names = names }) (record on { names = names })
            (Grants.unbinds text answer names (Ok v)
            (subst (λ (n : DomainId). Unbinds k.shared.names n text answer names) (sym goes.home.numbered) does) (sym g))
            (takes_named (kernel_machine (paying at.segment.domain k)) t p run callers caller are v names)
            (ap (λ (x : Machine). record x { names = names }) is_on)
        grant request granted after (suspends n new is) g =
            allowed (AsksToSuspend n) new (with_stacks (with_segment segment_form n (with_suspended true)) w)
            (with_stacks (with_segment segment_form n (with_suspended true)) on)
            (subst (λ (x : Granted). Grants goes (AsksToSuspend n) x (with_stacks (with_segment segment_form n (with_suspended true)) w)) g
            (Grants.suspends n))
            (takes_flagged (kernel_machine (paying at.segment.domain k)) t p run callers caller are v n (with_suspended true) (λ x. refl))
            (flagged_so n (with_suspended true) (λ x. refl) new is)
        grant request granted after (resumes n new is) g =
            allowed (AsksToResume n) new (with_stacks (with_segment segment_form n (with_suspended false)) w)
            (with_stacks (with_segment segment_form n (with_suspended false)) on)
            (subst (λ (x : Granted). Grants goes (AsksToResume n) x (with_stacks (with_segment segment_form n (with_suspended false)) w)) g
            (Grants.resumes n))
            (takes_flagged (kernel_machine (paying at.segment.domain k)) t p run callers caller are v n (with_suspended false) (λ x. refl))
            (flagged_so n (with_suspended false) (λ x. refl) new is)
        grant request granted after (stops n new is) g =
            allowed (AsksToStop n) new (with_stacks (with_segment segment_form n (with_stop true)) w)
            (with_stacks (with_segment segment_form n (with_stop true)) on)
            (subst (λ (x : Granted). Grants goes (AsksToStop n) x (with_stacks (with_segment segment_form n (with_stop true)) w)) g
            (Grants.stops n))
            (takes_flagged (kernel_machine (paying at.segment.domain k)) t p run callers caller are v n (with_stop true) (λ x. refl))
            (flagged_so n (with_stop true) (λ x. refl) new is)

        pub granted_so : (request : Request) (after : SharedState)
            → Answers (paying at.segment.domain k).shared at.segment.domain request (Ok v) after → Allows goes request v (kernel_machine (over after))
        granted_so request after answers = grant request (Ok v) after answers refl

pub denied_so : (k : KernelContent) (t : ThreadNo) (at : RunsAt k t) (ms : MayStep k at) (run : Run) (request : Request) (r : Raise) (after : SharedState)
    → Answers (paying at.segment.domain k).shared at.segment.domain request (Err r) after
    → IsSealedAtCall (with_run (place_paid k t at ms) run) t → HasSoundClasses (with_run (place_paid k t at ms) run)
    → Denies (goes k t at ms run) request r after (paying at.segment.domain k).shared
denied_so k t at ms run request r after answers waits sound = by k t at ms run waits sound request (Err r) after answers r refl
