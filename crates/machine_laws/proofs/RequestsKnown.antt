-- What follows where a segment has asked for something outside of its domain: the machine is sealed, and calls are answered.
use Rattle.std.proofs.Common.{◌≡◌, ℕ, ◌==◌, inr, Bool, true, false, cond, List, [], ◌∷◌, ◌++◌, length, map, Option, Some, None, slice_get, Result, Ok, Err, refl, sym, ap, subst, ◌∙◌, arith, eq-eqb}
use Rattle.std.specs.Option.{option_map}
use Rattle.jk_model.specs.declared.identifiers.CapId.{CapId}
use Rattle.jk_model.specs.declared.identifiers.ClassId.{ClassId}
use Rattle.jk_model.specs.declared.identifiers.DomainId.{DomainId}
use Rattle.jk_model.specs.declared.identifiers.SegmentNo.{SegmentNo}
use Rattle.jk_model.specs.declared.identifiers.ThreadNo.{ThreadNo}
use Rattle.jk_model.specs.declared.output.Line.{Line}
use Rattle.jk_model.specs.declared.steps.Raise.{Raise}
use Rattle.jk_model.specs.declared.values.Value.{Value}
use Rattle.jk_model.specs.declared.values.Value.TheVariants as Held
use Rattle.jk_model_classes.specs.declared.records.ClassRecord.{ClassRecord}
use Rattle.jk_model_classes.specs.Stubs.{ImplementsRemote}
use Rattle.jk_model_classes.specs.Worlds.{NamedClass}
use Rattle.jk_model_frames.specs.Frames.{FrameState}
use Rattle.jk_model_domains.specs.Objects.{NamedObject, CAPABILITY, class_type}
use Rattle.jk_model_domains.specs.ValueTypes.{HoldsDeclared}
use Rattle.jk_model_heaps.specs.CalledFrames.{resumed}
use Rattle.jk_model_heaps.specs.Capabilities.{CapRange, Capability, IsGivenOut}
use Rattle.jk_model_heaps.specs.SystemClasses.{ILLEGAL_ARGUMENT_EXCEPTION}
use Rattle.jk_model_heaps.specs.Workings.{Inside, Request, with_heap}
use Rattle.jk_model_heaps.specs.Workings.{Binds as AsksToBind, Creates as AsksToCreate, LooksUp as AsksToLookUp, Revokes as AsksToRevoke, Unbinds as AsksToUnbind}
use Rattle.jk_model_sealing.specs.AnsweringFrames.{AwaitsResult, FramesAnswer}
use Rattle.jk_model_sealing.specs.FittingFrames.{FitsAtCall}
use Rattle.jk_model_sealing.specs.SealedInsides.{Surroundings}
use Rattle.jk_model_sharing.specs.Answers.{Granted, as_capability, as_nothing, as_reference}
use Rattle.jk_model_sharing.specs.BoundNames.{Binds, BoundName, Unbinds, bound_as}
use Rattle.jk_model_sharing.specs.CapabilityCalls.{Creates, Revokes, next_number, with_created}
use Rattle.jk_model_machine_state.specs.Machines.{DomainState, Machine, Segment, Thread, caps_of}
use Rattle.jk_model_machine_state.specs.Places.{RunningSegment}
use Rattle.jk_model_crossings.specs.Answers.{Receives}
use Rattle.jk_model_crossings.specs.Requests.{Grants, with_range}
use Rattle.jk_model_crossings.specs.Throwing.{RaisesInThread}
use Rattle.jk_model_runs.specs.AnsweredCalls.{AreCallsAnswered}
use Rattle.jk_model_runs.specs.Events.{IsWhole}
use Rattle.jk_model_runs.specs.Sealed.{IsSealed}
use Rattle.list_lemmas.proofs.FoundItems.{Finds, finds}
use Rattle.list_lemmas.proofs.ItemsByPlace.{mapped_at, slice_get-last}
use Rattle.list_lemmas.proofs.ItemsOfLists.{Contains-at}
use Rattle.heap_laws.specs.FittingOutcomes.{AwaitsAnswer, IsKnownRequest, answer_type}
use Rattle.heap_laws.specs.RaisableObjects.{MayBeRaised}
use Rattle.row_laws.proofs.InstancesFitTypes.{class_fits}
use Rattle.row_laws.proofs.SystemParents.{below_listed}
use Rattle.row_laws.proofs.FramesInARow.{answers_replaced}
use Rattle.machine_laws.specs.CallsAndAnswers.{IsAnswerOf, IsKnownAnswer, MayBeAsked}
use Rattle.machine_laws.specs.SealedCrossings.{Answered}
use Rattle.machine_laws.specs.SoundMachines.{HasSoundClasses, IsSealedAtCall}
use Rattle.machine_laws.proofs.FlagsChanged.{Flag, Stop, Suspension, flagged_answered, flags, flags_domain, flags_frames, flags_front, flags_thread}
use Rattle.machine_laws.proofs.InitialisersAfterRuns.{found_still}
use Rattle.machine_laws.proofs.LowestFramesStay.{gives_by, lowest_method, same_lowest}
use Rattle.machine_laws.proofs.NumbersFound.{given_at}
use Rattle.machine_laws.proofs.RaisesSealed.{is_met, met_there, flagged, raises_answered, raises_sealed}
use Rattle.machine_laws.proofs.RaisesWhereMet.{some_frames}
use Rattle.machine_laws.proofs.RequestsAnswered.{received_sealed}
use Rattle.machine_laws.proofs.RequestsSealed.{granted_sealed, sealed as sealed_there, there}
use Rattle.machine_laws.proofs.RunningSegmentsFit.{top_answers}
use Rattle.machine_laws.proofs.SegmentsAnswered.{own_answered, running_answered}
use Rattle.machine_laws.proofs.ThreadsThinned.{thinned}
use Rattle.machine_laws.proofs.ThrowablesSealed.{one_running}
use Rattle.machine_laws.proofs.WorldsKept.{grants_keep, sound_classes_stay}

-- ---- The place of the running segment, where the request is done.

pub record PlaceKept {m : Machine} {t : ThreadNo} (p : RunningSegment m t) (mid : Machine) : Type 0 where
  pub place : RunningSegment mid t
  pub frames : place.segment.frames ≡ p.segment.frames
  pub inside : place.home.inside ≡ p.home.inside
  pub answered : AreCallsAnswered mid

module _ (m : Machine) (t : ThreadNo) (p : RunningSegment m t) (answered : AreCallsAnswered m) where
  -- ---- Capabilities.

  module _ (n : DomainId) (range : CapRange) where
    abbrev ranged : DomainState → DomainState
    ranged e = cond (e.number.0 == n.0) (record e { caps = range }) e

    number_by : (b : Bool) (e : DomainState) → (cond b (record e { caps = range }) e).number ≡ e.number
    number_by true e = refl
    number_by false e = refl

    inside_by : (b : Bool) (e : DomainState) → (cond b (record e { caps = range }) e).inside ≡ e.inside
    inside_by true e = refl
    inside_by false e = refl

    abbrev place_ranged : RunningSegment (with_range n range m) t
    place_ranged = record {
      thread = p.thread;
      is_thread = p.is_thread;
      lower = p.lower;
      segment = p.segment;
      are_segments = p.are_segments;
      home = record {
        domain = ranged p.home.domain;
        is_domain = mapped_at ranged m.domains p.segment.shared.domain.0 p.home.domain p.home.is_domain;
        numbered = number_by (p.home.domain.number.0 == n.0) p.home.domain ∙ p.home.numbered;
        inside = p.home.inside;
        is_inside = inside_by (p.home.domain.number.0 == n.0) p.home.domain ∙ p.home.is_inside;
      };
    }

    kept_ranged : PlaceKept p (with_range n range m)
    kept_ranged = record { place = place_ranged; frames = refl; inside = refl; answered = record { segments = answered.segments } }

  -- ---- Names.

  kept_named : (names : List BoundName) → PlaceKept p (record m { names = names })
  kept_named names = record {
    place = record {
      thread = p.thread;
      is_thread = p.is_thread;
      lower = p.lower;
      segment = p.segment;
      are_segments = p.are_segments;
      home = record {
        domain = p.home.domain;
        is_domain = p.home.is_domain;
        numbered = p.home.numbered;
        inside = p.home.inside;
        is_inside = p.home.is_inside;
      };
    };
    frames = refl;
    inside = refl;
    answered = record { segments = answered.segments };
  }

  -- ---- Flags.

  kept_flagged : (s : SegmentNo) (flag : Flag) → PlaceKept p (thinned m (flags_thread s flag))
  kept_flagged s flag = record {
    place = record {
      thread = flags_thread s flag p.thread;
      is_thread = found_still (flags_thread s flag) (λ (e : Thread). e.number.0 == t.0) (λ e. refl) m.threads
          ∙ ap (option_map (flags_thread s flag)) p.is_thread;
      lower = map (flags s flag) p.lower;
      segment = flags s flag p.segment;
      are_segments = ap (map (flags s flag)) p.are_segments ∙ flags_front s flag p.lower p.segment;
      home = record {
        domain = p.home.domain;
        is_domain = ap (λ (d : DomainId). slice_get m.domains d.0) (flags_domain s flag p.segment) ∙ p.home.is_domain;
        numbered = p.home.numbered ∙ sym (flags_domain s flag p.segment);
        inside = p.home.inside;
        is_inside = p.home.is_inside;
      };
    };
    frames = flags_frames s flag p.segment;
    inside = refl;
    answered = flagged_answered s flag m answered;
  }

  pub place_kept : (request : Request) (granted : Granted) (mid : Machine) → Grants p request granted mid → PlaceKept p mid
  place_kept request granted mid (Grants.creates class target answer range g does is) = kept_ranged p.home.domain.number range
  place_kept request granted mid (Grants.revokes k answer range g does is) = kept_ranged p.home.domain.number range
  place_kept request granted mid (Grants.binds text k answer names g does is) = kept_named names
  place_kept request granted mid (Grants.looks_up text found is) = record { place = p; frames = refl; inside = refl; answered = answered }
  place_kept request granted mid (Grants.unbinds text answer names g does is) = kept_named names
  place_kept request granted mid (Grants.suspends s) = kept_flagged s (Suspension true)
  place_kept request granted mid (Grants.resumes s) = kept_flagged s (Suspension false)
  place_kept request granted mid (Grants.stops s) = kept_flagged s (Stop true)

-- ---- What is answered.

-- a value of the request's type, which is known, or something that may be raised
abbrev pub FitsGranted : Machine → List NamedObject → Request → Granted → Type 0
FitsGranted mid heap request (Ok v) = IsAnswerOf mid.classes heap (answer_type request) v × IsKnownAnswer (caps_of mid) heap v
FitsGranted mid heap request (Err r) = MayBeRaised mid.classes heap r

holds_capability : (m : Machine) → HasSoundClasses m → (heap : List NamedObject) (k : CapId)
    → HoldsDeclared m.classes heap (Held.Cap k) (class_type CAPABILITY)
holds_capability m sound heap k =
    class_fits m.classes sound.codes CAPABILITY CAPABILITY (below_listed m.classes sound.codes 9 11 11 refl)

module _ (m : Machine) (t : ThreadNo) (p : RunningSegment m t) (waits : IsSealedAtCall m t) (sound : HasSoundClasses m) (answered : AreCallsAnswered m)
    (heap : List NamedObject) where
  sealed : IsSealed (there m t p waits sound)
  sealed = sealed_there m t p waits sound

  -- what a name leads to was given out
  bound_given : (text : List ℕ) (n : BoundName) → bound_as m.names text ≡ Some n → IsGivenOut (caps_of m) n.cap
  bound_given text n is =
      let found = subst (Finds _ m.names) is (finds _ m.names) in
      sealed.names.given_out n (Contains-at m.names found.0 n found.1)

  looked_up : (text : List ℕ) (o : Option BoundName) → bound_as m.names text ≡ o
      → FitsGranted m heap (AsksToLookUp text) (Ok (Some (as_reference (option_map (λ (n : BoundName). n.cap) o))))
  looked_up text None is = (tt, tt)
  looked_up text (Some n) is = (holds_capability m sound heap n.cap, bound_given text n is)

  set_if : (b : Bool) (e : DomainState) (range : CapRange) → b ≡ true → cond b (record e { caps = range }) e ≡ record e { caps = range }
  set_if true e range h = refl
  set_if false e range h = absurd cc

  -- a new capability was given out
  module _ (class : ClassId) (target : ℕ) (given_sealed : IsSealedAtCall (with_range p.home.domain.number (with_created class target p.home.domain.caps) m) t)
      (mid_sound : HasSoundClasses (with_range p.home.domain.number (with_created class target p.home.domain.caps) m)) where
    abbrev n : DomainId
    n = p.home.domain.number

    abbrev longer : CapRange
    longer = with_created class target p.home.domain.caps

    abbrev created_there : Machine
    created_there = with_range n longer m

    next_given : IsGivenOut (caps_of created_there) (next_number p.home.domain.caps)
    next_given =
        let q = place_ranged m t p answered n longer in
        let new : Capability = record { target = target; class = class; revoked = false } in
        given_at created_there (record {
          owner = (sealed_there created_there t q given_sealed mid_sound).capabilities.owner;
          count = (sealed_there created_there t q given_sealed mid_sound).capabilities.count;
          chained = (sealed_there created_there t q given_sealed mid_sound).capabilities.chained;
          within = (sealed_there created_there t q given_sealed mid_sound).capabilities.within;
          few = (sealed_there created_there t q given_sealed mid_sound).capabilities.few;
          remote = (sealed_there created_there t q given_sealed mid_sound).capabilities.remote;
          targets = (sealed_there created_there t q given_sealed mid_sound).capabilities.targets;
        }) p.segment.shared.domain.0 (record p.home.domain { caps = longer })
        (q.home.is_domain
        ∙ ap (λ (e : DomainState). Some e) (set_if (n.0 == n.0) p.home.domain longer (eq-eqb n.0 n.0 refl)))
        (length p.home.domain.caps.made) new (slice_get-last p.home.domain.caps.made new) (next_number p.home.domain.caps) refl

  created : (class : ClassId) (target : ℕ) (answer : Result CapId Raise) (range : CapRange) → Creates p.home.domain.caps class target answer range
      → IsSealedAtCall (with_range p.home.domain.number range m) t → HasSoundClasses (with_range p.home.domain.number range m)
      → FitsGranted (with_range p.home.domain.number range m) heap (AsksToCreate class target) (as_capability answer)
  created class target answer range (Creates.used_up full) given mid_sound = tt
  created class target answer range (Creates.has_room few) given mid_sound =
      (holds_capability m sound heap (next_number p.home.domain.caps), next_given class target given mid_sound)

  revoked : (k : CapId) (mid : Machine) (answer : Result (Unit {0}) Raise) (range : CapRange) → Revokes p.home.domain.caps k answer range
      → FitsGranted mid heap (AsksToRevoke k) (as_nothing answer)
  revoked k mid answer range (Revokes.of_another other) = tt
  revoked k mid answer range (Revokes.own own) = (tt, tt)

  bound : (text : List ℕ) (k : CapId) (answer : Result (Unit {0}) Raise) (names : List BoundName)
      → Binds m.names p.home.domain.quotas.names (record { text = text; cap = k; binder = p.home.domain.number }) answer names
      → FitsGranted (record m { names = names }) heap (AsksToBind text k) (as_nothing answer)
  bound text k answer names (Binds.too_long long) = (omega arith, below_listed m.classes sound.codes 9 ILLEGAL_ARGUMENT_EXCEPTION.0 9 refl)
  bound text k answer names (Binds.of_another b short is other) =
      (omega arith, below_listed m.classes sound.codes 9 ILLEGAL_ARGUMENT_EXCEPTION.0 9 refl)
  bound text k answer names (Binds.own_name b short is own) = (tt, tt)
  bound text k answer names (Binds.one_too_many short is full) = tt
  bound text k answer names (Binds.new_name short is few) = (tt, tt)

  unbound : (text : List ℕ) (answer : Result (Unit {0}) Raise) (names : List BoundName)
      → Unbinds m.names p.home.domain.number text answer names
      → FitsGranted (record m { names = names }) heap (AsksToUnbind text) (as_nothing answer)
  unbound text answer names (Unbinds.not_own b is other) = tt
  unbound text answer names (Unbinds.removed b is own) = (tt, tt)
  unbound text answer names (Unbinds.not_bound none) = (tt, tt)

  pub granted_fits : (request : Request) (granted : Granted) (mid : Machine) → Grants p request granted mid → IsSealedAtCall mid t
      → HasSoundClasses mid → FitsGranted mid heap request granted
  granted_fits request granted mid (Grants.creates class target answer range g does is) given mid_sound =
      subst (FitsGranted mid heap (AsksToCreate class target)) (sym is) (created class target answer range does given mid_sound)
  granted_fits request granted mid (Grants.revokes k answer range g does is) given mid_sound =
      subst (FitsGranted mid heap (AsksToRevoke k)) (sym is) (revoked k mid answer range does)
  granted_fits request granted mid (Grants.binds text k answer names g does is) given mid_sound =
      subst (FitsGranted mid heap (AsksToBind text k)) (sym is) (bound text k answer names does)
  granted_fits request granted mid (Grants.looks_up text found is) given mid_sound =
      subst (λ (o : Option CapId). FitsGranted m heap (AsksToLookUp text) (Ok (Some (as_reference o)))) (sym is)
      (looked_up text (bound_as m.names text) refl)
  granted_fits request granted mid (Grants.unbinds text answer names g does is) given mid_sound =
      subst (FitsGranted mid heap (AsksToUnbind text)) (sym is) (unbound text answer names does)
  granted_fits request granted mid (Grants.suspends s) given mid_sound = (tt, tt)
  granted_fits request granted mid (Grants.resumes s) given mid_sound = (tt, tt)
  granted_fits request granted mid (Grants.stops s) given mid_sound = (tt, tt)

-- ---- The top frame has asked, and waits.

pub record AsksHere {m : Machine} {t : ThreadNo} (p : RunningSegment m t) (request : Request) : Type 0 where
  pub callers : List FrameState
  pub caller : FrameState
  pub are_frames : p.segment.frames ≡ callers ++ caller ∷ []
  pub around : Surroundings
  pub classes : around.classes ≡ m.classes
  pub caps : around.caps ≡ caps_of m
  pub awaits : AwaitsAnswer around p.home.inside.heap caller request

asked_by : (classes : List ClassRecord) (caps : List CapRange) (m : Machine) (t : ThreadNo) (p : RunningSegment m t) → classes ≡ m.classes
    → caps ≡ caps_of m → (table : List NamedClass) (request : Request)
    → IsKnownRequest (record { classes = classes; table = table; caps = caps }) p.home.inside.heap request → MayBeAsked p request
asked_by classes caps m t p same given table (AsksToCreate class target) h = (h.0, subst (λ (cs : List ClassRecord). ImplementsRemote cs class) same h.1)
asked_by classes caps m t p same given table (AsksToRevoke k) h = subst (λ (cs : List CapRange). IsGivenOut cs k) given h
asked_by classes caps m t p same given table (AsksToBind text k) h = subst (λ (cs : List CapRange). IsGivenOut cs k) given h
asked_by classes caps m t p same given table request h = tt

module _ (m : Machine) (t : ThreadNo) (p : RunningSegment m t) (waits : IsSealedAtCall m t) (sound : HasSoundClasses m) (answered : AreCallsAnswered m)
    (request : Request) (asks : AsksHere p request) where
  may : MayBeAsked p request
  may = asked_by asks.around.classes asks.around.caps m t p asks.classes asks.caps asks.around.table request asks.awaits.known

  module _ (granted : Granted) (mid : Machine) (grants : Grants p request granted mid) where
    pub kept : PlaceKept p mid
    kept = place_kept m t p answered request granted mid grants

    pub given : IsSealedAtCall mid t
    given = granted_sealed m t p request granted mid waits sound may grants

    pub mid_sound : HasSoundClasses mid
    mid_sound = sound_classes_stay m mid (grants_keep p request granted mid grants) sound

    pub fits : (heap : List NamedObject) → FitsGranted mid heap request granted
    fits heap = granted_fits m t p waits sound answered heap request granted mid grants given mid_sound

    classes_same : asks.around.classes ≡ mid.classes
    classes_same = asks.classes ∙ sym (grants_keep p request granted mid grants).classes

    module _ (q : RunningSegment mid t) where
      pub frames_same : q.segment.frames ≡ asks.callers ++ asks.caller ∷ []
      frames_same = ap (λ (x : Segment). x.frames) (one_running mid t kept.place q).0 ∙ kept.frames ∙ asks.are_frames

      inside_same : q.home.inside ≡ p.home.inside
      inside_same = (one_running mid t kept.place q).1 ∙ kept.inside

      stands : FitsAtCall mid.classes q.home.inside.heap asks.caller
      stands =
          subst (λ (x : Inside). FitsAtCall mid.classes x.heap asks.caller) (sym inside_same)
          (subst (λ (cs : List ClassRecord). FitsAtCall cs p.home.inside.heap asks.caller) classes_same asks.awaits.stands)

      answer_for : (v : Option Value) → FitsGranted mid q.home.inside.heap request (Ok v) → Answered q
      answer_for v fitting = record {
        answer = v;
        awaits = record {
          callers = asks.callers;
          caller = asks.caller;
          are_frames = frames_same;
          result = answer_type request;
          awaits = subst (λ (cs : List ClassRecord). AwaitsResult cs asks.caller (answer_type request)) classes_same asks.awaits.awaits;
          answer = fitting.0;
        };
        stands = stands;
        known = fitting.1;
      }

      goes_answered : (v : Option Value) (new : Machine) → Receives q q.home.inside.heap v new → AreCallsAnswered new
      goes_answered v new r =
          let own = top_answers mid.classes q.lower q.segment (own_answered mid t q kept.answered) in
          let answers = answers_replaced mid.classes r.callers r.caller (resumed v r.caller) (refl, refl)
          (subst (FramesAnswer mid.classes) r.are_frames own) in
          subst AreCallsAnswered (sym r.leads)
          (running_answered mid t q kept.answered (record q.segment { frames = r.callers ++ resumed v r.caller ∷ [] })
          (with_heap q.home.inside q.home.inside.heap) refl
          (gives_by mid.classes q.segment.frames (r.callers ++ resumed v r.caller ∷ [])
          (inr (same_lowest r.callers r.caller (resumed v r.caller) [] [] refl ∙ ap lowest_method (sym r.are_frames)))
          (some_frames mid.classes (r.callers ++ resumed v r.caller ∷ []) answers)) answers)

  pub granted_whole : (v : Option Value) (mid : Machine) → Grants p request (Ok v) mid → (q : RunningSegment mid t) (new : Machine)
      → Receives q q.home.inside.heap v new → IsWhole new
  unfolding answer_for
  granted_whole v mid grants q new r = (
    received_sealed mid new t q (answer_for (Ok v) mid grants q v (fits (Ok v) mid grants q.home.inside.heap)) (given (Ok v) mid grants)
        (mid_sound (Ok v) mid grants) r,
    goes_answered (Ok v) mid grants q v new r,
  )

  pub denied_whole : (r : Raise) (mid : Machine) → Grants p request (Err r) mid → (n : ℕ) (lines : List Line) (new : Machine)
      → RaisesInThread mid t r n lines new → IsWhole new
  denied_whole r mid grants n lines new raises =
      let place = (kept (Err r) mid grants).place in
      let waits_there = given (Err r) mid grants in
      let sound_there = mid_sound (Err r) mid grants in (
        raises_sealed (flagged mid t place waits_there sound_there) t (met_there mid t place waits_there sound_there) r
            (fits (Err r) mid grants place.home.inside.heap) mid (is_met mid t place waits_there sound_there) n lines new raises,
        raises_answered mid t r n lines new (kept (Err r) mid grants).answered raises,
      )
