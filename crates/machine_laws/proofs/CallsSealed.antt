-- A call through a capability enters the domain of the capability's owner: the machine is sealed after it, and calls are answered.
use Rattle.std.proofs.Common.{◌≡◌, ◌≢◌, ℕ, ◌+◌, ◌==◌, inl, inr, Bool, true, false, cond, List, [], ◌∷◌, ◌++◌, append_assoc, append-nil, length, map, Contains, refl, sym, ap, subst, ◌∙◌, arith}
use Rattle.std.specs.List.{AllByRecursion}
use Rattle.std.specs.Prelude.{count_by}
use Rattle.std.proofs.lemmas.Bool.{eqb-true}
use Rattle.jk_model.specs.declared.identifiers.ThreadNo.{ThreadNo}
use Rattle.jk_model.specs.declared.values.Value.{Value}
use Rattle.jk_model.specs.declared.values.Value.TheVariants as Held
use Rattle.jk_model_domains.specs.NumberRows.{Replaces}
use Rattle.jk_model_domains.specs.Objects.{NamedObject}
use Rattle.jk_model_domains.specs.OwnStates.{zero_of}
use Rattle.jk_model_frames.specs.Frames.{FrameState, frames_chunks}
use Rattle.jk_model_heaps.specs.Workings.{Setting, Working, with_heap}
use Rattle.jk_model_call_rows.specs.CallRows.{MethodCall, given_count}
use Rattle.jk_model_call_rows.specs.Targets.{Through}
use Rattle.jk_model_sealing.specs.AnsweringFrames.{AwaitsResult, FramesAnswer}
use Rattle.jk_model_sealing.specs.ClassesInProgress.{initialises}
use Rattle.jk_model_sealing.specs.FittingFrames.{FitsAsTop, FitsAtCall, IsCall}
use Rattle.jk_model_sealing.specs.SealedInsides.{IsKnownValue, IsOfClass, Surroundings}
use Rattle.jk_model_sealing.specs.SealedRuns.{AreSealedFrames, IsAtHome, NamesKnown}
use Rattle.jk_model_machine_state.specs.Machines.{Machine, Segment, Thread, caps_of}
use Rattle.jk_model_machine_state.specs.Places.{LiveDomain, RunningSegment, first_segment, setting_of, with_running}
use Rattle.jk_model_crossings.specs.RemoteCalls.{Enters, HasTarget, RemoteCall}
use Rattle.jk_model_runs.specs.AnsweredCalls.{AreCallsAnswered, SegmentAnswers, SegmentsAnswer}
use Rattle.jk_model_runs.specs.Sealed.{IsSealed, TopFits, surroundings}
use Rattle.list_lemmas.proofs.EndsOfLists.{tail_is}
use Rattle.list_lemmas.proofs.ItemsByPlace.{comes_from}
use Rattle.list_lemmas.proofs.ItemsOfLists.{Contains-at, Contains-none, place_of}
use Rattle.heap_laws.proofs.StillFits.{of_class}
use Rattle.heap_laws.specs.FittingOutcomes.{AreOfTypes}
use Rattle.heap_laws.specs.RunningFrames.{IsKnownSetting, RunsWell}
use Rattle.row_laws.proofs.CallersFit.{caller_fits}
use Rattle.row_laws.proofs.CallsKnown.{CallGiven, call_given}
use Rattle.row_laws.proofs.NamesStayKnown.{known-parts}
use Rattle.row_laws.proofs.FramesInARow.{all_top, answers_replaced, chunks_same, count_same}
use Rattle.machine_laws.specs.CallsAndAnswers.{StandsAtCall}
use Rattle.machine_laws.specs.SoundMachines.{HasSoundClasses}
use Rattle.machine_laws.proofs.CallsArrive.{begun, copies_of_types, frames_begin, result_same, target_is, zeros_of_types}
use Rattle.machine_laws.proofs.CopiesTaken.{HasInside, grows, keeps_taker, values_known}
use Rattle.machine_laws.proofs.LowestFramesStay.{gives_by, lowest_method, same_lowest}
use Rattle.machine_laws.proofs.RaisesWhereMet.{some_frames}
use Rattle.machine_laws.proofs.RunningSegmentsFit.{frames_weaker, home_there, running_frames, top_answers}
use Rattle.machine_laws.proofs.RunsAgain.{segments_twice, set_inside, set_segments, thread_set}
use Rattle.machine_laws.proofs.RunsAnswered.{top_answered}
use Rattle.machine_laws.proofs.SealedAfterRuns.{sealed_after}
use Rattle.machine_laws.proofs.SegmentsAdded.{MayEnter, added, called, entered, entered_sealed, next}
use Rattle.machine_laws.proofs.SegmentsAnswered.{each_set, own_answered}
use Rattle.machine_laws.proofs.SegmentsThatRan.{HasRun}
use Rattle.machine_laws.proofs.TopFramesReplaced.{frames_replaced}
use Rattle.machine_laws.proofs.TopSegmentsTaken.{inside_stays}

-- ---- A segment on top of a thread.

appended_by : (b c : Bool) (segments : List Segment) (s : Segment) (e : Thread) → c ≡ b
    → cond c (record (cond b (record e { segments = segments }) e) { segments = (cond b (record e { segments = segments }) e).segments ++ s ∷ [] })
    (cond b (record e { segments = segments }) e)
    ≡ cond b (record e { segments = segments ++ s ∷ [] }) e
appended_by true true segments s e h = refl
appended_by true false segments s e h = absurd cc
appended_by false true segments s e h = absurd cc
appended_by false false segments s e h = refl

number_by : (b : Bool) (segments : List Segment) (e : Thread) → (cond b (record e { segments = segments }) e).number ≡ e.number
number_by true segments e = refl
number_by false segments e = refl

appended : (t : ThreadNo) (segments : List Segment) (s : Segment) (es : List Thread)
    → map (λ (e : Thread). cond (e.number.0 == t.0) (record e { segments = e.segments ++ s ∷ [] }) e) (map (set_segments t segments) es)
    ≡ map (set_segments t (segments ++ s ∷ [])) es
appended t segments s [] = refl
appended t segments s (e ∷ es) =
    λ i. appended_by (e.number.0 == t.0) ((set_segments t segments e).number.0 == t.0) segments s e
    (ap (λ (n : ThreadNo). n.0 == t.0) (number_by (e.number.0 == t.0) segments e)) i ∷ appended t segments s es i

-- ---- The call.

module _ (m : Machine) (t : ThreadNo) (sealed : IsSealed m) (sound : HasSoundClasses m) (c : RemoteCall m t) (stands : StandsAtCall c) where
  abbrev p : RunningSegment m t
  p = c.place

  abbrev around : Surroundings
  around = surroundings m p.home.domain

  abbrev heap : List NamedObject
  heap = p.home.inside.heap

  abbrev x : Setting
  x = setting_of p

  knows : IsKnownSetting around x
  knows = record {
    classes = refl;
    ranges = refl;
    stand_ins = λ s i there none lists. absurd (Contains-none s there);
    codes = sound.codes;
    table = sound.tables p.home.domain (home_there m t p sealed);
  }

  frames : AreSealedFrames around (TopFits m p.home.inside p.segment) heap (c.callers ++ c.frame ∷ [])
  frames = subst (AreSealedFrames around (TopFits m p.home.inside p.segment) heap) c.are_frames (running_frames m t p sealed)

  top_known : NamesKnown (caps_of m) heap c.frame
  top_known = all_top (NamesKnown (caps_of m) heap) c.callers c.frame frames.known

  abbrev w : Working
  w = record { inside = p.home.inside; frame = c.frame }

  runs : RunsWell around x w
  runs = record {
    setting = knows;
    inside = sealed.domains.insides p.home.domain p.home.inside (home_there m t p sealed) p.home.is_inside;
    no_need = stands.no_need;
    fits = stands.fits;
    at_home = all_top (IsAtHome p.home.domain.table) c.callers c.frame frames.at_home;
    known = top_known;
  }

  abbrev given : List Value
  given = Held.Cap c.capability ∷ c.given

  counted : length given ≡ given_count stands.code.instr.op c.named
  counted =
      let many = c.as_many in
      let counts : given_count stands.code.instr.op c.named ≡ 1 + length c.named.params = ap (λ (k : ℕ). given_count k c.named) stands.interface in
      omega (arith, many, counts)

  is_call : IsCall stands.code.instr
  is_call = inr (inr (inr stands.interface))

  call : MethodCall x stands.code.scope stands.code.instr w
  call = record {
    found = c.method;
    method = c.named;
    names = stands.names;
    given = given;
    as_many = counted;
    on_top = (c.below, c.stack);
    target = Through c.capability c.method;
    comes_to = inr (inr (inr (stands.interface, inl (stands.not_object, refl))));
  }

  pub typed : AreOfTypes around heap c.named.params c.given
  unfolding call
  typed =
      let g : CallGiven around x stands.code.scope stands.code.instr w call =
      call_given around x w runs stands.code call is_call (λ e. let both : 0xb9 ≡ 0xb8 = sym stands.interface ∙ e in omega (arith, both))
      (λ method. ap (λ (k : ℕ). given_count k method) stands.interface) in
      subst (AreOfTypes around heap c.named.params) (sym (tail_is (Held.Cap c.capability) g.receiver c.given g.arguments g.given_is)) g.of_types

  pub given_known : AllByRecursion (IsKnownValue (caps_of m) heap) c.given
  given_known =
      (known-parts (IsKnownValue (caps_of m) heap) c.below given
      (subst (AllByRecursion (IsKnownValue (caps_of m) heap)) c.stack top_known.1)).1.1

  -- without the capability and the arguments
  abbrev left : FrameState
  left = record c.frame { stack = c.below }

  replaces : Replaces c.frame left given []
  replaces = record {
    below = c.below;
    before = c.stack;
    after = ap (λ (stack : List Value). record c.frame { stack = stack }) (sym (append-nil c.below));
  }

  left_fits : FitsAtCall m.classes heap left × AwaitsResult m.classes left c.named.result
  left_fits =
      caller_fits m.classes sound.codes heap c.frame left stands.fits.0 stands.fits.1 stands.code stands.no_need is_call c.method c.named stands.names
      given counted replaces

  abbrev waiting : List FrameState
  waiting = c.callers ++ left ∷ []

  waiting_fit : AreSealedFrames around (FitsAtCall m.classes heap) heap waiting
  waiting_fit =
      frames_replaced around heap (TopFits m p.home.inside p.segment) (FitsAtCall m.classes heap) c.callers c.frame left (refl, refl) (λ h. h) (λ h. h)
      (λ known. (
        known.0,
        (known-parts (IsKnownValue (caps_of m) heap) c.below given
            (subst (AllByRecursion (IsKnownValue (caps_of m) heap)) c.stack known.1)).0,
      )) left_fits.0 frames

  module _ (new : Machine) (h : Enters c new) where
    abbrev target : HasTarget c
    target = h.is_open.has_target

    abbrev owner : LiveDomain m c.known.owner
    owner = target.is_shown.live.owner

    abbrev zeros : List Value
    zeros = map zero_of c.named.params

    -- ---- A segment that begins with zeros.

    abbrev may : MayEnter m t
    may = record {
      sealed = sealed;
      place = p;
      waiting = waiting;
      calls = waiting_fit;
      cost = chunks_same c.callers c.frame left refl ∙ ap frames_chunks (sym c.are_frames);
      counts = λ k. count_same k c.callers c.frame left refl ∙ ap (count_by (initialises k)) (sym c.are_frames);
      number = c.known.owner;
      home = owner;
      frame = begun m sealed sound c target owner.inside.heap (target_is m sealed sound c target) zeros
          (zeros_of_types (surroundings m owner.domain) owner.inside.heap c.named.params);
      fits = frames_begin m sealed sound c target owner.inside.heap (target_is m sealed sound c target) zeros
          (zeros_of_types (surroundings m owner.domain) owner.inside.heap c.named.params);
      plain = λ k. refl;
      room = h.chunks;
    }

    abbrev then : Machine
    then = entered m t may

    abbrev place : RunningSegment then t
    place = record {
      thread = record p.thread { segments = next m t may };
      is_thread = thread_set m t (next m t may) p;
      lower = p.lower ++ called m t may ∷ [];
      segment = added m t may;
      are_segments = sym (append_assoc p.lower (called m t may ∷ []) (added m t may ∷ []));
      home = record {
        domain = owner.domain;
        is_domain = owner.is_domain;
        numbered = owner.numbered;
        inside = owner.inside;
        is_inside = owner.is_inside;
      };
    }

    -- ---- And then has what it is given.

    abbrev giver : HasInside m
    giver = record { domain = p.home.domain; inside = p.home.inside; there = home_there m t p sealed; is_inside = p.home.is_inside }

    abbrev taker : HasInside m
    taker = record {
      domain = owner.domain;
      inside = owner.inside;
      there = Contains-at m.domains c.known.owner.0 owner.domain owner.is_domain;
      is_inside = owner.is_inside;
    }

    taken_types : AreOfTypes (surroundings m owner.domain) h.heap c.named.params h.values
    taken_types =
        copies_of_types m.classes p.home.domain.table owner.domain.table (caps_of m) (record { heap = heap; values = c.given }) owner.inside.heap
        (record { heap = h.heap; values = h.values }) h.passes.pairs h.passes.copy c.named.params c.given h.values h.passes.copy.values
        (values_known m sealed sound giver taker c.given given_known h.heap h.values h.passes) typed

    target_still : IsOfClass h.heap c.known.capability.target c.known.capability.class
    target_still =
        of_class owner.inside.heap h.heap (grows m sealed sound giver taker c.given given_known h.heap h.values h.passes) c.known.capability.target
        c.known.capability.class (target_is m sealed sound c target)

    abbrev frame : FrameState
    frame = begun m sealed sound c target h.heap target_still h.values taken_types

    abbrev segment : Segment
    segment = record (added m t may) { frames = frame ∷ [] }

    ran : HasRun then t
    ran = record {
      place = place;
      sealed = entered_sealed m t may;
      segment = segment;
      inside = with_heap owner.inside h.heap;
      number = refl;
      domain = refl;
      keeps = keeps_taker m sealed sound giver taker c.given given_known h.heap h.values h.passes (setting_of place) refl;
      frames = frames_weaker (surroundings m owner.domain) h.heap (FitsAsTop m.classes h.heap) (TopFits then (with_heap owner.inside h.heap) segment)
          (λ f top. inl top) (frame ∷ []) (frames_begin m sealed sound c target h.heap target_still h.values taken_types);
      progress = record { own = λ k. refl; others = λ u k apart. refl };
      chunks = omega arith;
    }

    -- ---- That is where the call leads.

    frame_is : h.frame ≡ frame
    frame_is = h.begins.1

    leads : with_running place segment (with_heap owner.inside h.heap) ≡ new
    leads =
        (λ i. record m {
          domains = map (set_inside c.known.owner (with_heap owner.inside h.heap))
              (sym (inside_stays m p.segment.shared.domain sealed.domains.numbered p.home.domain p.home.inside p.home.is_domain p.home.is_inside) i);
          threads = (segments_twice t (next m t may) ((p.lower ++ called m t may ∷ []) ++ segment ∷ []) m.threads
              ∙ sym (appended t (p.lower ++ called m t may ∷ []) segment m.threads)
              ∙ ap (λ (f : FrameState). map (λ (e : Thread). cond (e.number.0 == t.0) (record e { segments = e.segments ++ first_segment m c.known.owner f ∷ [] }) e)
              (map (set_segments t (p.lower ++ called m t may ∷ [])) m.threads)) (sym frame_is)) i;
          next_segment = then.next_segment;
        })
        ∙ sym h.leads

    pub call_sealed : IsSealed new
    unfolding ran
    call_sealed = subst IsSealed leads (sealed_after then t ran)

    -- ---- Calls are answered.

    pushed : (lower : List Segment) (s above : Segment) → SegmentsAnswer m.classes (lower ++ s ∷ []) → SegmentAnswers m.classes s above
        → FramesAnswer m.classes above.frames → SegmentsAnswer m.classes ((lower ++ s ∷ []) ++ above ∷ [])
    pushed [] s above h answers top = (h, inr answers, top)
    pushed (a ∷ []) s above h answers top = (h.0, h.1, (h.2, inr answers, top))
    pushed (a ∷ b ∷ lower) s above h answers top = (h.0, h.1, pushed (b ∷ lower) s above h.2 answers top)

    pub call_answered : AreCallsAnswered m → AreCallsAnswered new
    call_answered answered =
        let own = own_answered m t p answered in
        let top : FramesAnswer m.classes waiting =
        answers_replaced m.classes c.callers c.frame left (refl, refl)
        (subst (FramesAnswer m.classes) c.are_frames (top_answers m.classes p.lower p.segment own)) in
        let gives = gives_by m.classes p.segment.frames waiting
        (inr (same_lowest c.callers c.frame left [] [] refl ∙ ap lowest_method (sym c.are_frames))) (some_frames m.classes waiting top) in
        let above : SegmentAnswers m.classes (called m t may) segment = record {
          callers = c.callers;
          caller = left;
          are_below = refl;
          lowest = frame;
          others = [];
          are_above = refl;
          answers = (
            c.named.result,
            left_fits.1,
            (target.target, target.target_method, refl, target.is_target, result_same m sealed sound c target),
          );
        } in
        subst AreCallsAnswered leads
        (record {
          segments = each_set t ((p.lower ++ called m t may ∷ []) ++ segment ∷ []) then.threads (SegmentsAnswer m.classes)
              (pushed p.lower (called m t may) segment
              (top_answered m.classes p.segment (called m t may) refl gives top p.lower own) above (refl, tt))
              (λ e on differ. others answered e on differ);
        })
      where
        others : AreCallsAnswered m → (e : Thread) → Contains then.threads e → e.number.0 ≢ t.0 → SegmentsAnswer m.classes e.segments
        others answered e on differ =
            let at = place_of then.threads e on in
            let from = comes_from (set_segments t (next m t may)) m.threads at.0 e at.1 in
            by from.from (Contains-at m.threads at.0 from.from from.there) (from.from.number.0 == t.0) refl from.gives
          where
            by : (y : Thread) → Contains m.threads y → (b : Bool) → (y.number.0 == t.0) ≡ b → cond b (record y { segments = next m t may }) y ≡ e
                → SegmentsAnswer m.classes e.segments
            by y there true same is = absurd (differ (ap (λ (z : Thread). z.number.0) (sym is) ∙ eqb-true y.number.0 t.0 same))
            by y there false other is = subst (λ (z : Thread). SegmentsAnswer m.classes z.segments) is (answered.segments y there)
