-- The running segment of a machine has run, and waits; something has changed of what domains share; then its top frame goes on with an answer. That is
-- the same as where the segment first goes on, and then that changes.
use Rattle.std.proofs.Common.{◌≡◌, ◌==◌, Bool, true, false, cond, List, [], ◌∷◌, ◌++◌, map, slice_get, Option, Some, option_map, refl, sym, ap, ◌∙◌}
use Rattle.std.proofs.lemmas.List.{map-append}
use Rattle.jk_model.specs.declared.identifiers.DomainId.{DomainId}
use Rattle.jk_model.specs.declared.identifiers.SegmentNo.{SegmentNo}
use Rattle.jk_model.specs.declared.identifiers.ThreadNo.{ThreadNo}
use Rattle.jk_model.specs.declared.values.Value.{Value}
use Rattle.jk_model_frames.specs.Frames.{FrameState}
use Rattle.jk_model_heaps.specs.CalledFrames.{resumed}
use Rattle.jk_model_heaps.specs.Capabilities.{CapRange}
use Rattle.jk_model_heaps.specs.Workings.{Run}
use Rattle.jk_model_sharing.specs.BoundNames.{BoundName}
use Rattle.jk_model_sharing.specs.Segments.{SharedSegment, with_segment}
use Rattle.jk_model_machine_state.specs.Machines.{DomainState, Machine, Segment, Thread, segment_form, with_stacks}
use Rattle.jk_model_machine_state.specs.Places.{RunningSegment, with_run}
use Rattle.jk_model_crossings.specs.Answers.{Receives}
use Rattle.jk_model_crossings.specs.Requests.{with_range}
use Rattle.list_lemmas.proofs.ItemsByPlace.{mapped_at}
use Rattle.machine_laws.proofs.InitialisersAfterRuns.{found_still}
use Rattle.machine_laws.proofs.RunsAgain.{insides_twice, running_then, runs_on, segments_twice, set_inside, set_segments}

-- it receives the answer in that machine, which leads to this one
pub record TakesAnswer (mid : Machine) (t : ThreadNo) (v : Option Value) (new : Machine) : Type 0 where
  pub place : RunningSegment mid t
  pub receives : Receives place place.home.inside.heap v new

number_by : (b : Bool) (range : CapRange) (e : DomainState) → (cond b (record e { caps = range }) e).number ≡ e.number
number_by true range e = refl
number_by false range e = refl

inside_by : (b : Bool) (range : CapRange) (e : DomainState) → (cond b (record e { caps = range }) e).inside ≡ e.inside
inside_by true range e = refl
inside_by false range e = refl

module _ (m : Machine) (t : ThreadNo) (p : RunningSegment m t) (run : Run) (callers : List FrameState) (caller : FrameState)
    (are : run.frames ≡ callers ++ caller ∷ []) (v : Option Value) where
  abbrev d : DomainId
  d = p.segment.shared.domain

  abbrev stood : Segment
  stood = record p.segment { frames = run.frames }

  -- where it has gone on
  abbrev then : Segment
  then = record p.segment { frames = callers ++ resumed v caller ∷ [] }

  abbrev w : Machine
  w = with_run p run

  abbrev pub went_on : Machine
  went_on = with_run p (record { inside = run.inside; frames = callers ++ resumed v caller ∷ [] })

  abbrev goes : RunningSegment (with_run p run) t
  goes = running_then m t p stood run.inside refl

  threads_twice : map (set_segments t (p.lower ++ then ∷ [])) m.threads
      ≡ map (set_segments t (p.lower ++ then ∷ [])) (map (set_segments t (p.lower ++ stood ∷ [])) m.threads)
  threads_twice = sym (segments_twice t (p.lower ++ stood ∷ []) (p.lower ++ then ∷ []) m.threads)

  -- ---- Nothing has changed.

  pub takes_alone : TakesAnswer w t v went_on
  takes_alone = record {
    place = goes;
    receives = record {
      callers = callers;
      caller = caller;
      are_frames = are;
      leads = sym (runs_on m t p stood run.inside refl goes then run.inside);
    };
  }

  -- ---- Names have.

  pub takes_named : (names : List BoundName) → TakesAnswer (record w { names = names }) t v (record went_on { names = names })
  takes_named names = record {
    place = record {
      thread = goes.thread;
      is_thread = goes.is_thread;
      lower = goes.lower;
      segment = goes.segment;
      are_segments = goes.are_segments;
      home = record {
        domain = goes.home.domain;
        is_domain = goes.home.is_domain;
        numbered = goes.home.numbered;
        inside = goes.home.inside;
        is_inside = goes.home.is_inside;
      };
    };
    receives = record {
      callers = callers;
      caller = caller;
      are_frames = are;
      leads = λ i. record went_on {
        names = names;
        domains = sym (insides_twice d run.inside run.inside m.domains) i;
        threads = threads_twice i;
      };
    };
  }

  -- ---- The capabilities of a domain have.

  module _ (n : DomainId) (range : CapRange) where
    abbrev ranged : DomainState → DomainState
    ranged e = cond (e.number.0 == n.0) (record e { caps = range }) e

    set_if : (b : Bool) (e : DomainState) → (b ≡ true → e.inside ≡ Some run.inside) → cond b (record e { inside = Some run.inside }) e ≡ e
    set_if true e h = λ i. record e { inside = sym (h refl) i }
    set_if false e h = refl

    has_by : (b : Bool) (e : DomainState) → (e.number.0 == d.0) ≡ b → b ≡ true → (cond b (record e { inside = Some run.inside }) e).inside ≡ Some run.inside
    has_by true e is on = refl
    has_by false e is on = absurd cc

    set_number : (b : Bool) (e : DomainState) → (cond b (record e { inside = Some run.inside }) e).number ≡ e.number
    set_number true e = refl
    set_number false e = refl

    -- a domain that has this inside is set to it
    one_ranged : (e : DomainState) → ranged (set_inside d run.inside e) ≡ set_inside d run.inside (ranged (set_inside d run.inside e))
    one_ranged e =
        let x = set_inside d run.inside e in
        sym (set_if ((ranged x).number.0 == d.0) (ranged x)
        (λ same. inside_by (x.number.0 == n.0) range x
        ∙ has_by (e.number.0 == d.0) e refl
        (ap (λ (k : DomainId). k.0 == d.0) (sym (number_by (x.number.0 == n.0) range x ∙ set_number (e.number.0 == d.0) e)) ∙ same)))

    all_ranged : (es : List DomainState)
        → map ranged (map (set_inside d run.inside) es) ≡ map (set_inside d run.inside) (map ranged (map (set_inside d run.inside) es))
    all_ranged [] = refl
    all_ranged (e ∷ es) = λ i. one_ranged e i ∷ all_ranged es i

    pub takes_ranged : TakesAnswer (with_range n range w) t v (with_range n range went_on)
    takes_ranged = record {
      place = record {
        thread = goes.thread;
        is_thread = goes.is_thread;
        lower = goes.lower;
        segment = goes.segment;
        are_segments = goes.are_segments;
        home = record {
          domain = ranged goes.home.domain;
          is_domain = mapped_at ranged w.domains d.0 goes.home.domain goes.home.is_domain;
          numbered = number_by (goes.home.domain.number.0 == n.0) range goes.home.domain ∙ goes.home.numbered;
          inside = run.inside;
          is_inside = inside_by (goes.home.domain.number.0 == n.0) range goes.home.domain ∙ goes.home.is_inside;
        };
      };
      receives = record {
        callers = callers;
        caller = caller;
        are_frames = are;
        leads = λ i. record went_on { domains = all_ranged m.domains i; threads = threads_twice i };
      };
    }

  -- ---- The flags of a segment have.

  module _ (n : SegmentNo) (change : SharedSegment → SharedSegment) (same_domain : (s : SharedSegment) → (change s).domain ≡ s.domain) where
    abbrev fl : Segment → Segment
    fl s = cond (s.shared.number.0 == n.0) (record s { shared = change s.shared }) s

    abbrev stack : Thread → Thread
    stack e = record e { segments = map fl e.segments }

    domain_by : (b : Bool) (s : Segment) → (cond b (record s { shared = change s.shared }) s).shared.domain ≡ s.shared.domain
    domain_by true s = same_domain s.shared
    domain_by false s = refl

    frames_by : (b : Bool) (s : Segment) → (cond b (record s { shared = change s.shared }) s).frames ≡ s.frames
    frames_by true s = refl
    frames_by false s = refl

    flag_then : (b : Bool) → cond b (record then { shared = change p.segment.shared }) then
        ≡ record (cond b (record stood { shared = change p.segment.shared }) stood) { frames = callers ++ resumed v caller ∷ [] }
    flag_then true = refl
    flag_then false = refl

    stack_is : map fl (p.lower ++ then ∷ []) ≡ map fl p.lower ++ record (fl stood) { frames = callers ++ resumed v caller ∷ [] } ∷ []
    stack_is =
        map-append fl p.lower (then ∷ [])
        ∙ ap (λ (s : Segment). map fl p.lower ++ s ∷ []) (flag_then (p.segment.shared.number.0 == n.0))

    one_by : (b c : Bool) (e : Thread) → c ≡ b
        → stack (cond b (record e { segments = p.lower ++ then ∷ [] }) e)
        ≡ cond c (record (stack (cond b (record e { segments = p.lower ++ stood ∷ [] }) e))
        { segments = map fl p.lower ++ record (fl stood) { frames = callers ++ resumed v caller ∷ [] } ∷ [] })
        (stack (cond b (record e { segments = p.lower ++ stood ∷ [] }) e))
    one_by true true e h = λ i. record e { segments = stack_is i }
    one_by true false e h = absurd cc
    one_by false true e h = absurd cc
    one_by false false e h = refl

    number_stays : (b : Bool) (e : Thread) → (cond b (record e { segments = p.lower ++ stood ∷ [] }) e).number ≡ e.number
    number_stays true e = refl
    number_stays false e = refl

    all_flagged : (es : List Thread) → map stack (map (set_segments t (p.lower ++ then ∷ [])) es)
        ≡ map (set_segments t (map fl p.lower ++ record (fl stood) { frames = callers ++ resumed v caller ∷ [] } ∷ []))
        (map stack (map (set_segments t (p.lower ++ stood ∷ [])) es))
    all_flagged [] = refl
    all_flagged (e ∷ es) =
        λ i. one_by (e.number.0 == t.0) ((set_segments t (p.lower ++ stood ∷ []) e).number.0 == t.0) e
        (ap (λ (k : ThreadNo). k.0 == t.0) (number_stays (e.number.0 == t.0) e)) i ∷ all_flagged es i

    domain_is : (fl stood).shared.domain ≡ d
    domain_is = domain_by (p.segment.shared.number.0 == n.0) stood

    pub takes_flagged : TakesAnswer (with_stacks (with_segment segment_form n change) w) t v (with_stacks (with_segment segment_form n change) went_on)
    takes_flagged = record {
      place = record {
        thread = stack goes.thread;
        is_thread = found_still stack (λ (e : Thread). e.number.0 == t.0) (λ e. refl) w.threads ∙ ap (option_map stack) goes.is_thread;
        lower = map fl p.lower;
        segment = fl stood;
        are_segments = map-append fl p.lower (stood ∷ []);
        home = record {
          domain = goes.home.domain;
          is_domain = ap (λ (k : DomainId). slice_get w.domains k.0) domain_is ∙ goes.home.is_domain;
          numbered = goes.home.numbered ∙ sym domain_is;
          inside = run.inside;
          is_inside = goes.home.is_inside;
        };
      };
      receives = record {
        callers = callers;
        caller = caller;
        are_frames = frames_by (p.segment.shared.number.0 == n.0) stood ∙ are;
        leads = λ i. record went_on {
          domains = (sym (insides_twice d run.inside run.inside m.domains)
              ∙ ap (λ (k : DomainId). map (set_inside k run.inside) (map (set_inside d run.inside) m.domains)) (sym domain_is)) i;
          threads = all_flagged m.threads i;
        };
      };
    }
