-- Where the running segment of a machine has become another one of its domain, that one runs in the same place: what it does then leads to the
-- machine to which it would lead at once.
use Rattle.std.proofs.Common.{◌≡◌, ◌==◌, Bool, true, false, cond, List, [], ◌∷◌, ◌++◌, map, Some, sym, refl, ap, ◌∙◌, eq-eqb}
use Rattle.std.specs.Option.{option_map}
use Rattle.std.proofs.lemmas.Option.{same_Some}
use Rattle.jk_model.specs.declared.identifiers.DomainId.{DomainId}
use Rattle.jk_model.specs.declared.identifiers.ThreadNo.{ThreadNo}
use Rattle.jk_model_heaps.specs.Workings.{Inside}
use Rattle.jk_model_machine_state.specs.Machines.{DomainState, Machine, Segment, Thread, domain_at, thread_numbered, with_segments}
use Rattle.jk_model_machine_state.specs.Places.{RunningSegment, with_running}
use Rattle.list_lemmas.proofs.ItemsByPlace.{mapped_at}
use Rattle.list_lemmas.proofs.LastItems.{one_last}
use Rattle.machine_laws.proofs.InitialisersAfterRuns.{found_still}
use Rattle.machine_laws.proofs.RunningSegmentsFit.{thread_place}

-- ---- What becomes of a domain, and of a thread.

abbrev pub set_inside : DomainId → Inside → DomainState → DomainState
set_inside d inside e = cond (e.number.0 == d.0) (record e { inside = Some inside }) e

abbrev pub set_segments : ThreadNo → List Segment → Thread → Thread
set_segments t segments e = cond (e.number.0 == t.0) (record e { segments = segments }) e

inside_twice_by : (b c : Bool) (first second : Inside) (e : DomainState) → c ≡ b
    → cond c (record (cond b (record e { inside = Some first }) e) { inside = Some second }) (cond b (record e { inside = Some first }) e)
    ≡ cond b (record e { inside = Some second }) e
inside_twice_by true true first second e h = refl
inside_twice_by true false first second e h = absurd cc
inside_twice_by false true first second e h = absurd cc
inside_twice_by false false first second e h = refl

domain_number_by : (b : Bool) (inside : Inside) (e : DomainState) → (cond b (record e { inside = Some inside }) e).number ≡ e.number
domain_number_by true inside e = refl
domain_number_by false inside e = refl

pub insides_twice : (d : DomainId) (first second : Inside) (es : List DomainState)
    → map (set_inside d second) (map (set_inside d first) es) ≡ map (set_inside d second) es
insides_twice d first second [] = refl
insides_twice d first second (e ∷ es) =
    λ i. inside_twice_by (e.number.0 == d.0) ((set_inside d first e).number.0 == d.0) first second e
    (ap (λ (n : DomainId). n.0 == d.0) (domain_number_by (e.number.0 == d.0) first e)) i ∷ insides_twice d first second es i

segments_twice_by : (b c : Bool) (first second : List Segment) (e : Thread) → c ≡ b
    → cond c (record (cond b (record e { segments = first }) e) { segments = second }) (cond b (record e { segments = first }) e)
    ≡ cond b (record e { segments = second }) e
segments_twice_by true true first second e h = refl
segments_twice_by true false first second e h = absurd cc
segments_twice_by false true first second e h = absurd cc
segments_twice_by false false first second e h = refl

thread_number_by : (b : Bool) (segments : List Segment) (e : Thread) → (cond b (record e { segments = segments }) e).number ≡ e.number
thread_number_by true segments e = refl
thread_number_by false segments e = refl

pub segments_twice : (t : ThreadNo) (first second : List Segment) (es : List Thread)
    → map (set_segments t second) (map (set_segments t first) es) ≡ map (set_segments t second) es
segments_twice t first second [] = refl
segments_twice t first second (e ∷ es) =
    λ i. segments_twice_by (e.number.0 == t.0) ((set_segments t first e).number.0 == t.0) first second e
    (ap (λ (n : ThreadNo). n.0 == t.0) (thread_number_by (e.number.0 == t.0) first e)) i ∷ segments_twice t first second es i

set_if : {X : Type 0} (b : Bool) (x y : X) → b ≡ true → cond b x y ≡ x
set_if true x y e = refl
set_if false x y e = absurd cc

pub domain_number : (d : DomainId) (inside : Inside) (e : DomainState) → (set_inside d inside e).number.0 ≡ e.number.0
domain_number d inside e = ap (λ (n : DomainId). n.0) (domain_number_by (e.number.0 == d.0) inside e)

pub thread_number : (t : ThreadNo) (segments : List Segment) (e : Thread) → (set_segments t segments e).number.0 ≡ e.number.0
thread_number t segments e = ap (λ (n : ThreadNo). n.0) (thread_number_by (e.number.0 == t.0) segments e)

-- the thread of a number, where its segments have become these
pub thread_set : (m : Machine) (t : ThreadNo) (segments : List Segment) (p : RunningSegment m t)
    → thread_numbered (with_segments t segments m) t ≡ Some (record p.thread { segments = segments })
thread_set m t segments p =
    found_still (set_segments t segments) (λ (x : Thread). x.number.0 == t.0)
    (λ x. ap (λ (n : ThreadNo). n.0 == t.0) (thread_number_by (x.number.0 == t.0) segments x)) m.threads
    ∙ ap (option_map (set_segments t segments)) p.is_thread
    ∙ ap (λ (x : Thread). Some x)
    (set_if (p.thread.number.0 == t.0) (record p.thread { segments = segments }) p.thread
    (eq-eqb p.thread.number.0 t.0 (thread_place m t p).2))

-- ---- The segment that runs then.

module _ (m : Machine) (t : ThreadNo) (p : RunningSegment m t) (segment : Segment) (inside : Inside)
    (same : segment.shared.domain ≡ p.segment.shared.domain) where
  abbrev pub ran : Machine
  ran = with_running p segment inside

  abbrev home : DomainId
  home = p.segment.shared.domain

  pub home_set_there : domain_at ran segment.shared.domain ≡ Some (record p.home.domain { inside = Some inside })
  home_set_there =
      ap (domain_at ran) same
      ∙ mapped_at (set_inside home inside) m.domains home.0 p.home.domain p.home.is_domain
      ∙ ap (λ (e : DomainState). Some e)
      (set_if (p.home.domain.number.0 == home.0) (record p.home.domain { inside = Some inside }) p.home.domain
      (eq-eqb p.home.domain.number.0 home.0 (ap (λ (n : DomainId). n.0) p.home.numbered)))

  module _ (q : RunningSegment ran t) where
    one_thread : q.thread ≡ record p.thread { segments = p.lower ++ segment ∷ [] }
    one_thread =
        same_Some q.thread (record p.thread { segments = p.lower ++ segment ∷ [] })
        (sym q.is_thread ∙ thread_set m t (p.lower ++ segment ∷ []) p)

    pub runs_there : (q.lower ≡ p.lower) × (q.segment ≡ segment)
    runs_there = one_last q.lower p.lower q.segment segment (sym q.are_segments ∙ ap (λ (x : Thread). x.segments) one_thread)

    pub of_home : q.segment.shared.domain ≡ home
    of_home = ap (λ (s : Segment). s.shared.domain) runs_there.1 ∙ same

    pub home_there : q.home.domain ≡ record p.home.domain { inside = Some inside }
    home_there =
        same_Some q.home.domain (record p.home.domain { inside = Some inside })
        (sym q.home.is_domain ∙ ap (domain_at ran) (of_home ∙ sym same) ∙ home_set_there)

    pub inside_there : q.home.inside ≡ inside
    inside_there = same_Some q.home.inside inside (sym q.home.is_inside ∙ ap (λ (e : DomainState). e.inside) home_there)

    -- what it leads to
    pub runs_on : (next : Segment) (then : Inside) → with_running q next then ≡ with_running p next then
    runs_on next then = λ i. record m {
      domains = (ap (λ (d : DomainId). map (set_inside d then) ran.domains) of_home ∙ insides_twice home inside then m.domains) i;
      threads = (ap (λ (lower : List Segment). map (set_segments t (lower ++ next ∷ [])) ran.threads) runs_there.0
          ∙ segments_twice t (p.lower ++ segment ∷ []) (p.lower ++ next ∷ []) m.threads) i;
    }

  abbrev pub running_then : RunningSegment ran t
  running_then = record {
    thread = record p.thread { segments = p.lower ++ segment ∷ [] };
    is_thread = thread_set m t (p.lower ++ segment ∷ []) p;
    lower = p.lower;
    segment = segment;
    are_segments = refl;
    home = record {
      domain = record p.home.domain { inside = Some inside };
      is_domain = home_set_there;
      numbered = p.home.numbered ∙ sym same;
      inside = inside;
      is_inside = refl;
    };
  }
