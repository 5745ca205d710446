-- What leaves segments of a thread, a throwable or an answer, changes no more than the thread, the domain that it came from and those that it comes to.
use Rattle.std.proofs.Common.{◌≡◌, inl, inr, ℕ, suc, ◌+◌, ◌≤◌, ◌==◌, slice_get, cond, true, false, List, [], ◌∷◌, ◌++◌, map, Option, Some, None, refl, sym, ap, subst, ◌∙◌, arith}
use Rattle.std.specs.Prelude.{⊤}
use Rattle.jk_model.specs.declared.identifiers.ClassId.{ClassId}
use Rattle.jk_model.specs.declared.identifiers.ThreadNo.{ThreadNo}
use Rattle.jk_model.specs.declared.output.Line.{Line}
use Rattle.jk_model.specs.declared.steps.Raise.{Raise}
use Rattle.jk_model.specs.declared.steps.Raise.TheVariants as Raised
use Rattle.jk_model.specs.declared.steps.Standing.TheVariants as Stands
use Rattle.jk_model.specs.declared.values.Value.{Value}
use Rattle.jk_model_domains.specs.declared.states.ClassState.TheVariants as State
use Rattle.jk_model_domains.specs.Objects.{NamedObject}
use Rattle.jk_model_domains.specs.OwnStates.{state_of}
use Rattle.jk_model_frames.specs.Frames.{FrameState}
use Rattle.jk_model_heaps.specs.declared.shapes.Unwound.{Unwound}
use Rattle.jk_model_heaps.specs.declared.shapes.Unwound.TheVariants as Unwinding
use Rattle.jk_model_heaps.specs.CalledFrames.{resumed}
use Rattle.jk_model_heaps.specs.Workings.{Inside, Run, with_heap}
use Rattle.jk_model_running.specs.Raising.{RaisesIn}
use Rattle.jk_model_sharing.specs.Segments.{with_revoked}
use Rattle.jk_model_unwinding.specs.Unwinding.{Unwinds, at_handler}
use Rattle.jk_model_machine_state.specs.Machines.{DomainState, Machine, Segment, thread_numbered, without_thread}
use Rattle.jk_model_machine_state.specs.Places.{RunningSegment, run_of, setting_of, with_run, with_running, without_top}
use Rattle.jk_model_crossings.specs.Answers.{Receives, Returns}
use Rattle.jk_model_crossings.specs.Throwing.{Brings, RaisesInThread, Throws, TopTwo}
use Rattle.jk_model_runs.specs.Sealed.{IsSealed}
use Rattle.heap_laws.specs.RaisableObjects.{MayBeRaised}
use Rattle.machine_laws.specs.SoundMachines.{HasSoundClasses}
use Rattle.machine_laws.proofs.ElsewhereSame.{others_left, thread_gone}
use Rattle.machine_laws.proofs.FallsSoFar.{Falls, LeavesWell, falls_from, falls_on, left_lower, next_domains, on_top, resumes_well}
use Rattle.machine_laws.proofs.LeavingChanges.{Initialises, Leaving, both_leave, heap_leaving, in_progress_by, leaves_same, raises_leave}
use Rattle.machine_laws.proofs.RaisesWhereMet.{IsMet, met}
use Rattle.machine_laws.proofs.RunningSegmentsFit.{in_progress, same_thread_number, thread_place}
use Rattle.machine_laws.proofs.RunsAgain.{inside_there, runs_on, runs_there, segments_twice, set_segments}
use Rattle.machine_laws.proofs.ThrowablesSealed.{HasThrown, brought, leads_well, stands_brought}
use Rattle.machine_laws.proofs.TopSegmentsTaken.{below_there, inside_stays, sealed_there, without}
use Rattle.machine_laws.proofs.WorkedSoFar.{WorkedSo, works_on}

-- what became of a segment's frames where the throwable is caught
abbrev HasCaught : List FrameState → List FrameState → Unwound → Type 0
HasCaught old new Unwinding.Caught =
    (callers : List FrameState) × (upper : List FrameState) × (f : FrameState) × (g : FrameState) × (old ≡ callers ++ f ∷ upper)
    × (new ≡ callers ++ g ∷ []) × (g.head.method ≡ f.head.method)
HasCaught old new (Unwinding.Uncaught a) = ⊤

module _ (m : Machine) (t : ThreadNo) (p : RunningSegment m t) (n : ℕ) where
  abbrev Well : Machine → Type 0
  Well new = LeavesWell m t p n new

  -- ---- The segment below, where something is raised in it.

  module _ (k : ℕ) (mid : Machine) (f : Falls m t p n k mid) (s : TopTwo mid t) where
    abbrev below : Segment
    below = s.below.segment

    abbrev inside : Inside
    inside = s.below.home.inside

    -- it stands as it stood, and its domain may have got objects
    record StandsBelow (there : Machine) : Type 0 where
      then : Inside
      is : there ≡ with_running s.below below then
      grown : Leaving below.frames inside then

    record RaisedBelow (next : Machine) (unwound : Unwound) : Type 0 where
      segment : Segment
      then : Inside
      is : next ≡ with_running s.below segment then
      shared : segment.shared ≡ below.shared
      leaving : Leaving below.frames inside then
      caught : HasCaught below.frames segment.frames unwound

    stays_there : map (λ (e : DomainState). cond (e.number.0 == below.shared.domain.0) (record e { inside = Some inside }) e) mid.domains ≡ mid.domains
    stays_there = inside_stays mid below.shared.domain f.numbered s.below.home.domain inside s.below.home.is_domain s.below.home.is_inside

    bare_stands : StandsBelow (without_top s.left)
    bare_stands = record {
      then = inside;
      is = λ i. record mid {
        domains = sym stays_there i;
        threads = (ap (λ (ss : List Segment). map (set_segments t ss) mid.threads) (left_lower m t p n k mid f s)
            ∙ sym (segments_twice t s.left.lower (s.below.lower ++ below ∷ []) mid.threads)) i;
      };
      grown = leaves_same below.frames inside;
    }

    brings_stand : (a : ℕ) (r : Raise) (there : Machine) → Brings s a r there → StandsBelow there
    brings_stand a r there (Brings.is_death b death) = bare_stands
    brings_stand a r there (Brings.is_uncopiable b alive not) = bare_stands
    brings_stand a r there (Brings.is_too_large b alive large) = bare_stands
    brings_stand a r there (Brings.is_copied b alive heap c passes) = record {
      then = with_heap inside heap;
      is = refl;
      grown = heap_leaving below.frames inside passes.copy.made heap passes.copy.grown;
    }

    module _ (then : Inside) (grown : Leaving below.frames inside then) (r : Raise) where
      abbrev stands : Machine
      stands = with_running s.below below then

      run_there : (q : RunningSegment stands t) → run_of q ≡ record { inside = then; frames = below.frames }
      run_there q = λ i. record {
        inside = inside_there (without_top s.left) t s.below below then refl q i;
        frames = ap (λ (u : Segment). u.frames) (runs_there (without_top s.left) t s.below below then refl q).1 i;
      }

      caught_by : (q : RunningSegment stands t) (run : Run) (u : Unwound) (made : Inside) (a : ℕ)
          → Unwinds (setting_of q) (record (run_of q) { inside = made }) a u run → HasCaught below.frames run.frames u
      caught_by q run Unwinding.Caught made a c = (
        c.lower,
        c.upper,
        c.catcher,
        at_handler c.catcher c.handler c.met,
        ap (λ (y : Run). y.frames) (sym (run_there q)) ∙ c.are_frames,
        c.left,
        refl,
      )
      caught_by q run (Unwinding.Uncaught b) made a c = tt

      at_stand : (q : RunningSegment stands t) (run : Run) (u : Unwound) → RaisesIn (setting_of q) (run_of q) r run u → RaisedBelow (with_run q run) u
      at_stand q run u raises = record {
        segment = record below { frames = run.frames };
        then = run.inside;
        is = runs_on (without_top s.left) t s.below below then refl q (record q.segment { frames = run.frames }) run.inside
            ∙ ap (λ (v : Segment). with_running s.below (record v { frames = run.frames }) run.inside)
            (runs_there (without_top s.left) t s.below below then refl q).1;
        shared = refl;
        leaving = both_leave below.frames below.frames below.frames inside then run.inside (λ g on. on) (λ g on. on) grown
            (subst (λ (y : Run). Leaving y.frames y.inside run.inside) (run_there q) (raises_leave (setting_of q) (run_of q) r run u raises));
        caught = caught_by q run u raises.made raises.thrown raises.unwinds;
      }

    raised_below : (there : Machine) → StandsBelow there → (r : Raise) (q : RunningSegment there t) (run : Run) (u : Unwound)
        → RaisesIn (setting_of q) (run_of q) r run u → RaisedBelow (with_run q run) u
    raised_below there b r =
        subst
        (λ (y : Machine). (q : RunningSegment y t) (run : Run) (u : Unwound) → RaisesIn (setting_of q) (run_of q) r run u
        → RaisedBelow (with_run q run) u) (sym b.is) (at_stand b.then b.grown r)

    -- ---- What it comes to.

    module _ (sealed : IsSealed mid) (left : s.left.segment.frames ≡ []) (alive : s.left.segment.shared.orphan ≡ false) (few : suc k ≤ n) where
      progress : (c : ClassId) → Initialises below.frames c → state_of inside.own c ≡ State.InProgress t
      progress =
          in_progress_by t (record { inside = inside; frames = below.frames })
          (in_progress (without mid t sealed s left) t (below_there mid t sealed s left) (sealed_there mid t sealed s left))

      takes_well : suc k ≡ n → (segment : Segment) (then : Inside) → segment.shared ≡ below.shared → Leaving below.frames inside then
          → HasCaught below.frames segment.frames Unwinding.Caught → Well (with_running s.below segment then)
      takes_well all segment then shared leaving caught =
          resumes_well m t p n k mid f s all segment then
          (next_domains m t p n k mid f s alive few progress segment (ap (λ y. y.domain) shared) then leaving)
          (λ same. inl (same ∙ alive, shared, caught))

      caught_well : suc k ≡ n → (next : Machine) → RaisedBelow next Unwinding.Caught → Well next
      caught_well all next b = subst Well (sym b.is) (takes_well all b.segment b.then b.shared b.leaving b.caught)

      falls_well : (next : Machine) (a : ℕ) → RaisedBelow next (Unwinding.Uncaught a) → Falls m t p n (suc k) next
      falls_well next a b =
          subst (Falls m t p n (suc k)) (sym b.is)
          (falls_on m t p n k mid f s alive few progress b.segment (ap (λ y. y.domain) b.shared) b.then b.leaving (ap (λ y. y.orphan) b.shared))

    -- an orphan's caller is told
    drops_well : suc k ≡ n → s.left.segment.shared.orphan ≡ true
        → Well (with_running s.below (record below { shared = with_revoked true below.shared }) inside)
    drops_well all orphan =
        resumes_well m t p n k mid f s all (record below { shared = with_revoked true below.shared }) inside
        (λ e old differ at.
        let was = f.domains e old differ at in
        (was.0, ap (λ (ds : List DomainState). slice_get ds e.0) stays_there ∙ was.1, was.2))
        (λ same. inr (same ∙ orphan, refl))

  -- ---- The thread ends.

  end_well : (k : ℕ) (mid : Machine) → Falls m t p n k mid → suc k ≡ n → (q : RunningSegment mid t) → q.lower ≡ [] → Well (without_thread t mid)
  end_well k mid f all q lowest = record {
    domains = f.domains;
    names = f.names;
    threads = λ u differ. others_left mid t u differ ∙ f.threads u differ;
    own = inr (
      ap (thread_numbered (without_thread t mid)) (same_thread_number p.thread.number t (thread_place m t p).2) ∙ thread_gone mid t,
      record {
        kept = [];
        lowest = f.old;
        others = f.above;
        were = f.are ∙ ap (λ (ss : List Segment). ss ++ f.old ∷ f.above) (sym (on_top m t p n k mid f q).1 ∙ lowest);
        as_many = let many = f.many in omega (arith, many, all);
        are = inl (refl, refl);
      },
    );
  }

  -- ---- The way down.

  pub throws_well : (j : ℕ) (mid : Machine) (a : ℕ) (lines : List Line) (new : Machine) → Throws t j mid a lines new → (k : ℕ) → k + j ≡ n
      → Falls m t p n k mid → IsSealed mid → HasSoundClasses mid → HasThrown mid t a → Well new
  throws_well j mid a lines new (Throws.ends w b q class lowest orphan) k all f sealed sound thrown = end_well k w f (omega (arith, all)) q lowest
  throws_well j mid a lines new (Throws.ends_orphan w b q lowest orphan) k all f sealed sound thrown = end_well k w f (omega (arith, all)) q lowest
  throws_well j mid a lines new (Throws.drops w b s orphan) k all f sealed sound thrown = drops_well k w f s (omega (arith, all)) orphan
  throws_well j mid a lines new (Throws.caught w there b s r alive brings q run raised) k all f sealed sound thrown =
      caught_well k w f s sealed (thrown.left s.left) alive (omega (arith, all)) (omega (arith, all)) (with_run q run)
      (raised_below k w f s there (brings_stand k w f s b r there brings) r q run Unwinding.Caught raised)
  throws_well j mid a lines new (Throws.goes_on i w there end b c said s r alive brings q run raised further) k all f sealed sound thrown =
      let left = thrown.left s.left in
      let x = brought w t sealed sound s left b (thrown.throwable s.left) r there brings in
      let l = leads_well (without w t sealed s left) t x.met_there r x.may there x.is q run (Unwinding.Uncaught c) raised in
      throws_well i (with_run q run) c said end further (suc k) (omega (arith, all))
      (falls_well k w f s sealed left alive (omega (arith, all)) (with_run q run) c
      (raised_below k w f s there (brings_stand k w f s b r there brings) r q run (Unwinding.Uncaught c) raised))
      l.sealed l.sound l.remains

  -- ---- It is raised in the top segment, and leaves that.

  pub raises_well : (here : Machine) → WorkedSo m t p here → (w : Machine) (h : IsMet w t) (r : Raise) → MayBeRaised w.classes h.inside.heap r
      → here ≡ met w t h → (j : ℕ) (lines : List Line) (new : Machine) → RaisesInThread here t r j lines new → j ≡ n → 1 ≤ n → Well new
  raises_well here so w h r can is j lines new (RaisesInThread.caught q run raised) all some = absurd (omega (arith, all, some))
  raises_well here so w h r can is j lines new (RaisesInThread.goes_down q run a i said end raised thrown) all some =
      let l = leads_well w t h r can here is q run (Unwinding.Uncaught a) raised in
      throws_well i (with_run q run) a said end thrown 0 (omega (arith, all))
      (falls_from m t p n (with_run q run) (works_on m t p here so q (record q.segment { frames = run.frames }) run.inside refl refl refl))
      l.sealed l.sound l.remains

  -- ---- The lowest frame of the top segment has returned.

  module _ (mid : Machine) (so : WorkedSo m t p mid) (sealed : IsSealed mid) (sound : HasSoundClasses mid)
      (left : (q : RunningSegment mid t) → q.segment.frames ≡ []) where
    abbrev f : Falls m t p n 0 mid
    f = falls_from m t p n mid so

    -- what can't be copied raises something of the domain below
    not_given : (s : TopTwo mid t) → s.left.segment.shared.orphan ≡ false → (r : Raise) → MayBeRaised mid.classes s.below.home.inside.heap r → (j : ℕ)
        (lines : List Line) (new : Machine) → RaisesInThread (without_top s.left) t r j lines new → suc j ≡ n → Well new
    not_given s alive r may j lines new (RaisesInThread.caught q run raised) all =
        caught_well 0 mid f s sealed (left s.left) alive (omega (arith, all)) all (with_run q run)
        (raised_below 0 mid f s (without_top s.left) (bare_stands 0 mid f s) r q run Unwinding.Caught raised)
    not_given s alive r may j lines new (RaisesInThread.goes_down q run a i said end raised thrown) all =
        let b = stands_brought mid t sealed sound s (left s.left) r may in
        let l = leads_well (without mid t sealed s (left s.left)) t b.met_there r b.may (without_top s.left) b.is q run (Unwinding.Uncaught a) raised in
        throws_well i (with_run q run) a said end thrown 1 (omega (arith, all))
        (falls_well 0 mid f s sealed (left s.left) alive (omega (arith, all)) (with_run q run) a
        (raised_below 0 mid f s (without_top s.left) (bare_stands 0 mid f s) r q run (Unwinding.Uncaught a) raised))
        l.sealed l.sound l.remains

    takes : (s : TopTwo mid t) → s.left.segment.shared.orphan ≡ false → 1 ≡ n → (heap : List NamedObject) (v : Option Value) (new : Machine)
        → Leaving s.below.segment.frames s.below.home.inside (with_heap s.below.home.inside heap) → Receives s.below heap v new → Well new
    takes s alive all heap v new leaving r =
        subst Well (sym r.leads)
        (takes_well 0 mid f s sealed (left s.left) alive (omega (arith, all)) all
        (record s.below.segment { frames = r.callers ++ resumed v r.caller ∷ [] }) (with_heap s.below.home.inside heap) refl leaving
        (r.callers, [], r.caller, resumed v r.caller, r.are_frames, refl, refl))

    pub returns_well : (v : Option Value) (j : ℕ) (lines : List Line) (new : Machine) → Returns mid t v j lines new → j ≡ n → Well new
    returns_well v j lines new (Returns.ends w q lowest) all = end_well 0 mid f all q lowest
    returns_well v j lines new (Returns.drops w s orphan) all = drops_well 0 mid f s all orphan
    returns_well v j lines new (Returns.gives_nothing s end alive r) all =
        takes s alive all s.below.home.inside.heap None end (leaves_same s.below.segment.frames s.below.home.inside) r
    returns_well v j lines new (Returns.gives y w s heap end alive passes r) all =
        takes s alive all heap (Some w) end
        (heap_leaving s.below.segment.frames s.below.home.inside passes.copy.made heap passes.copy.grown) r
    returns_well v j lines new (Returns.is_uncopiable y s i said end alive not raised) all =
        not_given s alive (Raised.Standing Stands.NotCopiable) tt i said end raised all
    returns_well v j lines new (Returns.is_too_large y s i said end alive large raised) all =
        not_given s alive (Raised.Standing Stands.OutOfMemoryError) tt i said end raised all
