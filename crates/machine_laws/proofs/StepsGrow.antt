-- Where another domain may be opened, it may be opened after each start, step and kill.
use Rattle.std.proofs.Common.{inl, inr, ◌≡◌, ℕ, ◌-◌, ◌&&◌, ◌==◌, ◌<◌, ◌⊎◌, Bool, true, false, cond, not, List, [], ◌∷◌, ◌++◌, filter, length, map, Contains, Option, Some, None, option_map, Result, Ok, Err, slice_get, refl, sym, ap, subst, ◌∙◌}
use Rattle.std.specs.Prelude.{bytes_eq}
use Rattle.std.proofs.lemmas.Bool.{eqb-true}
use Rattle.std.proofs.lemmas.List.Elements.{Contains-push_cases}
use Rattle.std.proofs.lemmas.Option.{same_Some, slice_get_within}
use Rattle.jk_model.specs.declared.identifiers.CapId.{CapId}
use Rattle.jk_model.specs.declared.identifiers.ClassId.{ClassId}
use Rattle.jk_model.specs.declared.identifiers.DomainId.{DomainId}
use Rattle.jk_model.specs.declared.identifiers.ThreadNo.{ThreadNo}
use Rattle.jk_model.specs.declared.output.Line.{Line}
use Rattle.jk_model.specs.declared.steps.Raise.{Raise}
use Rattle.jk_model.specs.declared.steps.Raise.TheVariants as Raised
use Rattle.jk_model.specs.declared.steps.Standing.TheVariants as Stands
use Rattle.jk_model.specs.declared.values.Value.{Value}
use Rattle.jk_model_classes.specs.Classes.{HasClass}
use Rattle.jk_model_domains.specs.declared.states.ClassState.TheVariants as State
use Rattle.jk_model_domains.specs.Objects.{NamedObject, Plain}
use Rattle.jk_model_domains.specs.OwnStates.{with_state}
use Rattle.jk_model_frames.specs.Frames.{FrameState}
use Rattle.jk_model_heaps.specs.declared.shapes.Unwound.{Unwound}
use Rattle.jk_model_heaps.specs.declared.shapes.Unwound.TheVariants as Ending
use Rattle.jk_model_heaps.specs.CalledFrames.{resumed}
use Rattle.jk_model_heaps.specs.Capabilities.{CapRange, Capability}
use Rattle.jk_model_heaps.specs.Heaps.{named}
use Rattle.jk_model_heaps.specs.SystemClasses.{EXCEPTION_IN_INITIALIZER_ERROR}
use Rattle.jk_model_heaps.specs.Throwables.{IsRaised}
use Rattle.jk_model_heaps.specs.Workings.{Inside, Request, Run, Setting, with_heap, with_own}
use Rattle.jk_model_heaps.specs.Workings.{Creates as AsksToCreate}
use Rattle.jk_model_running.specs.Raising.{RaisesIn}
use Rattle.jk_model_running.specs.Ways.{Asks, Went}
use Rattle.jk_model_sealing.specs.SealedInsides.{IsOfClass, Surroundings}
use Rattle.jk_model_sharing.specs.Answers.{Granted}
use Rattle.jk_model_sharing.specs.BoundNames.{BoundName, without_names_of}
use Rattle.jk_model_sharing.specs.CapabilityCalls.{Creates, Revokes, revoked_at, revoked_capability}
use Rattle.jk_model_sharing.specs.Segments.{SharedSegment, resumed_in, segments_left, stopped_in, suspended_in, with_revoked, with_stop}
use Rattle.jk_model_unwinding.specs.Unwinding.{LeavesFrame, LeavesFrames, LeavesInitialiser, Unwinds}
use Rattle.jk_model_machine_state.specs.Machines.{DomainState, Machine, Segment, Thread, is_live_domain, paid, segment_form, with_domain, with_inside, with_stacks, without_thread}
use Rattle.jk_model_machine_state.specs.Places.{LiveDomain, RunningSegment, first_segment, run_of, setting_of, with_flags, with_run, with_running, without_top}
use Rattle.jk_model_crossings.specs.Answers.{Receives, Returns}
use Rattle.jk_model_crossings.specs.DomainEnds.{Terminates, ended_domain, has_segments, without_segments_of}
use Rattle.jk_model_crossings.specs.RemoteCalls.{Enters, RemoteCall, arrived, departed}
use Rattle.jk_model_crossings.specs.Requests.{Grants, with_names}
use Rattle.jk_model_crossings.specs.Throwing.{Brings, RaisesInThread, Throws, TopTwo}
use Rattle.jk_model_runs.specs.Events.{Kills}
use Rattle.jk_model_runs.specs.Sealed.{surroundings}
use Rattle.jk_model_runs.specs.Starts.{Starts, StartWords, with_new_thread}
use Rattle.jk_model_runs.specs.Steps.{Acts, Deed, Ensues, StepsBy}
use Rattle.list_lemmas.proofs.FoundItems.{Finds, finds}
use Rattle.list_lemmas.proofs.ItemsByPlace.{ComesFrom, comes_from}
use Rattle.list_lemmas.proofs.ItemsOfLists.{Contains-at, Contains-cases, Contains-here, Contains-there, place_of}
use Rattle.heap_laws.proofs.ObjectsAfterChanges.{found_stands}
use Rattle.heap_laws.specs.SoundTables.{IsSoundTable}
use Rattle.row_laws.specs.KeptRuns.{FitsWent, KeepsRun}
use Rattle.row_laws.specs.LocalStepLaws.{LocalStepsKeep}
use Rattle.machine_laws.specs.KnownMachines.{IsKnownMachine}
use Rattle.machine_laws.specs.OpenedMachines.{MayGrow}
use Rattle.machine_laws.proofs.MachinesThatGrow.{AreNumbered, GrowsOn, IsClassOfMade, StaysPlaced, changed_grows, domains_stay, grows_after, grows_self, inside_grows, is_home, mapped_started, running_grows, segments_grow, still_grows, still_numbered}
use Rattle.machine_laws.proofs.PaidSteps.{known_paid}
use Rattle.machine_laws.proofs.RunningSegmentsFit.{acts_well}
use Rattle.machine_laws.proofs.FilteredItems.{filtered_from}

-- ---- What is raised in a segment leaves its domain where it is.

stays : (inside : Inside) → StaysPlaced inside inside
stays inside = (refl, refl)

is_there : (old new : Inside) → new ≡ old → StaysPlaced old new
is_there old new same = (ap (λ (i : Inside). i.heap_at) same, ap (λ (i : Inside). i.stack_at) same)

both : (a b c : Inside) → StaysPlaced a b → StaysPlaced b c → StaysPlaced a c
both a b c g h = (h.0 ∙ g.0, h.1 ∙ g.1)

raised_placed : (x : Setting) (old : Inside) (r : Raise) (new : Inside) (a : ℕ) → IsRaised x old r new a → StaysPlaced old new
raised_placed x old (Raised.Object b) new a (same, is) = is_there old new same
raised_placed x old (Raised.Standing s) new a (same, is) = is_there old new same
raised_placed x old (Raised.Fresh c) new a (inl (heap, makes, same)) = is_there (with_heap old heap) new same
raised_placed x old (Raised.Fresh c) new a (inr (lacks, same, is)) = is_there old new same

initialiser_placed : (x : Setting) (old : Inside) (a : ℕ) (new : Inside) (b : ℕ) → LeavesInitialiser x old a new b → StaysPlaced old new
initialiser_placed x old a new b (inl (error, same, is)) = is_there old new same
initialiser_placed x old a new b (inr (other, is)) =
    raised_placed x old (Raised.Fresh EXCEPTION_IN_INITIALIZER_ERROR) new b is

frame_placed : (x : Setting) (f : FrameState) (old : Inside) (a : ℕ) (new : Inside) (b : ℕ) → LeavesFrame x f old a new b → StaysPlaced old new
frame_placed x f old a new b (inl (plain, same, is)) = is_there old new same
frame_placed x f old a new b (inr (c, is, has, leaves)) =
    initialiser_placed x (with_own old (with_state old.own c State.Broken)) a new b leaves

frames_placed : (x : Setting) (frames : List FrameState) (old : Inside) (a : ℕ) (new : Inside) (b : ℕ) → LeavesFrames x frames old a new b
    → StaysPlaced old new
frames_placed x [] old a new b (same, is) = is_there old new same
frames_placed x (f ∷ upper) old a new b (mid, met, leaves, not, leaves_too) =
    both old mid new (frames_placed x upper old a mid met leaves) (frame_placed x f mid met new b leaves_too)

unwound_placed : (x : Setting) (old : Run) (a : ℕ) (ended : Unwound) (new : Run) → Unwinds x old a ended new → StaysPlaced old.inside new.inside
unwound_placed x old a Ending.Caught new h = frames_placed x h.upper old.inside a new.inside h.met h.leaves
unwound_placed x old a (Ending.Uncaught b) new h = frames_placed x old.frames old.inside a new.inside b h.0

raises_placed : (x : Setting) (old : Run) (r : Raise) (new : Run) (ended : Unwound) → RaisesIn x old r new ended → StaysPlaced old.inside new.inside
raises_placed x old r new ended h =
    both old.inside h.made new.inside (raised_placed x old.inside r h.made h.thrown h.is_raised)
    (unwound_placed x (record old { inside = h.made }) h.thrown ended new h.unwinds)

-- ---- The top segment.

abbrev pub Grown : Machine → Machine → Type 0
Grown m new = GrowsOn m new

run_grows : {m : Machine} {t : ThreadNo} → AreNumbered m → (p : RunningSegment m t) (run : Run) → StaysPlaced p.home.inside run.inside
    → Grown m (with_run p run)
run_grows numbered p run placed = running_grows numbered p (record p.segment { frames = run.frames }) run.inside placed

flags_grow : {m : Machine} {t : ThreadNo} → AreNumbered m → (p : RunningSegment m t) (shared : SharedSegment) → Grown m (with_flags p shared)
flags_grow numbered p shared = running_grows numbered p (record p.segment { shared = shared }) p.home.inside (stays p.home.inside)

top_grows : {m : Machine} {t : ThreadNo} (p : RunningSegment m t) → Grown m (without_top p)
top_grows {m = m} {t = t} p = segments_grow m t p.lower (without_top p) refl refl refl

end_grows : (t : ThreadNo) (m : Machine) → Grown m (without_thread t m)
end_grows t m =
    domains_stay m (without_thread t m) refl refl
    (λ thread on. inl (thread, filtered_from (λ (e : Thread). not (e.number.0 == t.0)) m.threads thread on, refl))

raise_grows : {m : Machine} {t : ThreadNo} → AreNumbered m → (p : RunningSegment m t) (r : Raise) (run : Run) (ended : Unwound)
    → RaisesIn (setting_of p) (run_of p) r run ended → Grown m (with_run p run)
raise_grows numbered p r run ended raised = run_grows numbered p run (raises_placed (setting_of p) (run_of p) r run ended raised)

-- the segment below is changed, in the machine without the top one
below_grows : {m : Machine} {t : ThreadNo} → AreNumbered m → (s : TopTwo m t) (r : Segment) (inside : Inside)
    → StaysPlaced s.below.home.inside inside → Grown m (with_running s.below r inside)
below_grows {m = m} numbered s r inside placed =
    grows_after m (without_top s.left) (with_running s.below r inside) (top_grows s.left)
    (running_grows (still_numbered m (without_top s.left) (top_grows s.left) numbered) s.below r inside placed)

revoked_below_grows : {m : Machine} {t : ThreadNo} → AreNumbered m → (s : TopTwo m t)
    → Grown m (with_flags s.below (with_revoked true s.below.segment.shared))
revoked_below_grows numbered s =
    below_grows numbered s (record s.below.segment { shared = with_revoked true s.below.segment.shared }) s.below.home.inside
    (stays s.below.home.inside)

-- ---- Throwables.

brings_grow : {m : Machine} {t : ThreadNo} → AreNumbered m → (s : TopTwo m t) (a : ℕ) (r : Raise) (mid : Machine) → Brings s a r mid → Grown m mid
brings_grow numbered s a r mid (Brings.is_death b death) = top_grows s.left
brings_grow numbered s a r mid (Brings.is_uncopiable b alive not) = top_grows s.left
brings_grow numbered s a r mid (Brings.is_too_large b alive large) = top_grows s.left
brings_grow numbered s a r mid (Brings.is_copied b alive heap c passes) =
    below_grows numbered s s.below.segment (record s.below.home.inside { heap = heap }) (refl, refl)

throws_grow : (t : ThreadNo) (n : ℕ) (m : Machine) (a : ℕ) (lines : List Line) (new : Machine) → AreNumbered m → Throws t n m a lines new → Grown m new
throws_grow t n m a lines new numbered (Throws.ends w b p class lowest orphan) = end_grows t w
throws_grow t n m a lines new numbered (Throws.ends_orphan w b p lowest orphan) = end_grows t w
throws_grow t n m a lines new numbered (Throws.drops w b s orphan) = revoked_below_grows numbered s
throws_grow t n m a lines new numbered (Throws.caught w mid b s r orphan brought p run raised) =
    let came = brings_grow numbered s b r mid brought in
    grows_after w mid (with_run p run) came (raise_grows (still_numbered w mid came numbered) p r run Ending.Caught raised)
throws_grow t n m a lines new numbered (Throws.goes_on k w mid end b c said s r orphan brought p run raised thrown) =
    let came = brings_grow numbered s b r mid brought in
    let numbered_there = still_numbered w mid came numbered in
    let went = raise_grows numbered_there p r run (Ending.Uncaught c) raised in
    let both_ways = grows_after w mid (with_run p run) came went in
    grows_after w (with_run p run) end both_ways
    (throws_grow t k (with_run p run) c said end (still_numbered w (with_run p run) both_ways numbered) thrown)

raises_grow : (m : Machine) (t : ThreadNo) (r : Raise) (n : ℕ) (lines : List Line) (new : Machine) → AreNumbered m → RaisesInThread m t r n lines new
    → Grown m new
raises_grow m t r n lines new numbered (RaisesInThread.caught p run raised) = raise_grows numbered p r run Ending.Caught raised
raises_grow m t r n lines new numbered (RaisesInThread.goes_down p run a k said end raised thrown) =
    let went = raise_grows numbered p r run (Ending.Uncaught a) raised in
    grows_after m (with_run p run) end went (throws_grow t k (with_run p run) a said end (still_numbered m (with_run p run) went numbered) thrown)

-- ---- Answers.

receives_grow : {m : Machine} {t : ThreadNo} → AreNumbered m → (p : RunningSegment m t) (heap : List NamedObject) (v : Option Value) (new : Machine)
    → Receives p heap v new → Grown m new
receives_grow {m = m} numbered p heap v new h =
    subst (λ (x : Machine). Grown m x) (sym h.leads)
    (running_grows numbered p (record p.segment { frames = after }) (record p.home.inside { heap = heap }) (refl, refl))
  where
    after : List FrameState
    after = h.callers ++ resumed v h.caller ∷ []

-- what follows in the machine without the top segment
after_top : {m : Machine} {t : ThreadNo} (p : RunningSegment m t) (new : Machine) → AreNumbered m
    → (AreNumbered (without_top p) → Grown (without_top p) new) → Grown m new
after_top {m = m} p new numbered h =
    grows_after m (without_top p) new (top_grows p) (h (still_numbered m (without_top p) (top_grows p) numbered))

returns_grow : (m : Machine) (t : ThreadNo) (v : Option Value) (n : ℕ) (lines : List Line) (new : Machine) → AreNumbered m → Returns m t v n lines new
    → Grown m new
returns_grow m t v n lines new numbered (Returns.ends w p lowest) = end_grows t m
returns_grow m t v n lines new numbered (Returns.drops w s orphan) = revoked_below_grows numbered s
returns_grow m t v n lines new numbered (Returns.gives_nothing s end orphan received) =
    after_top s.left end numbered (λ there. receives_grow there s.below s.below.home.inside.heap None end received)
returns_grow m t v n lines new numbered (Returns.gives x w s heap end orphan passes received) =
    after_top s.left end numbered (λ there. receives_grow there s.below heap (Some w) end received)
returns_grow m t v n lines new numbered (Returns.is_uncopiable x s k said end orphan not raised) =
    after_top s.left end numbered (λ there. raises_grow (without_top s.left) t (Raised.Standing Stands.NotCopiable) k said end there raised)
returns_grow m t v n lines new numbered (Returns.is_too_large x s k said end orphan large raised) =
    after_top s.left end numbered (λ there. raises_grow (without_top s.left) t (Raised.Standing Stands.OutOfMemoryError) k said end there raised)

-- ---- Calls.

set_by : (b : Bool) (e : DomainState) (inside : Inside) → (b ≡ true → e.inside ≡ Some inside)
    → (cond b (record e { inside = Some inside }) e).inside ≡ e.inside
set_by true e inside has = sym (has refl)
set_by false e inside has = refl

enters_grow : {m : Machine} {t : ThreadNo} → AreNumbered m → (c : RemoteCall m t) (new : Machine) → Enters c new → Grown m new
enters_grow {m = m} {t = t} numbered c new h =
    subst (λ (x : Machine). Grown m x) (sym h.leads) (grows_after m (departed c) here left (grows_after (departed c) mid here came more))
  where
    owner : LiveDomain m c.known.owner
    owner = h.is_open.has_target.is_shown.live.owner

    here : Machine
    here = arrived owner t h.heap h.frame (departed c)

    mid : Machine
    mid = with_inside c.known.owner (with_heap owner.inside h.heap) (departed c)

    left : Grown m (departed c)
    left =
        running_grows numbered c.place (record c.place.segment { frames = c.callers ++ record c.frame { stack = c.below } ∷ [] })
        c.place.home.inside (stays c.place.home.inside)

    -- the owner has what it had, be it the domain of the caller or another one
    owned : (i : ℕ) (e : DomainState) → slice_get (departed c).domains i ≡ Some e → e.number.0 ≡ c.known.owner.0 → e.inside ≡ Some owner.inside
    owned i e at same = of_before (comes_from set m.domains i e at)
      where
        set : DomainState → DomainState
        set x = cond (x.number.0 == c.place.segment.shared.domain.0) (record x { inside = Some c.place.home.inside }) x

        number_stays : (b : Bool) (x : DomainState) → (cond b (record x { inside = Some c.place.home.inside }) x).number ≡ x.number
        number_stays true x = refl
        number_stays false x = refl

        of_before : ComesFrom set m.domains i e → e.inside ≡ Some owner.inside
        of_before from =
            let before : DomainState = from.from in
            let number : before.number.0 ≡ c.known.owner.0 =
            sym (ap (λ (n : DomainId). n.0) (number_stays (before.number.0 == c.place.segment.shared.domain.0) before))
            ∙ ap (λ (x : DomainState). x.number.0) from.gives ∙ same in
            ap (λ (x : DomainState). x.inside) (sym from.gives)
            ∙ set_by (before.number.0 == c.place.segment.shared.domain.0) before c.place.home.inside
            (λ is. ap (λ (x : DomainState). x.inside)
            (sym (is_home m numbered c.place.segment.shared.domain c.place.home i before from.there
            (eqb-true before.number.0 c.place.segment.shared.domain.0 is))) ∙ c.place.home.is_inside)
            ∙ ap (λ (x : DomainState). x.inside) (sym (is_home m numbered c.known.owner owner i before from.there number)) ∙ owner.is_inside

    came : Grown (departed c) mid
    came =
        changed_grows (departed c) c.known.owner (λ (e : DomainState). record e { inside = Some (with_heap owner.inside h.heap) })
        (λ i e at same. record {
          before = e;
          at = at;
          number = refl;
          quotas = refl;
          placed = λ x is. (owner.inside, owned i e at same, is_there (with_heap owner.inside h.heap) x (sym (same_Some (with_heap owner.inside h.heap) x is)));
          made = λ k on. inl (k, on, refl);
        })

    on_top : (b : Bool) (s : Segment) (e : Thread) → (cond b (record e { segments = e.segments ++ s ∷ [] }) e).domain ≡ e.domain
    on_top true s e = refl
    on_top false s e = refl

    more : Grown mid here
    more =
        domains_stay mid here refl refl
        (λ thread on.
        mapped_started mid
        (λ (e : Thread). cond (e.number.0 == t.0) (record e { segments = e.segments ++ first_segment mid c.known.owner h.frame ∷ [] }) e)
        (λ e. on_top (e.number.0 == t.0) (first_segment mid c.known.owner h.frame) e) thread on)

-- ---- Requests: a capability that is created is of a class that is there.

created_made : (classes : ClassId → Type 0) (r : CapRange) (class : ClassId) (target : ℕ) (answer : Result CapId Raise) (range : CapRange)
    → Creates r class target answer range → classes class → (c : Capability) → Contains range.made c → IsClassOfMade r.made c.class ⊎ classes c.class
created_made classes r class target answer range (Creates.used_up full) there c on = inl (c, on, refl)
created_made classes r class target answer range (Creates.has_room room) there c on =
    elim (Contains-push_cases r.made (record { target = target; class = class; revoked = false }) c on) [
      | inl old ↦ inl (c, old, refl)
      | inr new ↦ inr (subst (λ (k : Capability). classes k.class) new there)
    ]

later_made : (c : Capability) (made : List Capability) (k : ClassId) → IsClassOfMade made k → IsClassOfMade (c ∷ made) k
later_made c made k (b, on, same) = (b, Contains-there b c made on, same)

revoked_by : (b : Bool) (c k : Capability) (made rest : List Capability) → (Contains rest k → IsClassOfMade made k.class)
    → Contains (cond b (revoked_capability c ∷ made) (c ∷ rest)) k → IsClassOfMade (c ∷ made) k.class
revoked_by true c k made rest later on = elim (Contains-cases k (revoked_capability c) made on) [
  | inl same ↦ (c, Contains-here c made, ap (λ (x : Capability). x.class) (sym same))
  | inr there ↦ (k, Contains-there k c made there, refl)
]
revoked_by false c k made rest later on = elim (Contains-cases k c rest on) [
  | inl same ↦ (c, Contains-here c made, ap (λ (x : Capability). x.class) (sym same))
  | inr there ↦ later_made c made k.class (later there)
]

revoked_made : (made : List Capability) (place : ℕ) (k : Capability) → Contains (revoked_at made place) k → IsClassOfMade made k.class
revoked_made [] place k on = (k, on, refl)
revoked_made (c ∷ made) place k on =
    revoked_by (place == 0) c k made (revoked_at made (place - 1)) (revoked_made made (place - 1) k) on

range_made : (r : CapRange) (k : CapId) (answer : Result (Unit {0}) Raise) (range : CapRange) → Revokes r k answer range → (c : Capability)
    → Contains range.made c → IsClassOfMade r.made c.class
range_made r k answer range (Revokes.of_another other) c on = (c, on, refl)
range_made r k answer range (Revokes.own own) c on = revoked_made r.made (k.0 - r.first) c on

module _ {m : Machine} {t : ThreadNo} (numbered : AreNumbered m) (p : RunningSegment m t) where
  range_grows : (range : CapRange)
      → ((c : Capability) → Contains range.made c → IsClassOfMade p.home.domain.caps.made c.class ⊎ HasClass m.classes c.class)
      → Grown m (with_domain p.home.domain.number (λ (e : DomainState). record e { caps = range }) m)
  range_grows range made =
      changed_grows m p.home.domain.number (λ (e : DomainState). record e { caps = range })
      (λ i e at same. record {
        before = e;
        at = at;
        number = refl;
        quotas = refl;
        placed = λ x is. (x, is, (refl, refl));
        made = λ c on.
            subst (λ (x : DomainState). IsClassOfMade x.caps.made c.class ⊎ HasClass m.classes c.class)
            (is_home m numbered p.segment.shared.domain p.home i e at (same ∙ ap (λ (n : DomainId). n.0) p.home.numbered)) (made c on);
      })

  stacks_grow : (change : List Segment → List Segment) → Grown m (with_stacks change m)
  stacks_grow change =
      domains_stay m (with_stacks change m) refl refl
      (λ thread on. mapped_started m (λ (e : Thread). record e { segments = change e.segments }) (λ e. refl) thread on)

  names_grow : (names : List BoundName) → Grown m (with_names names m)
  names_grow names = domains_stay m (with_names names m) refl refl (λ thread on. inl (thread, on, refl))

  grants_grow : (request : Request) (granted : Granted) (mid : Machine)
      → ((class : ClassId) (target : ℕ) → request ≡ AsksToCreate class target → HasClass m.classes class) → Grants p request granted mid → Grown m mid
  grants_grow request granted mid there (Grants.creates class target answer range g created is) =
      range_grows range (created_made (HasClass m.classes) p.home.domain.caps class target answer range created (there class target refl))
  grants_grow request granted mid there (Grants.revokes k answer range g revoked is) =
      range_grows range (λ c on. inl (range_made p.home.domain.caps k answer range revoked c on))
  grants_grow request granted mid there (Grants.binds text k answer names g bound is) = names_grow names
  grants_grow request granted mid there (Grants.looks_up text found looked) = grows_self m
  grants_grow request granted mid there (Grants.unbinds text answer names g unbound is) = names_grow names
  grants_grow request granted mid there (Grants.suspends s) = stacks_grow (suspended_in segment_form s)
  grants_grow request granted mid there (Grants.resumes s) = stacks_grow (resumed_in segment_form s)
  grants_grow request granted mid there (Grants.stops s) = stacks_grow (stopped_in segment_form s)

-- ---- Ends.

ended_made : (made : List Capability) (c : Capability) → Contains (map revoked_capability made) c → IsClassOfMade made c.class
ended_made made c on =
    let at = place_of (map revoked_capability made) c on in
    let from = comes_from revoked_capability made at.0 c at.1 in
    (from.from, Contains-at made at.0 from.from from.there, ap (λ (x : Capability). x.class) (sym from.gives))

terminates_grow : (m new : Machine) (d : DomainState) (lines : List Line) → Terminates m d lines new → Grown m new
terminates_grow m new d lines h =
    subst (λ (x : Machine). Grown m x) (sym leads_to) (grows_after m ended last ended_grows last_grows)
  where
    ended : Machine
    ended = with_domain d.number ended_domain m

    cut : Machine
    cut = without_segments_of d.number ended

    last : Machine
    last = record cut { names = without_names_of d.number cut.names; threads = filter has_segments cut.threads }

    leads_to : new ≡ last
    leads_to =
        h.leads ∙ ap (λ (x : Machine). record x { names = without_names_of d.number x.names; threads = filter has_segments x.threads }) h.is_cut

    ended_grows : Grown m ended
    ended_grows =
        changed_grows m d.number ended_domain
        (λ i e at same. record {
          before = e;
          at = at;
          number = refl;
          quotas = refl;
          placed = λ x is. absurd cc;
          made = λ c on. inl (ended_made e.caps.made c on);
        })

    last_grows : Grown ended last
    last_grows =
        domains_stay ended last refl refl
        (λ thread on.
        mapped_started ended (λ (e : Thread). record e { segments = segments_left segment_form d.number e.segments }) (λ e. refl) thread
        (filtered_from has_segments cut.threads thread on))

pub kills_grow : (m new : Machine) (name : List ℕ) (lines : List Line) → Kills m name lines new → Grown m new
kills_grow m new name lines (Kills.no_domain none) = grows_self m
kills_grow m new name lines (Kills.kills d said end found ends) = terminates_grow m end d said ends

-- ---- A step.

ensues_grow : (m : Machine) (t : ThreadNo) (went : Went) (deed : Deed) (lines : List Line) (new : Machine) → AreNumbered m
    → ((class : ClassId) (target : ℕ) → went ≡ Asks (AsksToCreate class target) → HasClass m.classes class) → Ensues m t went deed lines new → Grown m new
ensues_grow m t went deed lines new numbered there Ensues.goes_on = grows_self m
ensues_grow m t went deed lines new numbered there (Ensues.says p text) = grows_self m
ensues_grow m t went deed lines new numbered there (Ensues.ended v n said end h) = returns_grow m t v n said end numbered h
ensues_grow m t went deed lines new numbered there (Ensues.left a n said end h) = throws_grow t n m a said end numbered h
ensues_grow m t went deed lines new numbered there (Ensues.enters k method c end of_cap of_method h) = enters_grow numbered c end h
ensues_grow m t went deed lines new numbered there (Ensues.is_refused k method c r n said end of_cap of_method refused h) =
    raises_grow m t r n said end numbered h
ensues_grow m t went deed lines new numbered there (Ensues.grants p request v mid end granted q received) =
    let first = grants_grow numbered p request (Ok v) mid (λ class target is. there class target (ap Asks is)) granted in
    grows_after m mid end first (receives_grow (still_numbered m mid first numbered) q q.home.inside.heap v end received)
ensues_grow m t went deed lines new numbered there (Ensues.denies p request r n said mid end granted h) =
    let first = grants_grow numbered p request (Err r) mid (λ class target is. there class target (ap Asks is)) granted in
    grows_after m mid end first (raises_grow mid t r n said end (still_numbered m mid first numbered) h)
ensues_grow m t went deed lines new numbered there (Ensues.terminates p said end h) = terminates_grow m end p.home.domain said h

-- what is asked for by a segment that ran is of a class that is there
asked_there : (around : Surroundings) (x : Setting) (t : ThreadNo) (old new : Run) (went : Went) → IsSoundTable around.classes around.table
    → KeepsRun around x t old new went → (class : ClassId) (target : ℕ) → went ≡ Asks (AsksToCreate class target) → HasClass around.classes class
asked_there around x t old new went sound keeps class target is =
    let fits : FitsWent around old new (Asks (AsksToCreate class target)) = subst (FitsWent around old new) is keeps.fits in
    let object : IsOfClass new.inside.heap target class = fits.1.1.known.0 in
    let sealed =
    keeps.inside.sealed.objects (named target (Plain class object.0)) (found_stands target (Plain class object.0) new.inside.heap object.1) in
    let there = sound.closed class sealed.0 in
    slice_get_within around.classes class.0 there.0 there.1

module _ (steps : LocalStepsKeep) where
  acts_grow : (m : Machine) (t : ThreadNo) (deed : Deed) (lines : List Line) (new : Machine) → IsKnownMachine m → Acts m t deed lines new → Grown m new
  acts_grow m t deed lines new known (Acts.stops p n said end stop h) =
      let shared : SharedSegment = with_stop false p.segment.shared in
      let first = flags_grow known.0.0.domains.numbered p shared in
      grows_after m (with_flags p shared) end first
      (raises_grow (with_flags p shared) t (Raised.Standing Stands.ThreadDeath) n said end
      (still_numbered m (with_flags p shared) first known.0.0.domains.numbered) h)
  acts_grow m t deed lines new known (Acts.is_revoked p n said end stop revoked h) =
      let shared : SharedSegment = with_revoked false p.segment.shared in
      let first = flags_grow known.0.0.domains.numbered p shared in
      grows_after m (with_flags p shared) end first
      (raises_grow (with_flags p shared) t (Raised.Standing Stands.Revoked) n said end
      (still_numbered m (with_flags p shared) first known.0.0.domains.numbered) h)
  acts_grow m t deed lines new known (Acts.does p run went done said end stop revoked step h) =
      let around : Surroundings = surroundings m p.home.domain in
      let keeps = steps around (setting_of p) t (run_of p) run went (acts_well m t p known revoked) step in
      let first = run_grows known.0.0.domains.numbered p run keeps.inside.pages in
      let sound = known.1.tables p.home.domain (Contains-at m.domains p.segment.shared.domain.0 p.home.domain p.home.is_domain) in
      grows_after m (with_run p run) end first
      (ensues_grow (with_run p run) t went done said end (still_numbered m (with_run p run) first known.0.0.domains.numbered)
      (asked_there around (setting_of p) t (run_of p) run went sound keeps) h)

  paid_grows : (m : Machine) (d : DomainId) → Grown m (paid d m)
  paid_grows m d =
      changed_grows m d (λ (e : DomainState). record e { steps_left = option_map (λ (n : ℕ). n - 1) e.steps_left })
      (λ i e at same. record {
        before = e;
        at = at;
        number = refl;
        quotas = refl;
        placed = λ x is. (x, is, (refl, refl));
        made = λ c on. inl (c, on, refl);
      })

  pub step_grows : (m new : Machine) (t : ThreadNo) (deed : Deed) (lines : List Line) → IsKnownMachine m → StepsBy m t deed lines new → Grown m new
  step_grows m new t deed lines known (StepsBy.not_live gone) = grows_self m
  step_grows m new t deed lines known (StepsBy.is_held p held) = grows_self m
  step_grows m new t deed lines known (StepsBy.is_spent p free spent) = grows_self m
  step_grows m new t deed lines known (StepsBy.acts p done said end free rich h) =
      let d : DomainId = p.segment.shared.domain in
      grows_after m (paid d m) end (paid_grows m d) (acts_grow (paid d m) t done said end (known_paid m d known) h)

  pub steps_may_grow : (m new : Machine) (t : ThreadNo) (deed : Deed) (lines : List Line) → IsKnownMachine m → MayGrow m → StepsBy m t deed lines new
      → MayGrow new
  steps_may_grow m new t deed lines known may h = still_grows m new (step_grows m new t deed lines known h) may

pub kills_may_grow : (m new : Machine) (name : List ℕ) (lines : List Line) → MayGrow m → Kills m name lines new → MayGrow new
kills_may_grow m new name lines may h = still_grows m new (kills_grow m new name lines h) may

-- ---- A start.

module _ (m : Machine) (numbered : AreNumbered m) (d : DomainState) (k : ℕ) (at : slice_get m.domains k ≡ Some d) (inside : Inside)
    (lives : d.inside ≡ Some inside) (made : Inside) (placed : StaysPlaced inside made) (frame : FrameState) where
  abbrev home : LiveDomain m d.number
  home = record {
    domain = d;
    is_domain = ap (slice_get m.domains) (numbered k d at) ∙ at;
    numbered = refl;
    inside = inside;
    is_inside = lives;
  }

  abbrev mid : Machine
  mid = with_inside d.number made m

  begun_grows : Grown m (with_new_thread d.number frame mid)
  begun_grows =
      let first = inside_grows m numbered d.number home made placed in
      grows_after m mid (with_new_thread d.number frame mid) first
      (domains_stay mid (with_new_thread d.number frame mid) refl refl
      (λ thread on.
      elim (Contains-push_cases m.threads
      (record { number = record { 0 = m.next_thread }; domain = d.number; segments = first_segment mid d.number frame ∷ [] }) thread on) [
        | inl old ↦ inl (thread, old, refl)
        | inr new ↦
            inr (subst (λ (e : Thread). e.domain.0 < length mid.domains) new
            (subst (λ (n : ℕ). n < length mid.domains) (sym (numbered k d at))
            (subst (λ (n : ℕ). k < n) (sym first.as_many) (slice_get_within m.domains k d at))))
      ]))

pub start_grows : (m : Machine) (start : StartWords) (lines : List Line) (new : Machine) → IsKnownMachine m → Starts m start lines new → Grown m new
start_grows m start lines new known (Starts.no_domain none) = grows_self m
start_grows m start lines new known (Starts.no_class h none) = grows_self m
start_grows m start lines new known (Starts.no_main h none) = grows_self m
start_grows m start lines new known (Starts.many_threads h many) = grows_self m
start_grows m start lines new known (Starts.many_words h few lacks) = grows_self m
start_grows m start lines new known (Starts.few_chunks h few fit lacks) = grows_self m
start_grows m start lines new known (Starts.begins h few room heap words frame called) =
    let d : DomainState = h.in_class.in_domain.domain in
    let inside : Inside = h.in_class.in_domain.inside in
    let at =
    subst (Finds (λ (e : DomainState). is_live_domain e && bytes_eq e.name start.domain) m.domains) h.in_class.in_domain.found
    (finds (λ (e : DomainState). is_live_domain e && bytes_eq e.name start.domain) m.domains) in
    begun_grows m known.0.0.domains.numbered d at.0 at.1 inside h.in_class.in_domain.is_inside (with_heap inside heap) (refl, refl)
    (record frame { head = record frame.head { need = Some h.in_class.class } })

pub starts_may_grow : (m : Machine) (start : StartWords) (lines : List Line) (new : Machine) → IsKnownMachine m → MayGrow m
    → Starts m start lines new → MayGrow new
starts_may_grow m start lines new known may starts = still_grows m new (start_grows m start lines new known starts) may
