-- What is raised in a segment adds objects to its domain's heap, and breaks classes whose initialisers it leaves; nothing else of the domain changes.
use Rattle.std.proofs.Common.{◌≡◌, ◌⊎◌, inl, inr, ℕ, ◌≤◌, ◌==◌, Bool, true, false, cond, List, [], ◌∷◌, ◌++◌, append_assoc, append-nil, find, map, Contains, Option, Some, None, refl, sym, ap, subst, ◌∙◌, arith, eqb-true}
use Rattle.std.specs.Prelude.{option_and_then}
use Rattle.std.specs.Option.{option_map, option_map_or}
use Rattle.std.proofs.lemmas.List.Elements.{Contains-append_right}
use Rattle.jk_model.specs.declared.identifiers.ClassId.{ClassId}
use Rattle.jk_model.specs.declared.identifiers.MemberId.{MemberId}
use Rattle.jk_model.specs.declared.identifiers.ThreadNo.{ThreadNo}
use Rattle.jk_model.specs.declared.steps.Raise.{Raise}
use Rattle.jk_model.specs.declared.steps.Raise.TheVariants as Raised
use Rattle.jk_model_domains.specs.declared.states.ClassState.{ClassState}
use Rattle.jk_model_domains.specs.declared.states.ClassState.TheVariants as State
use Rattle.jk_model_domains.specs.Objects.{NamedObject}
use Rattle.jk_model_domains.specs.OwnStates.{ClassPart, OwnState, part_of, state_of, static_in, static_of, with_state}
use Rattle.jk_model_frames.specs.Frames.{FrameState}
use Rattle.jk_model_heaps.specs.declared.shapes.Unwound.{Unwound}
use Rattle.jk_model_heaps.specs.declared.shapes.Unwound.TheVariants as Unwinding
use Rattle.jk_model_heaps.specs.SystemClasses.{EXCEPTION_IN_INITIALIZER_ERROR}
use Rattle.jk_model_heaps.specs.Throwables.{IsRaised}
use Rattle.jk_model_heaps.specs.Workings.{Inside, Run, Setting, with_own}
use Rattle.jk_model_running.specs.Raising.{RaisesIn}
use Rattle.jk_model_sealing.specs.ClassesInProgress.{initialises, progress_by}
use Rattle.jk_model_unwinding.specs.Unwinding.{IsCaughtIn, LeavesFrame, LeavesFrames, LeavesInitialiser, Unwinds}
use Rattle.heap_laws.specs.ClassesInProgress.{AreInProgress, count_initialisers}
use Rattle.list_lemmas.proofs.FoundItems.{Finds, finds}
use Rattle.list_lemmas.proofs.ItemsOfLists.{Contains-cases, Contains-here, Contains-none, Contains-there}
use Rattle.row_laws.proofs.StatesOfFrames.{counted}

-- ---- One class is broken.

found_by : {X : Type 0} (g : X → X) (b c : Bool) (x : X) (old new : Option X) → c ≡ b → new ≡ option_map g old
    → cond c (Some (g x)) new ≡ option_map g (cond b (Some x) old)
found_by g true true x old new e h = refl
found_by g true false x old new e h = absurd cc
found_by g false true x old new e h = absurd cc
found_by g false false x old new e h = h

found_changed : {X : Type 0} (g : X → X) (test : X → Bool) → ((x : X) → test (g x) ≡ test x) → (xs : List X)
    → find test (map g xs) ≡ option_map g (find test xs)
found_changed g test alike [] = refl
found_changed g test alike (x ∷ xs) =
    found_by g (test x) (test (g x)) x (find test xs) (find test (map g xs)) (alike x) (found_changed g test alike xs)

module _ (own : OwnState) (c : ClassId) where
  abbrev breaks : ClassPart → ClassPart
  breaks e = cond (e.class.0 == c.0) (record e { state = State.Broken }) e

  abbrev broken : OwnState
  broken = with_state own c State.Broken

  class_by : (b : Bool) (e : ClassPart) → (cond b (record e { state = State.Broken }) e).class ≡ e.class
  class_by true e = refl
  class_by false e = refl

  part_broken : (d : ClassId) → part_of broken d ≡ option_map breaks (part_of own d)
  part_broken d =
      found_changed breaks (λ (e : ClassPart). e.class.0 == d.0)
      (λ e. ap (λ (k : ClassId). k.0 == d.0) (class_by (e.class.0 == c.0) e)) own.classes

  state_by : (d : ClassId) (o : Option ClassPart) → Finds (λ (e : ClassPart). e.class.0 == d.0) own.classes o
      → (option_map_or (λ (e : ClassPart). e.state) (option_map breaks o) State.Done ≡ option_map_or (λ (e : ClassPart). e.state) o State.Done)
      ⊎ ((option_map_or (λ (e : ClassPart). e.state) (option_map breaks o) State.Done ≡ State.Broken) × (c ≡ d))
  state_by d None h = inl refl
  state_by d (Some e) h = by (e.class.0 == c.0) refl
    where
      by : (b : Bool) → (e.class.0 == c.0) ≡ b
          → ((breaks e).state ≡ e.state) ⊎ (((breaks e).state ≡ State.Broken) × (c ≡ d))
      by true is =
          inr (
            ap (λ (b : Bool). (cond b (record e { state = State.Broken }) e).state) is,
            (λ i. record { 0 = (sym (eqb-true e.class.0 c.0 is) ∙ eqb-true e.class.0 d.0 h.2) i }),
          )
      by false is = inl (ap (λ (b : Bool). (cond b (record e { state = State.Broken }) e).state) is)

  pub state_broken : (d : ClassId) → (state_of broken d ≡ state_of own d) ⊎ ((state_of broken d ≡ State.Broken) × (c ≡ d))
  state_broken d =
      subst
      (λ (o : Option ClassPart). (option_map_or (λ (e : ClassPart). e.state) o State.Done ≡ state_of own d)
      ⊎ ((option_map_or (λ (e : ClassPart). e.state) o State.Done ≡ State.Broken) × (c ≡ d)))
      (sym (part_broken d)) (state_by d (part_of own d) (finds (λ (e : ClassPart). e.class.0 == d.0) own.classes))

  static_by : (index : ℕ) (o : Option ClassPart) → option_and_then (static_in index) (option_map breaks o) ≡ option_and_then (static_in index) o
  static_by index None = refl
  static_by index (Some e) = by (e.class.0 == c.0)
    where
      by : (b : Bool) → static_in index (cond b (record e { state = State.Broken }) e) ≡ static_in index e
      by true = refl
      by false = refl

  pub static_broken : (m : MemberId) → static_of broken m ≡ static_of own m
  static_broken m = ap (option_and_then (static_in m.index)) (part_broken m.class) ∙ static_by m.index (part_of own m.class)

-- ---- Frames are left.

-- one of the frames initialises the class
abbrev pub Initialises : List FrameState → ClassId → Type 0
Initialises frames c = (f : FrameState) × Contains frames f × (f.head.initialises ≡ Some c)

pub record BreaksOwn (frames : List FrameState) (old new : OwnState) : Type 0 where
  pub states : (c : ClassId) → (state_of new c ≡ state_of old c) ⊎ ((state_of new c ≡ State.Broken) × Initialises frames c)
  pub statics : (m : MemberId) → static_of new m ≡ static_of old m
  pub rest : (new.literals ≡ old.literals) × (new.out ≡ old.out) × (new.standing ≡ old.standing)

pub record Leaving (frames : List FrameState) (old new : Inside) : Type 0 where
  pub more : List NamedObject
  pub own : BreaksOwn frames old.own new.own
  pub is : new ≡ record old { own = new.own; heap = old.heap ++ more }

same_own : (frames : List FrameState) (own : OwnState) → BreaksOwn frames own own
same_own frames own = record { states = λ c. inl refl; statics = λ m. refl; rest = (refl, refl, refl) }

pub leaves_same : (frames : List FrameState) (inside : Inside) → Leaving frames inside inside
leaves_same frames inside = record {
  more = [];
  own = same_own frames inside.own;
  is = λ i. record inside { heap = sym (append-nil inside.heap) i };
}

same_leaving : (frames : List FrameState) (old new : Inside) → new ≡ old → Leaving frames old new
same_leaving frames old new is = subst (Leaving frames old) (sym is) (leaves_same frames old)

pub heap_leaving : (frames : List FrameState) (old : Inside) (more heap : List NamedObject) → heap ≡ old.heap ++ more
    → Leaving frames old (record old { heap = heap })
heap_leaving frames old more heap is = record {
  more = more;
  own = same_own frames old.own;
  is = λ i. record old { heap = is i };
}

pub both_leave : (front back frames : List FrameState) (a b c : Inside) → ((f : FrameState) → Contains front f → Contains frames f)
    → ((f : FrameState) → Contains back f → Contains frames f) → Leaving front a b → Leaving back b c → Leaving frames a c
both_leave front back frames a b c in_front in_back g h = record {
  more = g.more ++ h.more;
  own = record {
    states = λ k. by k (g.own.states k) (h.own.states k);
    statics = λ m. h.own.statics m ∙ g.own.statics m;
    rest = (h.own.rest.0 ∙ g.own.rest.0, h.own.rest.1 ∙ g.own.rest.1, h.own.rest.2 ∙ g.own.rest.2);
  };
  is = h.is
      ∙ (λ i. record (g.is i) { own = c.own; heap = (ap (λ (x : Inside). x.heap ++ h.more) g.is ∙ append_assoc a.heap g.more h.more) i });
}
  where
    by : (k : ClassId) → (state_of b.own k ≡ state_of a.own k) ⊎ ((state_of b.own k ≡ State.Broken) × Initialises front k)
        → (state_of c.own k ≡ state_of b.own k) ⊎ ((state_of c.own k ≡ State.Broken) × Initialises back k)
        → (state_of c.own k ≡ state_of a.own k) ⊎ ((state_of c.own k ≡ State.Broken) × Initialises frames k)
    by k (inl x) (inl y) = inl (y ∙ x)
    by k (inl x) (inr (is, (f, on, of))) = inr (is, (f, in_back f on, of))
    by k (inr (is, (f, on, of))) (inl y) = inr (y ∙ is, (f, in_front f on, of))
    by k (inr (is, first)) (inr (now, (g, there, of))) = inr (now, (g, in_back g there, of))

raised_leaves : (frames : List FrameState) (x : Setting) (old : Inside) (r : Raise) (new : Inside) (a : ℕ) → IsRaised x old r new a
    → Leaving frames old new
raised_leaves frames x old (Raised.Object b) new a (same, is) = same_leaving frames old new same
raised_leaves frames x old (Raised.Standing s) new a (same, is) = same_leaving frames old new same
raised_leaves frames x old (Raised.Fresh c) new a (inl (heap, makes, same)) =
    subst (Leaving frames old) (sym same) (heap_leaving frames old _ heap makes.grown)
raised_leaves frames x old (Raised.Fresh c) new a (inr (lacks, same, is)) = same_leaving frames old new same

initialiser_leaves : (frames : List FrameState) (x : Setting) (old : Inside) (a : ℕ) (new : Inside) (b : ℕ) → LeavesInitialiser x old a new b
    → Leaving frames old new
initialiser_leaves frames x old a new b (inl (error, same, is)) = same_leaving frames old new same
initialiser_leaves frames x old a new b (inr (other, is)) =
    raised_leaves frames x old (Raised.Fresh EXCEPTION_IN_INITIALIZER_ERROR) new b is

breaks_own : (f : FrameState) (frames : List FrameState) (c : ClassId) → f.head.initialises ≡ Some c → (inside : Inside)
    → Leaving (f ∷ frames) inside (with_own inside (with_state inside.own c State.Broken))
breaks_own f frames c of inside = record {
  more = [];
  own = record {
    states = λ d. by d (state_broken inside.own c d);
    statics = static_broken inside.own c;
    rest = (refl, refl, refl);
  };
  is = λ i. record inside { own = with_state inside.own c State.Broken; heap = sym (append-nil inside.heap) i };
}
  where
    by : (d : ClassId) → (state_of (with_state inside.own c State.Broken) d ≡ state_of inside.own d)
        ⊎ ((state_of (with_state inside.own c State.Broken) d ≡ State.Broken) × (c ≡ d))
        → (state_of (with_state inside.own c State.Broken) d ≡ state_of inside.own d)
        ⊎ ((state_of (with_state inside.own c State.Broken) d ≡ State.Broken) × Initialises (f ∷ frames) d)
    by d (inl same) = inl same
    by d (inr (is, same)) = inr (is, (f, Contains-here f frames, of ∙ ap (λ (k : ClassId). Some k) same))

frame_leaves : (f : FrameState) (x : Setting) (old : Inside) (a : ℕ) (new : Inside) (b : ℕ) → LeavesFrame x f old a new b → Leaving (f ∷ []) old new
frame_leaves f x old a new b (inl (plain, same, is)) = same_leaving (f ∷ []) old new same
frame_leaves f x old a new b (inr (c, is, has, leaves)) =
    both_leave (f ∷ []) (f ∷ []) (f ∷ []) old (with_own old (with_state old.own c State.Broken)) new (λ g on. on) (λ g on. on)
    (breaks_own f [] c is old)
    (initialiser_leaves (f ∷ []) x (with_own old (with_state old.own c State.Broken)) a new b leaves)

frames_leave : (frames : List FrameState) (x : Setting) (old : Inside) (a : ℕ) (new : Inside) (b : ℕ) → LeavesFrames x frames old a new b
    → Leaving frames old new
frames_leave [] x old a new b (same, is) = same_leaving [] old new same
frames_leave (f ∷ upper) x old a new b (mid, met, leaves, not, leaves_too) =
    both_leave upper (f ∷ []) (f ∷ upper) old mid new (λ g on. Contains-there g f upper on) (λ g on. only g (Contains-cases g f [] on))
    (frames_leave upper x old a mid met leaves) (frame_leaves f x mid met new b leaves_too)
  where
    only : (g : FrameState) → (f ≡ g) ⊎ Contains [] g → Contains (f ∷ upper) g
    only g (inl same) = subst (Contains (f ∷ upper)) same (Contains-here f upper)
    only g (inr on) = absurd (Contains-none g on)

-- ---- A whole segment.

pub raises_leave : (x : Setting) (old : Run) (r : Raise) (new : Run) (unwound : Unwound) → RaisesIn x old r new unwound
    → Leaving old.frames old.inside new.inside
raises_leave x old r new unwound h =
    both_leave old.frames old.frames old.frames old.inside h.made new.inside (λ f on. on) (λ f on. on)
    (raised_leaves old.frames x old.inside r h.made h.thrown h.is_raised) (by unwound h.unwinds)
  where
    -- the frames above the one that catches
    above : (c : IsCaughtIn x (record old { inside = h.made }) h.thrown new) (f : FrameState) → Contains c.upper f → Contains old.frames f
    above c f on =
        subst (λ (fs : List FrameState). Contains fs f) (sym c.are_frames)
        (Contains-append_right c.lower (c.catcher ∷ c.upper) f (Contains-there f c.catcher c.upper on))

    by : (u : Unwound) → Unwinds x (record old { inside = h.made }) h.thrown u new → Leaving old.frames h.made new.inside
    by Unwinding.Caught c =
        both_leave c.upper c.upper old.frames h.made new.inside new.inside (above c) (above c)
        (frames_leave c.upper x h.made h.thrown new.inside c.met c.leaves) (leaves_same c.upper new.inside)
    by (Unwinding.Uncaught b) c = frames_leave old.frames x h.made h.thrown new.inside b c.0

-- ---- Classes whose initialisers stand in the segment are in progress by its thread.

abbrev taken_by : ThreadNo → ClassState → ℕ
taken_by t (State.InProgress by) = cond (by.0 == t.0) 1 0
taken_by t state = 0

taken_from : (t : ThreadNo) (s : ClassState) → 1 ≤ taken_by t s → s ≡ State.InProgress t
taken_from t (State.InProgress by) h = passes (by.0 == t.0) refl h
  where
    passes : (b : Bool) → (by.0 == t.0) ≡ b → 1 ≤ cond b 1 0 → State.InProgress by ≡ State.InProgress t
    passes true e h = λ i. State.InProgress (record { 0 = eqb-true by.0 t.0 e i })
    passes false e h = absurd (omega arith)
taken_from t State.Untouched h = absurd (omega arith)
taken_from t State.Done h = absurd (omega arith)
taken_from t State.Broken h = absurd (omega arith)

pub in_progress_by : (t : ThreadNo) (run : Run) → AreInProgress t run → (c : ClassId) → Initialises run.frames c
    → state_of run.inside.own c ≡ State.InProgress t
in_progress_by t run progress c (f, on, of) =
    let some = counted c run.frames f on of in
    let most : count_initialisers c run.frames ≤ progress_by t run.inside.own c = progress c in
    taken_from t (state_of run.inside.own c) (omega (arith, some, most))
