-- Where a thread of the examples stands, what its frames do when something is raised there, and what may pass from one domain to another.
use Rattle.std.proofs.Common.{◌≡◌, ℕ, zero, suc, ◌<◌, ◌≤◌, List, [], ◌∷◌, ◌++◌, Some, slice_get, refl, inl, sym, ap, subst, ◌∙◌, arith}
use Rattle.std.proofs.lemmas.Option.{none-some, same_Some}
use Rattle.jk_model.specs.declared.steps.Raise.{Raise}
use Rattle.jk_model.specs.declared.values.Value.{Value}
use Rattle.jk_model_classes.specs.declared.records.Caught.{Caught}
use Rattle.jk_model_classes.specs.declared.records.LinkedCode.{LinkedCode}
use Rattle.jk_model_typing.specs.Typing.{Covers}
use Rattle.jk_model_domains.specs.Objects.{NamedObject}
use Rattle.jk_model_heaps.specs.declared.shapes.Unwound.TheVariants.{Uncaught}
use Rattle.jk_model_heaps.specs.SystemClasses.{EXCEPTION_IN_INITIALIZER_ERROR}
use Rattle.jk_model_heaps.specs.Throwables.{IsRaised}
use Rattle.jk_model_heaps.specs.Workings.{Inside, Setting}
use Rattle.jk_model_unwinding.specs.Examples.{MAIN, handler, initialising}
use Rattle.jk_model_unwinding.specs.Unwinding.{CatchesNot}
use Rattle.jk_model_unwinding.proofs.RunningCodes.{one_code}
use Rattle.jk_model_running.specs.Raising.{RaisesIn}
use Rattle.jk_model_machine_state.specs.Machines.{DomainState, Machine, Segment, domain_at, thread_numbered}
use Rattle.jk_model_machine_state.specs.Places.{RunningSegment}
use Rattle.jk_model_crossings.specs.Examples.{calling, classes, one, thread_with}

-- ---- Places.

-- the thread has these segments, the last of which belongs to a live domain
pub record IsThere (m : Machine) (lower : List Segment) (s : Segment) (d : DomainState) (inside : Inside) : Type 0 where
  pub thread : thread_numbered m one ≡ Some (thread_with (lower ++ s ∷ []))
  pub domain : domain_at m s.shared.domain ≡ Some d
  pub numbered : d.number ≡ s.shared.domain
  pub inside_is : d.inside ≡ Some inside

abbrev pub placed : (m : Machine) (lower : List Segment) (s : Segment) (d : DomainState) (inside : Inside) → IsThere m lower s d inside
    → RunningSegment m one
placed m lower s d inside there = record {
  thread = thread_with (lower ++ s ∷ []);
  is_thread = there.thread;
  lower = lower;
  segment = s;
  are_segments = refl;
  home = record { domain = d; is_domain = there.domain; numbered = there.numbered; inside = inside; is_inside = there.inside_is };
}

-- ---- Frames that catch nothing.

none_covers : (place : ℕ) (h : Caught) → slice_get initialising.handlers place ≡ Some h → Covers h 1 → ⊥
none_covers zero h at covers =
    let covered : Covers (handler EXCEPTION_IN_INITIALIZER_ERROR 2) 1 =
    subst (λ (g : Caught). Covers g 1) (sym (same_Some (handler EXCEPTION_IN_INITIALIZER_ERROR 2) h at)) covers in
    absurd (omega (arith, covered.1))
none_covers (suc place) h at covers = absurd (none-some h at)

abbrev among_these : Setting → Setting
among_these x = record x { classes = classes }

catches_not : (x : Setting) (heap : List NamedObject) (stack : List Value) (a : ℕ) → CatchesNot (among_these x) heap (calling stack) a
catches_not x heap stack a h catches =
    let same : catches.code.scope.code ≡ initialising =
    one_code classes (record { class = MAIN; index = 1 }) initialising (calling stack) refl refl catches.code in
    let listed : slice_get initialising.handlers catches.place ≡ Some h =
    sym (ap (λ (code : LinkedCode). slice_get code.handlers catches.place) same) ∙ catches.listed in
    none_covers catches.place h listed catches.covers

-- what is raised in such a frame leaves it
pub uncaught : (x : Setting) (inside : Inside) (stack : List Value) (r : Raise) (a : ℕ) → IsRaised (among_these x) inside r inside a
    → RaisesIn (among_these x) (record { inside = inside; frames = calling stack ∷ [] }) r (record { inside = inside; frames = [] }) (Uncaught a)
uncaught x inside stack r a raised = record {
  thrown = a;
  made = inside;
  is_raised = raised;
  unwinds = ((inside, a, (refl, refl), catches_not x inside.heap stack a, inl (refl, refl, refl)), refl);
}

-- ---- Numbers that are computed.

pub fits_by : (a b x y : ℕ) → a ≡ x → b ≡ y → x ≤ y → a ≤ b
fits_by a b x y e f h = omega (arith, e, f, h)

pub lacks_by : (a b x y : ℕ) → a ≡ x → b ≡ y → x < y → a < b
lacks_by a b x y e f h = omega (arith, e, f, h)
