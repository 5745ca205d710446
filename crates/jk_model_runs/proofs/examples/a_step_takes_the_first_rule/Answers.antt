-- What is pending is told by the flags of the one segment. Its frame's need catches nothing, so what is raised ends the thread.
use Rattle.std.proofs.Common.{◌≢◌, ℕ, Bool, true, false, List, [], ◌∷◌, Option, Some, refl, inl, arith}
use Rattle.std.specs.Prelude.{codes}
use Rattle.std.proofs.lemmas.Option.{same_Some}
use Rattle.jk_model.specs.declared.output.Line.{Line}
use Rattle.jk_model.specs.declared.output.Line.TheVariants.{EndedBy}
use Rattle.jk_model.specs.declared.steps.Raise.TheVariants as Raised
use Rattle.jk_model.specs.declared.steps.Standing.TheVariants as Stands
use Rattle.jk_model.specs.declared.values.Value.TheVariants as Held
use Rattle.jk_model_classes.specs.Classes.{OBJECT}
use Rattle.jk_model_heaps.specs.SystemClasses.{REVOKED_EXCEPTION, THREAD_DEATH}
use Rattle.jk_model_heaps.specs.Workings.{Run}
use Rattle.jk_model_unwinding.specs.Examples.{frame}
use Rattle.jk_model_running.specs.LocalSteps.{LocalStep, need_falls}
use Rattle.jk_model_running.specs.Ways.{GoesOn}
use Rattle.jk_model_sharing.specs.Examples.{ann, segment}
use Rattle.jk_model_sharing.specs.Segments.{SharedSegment, with_revoked, with_stop, with_suspended}
use Rattle.jk_model_machine_state.specs.Machines.{Machine}
use Rattle.jk_model_machine_state.specs.Places.{RunningSegment, run_of, setting_of, with_run}
use Rattle.jk_model_crossings.specs.Examples.{ann_with, inside_with, machine_with, one, thread_with, with_frames}
use Rattle.jk_model_crossings.specs.Throwing.{IsThrowable, RaisesInThread, ends, goes_down}
use Rattle.jk_model_crossings.proofs.ExampleSegments.{placed}
use Rattle.jk_model_runs.specs.Examples.{needing, stepping, with_steps}
use Rattle.jk_model_runs.specs.Steps.{LeftSegments, Rested, Worked, acts, does, goes_on, is_held, is_revoked, is_spent, stops}
use Rattle.jk_model_runs.proofs.ExampleSteps.{leaves_needing, never_held}
use Rattle.jk_model_runs.proofs.examples.a_step_takes_the_first_rule.Goals as goal

-- ---- The segment with these flags: suspended, a stop and a RevokedException that are pending.

abbrev flags : Bool → Bool → Bool → SharedSegment
flags suspended stop revoked = with_suspended suspended (with_stop stop (with_revoked revoked (segment 1 ann)))

abbrev top : (n : ℕ) (suspended stop revoked : Bool) → RunningSegment (stepping n (flags suspended stop revoked)) one
top n suspended stop revoked =
    placed (stepping n (flags suspended stop revoked)) [] (with_frames (flags suspended stop revoked) (needing ∷ []))
    (with_steps n (ann_with [])) (inside_with []) (record { thread = refl; domain = refl; numbered = refl; inside_is = refl })

pub returns-clause-suspended : goal.returns-clause-suspended
returns-clause-suspended c = (Rested, is_held (top 0 true true true) (inl refl))

pub returns-clause-spent : goal.returns-clause-spent
returns-clause-spent c = (Rested, is_spent (top 0 false true true) (never_held (top 0 false true true) refl refl) refl)

one_is_left : let some : ℕ → Option ℕ = Some in some 1 ≢ some 0
one_is_left e = absurd (omega (arith, same_Some 1 0 e))

-- ---- Something is raised, which the frame doesn't catch.

abbrev dropped : Run
dropped = record { inside = inside_with []; frames = [] }

abbrev after : Machine
after = machine_with (with_steps 0 (ann_with []) ∷ []) []

abbrev at_end : (revoked : Bool) → RunningSegment (with_run (top 0 false false revoked) dropped) one
at_end revoked = placed (with_run (top 0 false false revoked) dropped) [] (with_frames (flags false false revoked) []) (with_steps 0 (ann_with []))
    (inside_with []) (record { thread = refl; domain = refl; numbered = refl; inside_is = refl })

abbrev the_death : IsThrowable (at_end true) 7
the_death = record { class = THREAD_DEATH; fields = Held.Null ∷ []; is_object = refl; of_class = _; is_class = refl }

abbrev by_death : List Line
by_death = EndedBy one (codes "java/lang/ThreadDeath") ∷ []

raises_death : RaisesInThread (stepping 0 (flags false false true)) one (Raised.Standing Stands.ThreadDeath) 1 by_death after
raises_death =
    goes_down (top 0 false false true) dropped 7 1 by_death after
    (leaves_needing (setting_of (top 0 false false true)) (inside_with []) (Raised.Standing Stands.ThreadDeath) 7 (refl, refl))
    (ends (with_run (top 0 false false true) dropped) 7 (at_end true) the_death refl refl)

pub returns-clause-stopped : goal.returns-clause-stopped
returns-clause-stopped c = (
  LeftSegments 1,
  acts (top 1 false true true) (LeftSegments 1) by_death after (never_held (top 1 false true true) refl refl) one_is_left
      (stops (top 0 false true true) 1 by_death after refl raises_death),
)

abbrev the_exception : IsThrowable (at_end false) 3
the_exception = record { class = REVOKED_EXCEPTION; fields = Held.Null ∷ []; is_object = refl; of_class = _; is_class = refl }

abbrev by_exception : List Line
by_exception = EndedBy one (codes "jk/RevokedException") ∷ []

raises_exception : RaisesInThread (stepping 0 (flags false false false)) one (Raised.Standing Stands.Revoked) 1 by_exception after
raises_exception =
    goes_down (top 0 false false false) dropped 3 1 by_exception after
    (leaves_needing (setting_of (top 0 false false false)) (inside_with []) (Raised.Standing Stands.Revoked) 3 (refl, refl))
    (ends (with_run (top 0 false false false) dropped) 3 (at_end false) the_exception refl refl)

pub returns-clause-revoked : goal.returns-clause-revoked
returns-clause-revoked c = (
  LeftSegments 1,
  acts (top 1 false false true) (LeftSegments 1) by_exception after (never_held (top 1 false false true) refl refl) one_is_left
      (is_revoked (top 0 false false true) 1 by_exception after refl refl raises_exception),
)

-- ---- The need falls, since java/lang/Object is done.

abbrev without : Run
without = record { inside = inside_with []; frames = frame 1 0 [] ∷ [] }

falls : LocalStep (setting_of (top 0 false false false)) one (run_of (top 0 false false false)) without GoesOn
falls = need_falls
    (record { top = record { callers = []; frame = needing; are_frames = refl }; class = OBJECT; need = refl; ready = inl refl }) refl refl

abbrev went_on : Machine
went_on = machine_with (with_steps 0 (ann_with []) ∷ []) (thread_with (with_frames (segment 1 ann) (frame 1 0 [] ∷ []) ∷ []) ∷ [])

pub returns-clause-acts : goal.returns-clause-acts
returns-clause-acts c = (
  Worked,
  acts (top 1 false false false) Worked [] went_on (never_held (top 1 false false false) refl refl) one_is_left
      (does (top 0 false false false) without GoesOn Worked [] went_on refl refl falls goes_on),
)
