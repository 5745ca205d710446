-- The stop takes bob's step, and the RemoteException that comes to ann takes none.
use Rattle.std.proofs.Common.{◌≢◌, ℕ, true, false, List, [], ◌∷◌, Option, Some, refl, arith}
use Rattle.std.specs.Prelude.{codes}
use Rattle.std.proofs.lemmas.Option.{same_Some}
use Rattle.jk_model.specs.declared.output.Line.{Line}
use Rattle.jk_model.specs.declared.output.Line.TheVariants.{EndedBy}
use Rattle.jk_model.specs.declared.steps.Raise.TheVariants as Raised
use Rattle.jk_model.specs.declared.steps.Standing.TheVariants as Stands
use Rattle.jk_model.specs.declared.values.Value.TheVariants as Held
use Rattle.jk_model_heaps.specs.SystemClasses.{REMOTE_EXCEPTION, THREAD_DEATH}
use Rattle.jk_model_heaps.specs.Workings.{Run}
use Rattle.jk_model_sharing.specs.Examples.{ann, bob, segment}
use Rattle.jk_model_sharing.specs.Segments.{with_stop}
use Rattle.jk_model_machine_state.specs.Machines.{DomainState, Machine, Segment, paid}
use Rattle.jk_model_machine_state.specs.Places.{RunningSegment, setting_of, with_flags, with_run, without_top}
use Rattle.jk_model_crossings.specs.Examples.{ann_with, bob_with, calling, inside_with, machine_with, one, with_frames}
use Rattle.jk_model_crossings.specs.Throwing.{IsThrowable, RaisesInThread, TopTwo, ends, goes_down, goes_on, is_death}
use Rattle.jk_model_crossings.proofs.ExampleSegments.{placed, uncaught}
use Rattle.jk_model_runs.specs.Examples.{needing, stopped_callee, with_steps}
use Rattle.jk_model_runs.specs.Steps.{LeftSegments, acts, stops}
use Rattle.jk_model_runs.proofs.ExampleSteps.{leaves_needing, never_held}
use Rattle.jk_model_runs.proofs.examples.the_domain_that_steps_pays.Goals as goal

abbrev of_ann : Segment
of_ann = with_frames (segment 1 ann) (calling [] ∷ [])

abbrev of_bob : Segment
of_bob = with_frames (with_stop true (segment 2 bob)) (needing ∷ [])

abbrev bob_of : ℕ → DomainState
bob_of n = with_steps n (bob_with [])

-- ---- Bob pays, and the flag falls.

abbrev in_bob : (n : ℕ) → RunningSegment (stopped_callee n) one
in_bob n = placed (stopped_callee n) (of_ann ∷ []) of_bob (bob_of 1) (inside_with [])
    (record { thread = refl; domain = refl; numbered = refl; inside_is = refl })

abbrev has_paid : ℕ → Machine
has_paid n = paid bob (stopped_callee n)

abbrev paying : (n : ℕ) → RunningSegment (has_paid n) one
paying n = placed (has_paid n) (of_ann ∷ []) of_bob (bob_of 0) (inside_with [])
    (record { thread = refl; domain = refl; numbered = refl; inside_is = refl })

abbrev falls : ℕ → Machine
falls n = with_flags (paying n) (with_stop false (paying n).segment.shared)

abbrev fallen : (n : ℕ) → RunningSegment (falls n) one
fallen n = placed (falls n) (of_ann ∷ []) (with_frames (segment 2 bob) (needing ∷ [])) (bob_of 0) (inside_with [])
    (record { thread = refl; domain = refl; numbered = refl; inside_is = refl })

-- ---- The ThreadDeath leaves bob's segment, and a RemoteException ann's.

-- the frame is dropped, of bob and of ann alike
abbrev dropped : Run
dropped = record { inside = inside_with []; frames = [] }

abbrev left_bob : ℕ → Machine
left_bob n = with_run (fallen n) dropped

abbrev at_end_of_bob : (n : ℕ) → RunningSegment (left_bob n) one
at_end_of_bob n = placed (left_bob n) (of_ann ∷ []) (with_frames (segment 2 bob) []) (bob_of 0) (inside_with [])
    (record { thread = refl; domain = refl; numbered = refl; inside_is = refl })

abbrev in_ann : (n : ℕ) → RunningSegment (without_top (at_end_of_bob n)) one
in_ann n = placed (without_top (at_end_of_bob n)) [] of_ann (with_steps n (ann_with [])) (inside_with [])
    (record { thread = refl; domain = refl; numbered = refl; inside_is = refl })

abbrev from_bob : (n : ℕ) → TopTwo (left_bob n) one
from_bob n = record { left = at_end_of_bob n; below = in_ann n }

abbrev at_end : (n : ℕ) → RunningSegment (with_run (in_ann n) dropped) one
at_end n = placed (with_run (in_ann n) dropped) [] (with_frames (segment 1 ann) []) (with_steps n (ann_with [])) (inside_with [])
    (record { thread = refl; domain = refl; numbered = refl; inside_is = refl })

abbrev the_death : (n : ℕ) → IsThrowable (at_end_of_bob n) 7
the_death n = record { class = THREAD_DEATH; fields = Held.Null ∷ []; is_object = refl; of_class = _; is_class = refl }

abbrev what_came : (n : ℕ) → IsThrowable (at_end n) 6
what_came n = record { class = REMOTE_EXCEPTION; fields = Held.Null ∷ []; is_object = refl; of_class = _; is_class = refl }

abbrev after : ℕ → Machine
after n = machine_with (with_steps n (ann_with []) ∷ bob_of 0 ∷ []) []

abbrev said : List Line
said = EndedBy one (codes "jk/RemoteException") ∷ []

raises : (n : ℕ) → RaisesInThread (falls n) one (Raised.Standing Stands.ThreadDeath) 2 said (after n)
raises n =
    goes_down (fallen n) dropped 7 2 said (after n)
    (leaves_needing (setting_of (fallen n)) (inside_with []) (Raised.Standing Stands.ThreadDeath) 7 (refl, refl))
    (goes_on 1 (left_bob n) (without_top (at_end_of_bob n)) (after n) 7 6 said (from_bob n) (Raised.Standing Stands.Remote) refl
    (is_death (the_death n) (0, omega arith, refl)) (in_ann n) dropped
    (uncaught (setting_of (in_ann n)) (inside_with []) [] (Raised.Standing Stands.Remote) 6 (refl, refl))
    (ends (with_run (in_ann n) dropped) 6 (at_end n) (what_came n) refl refl))

one_is_left : let some : ℕ → Option ℕ = Some in some 1 ≢ some 0
one_is_left e = absurd (omega (arith, same_Some 1 0 e))

pub returns : goal.returns
returns c = λ n. (
  LeftSegments 2,
  acts (in_bob n) (LeftSegments 2) said (after n) (never_held (in_bob n) refl refl) one_is_left (stops (paying n) 2 said (after n) refl (raises n)),
)
