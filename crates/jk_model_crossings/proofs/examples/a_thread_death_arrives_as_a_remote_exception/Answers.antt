-- The class is ThreadDeath itself. Ann's frame doesn't catch the RemoteException, and ann's segment is the lowest one.
use Rattle.std.proofs.Common.{List, [], ◌∷◌, refl, arith}
use Rattle.std.specs.Prelude.{codes}
use Rattle.jk_model.specs.declared.output.Line.TheVariants.{EndedBy}
use Rattle.jk_model.specs.declared.steps.Raise.TheVariants as Raised
use Rattle.jk_model.specs.declared.steps.Standing.TheVariants as Stands
use Rattle.jk_model.specs.declared.values.Value.TheVariants as Held
use Rattle.jk_model_heaps.specs.SystemClasses.{REMOTE_EXCEPTION, THREAD_DEATH}
use Rattle.jk_model_heaps.specs.Workings.{Run}
use Rattle.jk_model_sharing.specs.Examples.{ann, bob, segment}
use Rattle.jk_model_machine_state.specs.Machines.{DomainState, Machine, Segment}
use Rattle.jk_model_machine_state.specs.Places.{RunningSegment, setting_of, with_run, without_top}
use Rattle.jk_model_crossings.specs.Examples.{ann_with, bob_with, calling, inside_with, machine_with, one, thread_with, with_frames}
use Rattle.jk_model_crossings.specs.Throwing.{IsThrowable, TopTwo, ends, goes_on, is_death}
use Rattle.jk_model_crossings.proofs.ExampleSegments.{placed, uncaught}
use Rattle.jk_model_crossings.proofs.examples.a_thread_death_arrives_as_a_remote_exception.Goals as goal

abbrev domains : List DomainState
domains = ann_with [] ∷ bob_with [] ∷ []

abbrev of_ann : Segment
of_ann = with_frames (segment 1 ann) (calling [] ∷ [])

abbrev of_bob : Segment
of_bob = with_frames (segment 2 bob) []

abbrev before : Machine
before = machine_with domains (thread_with (of_ann ∷ of_bob ∷ []) ∷ [])

abbrev in_bob : RunningSegment before one
in_bob = placed before (of_ann ∷ []) of_bob (bob_with []) (inside_with [])
    (record { thread = refl; domain = refl; numbered = refl; inside_is = refl })

abbrev in_ann : RunningSegment (without_top in_bob) one
in_ann = placed (without_top in_bob) [] of_ann (ann_with []) (inside_with [])
    (record { thread = refl; domain = refl; numbered = refl; inside_is = refl })

abbrev from_bob : TopTwo before one
from_bob = record { left = in_bob; below = in_ann }

-- ann's frame is dropped
abbrev left_by_frames : Run
left_by_frames = record { inside = inside_with []; frames = [] }

abbrev at_end : RunningSegment (with_run in_ann left_by_frames) one
at_end = placed (with_run in_ann left_by_frames) [] (record of_ann { frames = [] }) (ann_with []) (inside_with [])
    (record { thread = refl; domain = refl; numbered = refl; inside_is = refl })

abbrev the_death : IsThrowable in_bob 7
the_death = record { class = THREAD_DEATH; fields = Held.Null ∷ []; is_object = refl; of_class = _; is_class = refl }

abbrev what_came : IsThrowable at_end 6
what_came = record { class = REMOTE_EXCEPTION; fields = Held.Null ∷ []; is_object = refl; of_class = _; is_class = refl }

pub returns : goal.returns
returns c =
    goes_on 1 before (without_top in_bob) (machine_with domains []) 7 6 (EndedBy one (codes "jk/RemoteException") ∷ []) from_bob
    (Raised.Standing Stands.Remote) refl (is_death the_death (0, omega arith, refl)) in_ann left_by_frames
    (uncaught (setting_of in_ann) (inside_with []) [] (Raised.Standing Stands.Remote) 6 (refl, refl))
    (ends (with_run in_ann left_by_frames) 6 at_end what_came refl refl)
