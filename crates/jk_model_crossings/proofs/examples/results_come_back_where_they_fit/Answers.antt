-- A text of 16 units takes 20 words. Ann's frame doesn't catch the OutOfMemoryError, and ann's segment is the lowest one.
use Rattle.std.proofs.Common.{ℕ, List, [], ◌∷◌, ◌++◌, refl, arith}
use Rattle.std.specs.Prelude.{codes, replicate}
use Rattle.jk_model.specs.declared.output.Line.{Line}
use Rattle.jk_model.specs.declared.output.Line.TheVariants.{EndedBy}
use Rattle.jk_model.specs.declared.steps.Raise.TheVariants as Raised
use Rattle.jk_model.specs.declared.steps.Standing.TheVariants as Stands
use Rattle.jk_model.specs.declared.values.Value.TheVariants as Held
use Rattle.jk_model_domains.specs.Objects.{Object, Text, object_words}
use Rattle.jk_model_graphs.proofs.OneObjectCopied.{one_copy, one_costs, one_may_be_copied}
use Rattle.jk_model_heaps.specs.Heaps.{free_words}
use Rattle.jk_model_heaps.specs.SystemClasses.{OUT_OF_MEMORY_ERROR}
use Rattle.jk_model_heaps.specs.Workings.{Run}
use Rattle.jk_model_unwinding.specs.Examples.{frame}
use Rattle.jk_model_sharing.specs.Examples.{ann, bob, segment}
use Rattle.jk_model_machine_state.specs.Machines.{Machine, Segment}
use Rattle.jk_model_machine_state.specs.Places.{RunningSegment, setting_of, with_run, without_top}
use Rattle.jk_model_crossings.specs.Answers.{gives, is_too_large}
use Rattle.jk_model_crossings.specs.Examples.{ann_with, bob_with, calling, classes, inside_with, machine_with, one, opening_heap, text, thread_with, with_frames}
use Rattle.jk_model_crossings.specs.Throwing.{IsThrowable, TopTwo, ends, goes_down}
use Rattle.jk_model_crossings.proofs.ExampleSegments.{fits_by, lacks_by, placed, uncaught}
use Rattle.jk_model_crossings.proofs.examples.results_come_back_where_they_fit.Goals as goal

-- ---- Where bob's segment has returned a text of so many units.

abbrev of_ann : Segment
of_ann = with_frames (segment 1 ann) (calling [] ∷ [])

abbrev of_bob : Segment
of_bob = with_frames (segment 2 bob) []

abbrev returned : ℕ → Machine
returned n = machine_with (ann_with [] ∷ bob_with (text 9 n ∷ []) ∷ []) (thread_with (of_ann ∷ of_bob ∷ []) ∷ [])

abbrev in_bob : (n : ℕ) → RunningSegment (returned n) one
in_bob n = placed (returned n) (of_ann ∷ []) of_bob (bob_with (text 9 n ∷ [])) (inside_with (text 9 n ∷ []))
    (record { thread = refl; domain = refl; numbered = refl; inside_is = refl })

abbrev in_ann : (n : ℕ) → RunningSegment (without_top (in_bob n)) one
in_ann n = placed (without_top (in_bob n)) [] of_ann (ann_with []) (inside_with [])
    (record { thread = refl; domain = refl; numbered = refl; inside_is = refl })

abbrev from_bob : (n : ℕ) → TopTwo (returned n) one
from_bob n = record { left = in_bob n; below = in_ann n }

abbrev text_of : ℕ → Object
text_of n = Text (replicate n 97)

-- ---- It fits.

pub returns-clause-fits : goal.returns-clause-fits
returns-clause-fits c =
    gives (Held.Obj 9) (Held.Obj 9) (from_bob 16) (opening_heap ++ text 9 16 ∷ [])
    (machine_with (ann_with (text 9 16 ∷ []) ∷ bob_with (text 9 16 ∷ []) ∷ [])
    (thread_with (with_frames (segment 1 ann) (frame 1 2 (Held.Obj 9 ∷ []) ∷ []) ∷ []) ∷ []))
    refl
    (record {
      may = (
        one_may_be_copied classes (opening_heap ++ text 9 16 ∷ []) 9 (text_of 16) refl tt (bob_with []).table (ann_with []).table tt,
        (
          object_words classes (text_of 16),
          one_costs classes (opening_heap ++ text 9 16 ∷ []) 9 (text_of 16) refl tt,
          fits_by (object_words classes (text_of 16)) (free_words classes 64 opening_heap) 20 20 refl refl (omega arith),
        ),
      );
      pairs = (9, 9) ∷ [];
      copy = one_copy classes (opening_heap ++ text 9 16 ∷ []) 9 (text_of 16) refl tt opening_heap 9 refl refl;
    })
    (record { callers = []; caller = calling []; are_frames = refl; leads = refl })

-- ---- It doesn't.

-- ann's frame is dropped
abbrev dropped : Run
dropped = record { inside = inside_with []; frames = [] }

abbrev at_end : RunningSegment (with_run (in_ann 17) dropped) one
at_end = placed (with_run (in_ann 17) dropped) [] (record of_ann { frames = [] }) (ann_with []) (inside_with [])
    (record { thread = refl; domain = refl; numbered = refl; inside_is = refl })

abbrev what_came : IsThrowable at_end 1
what_came = record { class = OUT_OF_MEMORY_ERROR; fields = Held.Null ∷ []; is_object = refl; of_class = _; is_class = refl }

abbrev after : Machine
after = machine_with (ann_with [] ∷ bob_with (text 9 17 ∷ []) ∷ []) []

abbrev said : List Line
said = EndedBy one (codes "java/lang/OutOfMemoryError") ∷ []

pub returns-clause-too_large : goal.returns-clause-too_large
returns-clause-too_large c =
    is_too_large (Held.Obj 9) (from_bob 17) 1 said after refl (
      one_may_be_copied classes (opening_heap ++ text 9 17 ∷ []) 9 (text_of 17) refl tt (bob_with []).table (ann_with []).table tt,
      (
        object_words classes (text_of 17),
        one_costs classes (opening_heap ++ text 9 17 ∷ []) 9 (text_of 17) refl tt,
        lacks_by (free_words classes 64 opening_heap) (object_words classes (text_of 17)) 20 21 refl refl (omega arith),
      ),
    )
    (goes_down (in_ann 17) dropped 1 1 said after
    (uncaught (setting_of (in_ann 17)) (inside_with []) [] (Raised.Standing Stands.OutOfMemoryError) 1 (refl, refl))
    (ends (with_run (in_ann 17) dropped) 1 at_end what_came refl refl))
