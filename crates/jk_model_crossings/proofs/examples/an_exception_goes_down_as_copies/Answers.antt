-- The class is marked copiable. Each domain has room for a copy, under the name that its source has in the domain above.
use Rattle.std.proofs.Common.{◌≢◌, ℕ, List, [], ◌∷◌, ◌++◌, refl, inl, ap, arith}
use Rattle.std.specs.Prelude.{codes}
use Rattle.jk_model.specs.declared.identifiers.ClassId.{ClassId}
use Rattle.jk_model.specs.declared.output.Line.{Line}
use Rattle.jk_model.specs.declared.output.Line.TheVariants.{EndedBy}
use Rattle.jk_model.specs.declared.steps.Raise.TheVariants as Raised
use Rattle.jk_model.specs.declared.values.Value.TheVariants as Held
use Rattle.jk_model_classes.specs.Classes.{IsSubclass, OBJECT}
use Rattle.jk_model_classes.specs.Worlds.{NamedClass}
use Rattle.jk_model_domains.specs.NumberRows.{ARITHMETIC_EXCEPTION}
use Rattle.jk_model_domains.specs.Objects.{NamedObject, Object, Plain, object_words}
use Rattle.jk_model_graphs.proofs.OneObjectCopied.{one_copy, one_costs, one_may_be_copied}
use Rattle.jk_model_heaps.specs.Heaps.{free_words}
use Rattle.jk_model_heaps.specs.SystemClasses.{THREAD_DEATH}
use Rattle.jk_model_heaps.specs.Workings.{Run}
use Rattle.jk_model_unwinding.specs.Examples.{RUNTIME_EXCEPTION, thrown}
use Rattle.jk_model_sharing.specs.Examples.{ann, bob, cid, segment}
use Rattle.jk_model_machine_state.specs.Machines.{Machine, Segment}
use Rattle.jk_model_machine_state.specs.Places.{RunningSegment, setting_of, with_run, without_top}
use Rattle.jk_model_crossings.specs.Examples.{EXCEPTION, ann_with, bob_with, calling, cid_with, classes, inside_with, machine_with, one, opening_heap, thread_with, with_frames}
use Rattle.jk_model_crossings.specs.Passages.{Passes}
use Rattle.jk_model_crossings.specs.Throwing.{IsThrowable, TopTwo, ends, goes_on, is_copied, received}
use Rattle.list_lemmas.proofs.ItemsOfLists.{each-of}
use Rattle.jk_model_crossings.proofs.ExampleSegments.{fits_by, placed, uncaught}
use Rattle.jk_model_crossings.proofs.examples.an_exception_goes_down_as_copies.Goals as goal

-- ---- The throwable, and its copies.

abbrev exception : Object
exception = Plain ARITHMETIC_EXCEPTION (Held.Null ∷ [])

abbrev with_one : List NamedObject
with_one = thrown 9 ARITHMETIC_EXCEPTION ∷ []

-- java/lang/Throwable
abbrev THROWABLE : ClassId
THROWABLE = record { 0 = 9 }

no_death : IsSubclass classes ARITHMETIC_EXCEPTION THREAD_DEATH → ⊥
no_death h = each-of (λ (d : ClassId). d ≢ THREAD_DEATH) (ARITHMETIC_EXCEPTION ∷ RUNTIME_EXCEPTION ∷ EXCEPTION ∷ THROWABLE ∷ OBJECT ∷ []) THREAD_DEATH
    (other 19 (omega arith), (other 17 (omega arith), (other 15 (omega arith), (other 9 (omega arith), (other 0 (omega arith), tt))))) h refl
  where
    other : (n : ℕ) → n ≢ 34 → (record { 0 = n }) ≢ THREAD_DEATH
    other n ne e = ne (ap (λ (d : ClassId). d.0) e)

-- whatever the names mean in both domains
passes : (from to : List NamedClass) → Passes
    (record {
      classes = classes;
      from = from;
      to = to;
      source = record { heap = opening_heap ++ with_one; values = Held.Obj 9 ∷ [] };
      target = opening_heap;
      quota = 64;
    })
    (opening_heap ++ with_one) (Held.Obj 9 ∷ [])
passes from to = record {
  may = (
    one_may_be_copied classes (opening_heap ++ with_one) 9 exception refl (tt, tt) from to (inl refl),
    (
      object_words classes exception,
      one_costs classes (opening_heap ++ with_one) 9 exception refl (tt, tt),
      fits_by (object_words classes exception) (free_words classes 64 opening_heap) 5 20 refl refl (omega arith),
    ),
  );
  pairs = (9, 9) ∷ [];
  copy = one_copy classes (opening_heap ++ with_one) 9 exception refl (tt, tt) opening_heap 9 refl (refl, (refl, tt));
}

-- ---- From cid to bob.

abbrev of_ann : Segment
of_ann = with_frames (segment 1 ann) (calling [] ∷ [])

abbrev of_bob : Segment
of_bob = with_frames (segment 2 bob) (calling [] ∷ [])

abbrev of_cid : Segment
of_cid = with_frames (segment 3 cid) []

abbrev before : Machine
before = machine_with (ann_with [] ∷ bob_with [] ∷ cid_with with_one ∷ []) (thread_with (of_ann ∷ of_bob ∷ of_cid ∷ []) ∷ [])

abbrev in_cid : RunningSegment before one
in_cid = placed before (of_ann ∷ of_bob ∷ []) of_cid (cid_with with_one) (inside_with with_one)
    (record { thread = refl; domain = refl; numbered = refl; inside_is = refl })

abbrev below_cid : RunningSegment (without_top in_cid) one
below_cid = placed (without_top in_cid) (of_ann ∷ []) of_bob (bob_with []) (inside_with [])
    (record { thread = refl; domain = refl; numbered = refl; inside_is = refl })

abbrev from_cid : TopTwo before one
from_cid = record { left = in_cid; below = below_cid }

abbrev came_to_bob : Machine
came_to_bob = received from_cid (opening_heap ++ with_one)

abbrev in_bob : RunningSegment came_to_bob one
in_bob = placed came_to_bob (of_ann ∷ []) of_bob (bob_with with_one) (inside_with with_one)
    (record { thread = refl; domain = refl; numbered = refl; inside_is = refl })

-- the frame is dropped, of bob and of ann alike
abbrev dropped : Run
dropped = record { inside = inside_with with_one; frames = [] }

abbrev thrown_by_cid : IsThrowable in_cid 9
thrown_by_cid = record { class = ARITHMETIC_EXCEPTION; fields = Held.Null ∷ []; is_object = refl; of_class = _; is_class = refl }

-- ---- From bob to ann.

abbrev left_bob : Machine
left_bob = with_run in_bob dropped

abbrev at_end_of_bob : RunningSegment left_bob one
at_end_of_bob = placed left_bob (of_ann ∷ []) (record of_bob { frames = [] }) (bob_with with_one) (inside_with with_one)
    (record { thread = refl; domain = refl; numbered = refl; inside_is = refl })

abbrev below_bob : RunningSegment (without_top at_end_of_bob) one
below_bob = placed (without_top at_end_of_bob) [] of_ann (ann_with []) (inside_with [])
    (record { thread = refl; domain = refl; numbered = refl; inside_is = refl })

abbrev from_bob : TopTwo left_bob one
from_bob = record { left = at_end_of_bob; below = below_bob }

abbrev came_to_ann : Machine
came_to_ann = received from_bob (opening_heap ++ with_one)

abbrev in_ann : RunningSegment came_to_ann one
in_ann = placed came_to_ann [] of_ann (ann_with with_one) (inside_with with_one)
    (record { thread = refl; domain = refl; numbered = refl; inside_is = refl })

abbrev thrown_by_bob : IsThrowable at_end_of_bob 9
thrown_by_bob = record { class = ARITHMETIC_EXCEPTION; fields = Held.Null ∷ []; is_object = refl; of_class = _; is_class = refl }

-- ---- Out of ann.

abbrev at_end : RunningSegment (with_run in_ann dropped) one
at_end = placed (with_run in_ann dropped) [] (record of_ann { frames = [] }) (ann_with with_one) (inside_with with_one)
    (record { thread = refl; domain = refl; numbered = refl; inside_is = refl })

abbrev thrown_by_ann : IsThrowable at_end 9
thrown_by_ann = record { class = ARITHMETIC_EXCEPTION; fields = Held.Null ∷ []; is_object = refl; of_class = _; is_class = refl }

abbrev after : Machine
after = machine_with (ann_with with_one ∷ bob_with with_one ∷ cid_with with_one ∷ []) []

abbrev said : List Line
said = EndedBy one (codes "java/lang/ArithmeticException") ∷ []

pub returns : goal.returns
returns c =
    goes_on 2 before came_to_bob after 9 9 said from_cid (Raised.Object 9) refl
    (is_copied thrown_by_cid no_death (opening_heap ++ with_one) 9 (passes (cid_with []).table (bob_with []).table)) in_bob dropped
    (uncaught (setting_of in_bob) (inside_with with_one) [] (Raised.Object 9) 9 (refl, refl))
    (goes_on 1 left_bob came_to_ann after 9 9 said from_bob (Raised.Object 9) refl
    (is_copied thrown_by_bob no_death (opening_heap ++ with_one) 9 (passes (bob_with []).table (ann_with []).table)) in_ann dropped
    (uncaught (setting_of in_ann) (inside_with with_one) [] (Raised.Object 9) 9 (refl, refl))
    (ends (with_run in_ann dropped) 9 at_end thrown_by_ann refl refl))
