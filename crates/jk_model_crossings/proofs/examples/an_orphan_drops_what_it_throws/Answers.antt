-- Boom isn't copiable to bob, whose table lacks it; bob's frame doesn't catch the RemoteException, and bob's segment is an orphan.
use Rattle.std.proofs.Common.{◌≡◌, ◌≢◌, ℕ, Bool, true, false, cond, List, [], ◌∷◌, Some, None, refl, inl, inr, ap, arith}
use Rattle.std.proofs.lemmas.Option.{same_Some}
use Rattle.std.specs.Prelude.{bytes_eq, codes, option_map}
use Rattle.jk_model.specs.declared.identifiers.ClassId.{ClassId}
use Rattle.jk_model.specs.declared.steps.Raise.TheVariants as Raised
use Rattle.jk_model.specs.declared.steps.Standing.TheVariants as Stands
use Rattle.jk_model.specs.declared.values.Value.TheVariants as Held
use Rattle.jk_model_classes.specs.Classes.{OBJECT}
use Rattle.jk_model_classes.specs.Worlds.{NamedClass, class_named}
use Rattle.jk_model_domains.specs.Objects.{Plain}
use Rattle.jk_model_graphs.specs.Copiable.{IsCopiable}
use Rattle.jk_model_graphs.specs.Reach.{from_value}
use Rattle.jk_model_heaps.specs.SystemClasses.{THREAD_DEATH}
use Rattle.jk_model_heaps.specs.Workings.{Run}
use Rattle.jk_model_unwinding.specs.Examples.{MAIN, thrown}
use Rattle.jk_model_sharing.specs.Examples.{ann, bob, cid, segment}
use Rattle.jk_model_sharing.specs.Segments.{as_orphan, with_revoked}
use Rattle.jk_model_machine_state.specs.Machines.{DomainState, Machine, Segment}
use Rattle.jk_model_machine_state.specs.Places.{RunningSegment, setting_of, with_run, without_top}
use Rattle.jk_model_crossings.specs.Examples.{BOOM, EXCEPTION, ann_with, bob_with, boom, calling, cid_with, classes, inside_with, machine_with, meaning, one, thread_with, with_frames}
use Rattle.jk_model_crossings.specs.Throwing.{IsDeath, IsThrowable, TopTwo, drops, goes_on, is_uncopiable}
use Rattle.list_lemmas.proofs.ItemsOfLists.{Contains-here, each-of}
use Rattle.jk_model_crossings.proofs.ExampleSegments.{placed, uncaught}
use Rattle.jk_model_crossings.proofs.examples.an_orphan_drops_what_it_throws.Goals as goal

-- ---- The machine, and where the throwable is.

abbrev domains : List DomainState
domains = ann_with [] ∷ bob_with [] ∷ cid_with (thrown 9 BOOM ∷ []) ∷ []

abbrev of_ann : Segment
of_ann = with_frames (segment 1 ann) (calling [] ∷ [])

abbrev of_bob : Segment
of_bob = with_frames (as_orphan (segment 2 bob)) (calling [] ∷ [])

abbrev of_cid : Segment
of_cid = with_frames (segment 3 cid) []

abbrev before : Machine
before = machine_with domains (thread_with (of_ann ∷ of_bob ∷ of_cid ∷ []) ∷ [])

abbrev in_cid : RunningSegment before one
in_cid = placed before (of_ann ∷ of_bob ∷ []) of_cid (cid_with (thrown 9 BOOM ∷ [])) (inside_with (thrown 9 BOOM ∷ []))
    (record { thread = refl; domain = refl; numbered = refl; inside_is = refl })

abbrev in_bob : RunningSegment (without_top in_cid) one
in_bob = placed (without_top in_cid) (of_ann ∷ []) of_bob (bob_with []) (inside_with [])
    (record { thread = refl; domain = refl; numbered = refl; inside_is = refl })

abbrev from_cid : TopTwo before one
from_cid = record { left = in_cid; below = in_bob }

-- bob's frame is dropped
abbrev left_by_frames : Run
left_by_frames = record { inside = inside_with []; frames = [] }

abbrev at_end_of_bob : RunningSegment (with_run in_bob left_by_frames) one
at_end_of_bob = placed (with_run in_bob left_by_frames) (of_ann ∷ []) (record of_bob { frames = [] }) (bob_with []) (inside_with [])
    (record { thread = refl; domain = refl; numbered = refl; inside_is = refl })

abbrev in_ann : RunningSegment (without_top at_end_of_bob) one
in_ann = placed (without_top at_end_of_bob) [] of_ann (ann_with []) (inside_with [])
    (record { thread = refl; domain = refl; numbered = refl; inside_is = refl })

abbrev from_bob : TopTwo (with_run in_bob left_by_frames) one
from_bob = record { left = at_end_of_bob; below = in_ann }

-- ---- The throwable.

abbrev the_boom : IsThrowable in_cid 9
the_boom = record { class = BOOM; fields = Held.Null ∷ []; is_object = refl; of_class = boom; is_class = refl }

-- java/lang/Throwable
abbrev THROWABLE : ClassId
THROWABLE = record { 0 = 9 }

no_death : IsDeath the_boom → ⊥
no_death h = each-of (λ (d : ClassId). d ≢ THREAD_DEATH) (BOOM ∷ EXCEPTION ∷ THROWABLE ∷ OBJECT ∷ []) THREAD_DEATH
    (other 49 (omega arith), (other 15 (omega arith), (other 9 (omega arith), (other 0 (omega arith), tt)))) h refl
  where
    other : (n : ℕ) → n ≢ 34 → (record { 0 = n }) ≢ THREAD_DEATH
    other n ne e = ne (ap (λ (d : ClassId). d.0) e)

bob_lacks : (name : List ℕ) → class_named (meaning (codes "Main") MAIN ∷ []) name ≡ Some BOOM → ⊥
bob_lacks name is = by_test (bytes_eq (codes "Main") name) is
  where
    by_test : (b : Bool) → option_map (λ (e : NamedClass). e.class) (cond b (Some (meaning (codes "Main") MAIN)) None) ≡ Some BOOM → ⊥
    by_test true e = let same : 45 ≡ 49 = ap (λ (d : ClassId). d.0) (same_Some MAIN BOOM e) in absurd (omega (arith, same))
    by_test false e = absurd cc

not_copiable : IsCopiable classes (cid_with []).table (bob_with []).table (Plain BOOM (Held.Null ∷ [])) → ⊥
not_copiable h = elim h [
  | inl marked ↦ absurd cc
  | inr shared ↦ bob_lacks shared.0.0 shared.0.2
]

pub returns : goal.returns
returns c =
    goes_on 1 before (without_top in_cid)
    (machine_with domains (thread_with (with_frames (with_revoked true (segment 1 ann)) (calling [] ∷ []) ∷ []) ∷ [])) 9 6 [] from_cid
    (Raised.Standing Stands.Remote) refl
    (is_uncopiable the_boom no_death
    (9, (from_value 9 (Contains-here (Held.Obj 9) []), (Plain BOOM (Held.Null ∷ []), refl, not_copiable)))) in_bob left_by_frames
    (uncaught (setting_of in_bob) (inside_with []) [] (Raised.Standing Stands.Remote) 6 (refl, refl))
    (drops (with_run in_bob left_by_frames) 6 from_bob refl)
