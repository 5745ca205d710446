-- A domain's inside keeps what is kept where sealed objects are made in it, and an object of a shape that the domain may make is pushed.
use Rattle.std.proofs.Common.{inl, inr, ◌≡◌, ◌⊎◌, ℕ, List, [], ◌∷◌, Contains, Some, refl, subst}
use Rattle.list_lemmas.proofs.ItemsOfLists.{Contains-here, only_in}
use Rattle.jk_model.specs.declared.identifiers.SegmentNo.{SegmentNo}
use Rattle.jk_model.specs.declared.steps.Raise.TheVariants as Raised
use Rattle.jk_model.specs.declared.steps.Standing.TheVariants as Stands
use Rattle.jk_model.specs.declared.values.Value.{Value}
use Rattle.jk_model.specs.declared.values.Value.TheVariants as Held
use Rattle.jk_model_classes.specs.declared.records.ClassRecord.{ClassRecord}
use Rattle.jk_model_domains.specs.Objects.{NamedObject, Object, Task, object_named, object_words}
use Rattle.jk_model_heaps.specs.declared.shapes.Shape.{Shape}
use Rattle.jk_model_heaps.specs.Heaps.{Lacks, Makes, MakesOne, named, zero_object}
use Rattle.jk_model_heaps.specs.RunningCode.{RunsCode}
use Rattle.jk_model_heaps.specs.Workings.{GoesOnWith, Inside, Outcome, RaisesHere, Setting, Working, with_heap}
use Rattle.jk_model_heap_rows.specs.NewObjectRows.{PushesNew}
use Rattle.jk_model_sealing.specs.SealedInsides.{IsSealedInside, IsSealedObject, Surroundings}
use Rattle.heap_laws.specs.SealedChanges.{IsNamedShape}
use Rattle.heap_laws.proofs.GrownHeaps.{making_grows}
use Rattle.heap_laws.proofs.NewObjects.{new_sealed}
use Rattle.heap_laws.proofs.ObjectsAfterChanges.{made_there, nothing_else}
use Rattle.heap_laws.proofs.SealedStill.{made_sealed}
use Rattle.heap_laws.specs.KeptInsides.{KeepsInside}
use Rattle.heap_laws.specs.RunningFrames.{RunsWell}
use Rattle.row_laws.proofs.HeapFramesLeft.{Keeps, raised}

abbrev pub IsNoTask : Object → Type 0
IsNoTask o = (n : SegmentNo) → o ≡ Task n → ⊥

module _ (around : Surroundings) (x : Setting) (inside : Inside) (sealed : IsSealedInside around x.quota inside) (made heap : List NamedObject)
    (makes : Makes around.classes x.quota inside.heap made heap)
    (each : (e : NamedObject) → Contains made e → IsSealedObject around heap e.object × IsNoTask e.object) where
  old_task : (a : ℕ) (n : SegmentNo) → object_named heap a ≡ Some (Task n) → object_named inside.heap a ≡ Some (Task n)
  old_task a n is = elim (nothing_else around.classes x.quota inside.heap made heap makes a (Task n) is) [
    | inl old ↦ old
    | inr new ↦ absurd ((each (named a (Task n)) new).1 n refl)
  ]

  pub made_keeps : KeepsInside around x inside (with_heap inside heap)
  made_keeps = record {
    sealed = made_sealed around x.quota inside made heap sealed makes (λ e has. (each e has).0);
    grown = making_grows around.classes x.quota inside.heap made heap makes;
    tasks = λ a n is. inl (old_task a n is);
    pages = (refl, refl);
  }

-- one object
module _ (around : Surroundings) (x : Setting) (inside : Inside) (sealed : IsSealedInside around x.quota inside) (a : ℕ) (o : Object)
    (heap : List NamedObject) (makes : MakesOne around.classes x.quota inside.heap a o heap) where
  pub one_made_keeps : IsSealedObject around heap o → IsNoTask o → KeepsInside around x inside (with_heap inside heap)
  one_made_keeps fits no_task =
      made_keeps around x inside sealed (named a o ∷ []) heap makes
      (λ e has. subst (λ (y : NamedObject). IsSealedObject around heap y.object × IsNoTask y.object) (only_in e (named a o) (named a o ∷ []) refl has)
      (fits, no_task))

  pub one_made_there : object_named heap a ≡ Some o
  one_made_there = made_there around.classes x.quota inside.heap (named a o ∷ []) heap makes (named a o) (Contains-here (named a o) [])

-- ---- A new object is pushed, or doesn't fit.

module _ (around : Surroundings) (x : Setting) (w new : Working) (outcome : Outcome) (runs : RunsWell around x w)
    (code : RunsCode around.classes w.frame) (taken : List Value) (shape : Shape) where
  abbrev Pushes : List ClassRecord → Type 0
  Pushes classes =
      ((a : ℕ) × (heap : List NamedObject) × MakesOne classes x.quota w.inside.heap a (zero_object classes shape) heap
      × GoesOnWith w taken (Held.Obj a ∷ []) (with_heap w.inside heap) new outcome)
      ⊎ (Lacks classes x.quota w.inside.heap (object_words classes (zero_object classes shape))
      × RaisesHere w (Raised.Standing Stands.OutOfMemoryError) new outcome)

  -- what is to be seen to where it fits
  abbrev pub IsPushedWell : Type 0
  IsPushedWell =
      (a : ℕ) (heap : List NamedObject) → object_named heap a ≡ Some (zero_object around.classes shape)
      → KeepsInside around x w.inside (with_heap w.inside heap) → GoesOnWith w taken (Held.Obj a ∷ []) (with_heap w.inside heap) new outcome
      → Keeps around x w runs code new outcome

  pushed_by : IsNamedShape around.table shape → IsNoTask (zero_object around.classes shape) → IsPushedWell → Pushes around.classes
      → Keeps around x w runs code new outcome
  pushed_by named no_task well (inl (a, heap, makes, goes)) =
      well a heap (one_made_there around x w.inside runs.inside a (zero_object around.classes shape) heap makes)
      (one_made_keeps around x w.inside runs.inside a (zero_object around.classes shape) heap makes (new_sealed around heap shape named) no_task) goes
  pushed_by named no_task well (inr (lacks, raises)) =
      raised around x w runs code (Raised.Standing Stands.OutOfMemoryError) new outcome raises tt

  pub pushed_keeps : IsNamedShape around.table shape → IsNoTask (zero_object around.classes shape) → IsPushedWell
      → PushesNew x w taken shape new outcome → Keeps around x w runs code new outcome
  pushed_keeps named no_task well pushes = pushed_by named no_task well (subst Pushes runs.setting.classes pushes)
