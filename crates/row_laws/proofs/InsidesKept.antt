-- What is kept of a sealed inside where nothing changes, where one object is made, where an object gets other contents, and where one such
-- change follows another.
use Rattle.std.proofs.Common.{inl, inr, ◌≡◌, ◌≢◌, ◌⊎◌, ℕ, List, [], ◌∷◌, Contains, Some, refl, sym, ap, ◌∙◌, subst}
use Rattle.std.proofs.lemmas.Bool.{cases_eq}
use Rattle.std.proofs.lemmas.Option.{same_Some}
use Rattle.list_lemmas.proofs.ItemsOfLists.{Contains-here, only_in}
use Rattle.jk_model.specs.declared.identifiers.SegmentNo.{SegmentNo}
use Rattle.jk_model_domains.specs.Objects.{NamedObject, Object, Task, object_named}
use Rattle.jk_model_heaps.specs.Heaps.{IsAlike, IsGrown, MakesOne, named, with_object}
use Rattle.jk_model_heaps.specs.Workings.{Inside, Setting, with_heap}
use Rattle.object_store.proofs.ObjectsByName.{named_beside, named_in_place}
use Rattle.jk_model_sealing.specs.SealedInsides.{IsSealedInside, IsSealedObject, Surroundings}
use Rattle.heap_laws.proofs.GrownHeaps.{grown_after, grown_self, making_grows, writing_grows}
use Rattle.heap_laws.proofs.ObjectsAfterChanges.{made_there, nothing_else}
use Rattle.heap_laws.proofs.SealedStill.{made_sealed, written_sealed}
use Rattle.heap_laws.specs.KeptInsides.{KeepsInside}

-- one object alone is in such a list
only_made : (a : ℕ) (object : Object) (e : NamedObject) → Contains (named a object ∷ []) e → named a object ≡ e
only_made a object e has = only_in e (named a object) (named a object ∷ []) refl has

-- an object that is no Task, or one of this segment
abbrev pub IsTaskOf : SegmentNo → Object → Type 0
IsTaskOf s object = (n : SegmentNo) → object ≡ Task n → n ≡ s

abbrev pub IsNoTask : Object → Type 0
IsNoTask object = (n : SegmentNo) → object ≡ Task n → ⊥

module _ (around : Surroundings) (x : Setting) where
  pub kept_same : (inside : Inside) → IsSealedInside around x.quota inside → KeepsInside around x inside inside
  kept_same inside sealed = record {
    sealed = sealed;
    grown = grown_self inside.heap;
    tasks = λ a n is. inl is;
    pages = (refl, refl);
  }

  pub kept_after : (first second third : Inside) → KeepsInside around x first second → KeepsInside around x second third
      → KeepsInside around x first third
  kept_after first second third g h = record {
    sealed = h.sealed;
    grown = grown_after first.heap second.heap third.heap g.grown h.grown;
    tasks = λ a n is. elim (h.tasks a n is) [ inl there ↦ g.tasks a n there | inr own ↦ inr own ];
    pages = (h.pages.0 ∙ g.pages.0, h.pages.1 ∙ g.pages.1);
  }

  module _ (inside : Inside) (sealed : IsSealedInside around x.quota inside) where
    module _ (a : ℕ) (object : Object) (heap : List NamedObject) (makes : MakesOne around.classes x.quota inside.heap a object heap) where
      pub one_there : object_named heap a ≡ Some object
      one_there =
          made_there around.classes x.quota inside.heap (named a object ∷ []) heap makes (named a object) (Contains-here (named a object) [])

      pub one_grows : IsGrown inside.heap heap
      one_grows = making_grows around.classes x.quota inside.heap (named a object ∷ []) heap makes

      new_tasks : IsTaskOf x.segment object → (b : ℕ) (n : SegmentNo) → object_named heap b ≡ Some (Task n)
          → (object_named inside.heap b ≡ Some (Task n)) ⊎ (n ≡ x.segment)
      new_tasks of b n is =
          elim (nothing_else around.classes x.quota inside.heap (named a object ∷ []) heap makes b (Task n) is) [
            | inl old ↦ inl old
            | inr made ↦ inr (of n (ap (λ (e : NamedObject). e.object) (only_made a object (named b (Task n)) made)))
          ]

      pub one_kept : IsSealedObject around heap object → IsTaskOf x.segment object → KeepsInside around x inside (with_heap inside heap)
      one_kept fits of = record {
        sealed = made_sealed around x.quota inside (named a object ∷ []) heap sealed makes
            (λ e has. subst (λ (y : NamedObject). IsSealedObject around heap y.object) (only_made a object e has) fits);
        grown = one_grows;
        tasks = new_tasks of;
        pages = (refl, refl);
      }

    module _ (a : ℕ) (old new : Object) (there : object_named inside.heap a ≡ Some old) (alike : IsAlike old new) where
      abbrev written : List NamedObject
      written = with_object a new inside.heap

      pub writing_grown : IsGrown inside.heap (with_object a new inside.heap)
      writing_grown = writing_grows inside.heap a old new there alike

      written_task : IsNoTask new → (b : ℕ) (n : SegmentNo) → (b ≡ a) ⊎ (b ≢ a) → object_named written b ≡ Some (Task n)
          → (object_named inside.heap b ≡ Some (Task n)) ⊎ (n ≡ x.segment)
      written_task none b n (inl same) is =
          absurd (none n (same_Some new (Task n)
          (sym (named_in_place a new old inside.heap there) ∙ ap (object_named written) (sym same) ∙ is)))
      written_task none b n (inr other) is = inl (sym (named_beside a b new inside.heap other) ∙ is)

      pub writing_kept : IsSealedObject around (with_object a new inside.heap) new → IsNoTask new
          → KeepsInside around x inside (with_heap inside (with_object a new inside.heap))
      writing_kept fits none = record {
        sealed = written_sealed around x.quota inside a old new sealed there alike fits;
        grown = writing_grown;
        tasks = λ b n is. written_task none b n (cases_eq b a) is;
        pages = (refl, refl);
      }
