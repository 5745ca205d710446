-- Of the cases of a store, each but one contradicts what stands on the stack or in the heap.
use Rattle.std.proofs.Common.{◌≡◌, ℕ, ℤ, pos, inl, inr, List, [], ◌∷◌, Some, None, refl, sym, ap, subst, ◌∙◌}
use Rattle.std.specs.Prelude.{slice_set}
use Rattle.std.proofs.lemmas.Option.{none-some, same_Some}
use Rattle.jk_model.specs.declared.values.Value.{Value}
use Rattle.jk_model.specs.declared.values.Value.TheVariants as Held
use Rattle.jk_model_classes.specs.declared.records.TypeRef.{TypeRef}
use Rattle.jk_model_typing.specs.FrameTypes.{STRING}
use Rattle.jk_model_domains.specs.Objects.{Array, NamedObject, class_type}
use Rattle.jk_model_heaps.specs.Heaps.{with_object}
use Rattle.jk_model_heaps.specs.References.{IsHeapArray, IsNullOrInstance}
use Rattle.jk_model_heaps.specs.StoredValues.{stored}
use Rattle.jk_model_heaps.specs.Workings.{Inside, Setting}
use Rattle.jk_model_heaps.proofs.ArraysInHeaps.{no_array_at_null, that_array}
use Rattle.jk_model_heap_rows.specs.ElementRows.{StoresElement, place_at}
use Rattle.jk_model_heap_rows.proofs.StoresAlone.{only_a_store, three_on_top}
use Rattle.jk_model_heap_rows.proofs.examples.stores_that_fail_do_nothing_else.Goals as goal

obj_not_null : (v : Value) (a : ℕ) → v ≡ Held.Obj a → v ≡ Held.Null → ⊥
obj_not_null v a is null = cc

abbrev one_null : List Value
one_null = Held.Null ∷ []

-- of the array of one null
same_place : (xs : List Value) (m : ℤ) (n : ℤ) → xs ≡ one_null → m ≡ n → place_at xs m ≡ place_at one_null n
same_place xs m n e f = λ j. place_at (e j) (f j)

pub returns-clause-null : goal.returns-clause-null
returns-clause-null c = λ x s i w new outcome v op on_top row.
    let store : StoresElement x i w new outcome = only_a_store x s i w new outcome op row in
    let top = three_on_top w.frame store.array store.index store.value Held.Null (pos 5) v store.on_top on_top in
    elim store.does [
      | inl fails ↦ (fails.1.0, fails.1.1)
      | inr (inl fails) ↦ absurd (no_array_at_null w.inside.heap store.array fails.0 top.array)
      | inr (inr (inl fails)) ↦ absurd (no_array_at_null w.inside.heap store.array fails.0 top.array)
      | inr (inr (inr stores)) ↦ absurd (no_array_at_null w.inside.heap store.array stores.0 top.array)
    ]

pub returns-clause-index : goal.returns-clause-index
returns-clause-index c = λ x s i w new outcome v op on_top stands row.
    let store : StoresElement x i w new outcome = only_a_store x s i w new outcome op row in
    let top = three_on_top w.frame store.array store.index store.value (Held.Obj 7) (pos 5) v store.on_top on_top in
    let no_place = λ (a : IsHeapArray w.inside.heap store.array) (place : ℕ) (at : place_at a.items store.index ≡ Some place).
    let that = that_array w.inside.heap store.array 7 (class_type STRING) one_null a top.array stands in
    none-some place (sym (same_place a.items store.index (pos 5) that.items top.index) ∙ at) in
    elim store.does [
      | inl fails ↦ absurd (obj_not_null store.array 7 top.array fails.0)
      | inr (inl fails) ↦ (fails.1.1.0, fails.1.1.1)
      | inr (inr (inl fails)) ↦ absurd (no_place fails.0 fails.1 fails.2)
      | inr (inr (inr stores)) ↦ absurd (no_place stores.0 stores.1 stores.2)
    ]

-- the index 0 isn't none of the array's
has_place : (xs : List Value) (m : ℤ) → xs ≡ one_null → m ≡ pos 0 → place_at xs m ≡ None → ⊥
has_place xs m e f none = none-some 0 (sym none ∙ same_place xs m (pos 0) e f)

fits_in : (x : Setting) (heap : List NamedObject) (v u : Value) (t k : TypeRef) → v ≡ u → t ≡ k → IsNullOrInstance x heap v t
    → IsNullOrInstance x heap u k
fits_in x heap v u t k e f h = subst (λ (y : Value). IsNullOrInstance x heap y k) e (subst (IsNullOrInstance x heap v) f h)

pub returns-clause-value : goal.returns-clause-value
returns-clause-value c = λ x s i w new outcome a op on_top stands no_text row.
    let store : StoresElement x i w new outcome = only_a_store x s i w new outcome op row in
    let top = three_on_top w.frame store.array store.index store.value (Held.Obj 7) (pos 0) (Held.Obj a) store.on_top on_top in
    let heap : List NamedObject = w.inside.heap in
    elim store.does [
      | inl fails ↦ absurd (obj_not_null store.array 7 top.array fails.0)
      | inr (inl fails) ↦
          let that = that_array heap store.array 7 (class_type STRING) one_null fails.0 top.array stands in
          absurd (has_place fails.0.items store.index that.items top.index fails.1.0)
      | inr (inr (inl fails)) ↦ (fails.5.0, fails.5.1)
      | inr (inr (inr stores)) ↦
          let that = that_array heap store.array 7 (class_type STRING) one_null stores.0 top.array stands in
          let fits : IsNullOrInstance x heap (Held.Obj a) (class_type STRING) =
          fits_in x heap store.value (Held.Obj a) stores.0.element (class_type STRING) top.value that.element (stores.3 op) in
          elim fits [ inl null ↦ absurd (obj_not_null (Held.Obj a) a refl null) | inr is ↦ absurd (no_text is) ]
    ]

-- what is stored in the place of the one null
heap_after : (heap : List NamedObject) (n : ℕ) (t : TypeRef) (xs : List Value) (p : ℕ) (v : Value) (a : ℕ) → n ≡ 7 → t ≡ class_type STRING
    → xs ≡ one_null → p ≡ 0 → v ≡ Held.Obj a
    → with_object n (Array t (slice_set xs p (stored t v))) heap ≡ with_object 7 (Array (class_type STRING) (Held.Obj a ∷ [])) heap
heap_after heap n t xs p v a name element items place value =
    λ j. with_object (name j) (Array (element j) (slice_set (items j) (place j) (stored (element j) (value j)))) heap

pub returns-clause-text : goal.returns-clause-text
returns-clause-text c = λ x s i w new outcome a op on_top stands is_text row.
    let store : StoresElement x i w new outcome = only_a_store x s i w new outcome op row in
    let top = three_on_top w.frame store.array store.index store.value (Held.Obj 7) (pos 0) (Held.Obj a) store.on_top on_top in
    let heap : List NamedObject = w.inside.heap in
    elim store.does [
      | inl fails ↦ absurd (obj_not_null store.array 7 top.array fails.0)
      | inr (inl fails) ↦
          let that = that_array heap store.array 7 (class_type STRING) one_null fails.0 top.array stands in
          absurd (has_place fails.0.items store.index that.items top.index fails.1.0)
      | inr (inr (inl fails)) ↦
          let that = that_array heap store.array 7 (class_type STRING) one_null fails.0 top.array stands in
          absurd (fails.4 (fits_in x heap (Held.Obj a) store.value (class_type STRING) fails.0.element (sym top.value) (sym that.element) (inr is_text)))
      | inr (inr (inr stores)) ↦
          let that = that_array heap store.array 7 (class_type STRING) one_null stores.0 top.array stands in
          let place : stores.1 ≡ 0 =
          same_Some stores.1 0 (sym stores.2 ∙ same_place stores.0.items store.index (pos 0) that.items top.index) in (
            ap (λ (inside : Inside). inside.heap) stores.4.inside_is
                ∙ heap_after heap stores.0.name stores.0.element stores.0.items stores.1 store.value a that.name that.element that.items place top.value,
            stores.4.goes_on,
          )
    ]
