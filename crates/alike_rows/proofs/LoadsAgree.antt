-- What a load of an element does is determined: the array and the index stand on top of the stack, and the heap has one array of that name.
use Rattle.std.proofs.Common.{◌≡◌, ℕ, ℤ, inl, inr, List, [], ◌∷◌, length, Some, None, slice_get, refl, sym, ap, ◌∙◌}
use Rattle.std.proofs.lemmas.Option.{none-some, same_Some}
use Rattle.jk_model.specs.declared.instructions.Instr.{Instr}
use Rattle.jk_model.specs.declared.values.Value.{Value}
use Rattle.jk_model.specs.declared.values.Value.TheVariants as Held
use Rattle.jk_model_classes.specs.declared.records.TypeRef.{TypeRef}
use Rattle.jk_model_domains.specs.Objects.{Array, NamedObject, object_named}
use Rattle.jk_model_heaps.specs.References.{IsHeapArray}
use Rattle.jk_model_heaps.specs.Workings.{GoesOnWith, Inside, Outcome, Working}
use Rattle.jk_model_heap_rows.specs.ElementRows.{LoadsElement, place_at}
use Rattle.alike_rows.proofs.FramesReplaced.{replaced_agree, same_top}

both : (w v : Working) → w.inside ≡ v.inside → w.frame ≡ v.frame → w ≡ v
both w v e f = λ j. record { inside = e j; frame = f j }

same_items : (t u : TypeRef) (xs ys : List Value) → Array t xs ≡ Array u ys → xs ≡ ys
same_items t u xs ys e = cc

same_name : (v u : Value) (a b : ℕ) → v ≡ u → v ≡ Held.Obj a → u ≡ Held.Obj b → a ≡ b
same_name v u a b e p q = cc

-- one array of one heap
pub same_array : {heap : List NamedObject} {v u : Value} (a : IsHeapArray heap v) (b : IsHeapArray heap u) → v ≡ u → a.items ≡ b.items
same_array {heap = heap} {v = v} {u = u} a b e =
    let name : a.name ≡ b.name = same_name v u a.name b.name e a.refers b.refers in
    let object : Some (Array a.element a.items) ≡ Some (Array b.element b.items) = sym a.object ∙ ap (object_named heap) name ∙ b.object in
    same_items a.element b.element a.items b.items (same_Some (Array a.element a.items) (Array b.element b.items) object)

-- an array isn't null
pub never_null : {heap : List NamedObject} {v u : Value} → IsHeapArray heap v → v ≡ u → u ≡ Held.Null → ⊥
never_null a e null = let refers = a.refers in cc

goes_on_agree : {w new other : Working} {ts ps us qs : List Value} {inside : Inside} {outcome another : Outcome} → GoesOnWith w ts ps inside new outcome
    → GoesOnWith w us qs inside other another → length ts ≡ length us → (ts ≡ us → ps ≡ qs) → (new ≡ other) × (outcome ≡ another)
goes_on_agree {new = new} {other = other} p q long then =
    (both new other (p.inside_is ∙ sym q.inside_is) (replaced_agree p.replaced q.replaced long then), p.goes_on ∙ sym q.goes_on)

first_of_two : (a b c d : Value) → a ∷ b ∷ [] ≡ c ∷ d ∷ [] → a ≡ c
first_of_two a b c d e = cc

second_of_two : (a c : Value) (m n : ℤ) → a ∷ Held.Int m ∷ [] ≡ c ∷ Held.Int n ∷ [] → m ≡ n
second_of_two a c m n e = cc

-- one place of one array
same_place : (xs ys : List Value) (m n : ℤ) (k l : ℕ) → xs ≡ ys → m ≡ n → place_at xs m ≡ Some k → place_at ys n ≡ Some l → k ≡ l
same_place xs ys m n k l e f p q =
    let here : place_at xs m ≡ place_at ys n = cc in
    same_Some k l (sym p ∙ here ∙ q)

-- an index has a place in an array, or none
never_both : {heap : List NamedObject} {v u : Value} (a : IsHeapArray heap v) (b : IsHeapArray heap u) (m n : ℤ) (k : ℕ) → v ≡ u → m ≡ n
    → place_at a.items m ≡ None → place_at b.items n ≡ Some k → ⊥
never_both a b m n k e f p q =
    let items : a.items ≡ b.items = same_array a b e in
    let here : place_at a.items m ≡ place_at b.items n = λ j. place_at (items j) (f j) in
    none-some k (sym p ∙ here ∙ q)

same_item : (xs ys : List Value) (k l : ℕ) (v w : Value) → xs ≡ ys → k ≡ l → slice_get xs k ≡ Some v → slice_get ys l ≡ Some w → v ≡ w
same_item xs ys k l v w e f p q =
    let here : slice_get xs k ≡ slice_get ys l = cc in
    same_Some v w (sym p ∙ here ∙ q)

one_item : (v w : Value) → v ≡ w → v ∷ [] ≡ w ∷ []
one_item v w e = ap (λ (x : Value). x ∷ []) e

pub loads_agree : (i : Instr) (w new other : Working) (outcome another : Outcome) → LoadsElement i w new outcome → LoadsElement i w other another
    → (new ≡ other) × (outcome ≡ another)
loads_agree i w new other outcome another p q =
    let top : p.array ∷ Held.Int p.index ∷ [] ≡ q.array ∷ Held.Int q.index ∷ [] =
    same_top w.frame (p.array ∷ Held.Int p.index ∷ []) (q.array ∷ Held.Int q.index ∷ []) p.on_top q.on_top refl in
    let array : p.array ≡ q.array = first_of_two p.array (Held.Int p.index) q.array (Held.Int q.index) top in
    let index : p.index ≡ q.index = second_of_two p.array q.array p.index q.index top in
    elim p.does [
      | inl null ↦ elim q.does [
        | inl same ↦ (null.1.0 ∙ sym same.1.0, null.1.1 ∙ sym same.1.1)
        | inr (inl fails) ↦ absurd (never_null fails.0 (sym array) null.0)
        | inr (inr loads) ↦ absurd (never_null loads.0 (sym array) null.0)
      ]
      | inr (inl fails) ↦ elim q.does [
        | inl null ↦ absurd (never_null fails.0 array null.0)
        | inr (inl same) ↦ (fails.1.1.0 ∙ sym same.1.1.0, fails.1.1.1 ∙ sym same.1.1.1)
        | inr (inr loads) ↦ absurd (never_both fails.0 loads.0 p.index q.index loads.1 array index fails.1.0 loads.3)
      ]
      | inr (inr loads) ↦ elim q.does [
        | inl null ↦ absurd (never_null loads.0 array null.0)
        | inr (inl fails) ↦ absurd (never_both fails.0 loads.0 q.index p.index loads.1 (sym array) (sym index) fails.1.0 loads.3)
        | inr (inr same) ↦
            let items : loads.0.items ≡ same.0.items = same_array loads.0 same.0 array in
            let place : loads.1 ≡ same.1 = same_place loads.0.items same.0.items p.index q.index loads.1 same.1 items index loads.3 same.3 in
            let item : loads.2 ≡ same.2 = same_item loads.0.items same.0.items loads.1 same.1 loads.2 same.2 items place loads.4 same.4 in
            goes_on_agree loads.5 same.5 refl (λ taken. one_item loads.2 same.2 item)
      ]
    ]
