-- A name has one array in a heap, and null has none.
use Rattle.std.proofs.Common.{◌≡◌, ℕ, List, Some, sym, ap, ◌∙◌}
use Rattle.std.proofs.lemmas.Option.{same_Some}
use Rattle.jk_model.specs.declared.values.Value.{Value}
use Rattle.jk_model.specs.declared.values.Value.TheVariants as Held
use Rattle.jk_model_classes.specs.declared.records.TypeRef.{TypeRef}
use Rattle.jk_model_domains.specs.Objects.{Array, NamedObject, object_named}
use Rattle.jk_model_heaps.specs.References.{IsHeapArray}

-- two arrays by their names and contents
pub record IsOneArray (m n : ℕ) (t u : TypeRef) (xs ys : List Value) : Type 0 where
  pub name : m ≡ n
  pub element : t ≡ u
  pub items : xs ≡ ys

same_parts : (m n : ℕ) (t u : TypeRef) (xs ys : List Value) → m ≡ n → Array t xs ≡ Array u ys → IsOneArray m n t u xs ys
same_parts m n t u xs ys name e = record { name = name; element = cc; items = cc }

pub same_name : (a b : ℕ) → Held.Obj a ≡ Held.Obj b → a ≡ b
same_name a b e = cc

pub that_array : (heap : List NamedObject) (v : Value) (n : ℕ) (t : TypeRef) (xs : List Value) (a : IsHeapArray heap v) → v ≡ Held.Obj n
    → object_named heap n ≡ Some (Array t xs) → IsOneArray a.name n a.element t a.items xs
that_array heap v n t xs a is stands =
    let name : a.name ≡ n = same_name a.name n (sym a.refers ∙ is) in
    same_parts a.name n a.element t a.items xs name
    (same_Some (Array a.element a.items) (Array t xs) (sym a.object ∙ ap (object_named heap) name ∙ stands))

pub one_array : (heap : List NamedObject) (v u : Value) (a : IsHeapArray heap v) (b : IsHeapArray heap u) → v ≡ u
    → IsOneArray a.name b.name a.element b.element a.items b.items
one_array heap v u a b same = that_array heap v b.name b.element b.items a (same ∙ b.refers) b.object

pub no_array_at_null : (heap : List NamedObject) (v : Value) → IsHeapArray heap v → v ≡ Held.Null → ⊥
no_array_at_null heap v a null = let refers = a.refers in cc
