-- Arrays of arrays get rising names from any name on, and cost what they are said to cost.
use Rattle.std.proofs.Common.{◌≡◌, ℕ, zero, suc, ◌+◌, ◌*◌, ◌≤◌, List, [], ◌∷◌, ◌++◌, length, map, Some, slice_get, refl, sym, ap, subst, ◌∙◌, arith}
use Rattle.std.specs.Prelude.{flat_map}
use Rattle.std.proofs.Math.Nat.{suc-mul, zero-mul}
use Rattle.std.specs.List.{AllByRecursion}
use Rattle.std.proofs.lemmas.List.{length-map}
use Rattle.std.proofs.lemmas.List.Sums.{sum_by-append, sum_by-cons}
use Rattle.std.proofs.lemmas.Option.{same_Some}
use Rattle.list_lemmas.proofs.ItemsOfLists.{place_of}
use Rattle.jk_model.specs.declared.values.Value.TheVariants as Held
use Rattle.jk_model_classes.specs.declared.records.ClassRecord.{ClassRecord}
use Rattle.jk_model_classes.specs.declared.records.TypeRef.{TypeRef}
use Rattle.jk_model_classes.specs.Layouts.{HEADER_WORDS, type_words}
use Rattle.jk_model_domains.specs.Objects.{Array, NamedObject, object_words}
use Rattle.jk_model_domains.specs.OwnStates.{zero_of}
use Rattle.jk_model_heaps.specs.Heaps.{heap_words, named}
use Rattle.jk_model_heaps.specs.Workings.{Setting}
use Rattle.jk_model_heap_rows.specs.ArrayTrees.{IsTree, Made, MakesTree, element_type, tree_words}
use Rattle.heap_laws.proofs.FreshNames.{above_names, none_above}

-- ---- Names that rise, from one name on and below another.

abbrev Rise : ℕ → ℕ → List NamedObject → Type 0
Rise low high [] = low ≤ high
Rise low high (e ∷ more) = (low ≤ e.name) × Rise (suc e.name) high more

rise_between : (low high : ℕ) (es : List NamedObject) → Rise low high es → low ≤ high
rise_between low high [] h = h
rise_between low high (e ∷ more) h = omega (arith, h.0, rise_between (suc e.name) high more h.1)

rise_lower : (low mid high : ℕ) (es : List NamedObject) → low ≤ mid → Rise mid high es → Rise low high es
rise_lower low mid high [] k h = omega (arith, k, h)
rise_lower low mid high (e ∷ more) k h = (omega (arith, k, h.0), h.1)

rise_append : (low mid high : ℕ) (es fs : List NamedObject) → Rise low mid es → Rise mid high fs → Rise low high (es ++ fs)
rise_append low mid high [] fs h k = rise_lower low mid high fs h k
rise_append low mid high (e ∷ more) fs h k = (h.0, rise_append (suc e.name) mid high more fs h.1 k)

rise_at : (low high : ℕ) (es : List NamedObject) (i : ℕ) (e : NamedObject) → Rise low high es → slice_get es i ≡ Some e → low ≤ e.name
rise_at low high [] i e h at = absurd cc
rise_at low high (f ∷ more) zero e h at = subst (λ (g : NamedObject). low ≤ g.name) (same_Some f e at) h.0
rise_at low high (f ∷ more) (suc i) e h at = omega (arith, h.0, rise_at (suc f.name) high more i e h.1 at)

rise_differ : (low high : ℕ) (es : List NamedObject) → Rise low high es → (i j : ℕ) (a b : NamedObject) → slice_get es i ≡ Some a
    → slice_get es j ≡ Some b → a.name ≡ b.name → i ≡ j
rise_differ low high [] h i j a b first second same = absurd cc
rise_differ low high (e ∷ more) h zero zero a b first second same = refl
rise_differ low high (e ∷ more) h zero (suc j) a b first second same =
    let front : e.name ≡ a.name = ap (λ (g : NamedObject). g.name) (same_Some e a first) in
    absurd (omega (arith, front, same, rise_at (suc e.name) high more j b h.1 second))
rise_differ low high (e ∷ more) h (suc i) zero a b first second same =
    let front : e.name ≡ b.name = ap (λ (g : NamedObject). g.name) (same_Some e b second) in
    absurd (omega (arith, front, same, rise_at (suc e.name) high more i a h.1 first))
rise_differ low high (e ∷ more) h (suc i) (suc j) a b first second same =
    ap suc (rise_differ (suc e.name) high more h.1 i j a b first second same)

-- ---- Trees.

module _ (classes : List ClassRecord) where
  -- a tree of these counts whose names rise from this one on
  record TreeFrom (t : TypeRef) (counts : List ℕ) (first : ℕ) : Type 0 where
    next : ℕ
    made : Made
    is_tree : IsTree t counts made
    rise : Rise first next made.objects
    words : heap_words classes made.objects ≡ tree_words t counts

  abbrev objects_of : List Made → List NamedObject
  objects_of items = flat_map (λ (e : Made). e.objects) items

  -- so many of them
  record TreesFrom (t : TypeRef) (counts : List ℕ) (n first : ℕ) : Type 0 where
    next : ℕ
    items : List Made
    as_many : length items ≡ n
    each : AllByRecursion (IsTree t counts) items
    rise : Rise first next (objects_of items)
    words : heap_words classes (objects_of items) ≡ n * tree_words t counts

  many_words : (t : TypeRef) (counts : List ℕ) (n : ℕ) (xs ys : List NamedObject) → heap_words classes xs ≡ tree_words t counts
      → heap_words classes ys ≡ n * tree_words t counts → heap_words classes (xs ++ ys) ≡ suc n * tree_words t counts
  many_words t counts n xs ys one rest =
      omega (arith, sum_by-append (λ (e : NamedObject). object_words classes e.object) xs ys, one, rest, suc-mul n (tree_words t counts))

  trees_from : (t : TypeRef) (counts : List ℕ) → ((first : ℕ) → TreeFrom t counts first) → (n first : ℕ) → TreesFrom t counts n first
  trees_from t counts one zero first =
      record { next = first; items = []; as_many = refl; each = tt; rise = omega arith; words = sym (zero-mul (tree_words t counts)) }
  trees_from t counts one (suc n) first =
      let tree = one first in
      let rest = trees_from t counts one n tree.next in
      record {
        next = rest.next;
        items = tree.made ∷ rest.items;
        as_many = ap suc rest.as_many;
        each = (tree.is_tree, rest.each);
        rise = rise_append first tree.next rest.next tree.made.objects (objects_of rest.items) tree.rise rest.rise;
        words = many_words t counts n tree.made.objects (objects_of rest.items) tree.words rest.words;
      }

  -- an array in front of what its items are
  abbrev array_of : TypeRef → ℕ → List Made → NamedObject
  array_of t a items = named a (Array (element_type t) (map (λ (e : Made). e.value) items))

  array_words : (t : TypeRef) (counts : List ℕ) (n a : ℕ) (items : List Made) → length items ≡ n
      → heap_words classes (objects_of items) ≡ n * tree_words (element_type t) counts
      → heap_words classes (array_of t a items ∷ objects_of items) ≡ tree_words t (n ∷ counts)
  array_words t counts n a items many rest =
      let many_values : length (map (λ (e : Made). e.value) items) ≡ n = length-map items (λ (e : Made). e.value) ∙ many in
      sum_by-cons (λ (e : NamedObject). object_words classes e.object) (array_of t a items) (objects_of items)
      ∙ ap (λ (k : ℕ). HEADER_WORDS + type_words (element_type t) * k + heap_words classes (objects_of items)) many_values
      ∙ ap (λ (k : ℕ). HEADER_WORDS + type_words (element_type t) * n + k) rest

  tree_from : (t : TypeRef) (counts : List ℕ) (first : ℕ) → TreeFrom t counts first
  tree_from t [] first = record {
    next = first;
    made = record { value = zero_of t; objects = [] };
    is_tree = refl;
    rise = omega arith;
    words = refl;
  }
  tree_from t (n ∷ counts) first =
      let items = trees_from (element_type t) counts (tree_from (element_type t) counts) n (suc first) in
      record {
        next = items.next;
        made = record { value = Held.Obj first; objects = array_of t first items.items ∷ objects_of items.items };
        is_tree = (first, items.items, items.as_many, items.each, refl);
        rise = (omega arith, items.rise);
        words = array_words t counts n first items.items items.as_many items.words;
      }

pub tree_made : (x : Setting) (t : TypeRef) (n : ℕ) (counts : List ℕ) (heap : List NamedObject)
    → heap_words x.classes heap + tree_words t (n ∷ counts) ≤ x.quota → (a : ℕ) × (new : List NamedObject) × MakesTree x t (n ∷ counts) a heap new
tree_made x t n counts heap fits =
    let first : ℕ = above_names heap in
    let items = trees_from x.classes (element_type t) counts (tree_from x.classes (element_type t) counts) n (suc first) in
    let objects : List NamedObject = array_of x.classes t first items.items ∷ objects_of x.classes items.items in
    let rise : Rise first items.next objects = (omega arith, items.rise) in
    let words = array_words x.classes t counts n first items.items items.as_many items.words in (
      first,
      heap ++ objects,
      record {
        made = objects;
        is_tree = (first, items.items, items.as_many, items.each, refl);
        makes = record {
          fresh = λ e has. let at = place_of objects e has in none_above heap e.name (rise_at first items.next objects at.0 e rise at.1);
          differ = rise_differ first items.next objects rise;
          fits = subst (λ (k : ℕ). heap_words x.classes heap + k ≤ x.quota) (sym words) fits;
          grown = refl;
        };
      },
    )
