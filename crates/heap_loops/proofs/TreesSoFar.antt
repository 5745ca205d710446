-- The arrays below an array are made one after the other: each is put into the next item, and all that are made so far stand behind the
-- heap as it was.
use Rattle.std.proofs.Common.{◌≡◌, ◌≢◌, ℕ, zero, suc, ◌+◌, ◌-◌, ◌*◌, ◌^◌, ◌<◌, ◌≤◌, ◌==◌, Bool, true, false, List, [], ◌∷◌, ◌++◌, length, map, replicate, Option, Some, IsSome, slice_get, slice_set, refl, sym, ap, ◌∙◌, subst, arith}
use Rattle.std.specs.Prelude.{flat_map}
use Rattle.std.specs.List.{AllByRecursion}
use Rattle.std.specs.Option.{option_map_or}
use Rattle.std.proofs.Math.Nat.{mul-le-mul_right, sub-zero}
use Rattle.std.proofs.lemmas.Bool.{eqb-false, eqb-true}
use Rattle.std.proofs.lemmas.Grind.{flat_map-append}
use Rattle.std.proofs.lemmas.List.{append-nil, append_assoc, length-append, length-map, length-replicate, length-set, map_push, nil_from_length, set_at}
use Rattle.std.proofs.lemmas.List.Sums.{sum_by-append, sum_by-cons}
use Rattle.list_lemmas.proofs.ItemsByPlace.{slice_get-seam}
use Rattle.list_lemmas.proofs.LastItems.{each-append}
use Rattle.jk_model.specs.declared.identifiers.DomainId.{DomainId}
use Rattle.jk_model.specs.declared.values.Value.{Value}
use Rattle.jk_model.specs.declared.values.Value.TheVariants as Held
use Rattle.jk_model_classes.specs.declared.records.BaseRef.{BaseRef}
use Rattle.jk_model_classes.specs.declared.records.ClassRecord.{ClassRecord}
use Rattle.jk_model_classes.specs.declared.records.TypeRef.{TypeRef}
use Rattle.jk_model_classes.specs.Layouts.{HEADER_WORDS, type_words}
use Rattle.jk_model_typing.specs.FrameTypes.{array_type}
use Rattle.jk_model_domains.specs.Objects.{Array, NamedObject, Object, object_named, object_words}
use Rattle.jk_model_domains.specs.OwnStates.{zero_of}
use Rattle.jk_model_heaps.specs.Heaps.{heap_words, named, with_object}
use Rattle.jk_model_heap_rows.specs.ArrayTrees.{IsTree, Made, element_type, tree_words}
use Rattle.jk_model_heap_rows.proofs.TreesCost.{trees_cost}
use Rattle.object_store.specs.HeapContents.{AreOfKind, HeapBecomes, HeapContent, IsAdmitted, IsHeapContent, IsLive, IsWritten, MakesObject, TakesItem, WritesObject, words_left}
use Rattle.object_store.proofs.ObjectsByName.{NamesDiffer}
use Rattle.heap_loops.specs.ObjectsMade.{MakesObjects}
use Rattle.heap_loops.proofs.NamesApart.{back_differs, front_lacks, live_in_middle, put_in_middle}
use Rattle.heap_loops.proofs.HeapsBecome.{both_become, one_word, room_by, told}

abbrev words_in : List ClassRecord → NamedObject → ℕ
words_in classes e = object_words classes e.object

abbrev value_in : Made → Value
value_in e = e.value

abbrev objects_in : Made → List NamedObject
objects_in e = e.objects

-- the items of an array of so many, of which these are made
abbrev items_of : TypeRef → ℕ → List Made → List Value
items_of element n items = map value_in items ++ replicate (n - length items) (zero_of element)

-- the array with them, and what was made for them
abbrev objects_of : TypeRef → ℕ → ℕ → List Made → List NamedObject
objects_of element n a items = named a (Array element (items_of element n items)) ∷ flat_map objects_in items

-- So many items of an array of so many are made, by these counts each.
pub record TreeSoFar (old now : HeapContent) (classes : List ClassRecord) (d : DomainId) (element : TypeRef) (more : List ℕ) (n a i : ℕ) : Type 0 where
  pub items : List Made
  pub many : length items ≡ i
  pub trees : AllByRecursion (IsTree element more) items
  pub small : a < 2 ^ 30
  pub becomes : HeapBecomes old now d (old.heap d ++ objects_of element n a items) (old.used d + heap_words classes (objects_of element n a items))

-- ---- The array alone.

no_items : (element : TypeRef) (n a : ℕ) → named a (Array element (replicate n (zero_of element))) ∷ [] ≡ objects_of element n a []
no_items element n a = ap (λ (k : ℕ). named a (Array element (replicate k (zero_of element))) ∷ []) (sym (sub-zero n))

pub root_made : (old now : HeapContent) (classes : List ClassRecord) (d : DomainId) (element : TypeRef) (more : List ℕ) (n a : ℕ)
    → MakesObject old now classes d a (Array element (replicate n (zero_of element))) → TreeSoFar old now classes d element more n a 0
root_made old now classes d element more n a made =
    let root : Object = Array element (replicate n (zero_of element)) in
    record {
      items = [];
      many = refl;
      trees = tt;
      small = made.small;
      becomes =
          told old now d (old.heap d ++ named a root ∷ []) (old.heap d ++ objects_of element n a []) (old.used d + object_words classes root)
          (old.used d + heap_words classes (objects_of element n a []))
          (ap (λ (l : List NamedObject). old.heap d ++ l) (no_items element n a))
          (ap (λ (k : ℕ). old.used d + k) (one_word classes a root ∙ ap (heap_words classes) (no_items element n a)))
          made.becomes;
    }

-- ---- Items that are zeros.

abbrev leaf : TypeRef → Made
leaf element = record { value = zero_of element; objects = [] }

leaf_values : (element : TypeRef) (n : ℕ) → map value_in (replicate n (leaf element)) ≡ replicate n (zero_of element)
leaf_values element zero = refl
leaf_values element (suc n) = ap (λ (l : List Value). zero_of element ∷ l) (leaf_values element n)

leaf_objects : (element : TypeRef) (n : ℕ) → flat_map objects_in (replicate n (leaf element)) ≡ []
leaf_objects element zero = refl
leaf_objects element (suc n) = leaf_objects element n

leaf_trees : (element : TypeRef) (n : ℕ) → AllByRecursion (IsTree element []) (replicate n (leaf element))
leaf_trees element zero = tt
leaf_trees element (suc n) = (refl, leaf_trees element n)

abbrev leaves : TypeRef → ℕ → List Made
leaves element n = replicate n (leaf element)

all_leaves : (element : TypeRef) (n a : ℕ) → named a (Array element (replicate n (zero_of element))) ∷ [] ≡ objects_of element n a (leaves element n)
all_leaves element n a =
    let none : n - length (leaves element n) ≡ 0 = omega (arith, length-replicate n (leaf element)) in
    let values : items_of element n (leaves element n) ≡ replicate n (zero_of element) =
    ap (λ (k : ℕ). map value_in (leaves element n) ++ replicate k (zero_of element)) none
    ∙ append-nil (map value_in (leaves element n))
    ∙ leaf_values element n in
    let objects = leaf_objects element n in
    sym (ap (λ (l : List Value). named a (Array element l) ∷ flat_map objects_in (leaves element n)) values
    ∙ ap (λ (l : List NamedObject). named a (Array element (replicate n (zero_of element))) ∷ l) objects)

pub leaves_made : (old now : HeapContent) (classes : List ClassRecord) (d : DomainId) (element : TypeRef) (n a : ℕ)
    → MakesObject old now classes d a (Array element (replicate n (zero_of element))) → TreeSoFar old now classes d element [] n a n
leaves_made old now classes d element n a made =
    let root : Object = Array element (replicate n (zero_of element)) in
    record {
      items = leaves element n;
      many = length-replicate n (leaf element);
      trees = leaf_trees element n;
      small = made.small;
      becomes =
          told old now d (old.heap d ++ named a root ∷ []) (old.heap d ++ objects_of element n a (leaves element n))
          (old.used d + object_words classes root) (old.used d + heap_words classes (objects_of element n a (leaves element n)))
          (ap (λ (l : List NamedObject). old.heap d ++ l) (all_leaves element n a))
          (ap (λ (k : ℕ). old.used d + k) (one_word classes a root ∙ ap (heap_words classes) (all_leaves element n a)))
          made.becomes;
    }

-- ---- All items are made.

pub tree_made : (old new : HeapContent) (classes : List ClassRecord) (d : DomainId) (t : TypeRef) (more : List ℕ) (n a i : ℕ) → i ≡ n
    → IsHeapContent new → TreeSoFar old new classes d (element_type t) more n a i
    → (made : List NamedObject) × IsTree t (n ∷ more) (record { value = Held.Obj a; objects = made }) × MakesObjects old new classes d made
tree_made old new classes d t more n a i end holds so_far =
    let items = so_far.items in
    let made : List NamedObject = objects_of (element_type t) n a items in
    let differ : NamesDiffer (old.heap d ++ made) = subst NamesDiffer so_far.becomes.becomes (holds.differ d) in
    let all : length items ≡ n = so_far.many ∙ end in
    let none : n - length items ≡ 0 = omega (arith, all) in
    let values : items_of (element_type t) n items ≡ map value_in items =
    ap (λ (k : ℕ). map value_in items ++ replicate k (zero_of (element_type t))) none ∙ append-nil (map value_in items) in (
      made,
      (
        a,
        items,
        all,
        so_far.trees,
        ap
            (λ (l : List Value). record { value = Held.Obj a; objects = named a (Array (element_type t) l) ∷ flat_map objects_in items })
            values,
      ),
      record {
        fresh = λ e has. front_lacks (old.heap d) made e differ has;
        differ = back_differs (old.heap d) made differ;
        becomes = so_far.becomes;
      },
    )

-- ---- One item more.

null_below : (dims : ℕ) (base : BaseRef) → 0 < dims → zero_of (array_type dims base) ≡ Held.Null
null_below zero base deep = absurd (omega arith)
null_below (suc dims) base deep = refl

takes_object : (element : TypeRef) (b : ℕ) → 0 < element.dims → AreOfKind (zero_of element) (Held.Obj b)
takes_object element b deep =
    let null : zero_of element ≡ Held.Null = null_below element.dims element.base deep in
    subst (λ (v : Value). AreOfKind v (Held.Obj b)) (sym null) (tt, tt)

module _ (element : TypeRef) (n : ℕ) (items : List Made) (within : length items < n) where
  abbrev zeros_left : List Value
  zeros_left = replicate (n - (length items + 1)) (zero_of element)

  next_is_zero : items_of element n items ≡ map value_in items ++ (zero_of element ∷ zeros_left)
  next_is_zero =
      let one : n - length items ≡ suc (n - (length items + 1)) = omega arith in
      ap (λ (k : ℕ). map value_in items ++ replicate k (zero_of element)) one

  zero_stands : slice_get (items_of element n items) (length items) ≡ Some (zero_of element)
  zero_stands =
      ap (λ (l : List Value). slice_get l (length items)) next_is_zero
      ∙ ap (slice_get (map value_in items ++ (zero_of element ∷ zeros_left))) (sym (length-map items value_in))
      ∙ slice_get-seam (map value_in items) (zero_of element) zeros_left

  item_put : (tree : Made) → slice_set (items_of element n items) (length items) tree.value ≡ items_of element n (items ++ tree ∷ [])
  item_put tree =
      let put : slice_set (items_of element n items) (length items) tree.value ≡ map value_in items ++ (tree.value ∷ zeros_left) =
      ap (λ (l : List Value). slice_set l (length items) tree.value) next_is_zero
      ∙ set_at (map value_in items) (zero_of element) zeros_left tree.value (length items) (length-map items value_in) in
      let longer : length (items ++ tree ∷ []) ≡ length items + 1 = omega (arith, length-append items (tree ∷ [])) in
      let after : items_of element n (items ++ tree ∷ []) ≡ map value_in items ++ (tree.value ∷ zeros_left) =
      ap (λ (k : ℕ). map value_in (items ++ tree ∷ []) ++ replicate (n - k) (zero_of element)) longer
      ∙ ap (λ (l : List Value). l ++ zeros_left) (map_push value_in items tree)
      ∙ append_assoc (map value_in items) (tree.value ∷ []) zeros_left in
      put ∙ sym after

module _ (old now mid : HeapContent) (classes : List ClassRecord) (d : DomainId) (element : TypeRef) (more : List ℕ) (n a i b : ℕ) (within : i < n)
    (so_far : TreeSoFar old now classes d element more n a i) (holds : IsHeapContent mid) (made : List NamedObject)
    (is_tree : IsTree element more (record { value = Held.Obj b; objects = made })) (below : MakesObjects now mid classes d made)
    (small : b < 2 ^ 30) where
  abbrev items : List Made
  items = so_far.items

  abbrev tree : Made
  tree = record { value = Held.Obj b; objects = made }

  abbrev root : Object
  root = Array element (items_of element n items)

  abbrev wider : Object
  wider = Array element (items_of element n (items ++ tree ∷ []))

  abbrev behind_root : List NamedObject
  behind_root = flat_map objects_in items ++ made

  fewer : length items < n
  fewer = let many = so_far.many in omega (arith, many)

  heap_is : mid.heap d ≡ old.heap d ++ (named a root ∷ behind_root)
  heap_is =
      below.becomes.becomes
      ∙ ap (λ (h : List NamedObject). h ++ made) so_far.becomes.becomes
      ∙ append_assoc (old.heap d) (objects_of element n a items) made

  differ : NamesDiffer (old.heap d ++ (named a root ∷ behind_root))
  differ = subst NamesDiffer heap_is (holds.differ d)

  live : IsLive mid d a root
  live = ap (λ (h : List NamedObject). object_named h a) heap_is ∙ live_in_middle a root (old.heap d) behind_root differ

  written : 0 < element.dims → IsWritten root i (Held.Obj b) wider
  written deep = (
    items_of element n (items ++ tree ∷ []),
    record {
      before = zero_of element;
      stands = subst (λ (k : ℕ). slice_get (items_of element n items) k ≡ Some (zero_of element)) so_far.many (zero_stands element n items fewer);
      kind = takes_object element b deep;
      small = small;
      becomes = sym (subst (λ (k : ℕ). slice_set (items_of element n items) k (Held.Obj b) ≡ items_of element n (items ++ tree ∷ [])) so_far.many
          (item_put element n items fewer tree));
    },
    refl,
  )

  pub takes_tree : 0 < element.dims → TakesItem mid classes d a i (Held.Obj b)
  takes_tree deep = record { object = root; live = live; laid_out = tt; new = wider; written = written deep }

  -- ---- What is made so far, with this item.

  more_objects : flat_map objects_in (items ++ tree ∷ []) ≡ behind_root
  more_objects =
      flat_map-append objects_in items (tree ∷ []) ∙ ap (λ (l : List NamedObject). flat_map objects_in items ++ l) (append-nil made)

  wider_objects : objects_of element n a (items ++ tree ∷ []) ≡ named a wider ∷ behind_root
  wider_objects = ap (λ (l : List NamedObject). named a wider ∷ l) more_objects

  as_long : length (items_of element n (items ++ tree ∷ [])) ≡ length (items_of element n items)
  as_long =
      ap length (sym (item_put element n items fewer tree)) ∙ length-set (items_of element n items) (length items) tree.value

  wider_words : heap_words classes (objects_of element n a items) + heap_words classes made
      ≡ heap_words classes (objects_of element n a (items ++ tree ∷ []))
  wider_words =
      let first = sum_by-append (words_in classes) (objects_of element n a items) made in
      let before = sum_by-cons (words_in classes) (named a root) behind_root in
      let after = sum_by-cons (words_in classes) (named a wider) behind_root in
      let cost : object_words classes wider ≡ object_words classes root = ap (λ (k : ℕ). HEADER_WORDS + type_words element * k) as_long in
      let whole = ap (heap_words classes) wider_objects in
      omega (arith, first, before, after, cost, whole)

  pub tree_put : 0 < element.dims → (next : HeapContent)
      → ((object new : Object) → IsLive mid d a object → IsWritten object i (Held.Obj b) new → WritesObject mid next d a new)
      → TreeSoFar old next classes d element more n a (i + 1)
  tree_put deep next writes =
      let write : WritesObject mid next d a wider = writes root wider live (written deep) in
      let whole = both_become now mid next d (now.heap d ++ made) (with_object a wider (mid.heap d)) (now.used d + heap_words classes made)
      (mid.used d) below.becomes write in
      record {
        items = items ++ tree ∷ [];
        many = let many = so_far.many in omega (arith, many, length-append items (tree ∷ []));
        trees = each-append (IsTree element more) items (tree ∷ []) so_far.trees (is_tree, tt);
        small = so_far.small;
        becomes =
            told old next d (with_object a wider (mid.heap d)) (old.heap d ++ objects_of element n a (items ++ tree ∷ [])) (mid.used d)
            (old.used d + heap_words classes (objects_of element n a (items ++ tree ∷ [])))
            (ap (with_object a wider) heap_is
            ∙ put_in_middle a root wider (old.heap d) behind_root differ
            ∙ ap (λ (l : List NamedObject). old.heap d ++ l) (sym wider_objects))
            (let used = below.becomes.uses in let before = so_far.becomes.uses in omega (arith, used, before, wider_words))
            (both_become old now next d (old.heap d ++ objects_of element n a items) (with_object a wider (mid.heap d))
            (old.used d + heap_words classes (objects_of element n a items)) (mid.used d) so_far.becomes whole);
      }

-- ---- The room that is left.

admitted_by : (q r : Option ℕ) → r ≡ q → IsSome q → IsSome r
admitted_by q r same some = subst (λ (o : Option ℕ). IsSome o) (sym same) some

pub still_admitted : (old now : HeapContent) (classes : List ClassRecord) (d : DomainId) (element : TypeRef) (more : List ℕ) (n a i : ℕ)
    → TreeSoFar old now classes d element more n a i → IsAdmitted old d → IsAdmitted now d
still_admitted old now classes d element more n a i so_far admitted =
    admitted_by (old.quota d) (now.quota d) (so_far.becomes.domains.quota d) admitted

words_so_far : (old now : HeapContent) (classes : List ClassRecord) (d : DomainId) (t : TypeRef) (more : List ℕ) (n a i : ℕ) → i < n
    → (so_far : TreeSoFar old now classes d (element_type t) more n a i)
    → heap_words classes (objects_of (element_type t) n a so_far.items)
    ≡ HEADER_WORDS + type_words (element_type t) * n + i * tree_words (element_type t) more
words_so_far old now classes d t more n a i within so_far =
    let items = so_far.items in
    let element = element_type t in
    let many = so_far.many in
    let long : length (items_of element n items) ≡ n =
    omega (
      arith,
      many,
      length-append (map value_in items) (replicate (n - length items) (zero_of element)),
      length-map items value_in,
      length-replicate (n - length items) (zero_of element),
    ) in
    let part : Object = Array element (map value_in items) in
    let few = trees_cost classes (i ∷ more) t
    (record { value = Held.Obj a; objects = named a part ∷ flat_map objects_in items }) (a, items, many, so_far.trees, refl) in
    let of_few = sum_by-cons (words_in classes) (named a part) (flat_map objects_in items) in
    let of_all = sum_by-cons (words_in classes) (named a (Array element (items_of element n items))) (flat_map objects_in items) in
    let few_cost : object_words classes part ≡ HEADER_WORDS + type_words element * i =
    ap (λ (k : ℕ). HEADER_WORDS + type_words element * k) (length-map items value_in ∙ many) in
    let all_cost : object_words classes (Array element (items_of element n items)) ≡ HEADER_WORDS + type_words element * n =
    ap (λ (k : ℕ). HEADER_WORDS + type_words element * k) long in
    omega (arith, few, of_few, of_all, few_cost, all_cost)

pub room_below : (old now : HeapContent) (classes : List ClassRecord) (d : DomainId) (t : TypeRef) (more : List ℕ) (n a i : ℕ) → i < n
    → (so_far : TreeSoFar old now classes d (element_type t) more n a i) → tree_words t (n ∷ more) ≤ words_left old d
    → tree_words (element_type t) more ≤ words_left now d
room_below old now classes d t more n a i within so_far room =
    let here : ℕ = heap_words classes (objects_of (element_type t) n a so_far.items) in
    let words = words_so_far old now classes d t more n a i within so_far in
    let part : ℕ = tree_words (element_type t) more in
    let whole : (i + 1) * part ≤ n * part = mul-le-mul_right part (omega arith) in
    let fits : here + part ≤ tree_words t (n ∷ more) = omega (arith, words, whole) in
    subst (λ (q : Option ℕ). part ≤ option_map_or (λ (k : ℕ). k - now.used d) q 0) (sym (so_far.becomes.domains.quota d))
    (room_by (old.quota d) (now.used d) (old.used d) (tree_words t (n ∷ more)) part here so_far.becomes.uses fits (omega arith) room)

-- ---- The same of counts that are split, and of an element type that is told.

pub is_none : (xs : List ℕ) (b : Bool) → b ≡ (length xs == 0) → b ≡ true → xs ≡ []
is_none xs b tells same = nil_from_length xs (eqb-true (length xs) 0 (sym tells ∙ same))

pub is_some : (xs : List ℕ) (b : Bool) → b ≡ (length xs == 0) → b ≡ false → 0 < length xs
is_some xs b tells other = let some : length xs ≢ 0 = eqb-false (length xs) 0 (sym tells ∙ other) in omega arith

-- these counts make a tree of objects, whose root has the name a
abbrev pub MakesTreeOf : HeapContent → HeapContent → List ClassRecord → DomainId → TypeRef → List ℕ → ℕ → Type 0
MakesTreeOf old new classes d t counts a =
    (made : List NamedObject) × IsTree t counts (record { value = Held.Obj a; objects = made }) × MakesObjects old new classes d made

module _ (old now : HeapContent) (classes : List ClassRecord) (d : DomainId) (t element : TypeRef) (counts more : List ℕ) (n a : ℕ)
    (below : element ≡ element_type t) (split : counts ≡ n ∷ more) where
  pub grown_tree : (i : ℕ) → i ≡ n → IsHeapContent now → TreeSoFar old now classes d element more n a i → MakesTreeOf old now classes d t counts a
  grown_tree i end holds so_far =
      subst (λ (cs : List ℕ). MakesTreeOf old now classes d t cs a) (sym split)
      (tree_made old now classes d t more n a i end holds (subst (λ (e : TypeRef). TreeSoFar old now classes d e more n a i) below so_far))

  pub leaf_tree : more ≡ [] → IsHeapContent now → MakesObject old now classes d a (Array element (replicate n (zero_of element)))
      → MakesTreeOf old now classes d t counts a
  leaf_tree none holds made =
      grown_tree n refl holds
      (subst (λ (cs : List ℕ). TreeSoFar old now classes d element cs n a n) (sym none) (leaves_made old now classes d element n a made))

  pub room_left : (i : ℕ) → i < n → TreeSoFar old now classes d element more n a i → tree_words t counts ≤ words_left old d
      → tree_words element more ≤ words_left now d
  room_left i within so_far room =
      subst (λ (e : TypeRef). tree_words e more ≤ words_left now d) (sym below)
      (room_below old now classes d t more n a i within (subst (λ (e : TypeRef). TreeSoFar old now classes d e more n a i) below so_far)
      (subst (λ (cs : List ℕ). tree_words t cs ≤ words_left old d) split room))
