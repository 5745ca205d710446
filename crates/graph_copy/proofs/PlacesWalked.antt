-- What is followed of an object is what is followed at its places, one after the other, as far as they may hold references.
use Rattle.std.proofs.Common.{◌≡◌, ℕ, zero, suc, ◌+◌, ◌^◌, ◌<◌, ◌≤◌, ◌⊎◌, Bool, true, false, cond, not, List, [], ◌∷◌, ◌++◌, length, take, Contains, Option, Some, None, slice_get, refl, sym, ap, ◌∙◌, subst, inl, inr, arith}
use Rattle.std.specs.Option.{option_map_or}
use Rattle.std.specs.List.{AllByRecursion}
use Rattle.std.proofs.lemmas.Option.{same_Some}
use Rattle.jk_model.specs.declared.identifiers.DomainId.{DomainId}
use Rattle.jk_model.specs.declared.values.Value.{Value}
use Rattle.jk_model.specs.declared.values.Value.TheVariants as Held
use Rattle.jk_model_classes.specs.declared.records.BaseRef.{BaseRef}
use Rattle.jk_model_classes.specs.declared.records.BaseRef.TheVariants as Base
use Rattle.jk_model_classes.specs.declared.records.ClassRecord.{ClassRecord}
use Rattle.jk_model_classes.specs.declared.records.FieldRecord.{FieldRecord}
use Rattle.jk_model_classes.specs.declared.records.TypeRef.{TypeRef}
use Rattle.jk_model_domains.specs.Objects.{NamedObject, Object, Array, Plain, Task, Text, object_named}
use Rattle.jk_model_domains.specs.OwnStates.{zero_of}
use Rattle.jk_model_graphs.specs.Followed.{followed, is_left_empty, kept_values}
use Rattle.jk_model_heaps.specs.declared.shapes.Shape.{Shape}
use Rattle.jk_model_heaps.specs.declared.shapes.Shape.TheVariants as Of
use Rattle.jk_model_heaps.specs.Heaps.{field_records, shape_of}
use Rattle.list_lemmas.proofs.ItemsByPlace.{item_there}
use Rattle.list_lemmas.proofs.ItemsOfLists.{Contains-at, Contains-cases, Contains-here, Contains-none, Contains-there, each-of}
use Rattle.list_lemmas.proofs.LastItems.{take_next}
use Rattle.object_store.specs.HeapContents.{AreOfFields, AreOfKind, HasItem, HeapContent, IsHeapContent, IsLaidOut, IsLive, IsSmall, IsStored, item_of, size_of}
use Rattle.heap_laws.proofs.CopiesAreThere.{kept_there}
use Rattle.graph_copy.specs.MetObjects.{AreNamed, Meets}
use Rattle.graph_copy.specs.Places.{IsWalked, count_of_nulls, followed_at, followed_before, is_kept_at, kept_value, one_item, place_count, reference_count}
use Rattle.graph_copy.proofs.FieldsByPlace.{field_at}
use Rattle.graph_copy.proofs.ObjectsMet.{meets_none, only_value}
use Rattle.graph_copy.proofs.QueuesForgotten.{name_stays}

-- ---- As many values as fields.

pub as_many_values : (fs : List FieldRecord) (vs : List Value) → AreOfFields fs vs → length fs ≡ length vs
as_many_values [] [] all = refl
as_many_values [] (v ∷ vs) all = absurd all
as_many_values (f ∷ fs) [] all = absurd all
as_many_values (f ∷ fs) (v ∷ vs) all = ap suc (as_many_values fs vs all.1)

pub places_are : (classes : List ClassRecord) (object : Object) → IsLaidOut classes object → place_count classes (shape_of object) ≡ size_of object
places_are classes (Plain c values) laid = as_many_values (field_records classes c) values laid
places_are classes (Array t items) laid = refl
places_are classes (Text units) laid = refl
places_are classes (Task s) laid = refl

no_more_nulls : (v : Value) (n : ℕ) → count_of_nulls v n ≤ n
no_more_nulls Held.Null n = omega arith
no_more_nulls v n = omega arith

pub no_more_references : (classes : List ClassRecord) (shape : Shape) → reference_count classes shape ≤ place_count classes shape
no_more_references classes (Of.Plain c) = omega arith
no_more_references classes (Of.Array t n) = no_more_nulls (zero_of t) n
no_more_references classes (Of.Text n) = omega arith
no_more_references classes (Of.Task s) = omega arith

pub few_by : (c : HeapContent) (d : DomainId) (a : ℕ) (object : Object) → IsHeapContent c → IsLive c d a object → (q : Option ℕ) → c.quota d ≡ q
    → size_of object < 2 ^ 32
few_by c d a object holds live None is =
    let sized = holds.sized d a object live in let unused = (holds.unused d is).0.unused in absurd (omega (arith, sized, unused))
few_by c d a object holds live (Some q) is =
    let sized = holds.sized d a object live in
    let within = holds.within d q is in
    omega (arith, sized, within.0, within.2)

pub few_places : (c : HeapContent) (classes : List ClassRecord) (d : DomainId) (a : ℕ) (shape : Shape) → IsHeapContent c
    → IsWalked c classes d a shape → place_count classes shape < 2 ^ 32
few_places c classes d a shape holds w =
    let few = few_by c d a w.object holds w.live (c.quota d) refl in
    let same : place_count classes shape ≡ size_of w.object = ap (place_count classes) w.is ∙ places_are classes w.object w.laid_out in
    omega (arith, few, same)

-- ---- Reads.

item_at : (classes : List ClassRecord) (object : Object) (i : ℕ) → IsLaidOut classes object → i < reference_count classes (shape_of object)
    → (v : Value) × (item_of object i ≡ Some v)
item_at classes (Plain c values) i laid within =
    item_there values i (let as_many = as_many_values (field_records classes c) values laid in omega (arith, as_many, within))
item_at classes (Array t items) i laid within =
    item_there items i (let few = no_more_nulls (zero_of t) (length items) in omega (arith, few, within))
item_at classes (Text units) i laid within = absurd (omega (arith, within))
item_at classes (Task s) i laid within = absurd (omega (arith, within))

pub has_item : (c : HeapContent) (classes : List ClassRecord) (d : DomainId) (a i : ℕ) (shape : Shape) → IsWalked c classes d a shape
    → i < reference_count classes shape → HasItem c classes d a i
has_item c classes d a i shape w within =
    let item = item_at classes w.object i w.laid_out (subst (λ (s : Shape). i < reference_count classes s) w.is within) in
    record { object = w.object; live = w.live; laid_out = w.laid_out; value = item.0; stands = item.1 }

-- ---- What is followed at a place.

left_empty : (f : FieldRecord) (o : Option Value) → not (is_left_empty f) ≡ false → kept_value (Some f) o ≡ []
left_empty f None is = refl
left_empty f (Some v) is = left_by (is_left_empty f) is
  where
    left_by : (b : Bool) → not b ≡ false → cond b [] (v ∷ []) ≡ []
    left_by true is = refl
    left_by false is = absurd cc

kept_here : (f : FieldRecord) (v : Value) → not (is_left_empty f) ≡ true → kept_value (Some f) (Some v) ≡ v ∷ []
kept_here f v is = kept_by (is_left_empty f) is
  where
    kept_by : (b : Bool) → not b ≡ true → cond b [] (v ∷ []) ≡ v ∷ []
    kept_by true is = absurd cc
    kept_by false is = refl

pub nothing_followed : (classes : List ClassRecord) (object : Object) (i : ℕ) → i < place_count classes (shape_of object)
    → is_kept_at classes (shape_of object) i ≡ false → followed_at classes object i ≡ []
nothing_followed classes (Plain c values) i within is =
    let f = field_at classes c i within in
    let empty : not (is_left_empty f.0) ≡ false =
    sym (ap (λ (o : Option FieldRecord). option_map_or (λ (g : FieldRecord). not (is_left_empty g)) o false) f.1) ∙ is in
    ap (λ (o : Option FieldRecord). kept_value o (slice_get values i)) f.1 ∙ left_empty f.0 (slice_get values i) empty
nothing_followed classes (Array t items) i within is = absurd cc
nothing_followed classes (Text units) i within is = absurd cc
nothing_followed classes (Task s) i within is = absurd cc

pub one_followed : (classes : List ClassRecord) (object : Object) (i : ℕ) (v : Value) → i < reference_count classes (shape_of object)
    → is_kept_at classes (shape_of object) i ≡ true → item_of object i ≡ Some v → followed_at classes object i ≡ v ∷ []
one_followed classes (Plain c values) i v within is at =
    let f = field_at classes c i within in
    let kept : not (is_left_empty f.0) ≡ true =
    sym (ap (λ (o : Option FieldRecord). option_map_or (λ (g : FieldRecord). not (is_left_empty g)) o false) f.1) ∙ is in
    ap (λ (o : Option FieldRecord). kept_value o (slice_get values i)) f.1 ∙ ap (kept_value (Some f.0)) at ∙ kept_here f.0 v kept
one_followed classes (Array t items) i v within is at = ap one_item at
one_followed classes (Text units) i v within is at = absurd (omega (arith, within))
one_followed classes (Task s) i v within is at = absurd (omega (arith, within))

-- ---- And all of it is followed.

kept_first : (b : Bool) (v w : Value) (vs : List Value) → Contains (cond b [] (v ∷ [])) w → Contains (cond b vs (v ∷ vs)) w
kept_first true v w vs there = absurd (Contains-none w there)
kept_first false v w vs there = subst (λ (u : Value). Contains (v ∷ vs) u) (only_value v w there) (Contains-here v vs)

kept_in : (fs : List FieldRecord) (vs : List Value) (i : ℕ) (w : Value) → Contains (kept_value (slice_get fs i) (slice_get vs i)) w
    → Contains (kept_values fs vs) w
kept_in [] vs i w there = absurd (Contains-none w there)
kept_in (f ∷ fs) [] zero w there = absurd (Contains-none w there)
kept_in (f ∷ fs) [] (suc i) w there = absurd (none_kept (slice_get fs i) there)
  where
    none_kept : (o : Option FieldRecord) → Contains (kept_value o None) w → ⊥
    none_kept None there = Contains-none w there
    none_kept (Some g) there = Contains-none w there
kept_in (f ∷ fs) (v ∷ vs) zero w there = kept_first (is_left_empty f) v w (kept_values fs vs) there
kept_in (f ∷ fs) (v ∷ vs) (suc i) w there = kept_there (is_left_empty f) v w (kept_values fs vs) (kept_in fs vs i w there)

item_in : (items : List Value) (i : ℕ) (w : Value) (o : Option Value) → slice_get items i ≡ o → Contains (one_item o) w → Contains items w
item_in items i w None at there = absurd (Contains-none w there)
item_in items i w (Some v) at there = subst (λ (u : Value). Contains items u) (only_value v w there) (Contains-at items i v at)

pub followed_in : (classes : List ClassRecord) (object : Object) (i : ℕ) (w : Value) → Contains (followed_at classes object i) w
    → Contains (followed classes object) w
followed_in classes (Plain c values) i w there = kept_in (field_records classes c) values i w there
followed_in classes (Array t items) i w there = item_in items i w (slice_get items i) refl there
followed_in classes (Text units) i w there = absurd (Contains-none w there)
followed_in classes (Task s) i w there = absurd (Contains-none w there)

-- ---- One more place.

more_by : (b : Bool) (v : Value) (vs ws more : List Value) → vs ≡ ws ++ more → cond b vs (v ∷ vs) ≡ cond b ws (v ∷ ws) ++ more
more_by true v vs ws more is = is
more_by false v vs ws more is = ap (λ (us : List Value). v ∷ us) is

kept_more : (fs : List FieldRecord) (vs : List Value) (i : ℕ) → i < length fs → length fs ≡ length vs
    → kept_values (take (suc i) fs) (take (suc i) vs) ≡ kept_values (take i fs) (take i vs) ++ kept_value (slice_get fs i) (slice_get vs i)
kept_more [] vs i within as_many = absurd (omega (arith, within))
kept_more (f ∷ fs) [] i within as_many = absurd (omega (arith, as_many))
kept_more (f ∷ fs) (v ∷ vs) zero within as_many = refl
kept_more (f ∷ fs) (v ∷ vs) (suc i) within as_many =
    more_by (is_left_empty f) v (kept_values (take (suc i) fs) (take (suc i) vs)) (kept_values (take i fs) (take i vs))
    (kept_value (slice_get fs i) (slice_get vs i)) (kept_more fs vs i (omega (arith, within)) (omega (arith, as_many)))

items_more : (items : List Value) (i : ℕ) → i < length items → take (suc i) items ≡ take i items ++ one_item (slice_get items i)
items_more items i within =
    let v = item_there items i within in
    take_next items i v.0 v.1 ∙ ap (λ (o : Option Value). take i items ++ one_item o) (sym v.1)

followed_suc : (classes : List ClassRecord) (object : Object) (i : ℕ) → IsLaidOut classes object → i < place_count classes (shape_of object)
    → followed_before classes object (suc i) ≡ followed_before classes object i ++ followed_at classes object i
followed_suc classes (Plain c values) i laid within =
    kept_more (field_records classes c) values i within (as_many_values (field_records classes c) values laid)
followed_suc classes (Array t items) i laid within = items_more items i within
followed_suc classes (Text units) i laid within = refl
followed_suc classes (Task s) i laid within = refl

pub followed_more : (classes : List ClassRecord) (object : Object) (i : ℕ) → IsLaidOut classes object → i < place_count classes (shape_of object)
    → followed_before classes object (i + 1) ≡ followed_before classes object i ++ followed_at classes object i
followed_more classes object i laid within =
    let more : i + 1 ≡ suc i = omega arith in
    ap (λ (k : ℕ). followed_before classes object k) more ∙ followed_suc classes object i laid within

none_before_by : (vs : List Value) → take 0 vs ≡ []
none_before_by [] = refl
none_before_by (v ∷ vs) = refl

pub none_before : (classes : List ClassRecord) (object : Object) → followed_before classes object 0 ≡ []
none_before classes (Plain c values) = kept_none (field_records classes c) values
  where
    kept_none : (fs : List FieldRecord) (vs : List Value) → kept_values (take 0 fs) (take 0 vs) ≡ []
    kept_none [] vs = refl
    kept_none (f ∷ fs) vs = refl
none_before classes (Array t items) = none_before_by items
none_before classes (Text units) = refl
none_before classes (Task s) = refl

-- ---- All places that may hold references.

-- the same objects are named
pub record NamesAlike (vs ws : List Value) : Type 0 where
  pub one_way : (b : ℕ) → Contains vs (Held.Obj b) → Contains ws (Held.Obj b)
  pub other_way : (b : ℕ) → Contains ws (Held.Obj b) → Contains vs (Held.Obj b)

same_list : (vs ws : List Value) → vs ≡ ws → NamesAlike vs ws
same_list vs ws same = record {
  one_way = λ b there. subst (λ (us : List Value). Contains us (Held.Obj b)) same there;
  other_way = λ b there. subst (λ (us : List Value). Contains us (Held.Obj b)) (sym same) there;
}

whole : {X : Type 0} (xs : List X) → take (length xs) xs ≡ xs
whole [] = refl
whole (x ∷ xs) = ap (λ ys. x ∷ ys) (whole xs)

abbrev type_with : ℕ → BaseRef → TypeRef
type_with dims base = record { dims = dims; base = base }

zero_by : (base : BaseRef) (dims : ℕ) → (zero_of (type_with dims base) ≡ Held.Null)
    ⊎ ((b : ℕ) → AreOfKind (zero_of (type_with dims base)) (Held.Obj b) → ⊥)
zero_by base (suc dims) = inl refl
zero_by (Base.Class c) zero = inl refl
zero_by base zero = inr (λ b kind. kind.0)

array_items : (t : TypeRef) (items : List Value) (n : ℕ) → n ≡ length items
    → AllByRecursion (λ (v : Value). AreOfKind (zero_of t) v × IsSmall v) items
    → (zero_of t ≡ Held.Null) ⊎ ((b : ℕ) → AreOfKind (zero_of t) (Held.Obj b) → ⊥) → NamesAlike (take (count_of_nulls (zero_of t) n) items) items
array_items t items n is stored (inl null) =
    same_list (take (count_of_nulls (zero_of t) n) items) items
    (ap (λ (v : Value). take (count_of_nulls v n) items) null ∙ ap (λ (k : ℕ). take k items) is ∙ whole items)
array_items t items n is stored (inr none) = record {
  one_way = λ b there. taken_in (count_of_nulls (zero_of t) n) items (Held.Obj b) there;
  other_way = λ b there. absurd (none b (each-of (λ (v : Value). AreOfKind (zero_of t) v × IsSmall v) items (Held.Obj b) stored there).0);
}
  where
    taken_in : (k : ℕ) (vs : List Value) (w : Value) → Contains (take k vs) w → Contains vs w
    taken_in zero [] w there = there
    taken_in zero (v ∷ vs) w there = absurd (Contains-none w there)
    taken_in (suc k) [] w there = there
    taken_in (suc k) (v ∷ vs) w there = elim (Contains-cases w v (take k vs) there) [
      | inl same ↦ subst (λ (u : Value). Contains (v ∷ vs) u) same (Contains-here v vs)
      | inr later ↦ Contains-there w v vs (taken_in k vs w later)
    ]

pub all_followed : (classes : List ClassRecord) (object : Object) → IsLaidOut classes object → IsStored object
    → NamesAlike (followed_before classes object (reference_count classes (shape_of object))) (followed classes object)
all_followed classes (Plain c values) laid stored =
    same_list (kept_values (take (length (field_records classes c)) (field_records classes c)) (take (length (field_records classes c)) values))
    (kept_values (field_records classes c) values)
    (ap (λ (fs : List FieldRecord). kept_values fs (take (length (field_records classes c)) values)) (whole (field_records classes c))
    ∙ ap (λ (vs : List Value). kept_values (field_records classes c) vs)
    (ap (λ (k : ℕ). take k values) (as_many_values (field_records classes c) values laid) ∙ whole values))
all_followed classes (Array t items) laid stored = array_items t items (length items) refl stored (zero_by t.base t.dims)
all_followed classes (Text units) laid stored = same_list [] [] refl
all_followed classes (Task s) laid stored = same_list [] [] refl

pub meets_alike : (old new : HeapContent) (d : DomainId) (vs ws : List Value) (head result : Option ℕ) → NamesAlike vs ws
    → Meets old new d vs head result → Meets old new d ws head result
meets_alike old new d vs ws head result alike meets = record {
  marks = meets.marks;
  grows = λ todo done met is.
      let g = meets.grows todo done met is in
      record {
        grown = g.grown;
        is_head = g.is_head;
        met = g.met;
        kept = g.kept;
        all = λ a there. g.all a (alike.other_way a there);
        only = λ a there. elim (g.only a there) [ inl was ↦ inl was | inr named ↦ inr (alike.one_way a named) ];
      };
}

-- ---- An object that is walked over.

pub walked_still : (old now : HeapContent) (classes : List ClassRecord) (d : DomainId) (a : ℕ) (shape : Shape) → now.heap d ≡ old.heap d
    → IsWalked old classes d a shape → IsWalked now classes d a shape
walked_still old now classes d a shape heap w = record {
  object = w.object;
  live = ap (λ (l : List NamedObject). object_named l a) heap ∙ w.live;
  is = w.is;
  laid_out = w.laid_out;
  has_classes = w.has_classes;
  named = λ b there. name_stays old now d b heap (w.named b there);
}

-- the one object of its name
pub record IsWalkedObject (c : HeapContent) (classes : List ClassRecord) (d : DomainId) (shape : Shape) (object : Object) : Type 0 where
  pub is : shape ≡ shape_of object
  pub laid_out : IsLaidOut classes object
  pub named : AreNamed c d (followed classes object)

pub walked_object : (c : HeapContent) (classes : List ClassRecord) (d : DomainId) (a : ℕ) (shape : Shape) (object : Object)
    → IsWalked c classes d a shape → IsLive c d a object → IsWalkedObject c classes d shape object
walked_object c classes d a shape object w live =
    let same : w.object ≡ object = same_Some w.object object (sym w.live ∙ live) in
    subst (λ (o : Object). IsWalkedObject c classes d shape o) same (record { is = w.is; laid_out = w.laid_out; named = w.named })

within_places : (classes : List ClassRecord) (shape : Shape) (object : Object) (i : ℕ) → shape ≡ shape_of object → i < reference_count classes shape
    → i < place_count classes (shape_of object)
within_places classes shape object i is within =
    let few = no_more_references classes shape in
    subst (λ (s : Shape). i < place_count classes s) is (omega (arith, few, within))

-- where nothing is kept, nothing is met
pub nothing_met : (c : HeapContent) (classes : List ClassRecord) (d : DomainId) (a i : ℕ) (shape : Shape) (head : Option ℕ) (kept : Bool)
    → IsWalked c classes d a shape → i < reference_count classes shape → kept ≡ is_kept_at classes shape i → kept ≡ false → (object : Object)
    → IsLive c d a object → Meets c c d (followed_at classes object i) head head
nothing_met c classes d a i shape head kept w within told isnt object live =
    let o = walked_object c classes d a shape object w live in
    let empty : followed_at classes object i ≡ [] =
    nothing_followed classes object i (within_places classes shape object i o.is within)
    (sym (ap (λ (s : Shape). is_kept_at classes s i) o.is) ∙ sym told ∙ isnt) in
    meets_none c d (followed_at classes object i) head
    (λ b there. Contains-none (Held.Obj b) (subst (λ (vs : List Value). Contains vs (Held.Obj b)) empty there))

-- where a value is kept, that is followed
pub one_at_place : (c : HeapContent) (classes : List ClassRecord) (d : DomainId) (a i : ℕ) (shape : Shape) (kept : Bool) (v : Value)
    → IsWalked c classes d a shape → i < reference_count classes shape → kept ≡ is_kept_at classes shape i → kept ≡ true → (object : Object)
    → IsLive c d a object → item_of object i ≡ Some v → followed_at classes object i ≡ v ∷ []
one_at_place c classes d a i shape kept v w within told is object live at =
    let o = walked_object c classes d a shape object w live in
    one_followed classes object i v (subst (λ (s : Shape). i < reference_count classes s) o.is within)
    (sym (ap (λ (s : Shape). is_kept_at classes s i) o.is) ∙ sym told ∙ is) at

pub kept_is_named : (c : HeapContent) (classes : List ClassRecord) (d : DomainId) (a i : ℕ) (shape : Shape) (kept : Bool) (v : Value)
    → IsWalked c classes d a shape → i < reference_count classes shape → kept ≡ is_kept_at classes shape i → kept ≡ true
    → ((object : Object) → IsLive c d a object → item_of object i ≡ Some v) → AreNamed c d (v ∷ [])
kept_is_named c classes d a i shape kept v w within told is read = λ b there.
    w.named b (followed_in classes w.object i (Held.Obj b)
    (subst (λ (vs : List Value). Contains vs (Held.Obj b))
    (sym (one_at_place c classes d a i shape kept v w within told is w.object w.live (read w.object w.live))) there))

pub more_met : (c : HeapContent) (classes : List ClassRecord) (d : DomainId) (a i : ℕ) (shape : Shape) (object : Object)
    → IsWalked c classes d a shape → i < reference_count classes shape → IsLive c d a object
    → followed_before classes object (i + 1) ≡ followed_before classes object i ++ followed_at classes object i
more_met c classes d a i shape object w within live =
    let o = walked_object c classes d a shape object w live in
    followed_more classes object i o.laid_out (within_places classes shape object i o.is within)

pub all_met : (c now : HeapContent) (classes : List ClassRecord) (d : DomainId) (a i : ℕ) (shape : Shape) (head result : Option ℕ)
    (object : Object) → IsHeapContent c → IsWalked c classes d a shape → i ≡ reference_count classes shape → IsLive c d a object
    → Meets c now d (followed_before classes object i) head result → Meets c now d (followed classes object) head result
all_met c now classes d a i shape head result object holds w end live meets =
    let o = walked_object c classes d a shape object w live in
    let last : i ≡ reference_count classes (shape_of object) = end ∙ ap (reference_count classes) o.is in
    meets_alike c now d (followed_before classes object i) (followed classes object) head result
    (subst (λ (k : ℕ). NamesAlike (followed_before classes object k) (followed classes object)) (sym last)
    (all_followed classes object o.laid_out (holds.stored d a object live))) meets

pub no_names_before : (classes : List ClassRecord) (object : Object) (b : ℕ) → Contains (followed_before classes object 0) (Held.Obj b) → ⊥
no_names_before classes object b there =
    Contains-none (Held.Obj b) (subst (λ (vs : List Value). Contains vs (Held.Obj b)) (none_before classes object) there)
