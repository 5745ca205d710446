-- Into any heap there is a copy of what is reached: each object has its copy under its own name and a number more, which is above all names of
-- that heap.
use Rattle.std.proofs.Common.{◌≡◌, ℕ, suc, ◌+◌, ◌<◌, ◌≤◌, ◌==◌, Bool, true, false, cond, List, [], ◌∷◌, ◌++◌, length, map, sum_by, slice_get, Contains, MatchBool, Option, Some, None, nat_eq, refl, sym, ap, subst, ◌∙◌, inl, inr, arith}
use Rattle.std.specs.List.{IsDistinct}
use Rattle.std.specs.Option.{unwrap_or}
use Rattle.std.proofs.lemmas.Bool.{eqb-false, eqb-true}
use Rattle.std.proofs.lemmas.List.Sums.{sum_by-cons}
use Rattle.jk_model.specs.declared.values.Value.{Value}
use Rattle.jk_model.specs.declared.values.Value.TheVariants as Held
use Rattle.jk_model_classes.specs.declared.records.ClassRecord.{ClassRecord}
use Rattle.jk_model_classes.specs.declared.records.FieldRecord.{FieldRecord}
use Rattle.jk_model_domains.specs.Objects.{NamedObject, Object, Array, Plain, Task, Text, object_named}
use Rattle.jk_model_domains.specs.OwnStates.{zero_of}
use Rattle.jk_model_graphs.specs.Copies.{ArePaired, Corresponds, EachCorresponds, FieldsCorrespond, IsCopied, IsCopy}
use Rattle.jk_model_graphs.specs.Followed.{followed, is_left_empty, kept_values}
use Rattle.jk_model_graphs.specs.Reach.{Graph, IsReach, from_object, from_value}
use Rattle.jk_model_heaps.specs.Heaps.{field_records, named}
use Rattle.jk_model_heaps.proofs.NamesInHeaps.{by_first}
use Rattle.list_lemmas.proofs.ItemsByPlace.{comes_from}
use Rattle.list_lemmas.proofs.ItemsOfLists.{Contains-cases, Contains-here, Contains-none, Contains-there}
use Rattle.heap_laws.specs.CopiedGraphs.{HasAllFields, IsWhollyThere}
use Rattle.heap_laws.proofs.MappedLists.{mapped, mapped_from, one_place, zip_mapped}
use Rattle.heap_laws.proofs.ReachIsListed.{reach_is_there}

-- ---- What is made.

abbrev pub moved : ℕ → Value → Value
moved n (Held.Obj a) = Held.Obj (n + a)
moved n v = v

abbrev pub moved_fields : ℕ → List FieldRecord → List Value → List Value
moved_fields n (f ∷ fields) (v ∷ values) = cond (is_left_empty f) (zero_of f.kind) (moved n v) ∷ moved_fields n fields values
moved_fields n _ _ = []

abbrev pub moved_object : List ClassRecord → ℕ → Object → Object
moved_object classes n (Plain c values) = Plain c (moved_fields n (field_records classes c) values)
moved_object classes n (Array t items) = Array t (map (moved n) items)
moved_object classes n (Text units) = Text units
moved_object classes n (Task s) = Task s

-- the object of a name; where there is none, an empty text stands for it
abbrev object_at : List NamedObject → ℕ → Object
object_at heap a = unwrap_or (object_named heap a) (Text [])

abbrev moved_entry : List ClassRecord → List NamedObject → ℕ → ℕ → NamedObject
moved_entry classes heap n a = named (n + a) (moved_object classes n (object_at heap a))

abbrev with_pair : ℕ → ℕ → ℕ × ℕ
with_pair n a = (a, n + a)

-- ---- A number above all names of a heap.

abbrev pub above : List NamedObject → ℕ
above heap = sum_by (λ (e : NamedObject). suc e.name) heap

lacks_step : (t : Bool) (e : NamedObject) (heap : List NamedObject) (b : ℕ) → t ≡ false → object_named heap b ≡ None → by_first t e heap b ≡ None
lacks_step true e heap b is later = absurd cc
lacks_step false e heap b is later = later

not_the_name : (t : Bool) (x y : ℕ) → x == y ≡ t → x < y → t ≡ false
not_the_name true x y is low = absurd (omega (arith, eqb-true x y is, low))
not_the_name false x y is low = refl

pub lacks_above : (heap : List NamedObject) (b : ℕ) → above heap ≤ b → object_named heap b ≡ None
lacks_above [] b low = refl
lacks_above (e ∷ heap) b low =
    let whole : above (e ∷ heap) ≡ suc e.name + above heap = sum_by-cons (λ (x : NamedObject). suc x.name) e heap in
    lacks_step (e.name == b) e heap b (not_the_name (e.name == b) e.name b refl (omega (arith, whole, low)))
    (lacks_above heap b (omega (arith, whole, low)))

-- ---- The copy of a name stands under its own.

found_step : (t : Bool) (classes : List ClassRecord) (heap : List NamedObject) (n x a : ℕ) (rest : List NamedObject) → (n + x) == (n + a) ≡ t
    → (t ≡ false → object_named rest (n + a) ≡ Some (moved_object classes n (object_at heap a)))
    → by_first t (moved_entry classes heap n x) rest (n + a) ≡ Some (moved_object classes n (object_at heap a))
found_step true classes heap n x a rest is later =
    let e : x ≡ a = omega (arith, eqb-true (n + x) (n + a) is) in
    ap (λ (y : ℕ). Some (moved_object classes n (object_at heap y))) e
found_step false classes heap n x a rest is later = later refl

found : (classes : List ClassRecord) (heap : List NamedObject) (n a : ℕ) (names : List ℕ) → Contains names a
    → object_named (map (moved_entry classes heap n) names) (n + a) ≡ Some (moved_object classes n (object_at heap a))
found classes heap n a [] h = absurd (Contains-none a h)
found classes heap n a (x ∷ names) h =
    found_step ((n + x) == (n + a)) classes heap n x a (map (moved_entry classes heap n) names) refl
    (λ other. found classes heap n a names (elim (Contains-cases a x names h) [
      | inl e ↦ absurd (eqb-false (n + x) (n + a) other (ap (λ (y : ℕ). n + y) e))
      | inr later ↦ later
    ]))

-- ---- Values, fields and objects correspond.

corresponds : (pairs : List (ℕ × ℕ)) (n : ℕ) (v : Value) → ((a : ℕ) → v ≡ Held.Obj a → Contains pairs (a, n + a)) → Corresponds pairs v (moved n v)
corresponds pairs n (Held.Int x) h = refl
corresponds pairs n (Held.Long x) h = refl
corresponds pairs n Held.Null h = refl
corresponds pairs n (Held.Obj a) h = h a refl
corresponds pairs n (Held.Cap k) h = refl
corresponds pairs n Held.Unset h = refl

-- the pairs have each name that stands among the values
abbrev Pairs : List (ℕ × ℕ) → ℕ → List Value → Type 0
Pairs pairs n values = (a : ℕ) → Contains values (Held.Obj a) → Contains pairs (a, n + a)

each_corresponds : (pairs : List (ℕ × ℕ)) (n : ℕ) (values : List Value) → Pairs pairs n values → EachCorresponds pairs values (map (moved n) values)
each_corresponds pairs n values h =
    zip_mapped (Corresponds pairs) (moved n) values
    (λ v there. corresponds pairs n v (λ a e. h a (subst (λ (w : Value). Contains values w) e there)))

pub field_step : (t : Bool) (pairs : List (ℕ × ℕ)) (v w empty : Value) → (t ≡ false → Corresponds pairs v w)
    → MatchBool t (cond t empty w ≡ empty) (Corresponds pairs v (cond t empty w))
field_step true pairs v w empty h = refl
field_step false pairs v w empty h = h refl

pub kept_here : (t : Bool) (v : Value) (kept : List Value) → t ≡ false → Contains (cond t kept (v ∷ kept)) v
kept_here true v kept is = absurd cc
kept_here false v kept is = Contains-here v kept

pub kept_there : (t : Bool) (v w : Value) (kept : List Value) → Contains kept w → Contains (cond t kept (v ∷ kept)) w
kept_there true v w kept h = h
kept_there false v w kept h = Contains-there w v kept h

fields_correspond : (pairs : List (ℕ × ℕ)) (n : ℕ) (fields : List FieldRecord) (values : List Value) → length values ≡ length fields
    → Pairs pairs n (kept_values fields values) → FieldsCorrespond pairs fields values (moved_fields n fields values)
fields_correspond pairs n [] [] as_many h = tt
fields_correspond pairs n [] (v ∷ values) as_many h = absurd (omega (arith, as_many))
fields_correspond pairs n (f ∷ fields) [] as_many h = absurd (omega (arith, as_many))
fields_correspond pairs n (f ∷ fields) (v ∷ values) as_many h = (
  field_step (is_left_empty f) pairs v (moved n v) (zero_of f.kind)
      (λ is. corresponds pairs n v (λ a e. h a (subst (λ (w : Value). Contains (kept_values (f ∷ fields) (v ∷ values)) w) e
      (kept_here (is_left_empty f) v (kept_values fields values) is)))),
  fields_correspond pairs n fields values (omega (arith, as_many))
      (λ a there. h a (kept_there (is_left_empty f) v (Held.Obj a) (kept_values fields values) there)),
)

is_copied : (classes : List ClassRecord) (pairs : List (ℕ × ℕ)) (n : ℕ) (object : Object) → HasAllFields classes object
    → Pairs pairs n (followed classes object) → IsCopied classes pairs object (moved_object classes n object)
is_copied classes pairs n (Plain c values) all h = (refl, fields_correspond pairs n (field_records classes c) values all h)
is_copied classes pairs n (Array t items) all h = (refl, each_corresponds pairs n items h)
is_copied classes pairs n (Text units) all h = refl
is_copied classes pairs n (Task s) all h = refl

-- ---- All of it.

pair_of : (n : ℕ) (names : List ℕ) (a b : ℕ) → Contains (map (with_pair n) names) (a, b) → Contains names a × (b ≡ n + a)
pair_of n names a b h =
    let from = mapped_from (with_pair n) names (a, b) h in
    let first : from.0 ≡ a = ap (λ (p : ℕ × ℕ). p.0) from.2 in
    (subst (λ (x : ℕ). Contains names x) first from.1, sym (ap (λ (p : ℕ × ℕ). p.1) from.2) ∙ ap (λ (x : ℕ). n + x) first)

abbrev pairs_of : ℕ → List ℕ → List (ℕ × ℕ)
pairs_of n names = map (with_pair n) names

abbrev made_of : List ClassRecord → List NamedObject → ℕ → List ℕ → List NamedObject
made_of classes heap n names = map (moved_entry classes heap n) names

has_pair : (n : ℕ) (names : List ℕ) (a : ℕ) → Contains names a → Contains (pairs_of n names) (a, n + a)
has_pair n names a h = mapped (with_pair n) names a h

-- these are all names that are reached, and each has its object
record IsListed (classes : List ClassRecord) (source : Graph) (names : List ℕ) : Type 0 where
  whole : IsWhollyThere classes source
  reach : IsReach classes source names

paired : (classes : List ClassRecord) (source : Graph) (n : ℕ) (names : List ℕ) (a : ℕ) → IsListed classes source names → Contains names a
    → ArePaired classes source.heap (made_of classes source.heap n names) (pairs_of n names) a (n + a)
paired classes source n names a l h =
    let there = l.whole a (l.reach.each a h) in
    let at : object_at source.heap a ≡ there.0 = ap (λ (o : Option Object). unwrap_or o (Text [])) there.1 in
    let same : IsCopied classes (pairs_of n names) there.0 (moved_object classes n there.0) =
    is_copied classes (pairs_of n names) n there.0 there.2
    (λ b led. has_pair n names b (l.reach.all b (from_object a b (l.reach.each a h) (there.0, there.1, led)))) in
    record {
      object = there.0;
      is_object = there.1;
      copy = moved_object classes n (object_at source.heap a);
      is_copy = found classes source.heap n a names h;
      same = subst (λ (o : Object). IsCopied classes (pairs_of n names) there.0 (moved_object classes n o)) (sym at) same;
    }

same_place : (classes : List ClassRecord) (heap : List NamedObject) (n : ℕ) (names : List ℕ) (i j : ℕ) (a b : NamedObject) → IsDistinct nat_eq names
    → slice_get (made_of classes heap n names) i ≡ Some a → slice_get (made_of classes heap n names) j ≡ Some b → a.name ≡ b.name → i ≡ j
same_place classes heap n names i j a b d at_i at_j same =
    let first = comes_from (moved_entry classes heap n) names i a at_i in
    let second = comes_from (moved_entry classes heap n) names j b at_j in
    let e : first.from ≡ second.from =
    omega (arith, ap (λ (x : NamedObject). x.name) first.gives, ap (λ (x : NamedObject). x.name) second.gives, same) in
    one_place names i j first.from d first.there (subst (λ (x : ℕ). slice_get names j ≡ Some x) (sym e) second.there)

copy_of : (classes : List ClassRecord) (source : Graph) (before : List NamedObject) (names : List ℕ) → IsListed classes source names
    → IsCopy classes source before
    (record { heap = before ++ made_of classes source.heap (above before) names; values = map (moved (above before)) source.values })
    (pairs_of (above before) names)
copy_of classes source before names l =
    record {
      made = made_of classes source.heap (above before) names;
      grown = refl;
      fresh = λ e h.
          let from = mapped_from (moved_entry classes source.heap (above before)) names e h in
          subst (λ (x : NamedObject). object_named before x.name ≡ None) from.2 (lacks_above before (above before + from.0) (omega arith));
      differ = λ i j a b at_i at_j same. same_place classes source.heap (above before) names i j a b l.reach.distinct at_i at_j same;
      one_to_one = record {
        one_copy = λ a b c h k. (pair_of (above before) names a b h).1 ∙ sym (pair_of (above before) names a c k).1;
        one_source = λ a b c h k. omega (arith, (pair_of (above before) names a c h).1, (pair_of (above before) names b c k).1);
      };
      each_reached = λ a b h. l.reach.each a (pair_of (above before) names a b h).0;
      all_reached = λ a r. (above before + a, has_pair (above before) names a (l.reach.all a r));
      each_made = λ a b h.
          let p = pair_of (above before) names a b h in
          subst (λ (c : ℕ). ArePaired classes source.heap (made_of classes source.heap (above before) names) (pairs_of (above before) names) a c)
          (sym p.1) (paired classes source (above before) names a l p.0);
      all_made = λ e h.
          let from = mapped_from (moved_entry classes source.heap (above before)) names e h in (
            from.0,
            subst (λ (x : NamedObject). Contains (pairs_of (above before) names) (from.0, x.name)) from.2
                (has_pair (above before) names from.0 from.1),
          );
      values = each_corresponds (pairs_of (above before) names) (above before) source.values
          (λ a h. has_pair (above before) names a (l.reach.all a (from_value a h)));
    }

pub a_copy_is_there : (classes : List ClassRecord) (source : Graph) (before : List NamedObject) → IsWhollyThere classes source
    → (copy : Graph) × (pairs : List (ℕ × ℕ)) × IsCopy classes source before copy pairs
a_copy_is_there classes source before whole =
    let listed = reach_is_there classes source in (
      record {
        heap = before ++ made_of classes source.heap (above before) listed.0;
        values = map (moved (above before)) source.values;
      },
      pairs_of (above before) listed.0,
      copy_of classes source before listed.0 (record { whole = whole; reach = listed.1 }),
    )
