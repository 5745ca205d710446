-- A domain that takes a copy is sealed with it: what it had stays, and each copied object has a class that the domain knows, as many fields, and
-- values that fit.
use Rattle.std.proofs.Common.{◌≡◌, ℕ, zero, suc, ◌+◌, ◌<◌, ◌==◌, ◌⊎◌, Bool, true, false, IsTrue, List, [], ◌∷◌, ◌++◌, length, slice_get, Contains, MatchBool, Option, Some, None, refl, sym, ap, subst, ◌∙◌, inl, inr, arith}
use Rattle.std.specs.List.{AllByRecursion}
use Rattle.std.specs.Option.{option_map_or}
use Rattle.std.proofs.lemmas.Bool.{eqb-false, eqb-true}
use Rattle.std.proofs.lemmas.List.Elements.{Contains-append_cases}
use Rattle.std.proofs.lemmas.Option.{same_Some, slice_get_within}
use Rattle.jk_model.specs.SystemTable.{SystemClass, system_classes}
use Rattle.jk_model.specs.declared.identifiers.ClassId.{ClassId}
use Rattle.jk_model.specs.declared.values.Value.{Value}
use Rattle.jk_model.specs.declared.values.Value.TheVariants as Held
use Rattle.jk_model_classes.specs.declared.records.BaseRef.{BaseRef}
use Rattle.jk_model_classes.specs.declared.records.BaseRef.TheVariants as Base
use Rattle.jk_model_classes.specs.declared.records.ClassRecord.{ClassRecord}
use Rattle.jk_model_classes.specs.declared.records.FieldRecord.{FieldRecord}
use Rattle.jk_model_classes.specs.declared.records.TypeRef.{TypeRef}
use Rattle.jk_model_classes.specs.Worlds.{IsNamed, NamedClass}
use Rattle.jk_model_typing.specs.declared.frames.VType.{VType}
use Rattle.jk_model_typing.specs.declared.frames.VType.TheVariants as Typed
use Rattle.jk_model_typing.specs.FrameTypes.{RefFits, STRING, value_of}
use Rattle.jk_model_domains.specs.Objects.{NamedObject, Object, Array, Plain, Task, Text, CAPABILITY, class_type, object_named, type_of}
use Rattle.jk_model_domains.specs.OwnStates.{zero_of}
use Rattle.jk_model_domains.specs.ValueTypes.{HoldsDeclared}
use Rattle.jk_model_graphs.specs.Copiable.{AreSharingBase, IsCopiable}
use Rattle.jk_model_graphs.specs.Copies.{Corresponds, EachCorresponds, FieldsCorrespond, IsCopied, IsCopy}
use Rattle.jk_model_graphs.specs.Followed.{is_left_empty}
use Rattle.jk_model_graphs.specs.Reach.{Graph, Reach}
use Rattle.jk_model_heaps.specs.Capabilities.{CapRange}
use Rattle.jk_model_heaps.specs.Heaps.{IsAlike, IsGrown, field_records, named}
use Rattle.jk_model_heaps.specs.Workings.{with_heap}
use Rattle.jk_model_heaps.proofs.NamesInHeaps.{by_first, in_front, stands}
use Rattle.jk_model_sealing.specs.SealedInsides.{IsKnownValue, IsNamedBase, IsSealedInside, IsSealedObject, Surroundings}
use Rattle.class_lemmas.proofs.NamesOfTables.{means_named}
use Rattle.list_lemmas.proofs.ItemsOfLists.{Contains-at, Contains-cases, Contains-none, place_of}
use Rattle.heap_laws.specs.CopiedGraphs.{CopyBetween}
use Rattle.heap_laws.proofs.CopiesCostTheSame.{copies_cost_their_reach}
use Rattle.heap_laws.proofs.CopiesFit.{copied_values_fit, is_found, its_own}

-- ---- Heaps in which each name keeps its object.

abbrev pub Keeps : List NamedObject → List NamedObject → Type 0
Keeps old new = (a : ℕ) (object : Object) → object_named old a ≡ Some object → object_named new a ≡ Some object

known_stays : (caps : List CapRange) (old new : List NamedObject) → Keeps old new → (v : Value) → IsKnownValue caps old v → IsKnownValue caps new v
known_stays caps old new keeps (Held.Obj a) (object, is) = (object, keeps a object is)
known_stays caps old new keeps (Held.Cap k) h = h
known_stays caps old new keeps (Held.Int n) h = h
known_stays caps old new keeps (Held.Long n) h = h
known_stays caps old new keeps Held.Null h = h
known_stays caps old new keeps Held.Unset h = h

-- as `HoldsDeclared`, of a type of values
abbrev Holds : List ClassRecord → List NamedObject → Value → VType → Type 0
Holds classes heap (Held.Int n) Typed.Int = Unit {0}
Holds classes heap (Held.Long n) Typed.Long = Unit {0}
Holds classes heap Held.Null (Typed.Ref t) = Unit {0}
Holds classes heap (Held.Obj a) (Typed.Ref t) = (object : Object) × (object_named heap a ≡ Some object) × RefFits classes (type_of object) t
Holds classes heap (Held.Cap k) (Typed.Ref t) = RefFits classes (class_type CAPABILITY) t
Holds classes heap _ _ = ⊥

object_stays : (classes : List ClassRecord) (old new : List NamedObject) → Keeps old new → (a : ℕ) (t : VType) → Holds classes old (Held.Obj a) t
    → Holds classes new (Held.Obj a) t
object_stays classes old new keeps a (Typed.Ref t) (object, is, fits) = (object, keeps a object is, fits)
object_stays classes old new keeps a Typed.Unusable h = absurd h
object_stays classes old new keeps a Typed.Int h = absurd h
object_stays classes old new keeps a Typed.Long h = absurd h
object_stays classes old new keeps a Typed.Null h = absurd h
object_stays classes old new keeps a (Typed.Fresh place) h = absurd h
object_stays classes old new keeps a Typed.FreshThis h = absurd h

holds_stays : (classes : List ClassRecord) (old new : List NamedObject) → Keeps old new → (v : Value) (t : VType) → Holds classes old v t
    → Holds classes new v t
holds_stays classes old new keeps (Held.Obj a) t h = object_stays classes old new keeps a t h
holds_stays classes old new keeps (Held.Cap k) t h = h
holds_stays classes old new keeps (Held.Int n) t h = h
holds_stays classes old new keeps (Held.Long n) t h = h
holds_stays classes old new keeps Held.Null t h = h
holds_stays classes old new keeps Held.Unset t h = h

declared_stays : (classes : List ClassRecord) (old new : List NamedObject) → Keeps old new → (v : Value) (t : TypeRef)
    → HoldsDeclared classes old v t → HoldsDeclared classes new v t
declared_stays classes old new keeps v t h = holds_stays classes old new keeps v (value_of classes t) h

-- what is asked of a value where a type is declared
abbrev Fits : Surroundings → List NamedObject → TypeRef → Value → Type 0
Fits around heap t v = HoldsDeclared around.classes heap v t × IsKnownValue around.caps heap v

fits_stay : (around : Surroundings) (old new : List NamedObject) → Keeps old new → (t : TypeRef) (v : Value) → Fits around old t v → Fits around new t v
fits_stay around old new keeps t v h =
    (declared_stays around.classes old new keeps v t h.0, known_stays around.caps old new keeps v h.1)

items_stay : (around : Surroundings) (old new : List NamedObject) → Keeps old new → (t : TypeRef) (items : List Value)
    → AllByRecursion (Fits around old t) items → AllByRecursion (Fits around new t) items
items_stay around old new keeps t [] h = tt
items_stay around old new keeps t (v ∷ items) h = (fits_stay around old new keeps t v h.0, items_stay around old new keeps t items h.1)

object_stays_sealed : (around : Surroundings) (old new : List NamedObject) → Keeps old new → (object : Object) → IsSealedObject around old object
    → IsSealedObject around new object
object_stays_sealed around old new keeps (Plain c values) (named_, s, t, k, r, fields) = (
  named_,
  s,
  t,
  k,
  r,
  record {
    as_many = fields.as_many;
    each = λ i v field at there. fits_stay around old new keeps field.kind v (fields.each i v field at there);
  },
)
object_stays_sealed around old new keeps (Array t items) (base, few, all) = (base, few, items_stay around old new keeps t items all)
object_stays_sealed around old new keeps (Text units) h = h
object_stays_sealed around old new keeps (Task s) h = h

-- ---- An object of a heap whose names differ is found under its name.

abbrev Differ : List NamedObject → Type 0
Differ made = (i j : ℕ) (a b : NamedObject) → slice_get made i ≡ Some a → slice_get made j ≡ Some b → a.name ≡ b.name → i ≡ j

not_first : (t : Bool) (e : NamedObject) (heap : List NamedObject) (b : ℕ) → e.name == b ≡ t → (e.name ≡ b → ⊥)
    → by_first t e heap b ≡ object_named heap b
not_first true e heap b is ne = absurd (ne (eqb-true e.name b is))
not_first false e heap b is ne = refl

at_first : (t : Bool) (e : NamedObject) (heap : List NamedObject) → e.name == e.name ≡ t → by_first t e heap e.name ≡ Some e.object
at_first true e heap is = refl
at_first false e heap is = absurd (eqb-false e.name e.name is refl)

found_itself : (made : List NamedObject) (e : NamedObject) → Differ made → Contains made e → object_named made e.name ≡ Some e.object
found_itself [] e differ h = absurd (Contains-none e h)
found_itself (x ∷ made) e differ h = elim (Contains-cases e x made h) [
  | inl same ↦ subst (λ (y : NamedObject). object_named (x ∷ made) y.name ≡ Some y.object) same (at_first (x.name == x.name) x made refl)
  | inr later ↦
      let place = place_of made e later in
      let apart : x.name ≡ e.name → ⊥ = λ same. let never : 0 ≡ suc place.0 = differ 0 (suc place.0) x e refl place.1 same in omega (arith, never) in
      not_first (x.name == e.name) x made e.name refl apart
      ∙ found_itself made e (λ i j a b at_i at_j same. omega (arith, differ (suc i) (suc j) a b at_i at_j same)) later
]

-- a place in two lists, one after the other, is one in the first or in the second
front_or_back : (old made : List NamedObject) (k : ℕ) (e : NamedObject) → slice_get (old ++ made) k ≡ Some e
    → (slice_get old k ≡ Some e) ⊎ ((j : ℕ) × (k ≡ length old + j) × (slice_get made j ≡ Some e))
front_or_back [] made k e at = inr (k, omega arith, at)
front_or_back (x ∷ old) made zero e at = inl at
front_or_back (x ∷ old) made (suc k) e at = elim (front_or_back old made k e at) [
  | inl first ↦ inl first
  | inr second ↦ inr (second.0, omega (arith, second.1), second.2)
]

-- two heaps whose names differ, the second of which has none of the first one's, one after the other
differ_before : (old made : List NamedObject) (i j : ℕ) (a b : NamedObject) → ((e : NamedObject) → Contains made e → object_named old e.name ≡ None)
    → Differ old → slice_get old i ≡ Some a → slice_get made j ≡ Some b → a.name ≡ b.name → ⊥
differ_before old made i j a b fresh differ at_i at_j same =
    let found : object_named old a.name ≡ Some a.object = found_itself old a differ (Contains-at old i a at_i) in
    let lacked : object_named old b.name ≡ None = fresh b (Contains-at made j b at_j) in
    let never : Some a.object ≡ None = sym found ∙ ap (object_named old) same ∙ lacked in
    absurd cc

differ_in_both : (old made : List NamedObject) (i j : ℕ) (a b : NamedObject) → ((e : NamedObject) → Contains made e → object_named old e.name ≡ None)
    → Differ old → Differ made → slice_get (old ++ made) i ≡ Some a → slice_get (old ++ made) j ≡ Some b → a.name ≡ b.name → i ≡ j
differ_in_both old made i j a b fresh first second at_i at_j same = elim (front_or_back old made i a at_i) [
  | inl before_i ↦ elim (front_or_back old made j b at_j) [
    | inl before_j ↦ first i j a b before_i before_j same
    | inr after_j ↦ absurd (differ_before old made i after_j.0 a b fresh first before_i after_j.2 same)
  ]
  | inr after_i ↦ elim (front_or_back old made j b at_j) [
    | inl before_j ↦ absurd (differ_before old made j after_i.0 b a fresh first before_j after_i.2 (sym same))
    | inr after_j ↦ omega (arith, after_i.1, after_j.1, second after_i.0 after_j.0 a b after_i.2 after_j.2 same)
  ]
]

-- ---- What is copied, field by field and item by item.

-- a zero or null of a type
zero_is_known : (caps : List CapRange) (heap : List NamedObject) (t : TypeRef) → IsKnownValue caps heap (zero_of t)
zero_is_known caps heap t = zero_known caps heap t.dims t.base
  where
    zero_known : (caps : List CapRange) (heap : List NamedObject) (dims : ℕ) (base : BaseRef)
        → IsKnownValue caps heap (zero_of (record { dims = dims; base = base }))
    zero_known caps heap (suc dims) base = tt
    zero_known caps heap zero Base.Byte = tt
    zero_known caps heap zero Base.Char = tt
    zero_known caps heap zero Base.Int = tt
    zero_known caps heap zero Base.Long = tt
    zero_known caps heap zero Base.Short = tt
    zero_known caps heap zero Base.Bool = tt
    zero_known caps heap zero (Base.Class c) = tt

zero_fits : (classes : List ClassRecord) (heap : List NamedObject) (dims : ℕ) (base : BaseRef)
    → HoldsDeclared classes heap (zero_of (record { dims = dims; base = base })) (record { dims = dims; base = base })
zero_fits classes heap (suc dims) base = tt
zero_fits classes heap zero Base.Byte = tt
zero_fits classes heap zero Base.Char = tt
zero_fits classes heap zero Base.Int = tt
zero_fits classes heap zero Base.Long = tt
zero_fits classes heap zero Base.Short = tt
zero_fits classes heap zero Base.Bool = tt
zero_fits classes heap zero (Base.Class c) = tt

copy_is_known : (classes : List ClassRecord) (caps : List CapRange) (source : Graph) (before : List NamedObject) (copy : Graph) (pairs : List (ℕ × ℕ))
    (v w : Value) → IsCopy classes source before copy pairs → Corresponds pairs v w → IsKnownValue caps source.heap v → IsKnownValue caps copy.heap w
copy_is_known classes caps source before copy pairs (Held.Obj a) (Held.Obj b) h same known =
    let p = is_found classes source before copy pairs a b h same in (p.copy, p.is_copy)
copy_is_known classes caps source before copy pairs (Held.Obj a) (Held.Int n) h same known = absurd same
copy_is_known classes caps source before copy pairs (Held.Obj a) (Held.Long n) h same known = absurd same
copy_is_known classes caps source before copy pairs (Held.Obj a) Held.Null h same known = absurd same
copy_is_known classes caps source before copy pairs (Held.Obj a) (Held.Cap k) h same known = absurd same
copy_is_known classes caps source before copy pairs (Held.Obj a) Held.Unset h same known = absurd same
copy_is_known classes caps source before copy pairs (Held.Int n) w h same known =
    subst (λ (x : Value). IsKnownValue caps copy.heap x) (its_own pairs (Held.Int n) w tt same) tt
copy_is_known classes caps source before copy pairs (Held.Long n) w h same known =
    subst (λ (x : Value). IsKnownValue caps copy.heap x) (its_own pairs (Held.Long n) w tt same) tt
copy_is_known classes caps source before copy pairs Held.Null w h same known =
    subst (λ (x : Value). IsKnownValue caps copy.heap x) (its_own pairs Held.Null w tt same) tt
copy_is_known classes caps source before copy pairs (Held.Cap k) w h same known =
    subst (λ (x : Value). IsKnownValue caps copy.heap x) (its_own pairs (Held.Cap k) w tt same) known
copy_is_known classes caps source before copy pairs Held.Unset w h same known =
    subst (λ (x : Value). IsKnownValue caps copy.heap x) (its_own pairs Held.Unset w tt same) tt

copy_fits : (classes : List ClassRecord) (caps : List CapRange) (source : Graph) (before : List NamedObject)
    (copy : Graph) (pairs : List (ℕ × ℕ)) (t : TypeRef) (v w : Value) → IsCopy classes source before copy pairs → Corresponds pairs v w
    → HoldsDeclared classes source.heap v t × IsKnownValue caps source.heap v → HoldsDeclared classes copy.heap w t × IsKnownValue caps copy.heap w
copy_fits classes caps source before copy pairs t v w h same fits = (
  copied_values_fit classes source before copy pairs v w t h same fits.0,
  copy_is_known classes caps source before copy pairs v w h same fits.1,
)

items_fit : (classes : List ClassRecord) (caps : List CapRange) (source : Graph) (before : List NamedObject) (copy : Graph) (pairs : List (ℕ × ℕ))
    (t : TypeRef) (vs ws : List Value) → IsCopy classes source before copy pairs → EachCorresponds pairs vs ws
    → AllByRecursion (λ v. HoldsDeclared classes source.heap v t × IsKnownValue caps source.heap v) vs
    → AllByRecursion (λ v. HoldsDeclared classes copy.heap v t × IsKnownValue caps copy.heap v) ws
items_fit classes caps source before copy pairs t [] [] h same fit = tt
items_fit classes caps source before copy pairs t [] (w ∷ ws) h same fit = absurd same
items_fit classes caps source before copy pairs t (v ∷ vs) [] h same fit = absurd same
items_fit classes caps source before copy pairs t (v ∷ vs) (w ∷ ws) h same fit = (
  copy_fits classes caps source before copy pairs t v w h same.0 fit.0,
  items_fit classes caps source before copy pairs t vs ws h same.1 fit.1,
)

all_known : (classes : List ClassRecord) (caps : List CapRange) (source : Graph) (before : List NamedObject) (copy : Graph) (pairs : List (ℕ × ℕ))
    (vs ws : List Value) → IsCopy classes source before copy pairs → EachCorresponds pairs vs ws → AllByRecursion (IsKnownValue caps source.heap) vs
    → AllByRecursion (IsKnownValue caps copy.heap) ws
all_known classes caps source before copy pairs [] [] h same known = tt
all_known classes caps source before copy pairs [] (w ∷ ws) h same known = absurd same
all_known classes caps source before copy pairs (v ∷ vs) [] h same known = absurd same
all_known classes caps source before copy pairs (v ∷ vs) (w ∷ ws) h same known = (
  copy_is_known classes caps source before copy pairs v w h same.0 known.0,
  all_known classes caps source before copy pairs vs ws h same.1 known.1,
)

-- fields: as many as before, and each fits
as_many_fields : (pairs : List (ℕ × ℕ)) (fields : List FieldRecord) (vs ws : List Value) → FieldsCorrespond pairs fields vs ws
    → length ws ≡ length fields
as_many_fields pairs [] [] [] h = refl
as_many_fields pairs [] [] (w ∷ ws) h = absurd h
as_many_fields pairs [] (v ∷ vs) [] h = absurd h
as_many_fields pairs [] (v ∷ vs) (w ∷ ws) h = absurd h
as_many_fields pairs (f ∷ fields) [] [] h = absurd h
as_many_fields pairs (f ∷ fields) [] (w ∷ ws) h = absurd h
as_many_fields pairs (f ∷ fields) (v ∷ vs) [] h = absurd h
as_many_fields pairs (f ∷ fields) (v ∷ vs) (w ∷ ws) h = omega (arith, as_many_fields pairs fields vs ws h.1)

-- one field: it is left empty, or has the copy of what stands there
one_field : (t : Bool) (classes : List ClassRecord) (caps : List CapRange) (source : Graph) (before : List NamedObject) (copy : Graph)
    (pairs : List (ℕ × ℕ)) (kind : TypeRef) (v w : Value) → IsCopy classes source before copy pairs
    → MatchBool t (w ≡ zero_of kind) (Corresponds pairs v w) → HoldsDeclared classes source.heap v kind × IsKnownValue caps source.heap v
    → HoldsDeclared classes copy.heap w kind × IsKnownValue caps copy.heap w
one_field true classes caps source before copy pairs kind v w h empty fits = (
  subst (λ (x : Value). HoldsDeclared classes copy.heap x kind) (sym empty) (zero_fits classes copy.heap kind.dims kind.base),
  subst (λ (x : Value). IsKnownValue caps copy.heap x) (sym empty) (zero_is_known caps copy.heap kind),
)
one_field false classes caps source before copy pairs kind v w h same fits = copy_fits classes caps source before copy pairs kind v w h same fits

-- each fits the field at its place
abbrev EachField : List ClassRecord → List CapRange → List NamedObject → List FieldRecord → List Value → Type 0
EachField classes caps heap fields values =
    (i : ℕ) (v : Value) (field : FieldRecord) → slice_get values i ≡ Some v → slice_get fields i ≡ Some field
    → HoldsDeclared classes heap v field.kind × IsKnownValue caps heap v

fields_fit : (classes : List ClassRecord) (caps : List CapRange) (source : Graph) (before : List NamedObject) (copy : Graph) (pairs : List (ℕ × ℕ))
    (fields : List FieldRecord) (vs ws : List Value) → IsCopy classes source before copy pairs → FieldsCorrespond pairs fields vs ws
    → EachField classes caps source.heap fields vs → EachField classes caps copy.heap fields ws
fields_fit classes caps source before copy pairs [] vs ws h same each i v field at there = absurd cc
fields_fit classes caps source before copy pairs (f ∷ fields) vs [] h same each i v field at there = absurd cc
fields_fit classes caps source before copy pairs (f ∷ fields) [] (w ∷ ws) h same each i v field at there = absurd same
fields_fit classes caps source before copy pairs (f ∷ fields) (x ∷ vs) (w ∷ ws) h same each zero v field at there =
    let e : w ≡ v = same_Some w v at in
    let k : f ≡ field = same_Some f field there in
    let fits : HoldsDeclared classes copy.heap w f.kind × IsKnownValue caps copy.heap w =
    one_field (is_left_empty f) classes caps source before copy pairs f.kind x w h same.0 (each 0 x f refl refl) in
    subst (λ (y : Value). HoldsDeclared classes copy.heap y field.kind × IsKnownValue caps copy.heap y) e
    (subst (λ (g : FieldRecord). HoldsDeclared classes copy.heap w g.kind × IsKnownValue caps copy.heap w) k fits)
fields_fit classes caps source before copy pairs (f ∷ fields) (x ∷ vs) (w ∷ ws) h same each (suc i) v field at there =
    fields_fit classes caps source before copy pairs fields vs ws h same.1 (λ j u g at_j there_j. each (suc j) u g at_j there_j) i v field at there

-- ---- Classes that the taker knows.

marked_at : (o : Option SystemClass) (c : ClassId) → slice_get system_classes c.0 ≡ o
    → IsTrue (option_map_or (λ (e : SystemClass). e.copiable) o false) → c.0 < length system_classes
marked_at None c is marked = absurd cc
marked_at (Some e) c is marked = slice_get_within system_classes c.0 e is

class_is_known : (classes : List ClassRecord) (giver taker : List NamedClass) (c : ClassId) (values : List Value)
    → ((d : ClassId) → d.0 < length system_classes → IsNamed taker d) → IsCopiable classes giver taker (Plain c values) → IsNamed taker c
class_is_known classes giver taker c values knows (inl marked) = knows c (marked_at (slice_get system_classes c.0) c refl marked)
class_is_known classes giver taker c values knows (inr shared) = means_named taker shared.0.0 c shared.0.2

base_is_known : (giver taker : List NamedClass) (base : BaseRef) → AreSharingBase giver taker base → IsNamedBase taker base
base_is_known giver taker (Base.Class c) (name, from, to) = means_named taker name c to
base_is_known giver taker Base.Byte shared = tt
base_is_known giver taker Base.Char shared = tt
base_is_known giver taker Base.Int shared = tt
base_is_known giver taker Base.Long shared = tt
base_is_known giver taker Base.Short shared = tt
base_is_known giver taker Base.Bool shared = tt

-- ---- One object.

abbrev Around : List ClassRecord → List NamedClass → List CapRange → Surroundings
Around classes table caps = record { classes = classes; table = table; caps = caps }

copied_is_sealed : (classes : List ClassRecord) (caps : List CapRange) (giver taker : List NamedClass) (source : Graph) (before : List NamedObject)
    (copy : Graph) (pairs : List (ℕ × ℕ)) (object other : Object) → IsCopy classes source before copy pairs
    → ((d : ClassId) → d.0 < length system_classes → IsNamed taker d) → IsCopiable classes giver taker object
    → IsSealedObject (Around classes giver caps) source.heap object → IsCopied classes pairs object other
    → IsSealedObject (Around classes taker caps) copy.heap other
copied_is_sealed classes caps giver taker source before copy pairs (Plain c vs) (Plain d ws) h knows may (named_, s, t, k, r, fields) same =
    subst (λ (e : ClassId). IsSealedObject (Around classes taker caps) copy.heap (Plain e ws)) same.0 (
      class_is_known classes giver taker c vs knows may,
      s,
      t,
      k,
      r,
      record {
        as_many = as_many_fields pairs (field_records classes c) vs ws same.1;
        each = fields_fit classes caps source before copy pairs (field_records classes c) vs ws h same.1 fields.each;
      },
    )
copied_is_sealed classes caps giver taker source before copy pairs (Array t vs) (Array u ws) h knows may (base, few, all) same =
    subst (λ (k : TypeRef). IsSealedObject (Around classes taker caps) copy.heap (Array k ws)) same.0
    (base_is_known giver taker t.base may, few, items_fit classes caps source before copy pairs t vs ws h same.1 all)
copied_is_sealed classes caps giver taker source before copy pairs (Text units) (Text others) h knows may sealed same = knows STRING (omega arith)
copied_is_sealed classes caps giver taker source before copy pairs (Task s) other h knows may sealed same = absurd may
copied_is_sealed classes caps giver taker source before copy pairs (Plain c vs) (Array u ws) h knows may sealed same = absurd same
copied_is_sealed classes caps giver taker source before copy pairs (Plain c vs) (Text others) h knows may sealed same = absurd same
copied_is_sealed classes caps giver taker source before copy pairs (Plain c vs) (Task t) h knows may sealed same = absurd same
copied_is_sealed classes caps giver taker source before copy pairs (Array t vs) (Plain d ws) h knows may sealed same = absurd same
copied_is_sealed classes caps giver taker source before copy pairs (Array t vs) (Text others) h knows may sealed same = absurd same
copied_is_sealed classes caps giver taker source before copy pairs (Array t vs) (Task s) h knows may sealed same = absurd same
copied_is_sealed classes caps giver taker source before copy pairs (Text units) (Plain d ws) h knows may sealed same = absurd same
copied_is_sealed classes caps giver taker source before copy pairs (Text units) (Array u ws) h knows may sealed same = absurd same
copied_is_sealed classes caps giver taker source before copy pairs (Text units) (Task t) h knows may sealed same = absurd same

-- ---- The whole.

alike_itself : (object : Object) → IsAlike object object
alike_itself (Plain c values) = (refl, refl)
alike_itself (Array t items) = (refl, refl)
alike_itself (Text units) = refl
alike_itself (Task s) = refl

module _ (classes : List ClassRecord) (caps : List CapRange) (c : CopyBetween classes caps) where
  abbrev source : Graph
  source = record { heap = c.from.heap; values = c.values }

  abbrev copy : Graph
  copy = record { heap = c.heap; values = c.copied }

  keeps : Keeps c.to.heap c.heap
  keeps a object is = ap (λ (heap : List NamedObject). object_named heap a) c.copy.grown ∙ in_front c.to.heap c.copy.made a object is

  made_is_sealed : (e : NamedObject) → Contains c.copy.made e → IsSealedObject (Around classes c.taker caps) c.heap e.object
  made_is_sealed e there =
      let pair = c.copy.all_made e there in
      let reached : Reach classes source pair.0 = c.copy.each_reached pair.0 e.name pair.1 in
      let paired = c.copy.each_made pair.0 e.name pair.1 in
      let is_it : paired.copy ≡ e.object =
      same_Some paired.copy e.object (sym paired.is_copy ∙ found_itself c.copy.made e c.copy.differ there) in
      let sealed : IsSealedObject (Around classes c.giver caps) c.from.heap paired.object =
      c.from_sealed.objects (named pair.0 paired.object) (stands c.from.heap pair.0 paired.object paired.is_object) in
      subst (λ (o : Object). IsSealedObject (Around classes c.taker caps) c.heap o) is_it
      (copied_is_sealed classes caps c.giver c.taker source c.to.heap copy c.pairs paired.object paired.copy c.copy c.knows_system
      (c.copiable pair.0 paired.object reached paired.is_object) sealed paired.same)

  object_is_sealed : (e : NamedObject) → Contains c.heap e → IsSealedObject (Around classes c.taker caps) c.heap e.object
  object_is_sealed e there =
      elim (Contains-append_cases c.to.heap c.copy.made e (subst (λ (heap : List NamedObject). Contains heap e) c.copy.grown there)) [
        | inl old ↦ object_stays_sealed (Around classes c.taker caps) c.to.heap c.heap keeps e.object (c.to_sealed.objects e old)
        | inr new ↦ made_is_sealed e new
      ]

  inside_is_sealed : IsSealedInside (Around classes c.taker caps) c.quota_to (with_heap c.to c.heap)
  inside_is_sealed = record {
    names_differ = λ i j a b at_i at_j same.
        differ_in_both c.to.heap c.copy.made i j a b c.copy.fresh c.to_sealed.names_differ c.copy.differ
        (subst (λ (heap : List NamedObject). slice_get heap i ≡ Some a) c.copy.grown at_i)
        (subst (λ (heap : List NamedObject). slice_get heap j ≡ Some b) c.copy.grown at_j) same;
    own = c.to_sealed.own;
    objects = object_is_sealed;
    out = (c.to_sealed.out.0, keeps c.to.own.out _ c.to_sealed.out.1);
    standing = λ s.
        let x = c.to_sealed.standing s in
        (x.0, x.1, (x.2.0, keeps x.0 _ x.2.1));
    literals = λ l there. keeps l.name _ (c.to_sealed.literals l there);
    statics = λ m v field at is. fits_stay (Around classes c.taker caps) c.to.heap c.heap keeps field.kind v (c.to_sealed.statics m v field at is);
    words = omega (arith, copies_cost_their_reach classes source c.to.heap copy c.pairs c.words c.copy c.costs, c.enough);
  }

  pub copies_keep_domains : IsSealedInside (Around classes c.taker caps) c.quota_to (with_heap c.to c.heap) × IsGrown c.to.heap c.heap
      × AllByRecursion (IsKnownValue caps c.heap) c.copied
  copies_keep_domains = (
    inside_is_sealed,
    record { kept = λ a object is. (object, keeps a object is, alike_itself object) },
    all_known classes caps source c.to.heap copy c.pairs c.values c.copied c.copy c.copy.values c.known,
  )
