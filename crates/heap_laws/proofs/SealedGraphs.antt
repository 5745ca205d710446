-- In a domain that is sealed each name that known values reach has its object, with a value for each field.
use Rattle.std.proofs.Common.{◌≡◌, ℕ, suc, Bool, true, false, cond, List, [], ◌∷◌, slice_get, Contains, Some, refl, subst, inl, inr}
use Rattle.std.specs.List.{AllByRecursion}
use Rattle.jk_model.specs.declared.values.Value.{Value}
use Rattle.jk_model.specs.declared.values.Value.TheVariants as Held
use Rattle.jk_model_classes.specs.declared.records.FieldRecord.{FieldRecord}
use Rattle.jk_model_domains.specs.Objects.{NamedObject, Object, Array, Plain, Task, Text, object_named}
use Rattle.jk_model_heaps.proofs.NamesInHeaps.{stands}
use Rattle.jk_model_graphs.specs.Followed.{followed, is_left_empty, kept_values}
use Rattle.jk_model_graphs.specs.Reach.{Graph, Reach, from_object, from_value}
use Rattle.jk_model_heaps.specs.Heaps.{field_records, named}
use Rattle.jk_model_heaps.specs.Workings.{Inside}
use Rattle.jk_model_sealing.specs.SealedInsides.{IsKnownValue, IsSealedInside, IsSealedObject, Surroundings}
use Rattle.list_lemmas.proofs.ItemsOfLists.{Contains-cases, Contains-none, each-of}
use Rattle.heap_laws.specs.CopiedGraphs.{HasAllFields, IsWhollyThere}

-- ---- A field that is kept stands at the place of its record.

record IsField (fields : List FieldRecord) (values : List Value) (v : Value) : Type 0 where
  place : ℕ
  value : slice_get values place ≡ Some v
  field : FieldRecord
  is_field : slice_get fields place ≡ Some field

one_later : (f : FieldRecord) (fields : List FieldRecord) (w : Value) (values : List Value) (v : Value) → IsField fields values v
    → IsField (f ∷ fields) (w ∷ values) v
one_later f fields w values v h = record { place = suc h.place; value = h.value; field = h.field; is_field = h.is_field }

kept_step : (t : Bool) (f : FieldRecord) (fields : List FieldRecord) (w : Value) (values : List Value) (v : Value)
    → (Contains (kept_values fields values) v → IsField fields values v)
    → Contains (cond t (kept_values fields values) (w ∷ kept_values fields values)) v → IsField (f ∷ fields) (w ∷ values) v
kept_step true f fields w values v later h = one_later f fields w values v (later h)
kept_step false f fields w values v later h = elim (Contains-cases v w (kept_values fields values) h) [
  | inl e ↦ record { place = 0; value = subst (λ (x : Value). Some w ≡ Some x) e refl; field = f; is_field = refl }
  | inr more ↦ one_later f fields w values v (later more)
]

kept_is_field : (fields : List FieldRecord) (values : List Value) (v : Value) → Contains (kept_values fields values) v → IsField fields values v
kept_is_field [] values v h = absurd (Contains-none v h)
kept_is_field (f ∷ fields) [] v h = absurd (Contains-none v h)
kept_is_field (f ∷ fields) (w ∷ values) v h = kept_step (is_left_empty f) f fields w values v (kept_is_field fields values v) h

-- ---- What an object of a sealed domain leads to is there.

pub led_is_known : (around : Surroundings) (heap : List NamedObject) (object : Object) (b : ℕ) → IsSealedObject around heap object
    → Contains (followed around.classes object) (Held.Obj b) → (other : Object) × (object_named heap b ≡ Some other)
led_is_known around heap (Plain c values) b sealed led =
    let f = kept_is_field (field_records around.classes c) values (Held.Obj b) led in
    (sealed.5.each f.place (Held.Obj b) f.field f.value f.is_field).1
led_is_known around heap (Array t items) b sealed led = (each-of _ items (Held.Obj b) sealed.2 led).1
led_is_known around heap (Text units) b sealed led = absurd (Contains-none (Held.Obj b) led)
led_is_known around heap (Task s) b sealed led = absurd (Contains-none (Held.Obj b) led)

all_fields : (around : Surroundings) (heap : List NamedObject) (object : Object) → IsSealedObject around heap object
    → HasAllFields around.classes object
all_fields around heap (Plain c values) sealed = sealed.5.as_many
all_fields around heap (Array t items) sealed = tt
all_fields around heap (Text units) sealed = tt
all_fields around heap (Task s) sealed = tt

module _ (around : Surroundings) (quota : ℕ) (inside : Inside) (values : List Value) (sealed : IsSealedInside around quota inside)
    (known : AllByRecursion (IsKnownValue around.caps inside.heap) values) where
  abbrev graph : Graph
  graph = record { heap = inside.heap; values = values }

  has_object : (a : ℕ) → Reach around.classes graph a → (object : Object) × (object_named inside.heap a ≡ Some object)
  has_object a (from_value b given) = each-of (IsKnownValue around.caps inside.heap) values (Held.Obj b) known given
  has_object a (from_object b d reached leads) =
      led_is_known around inside.heap leads.0 d (sealed.objects (named b leads.0) (stands inside.heap b leads.0 leads.1)) leads.2

  pub sealed_is_wholly_there : IsWhollyThere around.classes graph
  sealed_is_wholly_there a reached =
      let found = has_object a reached in
      (found.0, found.1, all_fields around inside.heap found.0 (sealed.objects (named a found.0) (stands inside.heap a found.0 found.1)))
