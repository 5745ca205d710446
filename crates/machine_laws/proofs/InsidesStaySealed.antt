-- A domain that is sealed inside stays so with more classes behind closed ones, and with more capabilities.
use Rattle.std.proofs.Common.{◌≡◌, ℕ, ◌+◌, ◌==◌, ◌<◌, ◌≤◌, List, [], ◌∷◌, ◌++◌, length, find, Option, Some, None, slice_get, refl, sym, ap, subst, ◌∙◌, arith}
use Rattle.std.specs.Prelude.{option_and_then}
use Rattle.std.specs.List.{AllByRecursion}
use Rattle.std.proofs.lemmas.Bool.{eqb-true}
use Rattle.std.proofs.lemmas.List.Folds.{find-append}
use Rattle.std.proofs.lemmas.List.Sums.{sum_by-cons}
use Rattle.list_lemmas.proofs.FoundItems.{Finds, finds}
use Rattle.list_lemmas.proofs.ItemsOfLists.{Contains-at, each-from, each-weaker}
use Rattle.jk_model.specs.declared.identifiers.CapId.{CapId}
use Rattle.jk_model.specs.declared.identifiers.ClassId.{ClassId}
use Rattle.jk_model.specs.declared.identifiers.MemberId.{MemberId}
use Rattle.jk_model.specs.declared.values.Value.{Value}
use Rattle.jk_model.specs.declared.values.Value.TheVariants as Held
use Rattle.jk_model_classes.specs.declared.records.BaseRef.{BaseRef}
use Rattle.jk_model_classes.specs.declared.records.BaseRef.TheVariants as Base
use Rattle.jk_model_classes.specs.declared.records.ClassRecord.{ClassRecord}
use Rattle.jk_model_classes.specs.declared.records.FieldRecord.{FieldRecord}
use Rattle.jk_model_classes.specs.declared.records.TypeRef.{TypeRef}
use Rattle.jk_model_classes.specs.Classes.{AreOrdered, HasClass}
use Rattle.jk_model_classes.specs.Worlds.{IsNamed, NamedClass}
use Rattle.jk_model_domains.specs.Objects.{Array, NamedObject, Object, Plain, Task, Text, object_words}
use Rattle.jk_model_domains.specs.OwnStates.{ClassPart, IsOwnState, OwnState, part_of, static_in, static_of}
use Rattle.jk_model_heaps.specs.Capabilities.{CapRange, IsGivenOut, capability_in, has_number}
use Rattle.jk_model_heaps.specs.Heaps.{field_records, heap_words}
use Rattle.jk_model_heaps.specs.Workings.{Inside}
use Rattle.jk_model_sealing.specs.SealedInsides.{HasFields, IsKnownValue, IsNamedBase, IsSealedInside, IsSealedObject, Surroundings}
use Rattle.heap_laws.specs.FittingOutcomes.{IsOfType}
use Rattle.class_growth.specs.ClassesKept.{HasObject}
use Rattle.class_growth.specs.ClosedClasses.{HasBase, HasType, IsClosed}
use Rattle.class_growth.proofs.LayoutsKept.{object_words-kept}
use Rattle.class_growth.proofs.MoreClasses.{field-before, has_class-by_record}
use Rattle.class_growth.proofs.OwnStatesKept.{own_state-still}
use Rattle.class_growth.proofs.ScopesKept.{field-closed}
use Rattle.class_growth.proofs.ValuesKept.{holds_declared-still}
use Rattle.machine_laws.specs.SealedOpenings.{IsWidened}
use Rattle.machine_laws.proofs.FieldsStay.{field_records_same, fields_closed}

-- ---- Surroundings with more.

abbrev pub with_more : Surroundings → List ClassRecord → List CapRange → Surroundings
with_more around more ranges = record { classes = around.classes ++ more; table = around.table; caps = around.caps ++ ranges }

pub widened_is : (old new : Surroundings) (w : IsWidened old new) → with_more old w.more w.ranges ≡ new
widened_is old new w = sym (λ i. record { classes = w.classes i; table = w.table i; caps = w.caps i })

-- ---- Capabilities.

given_by : (caps ranges : List CapRange) (k : CapId) (o : Option CapRange) → find (has_number k) caps ≡ o
    → (c : _) × (option_and_then (capability_in k) o ≡ Some c) → IsGivenOut (caps ++ ranges) k
given_by caps ranges k None none (c, is) = absurd cc
given_by caps ranges k (Some r) found (c, is) = (c, rw (find-append (has_number k) caps ranges, found) is)

pub given_out_still : (caps ranges : List CapRange) (k : CapId) → IsGivenOut caps k → IsGivenOut (caps ++ ranges) k
given_out_still caps ranges k h = given_by caps ranges k (find (has_number k) caps) refl h

pub value_known_still : (caps ranges : List CapRange) (heap : List NamedObject) (v : Value) → IsKnownValue caps heap v
    → IsKnownValue (caps ++ ranges) heap v
value_known_still caps ranges heap (Held.Obj a) h = h
value_known_still caps ranges heap (Held.Cap k) h = given_out_still caps ranges k h
value_known_still caps ranges heap v h = tt

-- ---- Static fields are of classes that are there.

module _ (classes : List ClassRecord) (table : List NamedClass) (own : OwnState) (state : IsOwnState classes table own) where
  static_by : (m : MemberId) (v : Value) (o : Option ClassPart) → part_of own m.class ≡ o → option_and_then (static_in m.index) o ≡ Some v
      → HasClass classes m.class
  static_by m v None part value = absurd cc
  static_by m v (Some e) part value =
      let at = subst (Finds (λ (x : ClassPart). x.class.0 == m.class.0) own.classes) part (finds (λ (x : ClassPart). x.class.0 == m.class.0) own.classes) in
      let has = state.each e (Contains-at own.classes at.0 e at.1) in
      let there : e.class.0 < length classes = has_class-by_record classes e.class has.0 has.1.1 in
      let same : e.class.0 ≡ m.class.0 = eqb-true e.class.0 m.class.0 at.2 in
      omega (arith, there, same)

  static_there : (m : MemberId) (v : Value) → static_of own m ≡ Some v → HasClass classes m.class
  static_there m v is = static_by m v (part_of own m.class) refl is

-- ---- Objects, and all that is inside.

module _ (old : Surroundings) (more : List ClassRecord) (ranges : List CapRange) (ordered : AreOrdered old.classes) (closed : IsClosed old.classes)
    (there : (c : ClassId) → IsNamed old.table c → HasClass old.classes c) (heap : List NamedObject) where
  abbrev new : Surroundings
  new = with_more old more ranges

  of_type_still : (t : TypeRef) (v : Value) → HasType old.classes t → IsOfType old heap t v → IsOfType new heap t v
  of_type_still t v has h =
      (holds_declared-still old.classes more heap v t has h.0, value_known_still old.caps ranges heap v h.1)

  fields_still : (class : ClassId) (values : List Value) → HasClass old.classes class → HasFields old heap class values
      → HasFields new heap class values
  fields_still class values has h =
      let same : field_records new.classes class ≡ field_records old.classes class = field_records_same old.classes more ordered class has in
      record {
        as_many = h.as_many ∙ ap (λ (fs : List FieldRecord). length fs) (sym same);
        each = λ i v f value at.
            let was : slice_get (field_records old.classes class) i ≡ Some f = subst (λ (fs : List FieldRecord). slice_get fs i ≡ Some f) same at in
            of_type_still f.kind v (fields_closed old.classes closed class f (Contains-at (field_records old.classes class) i f was))
            (h.each i v f value was);
      }

  base_there : (base : BaseRef) → IsNamedBase old.table base → HasBase old.classes base
  base_there (Base.Class c) h = there c h
  base_there base h = tt

  object_still : (object : Object) → IsSealedObject old heap object → IsSealedObject new heap object
  object_still (Plain class values) (named, no_text, no_task, no_capability, no_remote, fields) =
      (named, no_text, no_task, no_capability, no_remote, fields_still class values (there class named) fields)
  object_still (Array element items) (base, dims, all) = (
    base,
    dims,
    each-weaker (IsOfType old heap element) (IsOfType new heap element) (λ v. of_type_still element v (base_there element.base base)) items all,
  )
  object_still (Text units) h = h
  object_still (Task segment) h = h

  object_there : (object : Object) → IsSealedObject old heap object → HasObject old.classes object
  object_there (Plain class values) (named, no_text, no_task, no_capability, no_remote, fields) = there class named
  object_there (Array element items) h = tt
  object_there (Text units) h = tt
  object_there (Task segment) h = tt

  abbrev HasItsObject : NamedObject → Type 0
  HasItsObject e = HasObject old.classes e.object

  words_same : (objects : List NamedObject) → AllByRecursion HasItsObject objects
      → heap_words new.classes objects ≡ heap_words old.classes objects
  words_same [] all = refl
  words_same (e ∷ es) all =
      sum_by-cons (λ (x : NamedObject). object_words new.classes x.object) e es
      ∙ ap (λ (n : ℕ). n + heap_words new.classes es) (object_words-kept old.classes more ordered e.object all.0)
      ∙ ap (λ (n : ℕ). object_words old.classes e.object + n) (words_same es all.1)
      ∙ sym (sum_by-cons (λ (x : NamedObject). object_words old.classes x.object) e es)

pub inside_still : (old : Surroundings) (more : List ClassRecord) (ranges : List CapRange) → AreOrdered old.classes → IsClosed old.classes
    → ((c : ClassId) → IsNamed old.table c → HasClass old.classes c) → (quota : ℕ) (inside : Inside) → IsSealedInside old quota inside
    → IsSealedInside (with_more old more ranges) quota inside
inside_still old more ranges ordered closed there quota inside h = record {
  names_differ = h.names_differ;
  own = own_state-still old.classes more old.table there inside.own h.own;
  objects = λ e on. object_still old more ranges ordered closed there inside.heap e.object (h.objects e on);
  out = h.out;
  standing = h.standing;
  literals = h.literals;
  statics = λ m v field value is.
      let before = field-before old.classes more m field (static_there old.classes old.table inside.own h.own m v value) is in
      of_type_still old more ranges ordered closed there inside.heap field.kind v (field-closed old.classes closed m field before)
      (h.statics m v field value before);
  words =
      subst (λ (n : ℕ). n ≤ quota)
      (sym (words_same old more ranges ordered closed there inside.heap inside.heap
      (each-from (λ (e : NamedObject). HasObject old.classes e.object) inside.heap
      (λ e on. object_there old more ranges ordered closed there inside.heap e.object (h.objects e on))))) h.words;
}
