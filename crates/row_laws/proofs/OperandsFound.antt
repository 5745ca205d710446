-- An instruction on objects finds its operands where a frame runs: what its operand leads to, and values of the right kinds on the stack.
use Rattle.std.proofs.Common.{inl, inr, ◌≡◌, ◌⊎◌, ℕ, zero, suc, ◌+◌, ◌-◌, ◌≤◌, ℤ, pos, IsTrue, List, [], ◌∷◌, replicate, Contains, Some, slice_get, refl, sym, ap, subst, ◌∙◌, arith}
use Rattle.std.specs.Prelude.{IsFalse}
use Rattle.std.specs.List.{AllByRecursion}
use Rattle.std.proofs.lemmas.Option.{same_Some}
use Rattle.list_lemmas.proofs.ItemsOfLists.{Contains-at}
use Rattle.jk_model.specs.Flags.{has, STATIC}
use Rattle.jk_model.specs.declared.identifiers.CapId.{CapId}
use Rattle.jk_model.specs.declared.identifiers.ClassId.{ClassId}
use Rattle.jk_model.specs.declared.identifiers.MemberId.{MemberId}
use Rattle.jk_model.specs.declared.instructions.Instr.{Instr}
use Rattle.jk_model.specs.declared.values.Value.{Value}
use Rattle.jk_model.specs.declared.values.Value.TheVariants as Held
use Rattle.jk_model.proofs.EachItem.{all_back}
use Rattle.jk_model_classes.specs.declared.records.BaseRef.{BaseRef}
use Rattle.jk_model_classes.specs.declared.records.BaseRef.TheVariants as Base
use Rattle.jk_model_classes.specs.declared.records.ClassRecord.{ClassRecord}
use Rattle.jk_model_classes.specs.declared.records.FieldRecord.{FieldRecord}
use Rattle.jk_model_classes.specs.declared.records.Link.{Link}
use Rattle.jk_model_classes.specs.declared.records.Link.TheVariants as To
use Rattle.jk_model_classes.specs.declared.records.Member.TheVariants.{Field}
use Rattle.jk_model_classes.specs.declared.records.TypeRef.{TypeRef}
use Rattle.jk_model_classes.specs.Classes.{IsSubclass, field_walk}
use Rattle.jk_model_classes.specs.Lookups.{FieldIs}
use Rattle.jk_model_classes.specs.Worlds.{IsNamed}
use Rattle.jk_model_typing.specs.declared.frames.Demand.{Demand}
use Rattle.jk_model_typing.specs.declared.frames.Demand.TheVariants.{Array, Fitting, FittingEither, PutReceiver, Receiver, Reference, ReferenceArray}
use Rattle.jk_model_typing.specs.declared.frames.VType.{VType}
use Rattle.jk_model_typing.specs.declared.frames.VType.TheVariants.{Unusable, Int, Long, Null, Ref, Fresh, FreshThis}
use Rattle.jk_model_typing.specs.FrameTypes.{Fits, RefFits, array_type, erased_class, of_class, throwable, value_of}
use Rattle.jk_model_typing.specs.Groups.{LoadsElement, Takes, group_of}
use Rattle.jk_model_typing.specs.Rows.{HasShape}
use Rattle.jk_model_typing.specs.Scopes.{CodeScope, LeadsToLink}
use Rattle.jk_model_domains.specs.NumberRows.{IsOnTop}
use Rattle.jk_model_domains.specs.Objects.{NamedObject, Object, CAPABILITY, class_type, object_named, type_of}
use Rattle.jk_model_domains.specs.ValueTypes.{ValueFits}
use Rattle.jk_model_heaps.specs.Capabilities.{CapRange, IsGivenOut}
use Rattle.jk_model_heaps.specs.RunningCode.{NamesField, RunsCode}
use Rattle.jk_model_heaps.specs.Workings.{Setting, Working}
use Rattle.jk_model_heap_rows.specs.ElementRows.{is_element_load, is_element_store}
use Rattle.jk_model_heap_rows.specs.FieldRows.{HasField, IsStaticValue}
use Rattle.jk_model_heap_rows.specs.NewObjectRows.{MakesArrayOf}
use Rattle.jk_model_heap_rows.specs.HeapRows.{IsOfHeaps, heap_opcodes}
use Rattle.jk_model_sealing.specs.SealedInsides.{IsKnownValue, Surroundings}
use Rattle.jk_model_sealing.specs.SealedRuns.{KnowsClassOf}
use Rattle.heap_laws.specs.RunningFrames.{RunsWell}
use Rattle.heap_laws.specs.NamedWell.{NamesWell, puts_field, uses_object_field, uses_static_field}
use Rattle.heap_laws.specs.SoundCodes.{AreSoundCodes}
use Rattle.type_frames.proofs.OrderOfTypes.{RefFits-trans}
use Rattle.row_laws.specs.Operands.{ValueMeets, ValuesMeet}
use Rattle.row_laws.specs.StandingFrames.{StandsTyped}
use Rattle.row_laws.proofs.ElementsOfArrays.{elements_found, null_only}
use Rattle.row_laws.proofs.OperandsOnTop.{taken_meet}
use Rattle.row_laws.proofs.StandsHere.{stands_typed}
use Rattle.row_laws.specs.HeapOperands.{HasFieldOrIsNull, HeapOperands, IsObjectOrNull, IsReferenceOrNull, of_cast, of_get_field, of_get_static, of_length, of_load, of_new, of_new_array, of_new_arrays, of_put_field, of_put_static, of_store, of_test, of_text, of_throw}
use Rattle.row_laws.proofs.FieldsNamed.{own_has_field, reference_has}
use Rattle.row_laws.proofs.StaticsNamed.{put_static, static_value}
use Rattle.row_laws.proofs.ValuesMet.{any_array_met, array_met, either_met, int_met, ints_met, one_taken, reference_met, references_met, three_taken, throwable_met, two_taken}

-- ---- One of some opcodes.

-- what holds of each number of a range holds of one that is in it
in_range : (P : ℕ → Type 0) (first more n : ℕ) → first ≤ n → n ≤ first + more → ((k : ℕ) → k ≤ more → P (first + k)) → P n
in_range P first more n low high each =
    let k : ℕ = n - first in
    let number : first + k ≡ n = omega (arith, low) in
    subst P number (each k (omega (arith, low, high)))

module _ (around : Surroundings) (x : Setting) (w : Working) (runs : RunsWell around x w) (code : RunsCode around.classes w.frame) where
  abbrev s : CodeScope
  s = code.scope

  abbrev i : Instr
  i = code.instr

  abbrev heap : List NamedObject
  heap = w.inside.heap

  abbrev Found : Type 0
  Found = HeapOperands x s i w

  sound : AreSoundCodes around.classes
  sound = runs.setting.codes

  all : s.classes ≡ around.classes
  all = code.is_scope.all

  sound_here : AreSoundCodes s.classes
  sound_here = subst AreSoundCodes (sym all) sound

  typed : StandsTyped around.classes heap w.frame code
  typed = stands_typed around.classes sound w.frame code runs.fits.0 heap runs.fits.1

  shape_at : (op : ℕ) → i.op ≡ op → HasShape s i (group_of op) typed.typed.row.shape
  shape_at op is = subst (λ (k : ℕ). HasShape s i (group_of k) typed.typed.row.shape) is typed.typed.row.shape_is

  taken : (demands : List Demand) (gives : List VType) → typed.typed.row.shape ≡ Takes demands gives
      → (vs : List Value) × IsOnTop w.frame vs × ValuesMeet s heap demands vs
  taken demands gives takes = taken_meet s heap w.frame.head.at i w.frame typed.before typed.after demands gives typed.typed takes

  known_top : (vs : List Value) → IsOnTop w.frame vs → AllByRecursion (IsKnownValue around.caps heap) vs
  known_top vs (below, is) = all_back (IsKnownValue around.caps heap) below vs (subst (AllByRecursion (IsKnownValue around.caps heap)) is runs.known.1)

  with_index : (d : Demand) (gives : List VType) → typed.typed.row.shape ≡ Takes (d ∷ Fitting Int ∷ []) gives
      → (v : Value) × (n : ℤ) × IsOnTop w.frame (v ∷ Held.Int n ∷ []) × ValueMeets s heap d v
  with_index d gives takes =
      let two = two_taken s heap w.frame d (Fitting Int) (taken (d ∷ Fitting Int ∷ []) gives takes) in
      let index = int_met s heap two.1 two.4 in
      (two.0, index.0, subst (λ (u : Value). IsOnTop w.frame (two.0 ∷ u ∷ [])) index.1 two.2, two.3)

  with_value : (d e : Demand) (gives : List VType) → typed.typed.row.shape ≡ Takes (d ∷ Fitting Int ∷ e ∷ []) gives
      → (v : Value) × (n : ℤ) × (u : Value) × IsOnTop w.frame (v ∷ Held.Int n ∷ u ∷ []) × ValueMeets s heap d v
  with_value d e gives takes =
      let three = three_taken s heap w.frame d (Fitting Int) e (taken (d ∷ Fitting Int ∷ e ∷ []) gives takes) in
      let index = int_met s heap three.1 three.5 in
      (three.0, index.0, three.2, subst (λ (y : Value). IsOnTop w.frame (three.0 ∷ y ∷ three.2 ∷ [])) index.1 three.3, three.4)

  -- ---- Elements.

  numbers_loaded : (base : BaseRef) (gives : List VType) → IsTrue (is_element_load i.op)
      → typed.typed.row.shape ≡ Takes (Fitting (Ref (array_type 1 base)) ∷ Fitting Int ∷ []) gives → Found
  numbers_loaded base gives op takes =
      let on = with_index (Fitting (Ref (array_type 1 base))) gives takes in
      of_load on.0 on.1 op on.2 (array_met s heap (array_type 1 base) (omega arith) on.0 on.3)

  bytes_loaded : (gives : List VType) → IsTrue (is_element_load i.op)
      → typed.typed.row.shape ≡ Takes (FittingEither (Ref (array_type 1 Base.Byte)) (Ref (array_type 1 Base.Bool)) ∷ Fitting Int ∷ []) gives → Found
  bytes_loaded gives op takes =
      let on = with_index (FittingEither (Ref (array_type 1 Base.Byte)) (Ref (array_type 1 Base.Bool))) gives takes in
      of_load on.0 on.1 op on.2 (either_met s heap (array_type 1 Base.Byte) (array_type 1 Base.Bool) (omega arith) (omega arith) on.0 on.3)

  numbers_stored : (base : BaseRef) (e : Demand) (gives : List VType) → IsTrue (is_element_store i.op)
      → typed.typed.row.shape ≡ Takes (Fitting (Ref (array_type 1 base)) ∷ Fitting Int ∷ e ∷ []) gives → Found
  numbers_stored base e gives op takes =
      let on = with_value (Fitting (Ref (array_type 1 base))) e gives takes in
      of_store on.0 on.2 on.1 op on.3 (array_met s heap (array_type 1 base) (omega arith) on.0 on.4)

  bytes_stored : (e : Demand) (gives : List VType) → IsTrue (is_element_store i.op)
      → typed.typed.row.shape ≡ Takes (FittingEither (Ref (array_type 1 Base.Byte)) (Ref (array_type 1 Base.Bool)) ∷ Fitting Int ∷ e ∷ []) gives
      → Found
  bytes_stored e gives op takes =
      let on = with_value (FittingEither (Ref (array_type 1 Base.Byte)) (Ref (array_type 1 Base.Bool))) e gives takes in
      of_store on.0 on.2 on.1 op on.3 (either_met s heap (array_type 1 Base.Byte) (array_type 1 Base.Bool) (omega arith) (omega arith) on.0 on.4)

  references_stored : (gives : List VType) → IsTrue (is_element_store i.op)
      → typed.typed.row.shape ≡ Takes (ReferenceArray ∷ Fitting Int ∷ Reference ∷ []) gives → Found
  references_stored gives op takes =
      let on = with_value ReferenceArray Reference gives takes in
      of_store on.0 on.2 on.1 op on.3 (references_met s heap on.0 on.4)

  references_loaded : IsTrue (is_element_load i.op) → typed.typed.row.shape ≡ LoadsElement → Found
  references_loaded op loads =
      let on = elements_found s heap w.frame.head.at i w.frame typed.before typed.after typed.typed loads in
      of_load on.0 on.1 op on.2 on.3

  load_of : (op : ℕ) → i.op ≡ op → IsTrue (is_element_load op) → IsTrue (is_element_load i.op)
  load_of op is h = subst (λ (k : ℕ). IsTrue (is_element_load k)) (sym is) h

  store_of : (op : ℕ) → i.op ≡ op → IsTrue (is_element_store op) → IsTrue (is_element_store i.op)
  store_of op is h = subst (λ (k : ℕ). IsTrue (is_element_store k)) (sym is) h

  -- ---- Fields.

  names_well : NamesWell s i
  names_well = sound.names code.method s i code.is_scope (Contains-at s.code.instrs w.frame.head.at i code.stands)

  field_here : (m : MemberId) (field : FieldRecord) → FieldIs s.classes m field → FieldIs around.classes m field
  field_here m field is = subst (λ (classes : List ClassRecord). FieldIs classes m field) all is

  has_link : (link : Link) → LeadsToLink s i link → Contains code.is_scope.class.links link
  has_link link leads = subst (λ (links : List Link). Contains links link) code.is_scope.links (Contains-at s.links leads.0 link leads.2)

  -- the field's class is on the way up from the class that the entry names, and the domain knows it
  walks : (c : ClassId) (m : MemberId) → LeadsToLink s i (To.Field c m) → Contains (field_walk around.classes c) m.class
  walks c m leads = sound.found_fields code.method.class c code.is_scope.class m code.is_scope.class_is (has_link (To.Field c m) leads)

  field_known : (c : ClassId) (m : MemberId) → LeadsToLink s i (To.Field c m) → IsNamed around.table m.class
  field_known c m leads =
      let named : KnowsClassOf around.table (Some code.method) = subst (KnowsClassOf around.table) code.is_method runs.at_home.0 in
      let at = runs.setting.table.closed code.method.class named in
      let same : code.is_scope.class ≡ at.0 = same_Some code.is_scope.class at.0 (sym code.is_scope.class_is ∙ at.1) in
      at.2.fields c m (subst (λ (r : ClassRecord). Contains r.links (To.Field c m)) same (has_link (To.Field c m) leads))

  -- what a receiver's type says of it
  abbrev ReceiverFits : ClassId → Value → Type 0
  ReceiverFits c v =
      (v ≡ Held.Null) ⊎ ((a : ℕ) × (o : Object) × (v ≡ Held.Obj a) × (object_named heap a ≡ Some o)
      × RefFits around.classes (type_of o) (class_type (erased_class around.classes c)))
      ⊎ ((k : CapId) × (v ≡ Held.Cap k) × RefFits around.classes (class_type CAPABILITY) (class_type (erased_class around.classes c)))

  below_named : (c : ClassId) (a t : TypeRef) → RefFits s.classes a t → RefFits s.classes t (class_type (erased_class s.classes c))
      → RefFits around.classes a (class_type (erased_class around.classes c))
  below_named c a t h k =
      subst (λ (classes : List ClassRecord). RefFits classes a (class_type (erased_class classes c))) all
      (RefFits-trans s.classes sound_here.ordered a t (class_type (erased_class s.classes c)) h k)

  ref_fits : (c : ClassId) (v : Value) (t : TypeRef) → RefFits s.classes t (class_type (erased_class s.classes c)) → ValueFits s heap v (Ref t)
      → ReceiverFits c v
  ref_fits c (Held.Int n) t k h = absurd h
  ref_fits c (Held.Long n) t k h = absurd h
  ref_fits c Held.Null t k h = inl refl
  ref_fits c (Held.Obj a) t k (o, is, fits) = inr (inl (a, o, refl, is, below_named c (type_of o) t fits k))
  ref_fits c (Held.Cap n) t k h = inr (inr (n, refl, below_named c (class_type CAPABILITY) t h k))
  ref_fits c Held.Unset t k h = absurd h

  receiver_fits : (c : ClassId) (v : Value) (t : VType) → Fits s.classes t (of_class s.classes c) → ValueFits s heap v t → ReceiverFits c v
  receiver_fits c v Null k h = inl (null_only s heap v h)
  receiver_fits c v (Ref t) k h = ref_fits c v t k h
  receiver_fits c v Unusable k h = absurd cc
  receiver_fits c v Int k h = absurd cc
  receiver_fits c v Long k h = absurd cc
  receiver_fits c v (Fresh p) k h = absurd cc
  receiver_fits c v FreshThis k h = absurd cc

  -- the setting's classes are these
  in_setting : (v : Value) (m : MemberId) → (v ≡ Held.Null) ⊎ HasField around.classes heap v m → HasFieldOrIsNull x heap v m
  in_setting v m h = subst (λ (classes : List ClassRecord). (v ≡ Held.Null) ⊎ HasField classes heap v m) (sym runs.setting.classes) h

  module _ (c : ClassId) (m : MemberId) (field : FieldRecord) (leads : LeadsToLink s i (To.Field c m)) (is : FieldIs s.classes m field)
      (plain : IsFalse (has field.flags STATIC)) where
    receiver_has : (v : Value) (t : VType) → Fits s.classes t (of_class s.classes c) → ValueFits s heap v t → HasFieldOrIsNull x heap v m
    receiver_has v t k h =
        in_setting v m (reference_has around sound x.quota w.inside runs.inside m field (field_here m field is) plain c v (walks c m leads)
        (receiver_fits c v t k h))

    this_has : (v : Value) (t : VType) → t ≡ FreshThis → m.class ≡ s.self → ValueFits s heap v t → HasFieldOrIsNull x heap v m
    this_has v t fresh own h = in_setting v m (this_by v (subst (ValueFits s heap v) fresh h))
      where
        this_by : (u : Value) → ValueFits s heap u FreshThis → (u ≡ Held.Null) ⊎ HasField around.classes heap u m
        this_by (Held.Obj a) (o, object, (d, (fields, plain_is), below)) =
            let up : IsSubclass around.classes d m.class =
            subst (IsSubclass around.classes d) (sym own) (subst (λ (classes : List ClassRecord). IsSubclass classes d s.self) all below) in
            inr (own_has_field around sound x.quota w.inside runs.inside m field (field_here m field is) plain a d fields
            (object ∙ ap (λ (y : Object). Some y) plain_is) up)
        this_by (Held.Int n) k = absurd k
        this_by (Held.Long n) k = absurd k
        this_by Held.Null k = absurd k
        this_by (Held.Cap n) k = absurd k
        this_by Held.Unset k = absurd k

  get_field : i.op ≡ 0xb4 → Found
  get_field op =
      let is = shape_at 0xb4 op in
      let names : NamesField s i is.1 is.2 = (is.0, is.3.0, is.3.1) in
      let plain = names_well.object_field is.1 is.2 (subst (λ (k : ℕ). IsTrue (uses_object_field k)) (sym op) refl) names in
      let one = one_taken s heap w.frame (Receiver is.0 (Field is.1)) (taken (Receiver is.0 (Field is.1) ∷ []) (value_of s.classes is.2.kind ∷ []) is.4) in
      of_get_field is.1 is.2 one.0 op names one.1 (receiver_has is.0 is.1 is.2 is.3.0 is.3.1 plain one.0 one.2.0 one.2.1.fits one.2.2)

  put_field : i.op ≡ 0xb5 → Found
  put_field op =
      let is = shape_at 0xb5 op in
      let names : NamesField s i is.1 is.2 = (is.0, is.3.0, is.3.1) in
      let plain = names_well.object_field is.1 is.2 (subst (λ (k : ℕ). IsTrue (uses_object_field k)) (sym op) refl) names in
      let two = two_taken s heap w.frame (PutReceiver is.0 is.1) (Fitting (value_of s.classes is.2.kind))
      (taken (PutReceiver is.0 is.1 ∷ Fitting (value_of s.classes is.2.kind) ∷ []) [] is.4) in
      of_put_field is.1 is.2 two.0 two.1 op names two.2 (elim two.3.1 [
        | inl receiver ↦ receiver_has is.0 is.1 is.2 is.3.0 is.3.1 plain two.0 two.3.0 receiver.fits two.3.2
        | inr (fresh, own) ↦ this_has is.0 is.1 is.2 is.3.0 is.3.1 plain two.0 two.3.0 fresh own two.3.2
      ])

  get_static : i.op ≡ 0xb2 → Found
  get_static op =
      let is = shape_at 0xb2 op in
      let names : NamesField s i is.1 is.2 = (is.0, is.3.0, is.3.1) in
      let static = names_well.static_field is.1 is.2 (subst (λ (k : ℕ). IsTrue (uses_static_field k)) (sym op) refl) names in
      let value = static_value around x.quota w.inside runs.inside is.1 is.2 (field_here is.1 is.2 is.3.1) static (field_known is.0 is.1 is.3.0) in
      of_get_static is.1 is.2 value.0 op names
      (subst (λ (classes : List ClassRecord). IsStaticValue classes w.inside.own is.1 value.0) (sym runs.setting.classes) value.1)

  put_static_there : i.op ≡ 0xb3 → Found
  put_static_there op =
      let is = shape_at 0xb3 op in
      let names : NamesField s i is.1 is.2 = (is.0, is.3.0, is.3.1) in
      let static = names_well.static_field is.1 is.2 (subst (λ (k : ℕ). IsTrue (uses_static_field k)) (sym op) refl) names in
      let puts = subst (λ (k : ℕ). IsTrue (puts_field k)) (sym op) refl in
      let there = put_static around sound x.quota w.inside runs.inside is.1 is.2 (field_here is.1 is.2 is.3.1) static (field_known is.0 is.1 is.3.0)
      code.method code.is_scope.class s.method s.code code.is_scope.class_is code.is_scope.method code.is_scope.body
      (λ final. names_well.own_final_field is.1 is.2 puts names final ∙ code.is_scope.self) in
      let one = one_taken s heap w.frame (Fitting (value_of s.classes is.2.kind)) (taken (Fitting (value_of s.classes is.2.kind) ∷ []) [] is.4) in
      of_put_static is.1 is.2 one.0 op names there one.1

  -- ---- Objects, arrays, casts.

  new_array : (element : TypeRef) (gives : List VType) → MakesArrayOf s i element
      → typed.typed.row.shape ≡ Takes (Fitting Int ∷ []) gives → Found
  new_array element gives of takes =
      let one = one_taken s heap w.frame (Fitting Int) (taken (Fitting Int ∷ []) gives takes) in
      let count = int_met s heap one.0 one.2 in
      of_new_array element count.0 of (subst (λ (v : Value). IsOnTop w.frame (v ∷ [])) count.1 one.1)

  new_arrays : i.op ≡ 0xc5 → Found
  new_arrays op =
      let is = shape_at 0xc5 op in
      let on = taken (replicate is.1 (Fitting Int)) _ is.6 in
      let counts = ints_met s heap is.1 on.0 on.2 in
      of_new_arrays is.0 counts.0 op is.2 (is.3 ∙ ap pos (sym counts.2)) (omega (arith, is.4, counts.2)) (subst (IsOnTop w.frame) counts.1 on.1)

  reference : (gives : List VType) → typed.typed.row.shape ≡ Takes (Reference ∷ []) gives
      → (v : Value) × IsOnTop w.frame (v ∷ []) × IsReferenceOrNull x heap v
  reference gives takes =
      let one = one_taken s heap w.frame Reference (taken (Reference ∷ []) gives takes) in
      let known = known_top (one.0 ∷ []) one.1 in (
        one.0,
        one.1,
        subst (λ (ranges : List CapRange). IsObjectOrNull heap one.0
            ⊎ ((k : CapId) × (one.0 ≡ Held.Cap k) × IsGivenOut ranges k)) (sym runs.setting.ranges)
            (reference_met s heap around.caps one.0 known.0 one.2),
      )

  new_object : i.op ≡ 0xbb → Found
  new_object op = let is = shape_at 0xbb op in of_new is.0 op is.1

  numbers_made : i.op ≡ 0xbc → Found
  numbers_made op =
      let is = shape_at 0xbc op in
      new_array (array_type 0 is.1) _ (inl (op, (is.0, is.1, is.2, is.3, refl))) is.4

  array_made : i.op ≡ 0xbd → Found
  array_made op = let is = shape_at 0xbd op in new_array is.0 _ (inr (op, is.1)) is.3

  length_found : i.op ≡ 0xbe → Found
  length_found op =
      let one = one_taken s heap w.frame Array (taken (Array ∷ []) (Int ∷ []) (shape_at 0xbe op)) in
      of_length one.0 op one.1 (any_array_met s heap one.0 one.2)

  throw_found : i.op ≡ 0xbf → Found
  throw_found op =
      let one = one_taken s heap w.frame (Fitting throwable) (taken (Fitting throwable ∷ []) [] (shape_at 0xbf op)) in
      of_throw one.0 op one.1 (throwable_met s heap sound_here one.0 one.2)

  cast_found : i.op ≡ 0xc0 → Found
  cast_found op = let is = shape_at 0xc0 op in let one = reference _ is.2 in of_cast is.0 one.0 op is.1 one.1 one.2

  test_found : i.op ≡ 0xc1 → Found
  test_found op = let is = shape_at 0xc1 op in let one = reference _ is.2 in of_test is.0 one.0 op is.1 one.1 one.2

  -- ---- By the opcode.

  abbrev Case : ℕ → Type 0
  Case op = i.op ≡ op → Found

  first_loads : (k : ℕ) → k ≤ 1 → Case (0x2e + k)
  first_loads zero low op = numbers_loaded Base.Int _ (load_of 0x2e op refl) (shape_at 0x2e op)
  first_loads (suc zero) low op = numbers_loaded Base.Long _ (load_of 0x2f op refl) (shape_at 0x2f op)
  first_loads (suc (suc k)) low op = absurd (omega (arith, low))

  other_loads : (k : ℕ) → k ≤ 3 → Case (0x32 + k)
  other_loads zero low op = references_loaded (load_of 0x32 op refl) (shape_at 0x32 op)
  other_loads (suc zero) low op = bytes_loaded _ (load_of 0x33 op refl) (shape_at 0x33 op)
  other_loads (suc (suc zero)) low op = numbers_loaded Base.Char _ (load_of 0x34 op refl) (shape_at 0x34 op)
  other_loads (suc (suc (suc zero))) low op = numbers_loaded Base.Short _ (load_of 0x35 op refl) (shape_at 0x35 op)
  other_loads (suc (suc (suc (suc k)))) low op = absurd (omega (arith, low))

  first_stores : (k : ℕ) → k ≤ 1 → Case (0x4f + k)
  first_stores zero low op = numbers_stored Base.Int _ _ (store_of 0x4f op refl) (shape_at 0x4f op)
  first_stores (suc zero) low op = numbers_stored Base.Long _ _ (store_of 0x50 op refl) (shape_at 0x50 op)
  first_stores (suc (suc k)) low op = absurd (omega (arith, low))

  other_stores : (k : ℕ) → k ≤ 3 → Case (0x53 + k)
  other_stores zero low op = references_stored _ (store_of 0x53 op refl) (shape_at 0x53 op)
  other_stores (suc zero) low op = bytes_stored _ _ (store_of 0x54 op refl) (shape_at 0x54 op)
  other_stores (suc (suc zero)) low op = numbers_stored Base.Char _ _ (store_of 0x55 op refl) (shape_at 0x55 op)
  other_stores (suc (suc (suc zero))) low op = numbers_stored Base.Short _ _ (store_of 0x56 op refl) (shape_at 0x56 op)
  other_stores (suc (suc (suc (suc k)))) low op = absurd (omega (arith, low))

  fields : (k : ℕ) → k ≤ 3 → Case (0xb2 + k)
  fields zero low op = get_static op
  fields (suc zero) low op = put_static_there op
  fields (suc (suc zero)) low op = get_field op
  fields (suc (suc (suc zero))) low op = put_field op
  fields (suc (suc (suc (suc k)))) low op = absurd (omega (arith, low))

  objects : (k : ℕ) → k ≤ 6 → Case (0xbb + k)
  objects zero low op = new_object op
  objects (suc zero) low op = numbers_made op
  objects (suc (suc zero)) low op = array_made op
  objects (suc (suc (suc zero))) low op = length_found op
  objects (suc (suc (suc (suc zero)))) low op = throw_found op
  objects (suc (suc (suc (suc (suc zero))))) low op = cast_found op
  objects (suc (suc (suc (suc (suc (suc zero)))))) low op = test_found op
  objects (suc (suc (suc (suc (suc (suc (suc k))))))) low op = absurd (omega (arith, low))

  by_row : (first last more : ℕ) → last ≡ first + more → (r : ℕ × ℕ) → Some (first, last) ≡ Some r → r.0 ≤ i.op → i.op ≤ r.1
      → ((k : ℕ) → k ≤ more → Case (first + k)) → Found
  by_row first last more range r at low high each =
      let same : (first, last) ≡ r = same_Some (first, last) r at in
      let least : first ≤ i.op = subst (λ (y : ℕ × ℕ). y.0 ≤ i.op) (sym same) low in
      let most : i.op ≤ last = subst (λ (y : ℕ × ℕ). i.op ≤ y.1) (sym same) high in
      in_range Case first more i.op least (omega (arith, most, range)) each refl

  many_arrays : (k : ℕ) → k ≤ 0 → Case (0xc5 + k)
  many_arrays zero low op = new_arrays op
  many_arrays (suc k) low op = absurd (omega (arith, low))

  in_row : (n : ℕ) (r : ℕ × ℕ) → slice_get heap_opcodes n ≡ Some r → r.0 ≤ i.op → i.op ≤ r.1 → Found
  in_row zero r at low high = by_row 0x2e 0x2f 1 refl r at low high first_loads
  in_row (suc zero) r at low high = by_row 0x32 0x35 3 refl r at low high other_loads
  in_row (suc (suc zero)) r at low high = by_row 0x4f 0x50 1 refl r at low high first_stores
  in_row (suc (suc (suc zero))) r at low high = by_row 0x53 0x56 3 refl r at low high other_stores
  in_row (suc (suc (suc (suc zero)))) r at low high = by_row 0xb2 0xb5 3 refl r at low high fields
  in_row (suc (suc (suc (suc (suc zero))))) r at low high = by_row 0xbb 0xc1 6 refl r at low high objects
  in_row (suc (suc (suc (suc (suc (suc zero)))))) r at low high = by_row 0xc5 0xc5 0 refl r at low high many_arrays
  in_row (suc (suc (suc (suc (suc (suc (suc n))))))) r at low high = absurd cc

  pub operands_found : IsOfHeaps s i → Found
  operands_found (inl (n, r, at, (low, high))) = in_row n r at low high
  operands_found (inr (op, (text, leads))) = of_text text op leads
