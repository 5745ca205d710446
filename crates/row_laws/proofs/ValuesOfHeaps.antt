-- What values of a sealed domain are, by their declared types: texts, whole numbers, capabilities and other references.
use Rattle.std.proofs.Common.{inl, inr, ◌≡◌, ◌≢◌, ◌⊎◌, ℕ, ◌+◌, ◌<◌, ℤ, Bool, true, false, List, [], ◌∷◌, length, Option, Some, None, codes, slice_get, refl, sym, ap, subst, ◌∙◌, arith}
use Rattle.std.specs.Prelude.{if◌then◌else◌}
use Rattle.std.specs.Option.{option_map_or}
use Rattle.std.proofs.lemmas.Option.{slice_get_within}
use Rattle.list_lemmas.proofs.ItemsByPlace.{item_there}
use Rattle.jk_model.specs.Flags.{has, INTERFACE}
use Rattle.jk_model.specs.SystemTable.{SystemClass, system_classes}
use Rattle.jk_model.specs.declared.identifiers.ClassId.{ClassId}
use Rattle.jk_model.specs.declared.values.Value.{Value}
use Rattle.jk_model.specs.declared.values.Value.TheVariants as Held
use Rattle.jk_model_classes.specs.declared.records.BaseRef.{BaseRef}
use Rattle.jk_model_classes.specs.declared.records.BaseRef.TheVariants as Base
use Rattle.jk_model_classes.specs.declared.records.ClassRecord.{ClassRecord}
use Rattle.jk_model_classes.specs.declared.records.FieldRecord.{FieldRecord}
use Rattle.jk_model_classes.specs.declared.records.TypeRef.{TypeRef}
use Rattle.jk_model_classes.specs.Classes.{IsSubclass, OBJECT, is_interface_record, record_of}
use Rattle.jk_model_typing.specs.FrameTypes.{RefFits, STRING, array_type}
use Rattle.jk_model_domains.specs.Objects.{NamedObject, Object, Array, Plain, Task, Text, CAPABILITY, TASK, class_type, object_named, type_of}
use Rattle.jk_model_domains.specs.ValueTypes.{HoldsDeclared}
use Rattle.jk_model_heaps.specs.Heaps.{field_records, named}
use Rattle.jk_model_heaps.specs.Instances.{RunsAs, run_class}
use Rattle.jk_model_heaps.specs.NumberTexts.{number_text, truth_text}
use Rattle.jk_model_heaps.specs.StoredValues.{as_char}
use Rattle.jk_model_heaps.specs.Workings.{Inside}
use Rattle.jk_model_sealing.specs.SealedInsides.{HasFields, IsSealedInside, IsSealedObject, Surroundings}
use Rattle.jk_model_system_rows.specs.declared.meanings.Shown.{Shown}
use Rattle.jk_model_system_rows.specs.declared.meanings.Shown.TheVariants as As
use Rattle.jk_model_system_rows.specs.HiddenTexts.{HidesUnits}
use Rattle.class_table.proofs.StandingAbove.{is-own_superclass}
use Rattle.heap_laws.proofs.ObjectsAfterChanges.{found_stands}
use Rattle.heap_laws.specs.SoundCodes.{AreSoundCodes}
use Rattle.system_facts.specs.ClosedClasses.{IsClosedClass}
use Rattle.system_facts.proofs.ClosedAreLowest.{closed_is_lowest, closed_named}
use Rattle.system_facts.proofs.SystemEntries.{entry_of}
use Rattle.row_laws.proofs.BelowObject.{system_there}
use Rattle.row_laws.specs.GivenValues.{HasWording, HoldsText, IsInt, IsSomeCapability, IsSomeReference, IsSomeTask, IsSomeText, IsTextOrNull}
use Rattle.row_laws.proofs.FirstFields.{BeginsWithText}
use Rattle.row_laws.proofs.MeaningsOfTable.{number_type, shown_type}

-- ---- Types.

module _ (classes : List ClassRecord) (sound : AreSoundCodes classes) where
  class_below : (d e : ClassId) → RefFits classes (class_type d) (class_type e) → IsSubclass classes d e
  class_below d e (inl same) =
      let base : Base.Class d ≡ Base.Class e = ap (λ (t : TypeRef). t.base) same in
      let one : d ≡ e = cc in
      subst (IsSubclass classes d) one (is-own_superclass classes sound.ordered d)
  class_below d e (inr (inl (dims, up))) = up
  class_below d e (inr (inr (lower, object))) = absurd (omega (arith, lower))

  array_above : (dims : ℕ) (base : BaseRef) (e : ClassId) → RefFits classes (array_type (dims + 1) base) (class_type e) → e ≡ OBJECT
  array_above dims base e (inl same) = let count : dims + 1 ≡ 0 = ap (λ (t : TypeRef). t.dims) same in absurd (omega (arith, count))
  array_above dims base e (inr (inl (count, up))) = absurd (omega (arith, count))
  array_above dims base e (inr (inr (lower, object))) = let same : Base.Class e ≡ Base.Class OBJECT = object in cc

  closed_alone : (c d : ClassId) → IsClosedClass d → IsSubclass classes c d → c ≡ d
  closed_alone c d closed below = closed_is_lowest classes sound.ordered sound.system sound.open_parents c d closed below

  flags_by : (c : ClassId) (o : Option SystemClass) → slice_get system_classes c.0 ≡ o
      → option_map_or (λ (class : SystemClass). has class.flags INTERFACE) o true ≡ false → is_interface_record (record_of classes c) ≡ false
  flags_by c None at plain = absurd cc
  flags_by c (Some class) at plain =
      let low = slice_low class at in
      let r = item_there classes c.0 (system_there classes sound c low) in
      let said = entry_of classes sound.system c class r.0 at r.1 in
      ap (λ (o : Option ClassRecord). is_interface_record o) r.1 ∙ ap (λ (flags : ℕ). has flags INTERFACE) said.flags ∙ plain
    where
      slice_low : (y : SystemClass) → slice_get system_classes c.0 ≡ Some y → c.0 < length system_classes
      slice_low y is = slice_get_within system_classes c.0 y is

  -- a system class that is no interface is read as it is
  no_interface : (c : ClassId) → option_map_or (λ (class : SystemClass). has class.flags INTERFACE) (slice_get system_classes c.0) true ≡ false
      → is_interface_record (record_of classes c) ≡ false
  no_interface c plain = flags_by c (slice_get system_classes c.0) refl plain

abbrev differ_by : ClassId → ClassId → Type 0
differ_by c d = c.0 ≢ d.0

-- ---- Values of a sealed domain.

module _ (around : Surroundings) (sound : AreSoundCodes around.classes) (quota : ℕ) (inside : Inside) (sealed : IsSealedInside around quota inside) where
  abbrev heap : List NamedObject
  heap = inside.heap

  pub plain_sealed : (a : ℕ) (c : ClassId) (fields : List Value) → object_named heap a ≡ Some (Plain c fields) → IsSealedObject around heap (Plain c fields)
  plain_sealed a c fields is = sealed.objects (named a (Plain c fields)) (found_stands a (Plain c fields) heap is)

  string_closed : IsClosedClass STRING
  string_closed = closed_named 3 refl STRING refl

  capability_closed : IsClosedClass CAPABILITY
  capability_closed = closed_named 11 refl CAPABILITY refl

  task_closed : IsClosedClass TASK
  task_closed = closed_named 14 refl TASK refl

  other_class : (c d : ClassId) → c.0 ≢ d.0 → c ≡ d → ⊥
  other_class c d other same = other (ap (λ (e : ClassId). e.0) same)

  -- ---- Declared types.

  text_object : (a : ℕ) (o : Object) → object_named heap a ≡ Some o → RefFits around.classes (type_of o) (class_type STRING)
      → (units : List ℕ) × (o ≡ Text units)
  text_object a (Text units) is fits = (units, refl)
  text_object a (Plain d fields) is fits =
      absurd ((plain_sealed a d fields is).1
      (closed_alone around.classes sound d STRING string_closed (class_below around.classes sound d STRING fits)))
  text_object a (Array t items) is fits =
      absurd (other_class STRING OBJECT (λ e. omega (arith, e)) (array_above around.classes sound t.dims t.base STRING fits))
  text_object a (Task n) is fits =
      absurd (other_class TASK STRING (λ e. omega (arith, e))
      (closed_alone around.classes sound TASK STRING string_closed (class_below around.classes sound TASK STRING fits)))

  no_capability_object : (a : ℕ) (o : Object) → object_named heap a ≡ Some o → RefFits around.classes (type_of o) (class_type CAPABILITY) → ⊥
  no_capability_object a (Text units) is fits =
      other_class STRING CAPABILITY (λ e. omega (arith, e))
      (closed_alone around.classes sound STRING CAPABILITY capability_closed (class_below around.classes sound STRING CAPABILITY fits))
  no_capability_object a (Plain d fields) is fits =
      (plain_sealed a d fields is).3
      (closed_alone around.classes sound d CAPABILITY capability_closed (class_below around.classes sound d CAPABILITY fits))
  no_capability_object a (Array t items) is fits =
      other_class CAPABILITY OBJECT (λ e. omega (arith, e)) (array_above around.classes sound t.dims t.base CAPABILITY fits)
  no_capability_object a (Task n) is fits =
      other_class TASK CAPABILITY (λ e. omega (arith, e))
      (closed_alone around.classes sound TASK CAPABILITY capability_closed (class_below around.classes sound TASK CAPABILITY fits))

  abbrev class_read : ClassId → Bool → TypeRef
  class_read c b = array_type 0 (Base.Class (if b then OBJECT else c))

  pub text_held : (v : Value) → HoldsDeclared around.classes heap v (class_type STRING) → IsTextOrNull heap v
  text_held (Held.Obj a) (o, is, fits) =
      let read = no_interface around.classes sound STRING refl in
      let text = text_object a o is (subst (λ (b : Bool). RefFits around.classes (type_of o) (class_read STRING b)) read fits) in
      inr (text.0, is ∙ ap (λ (p : Object). Some p) text.1)
  text_held (Held.Cap k) fits =
      let read = no_interface around.classes sound STRING refl in
      let low : RefFits around.classes (class_type CAPABILITY) (class_type STRING) =
      subst (λ (b : Bool). RefFits around.classes (class_type CAPABILITY) (class_read STRING b)) read fits in
      absurd (other_class CAPABILITY STRING (λ e. omega (arith, e))
      (closed_alone around.classes sound CAPABILITY STRING string_closed (class_below around.classes sound CAPABILITY STRING low)))
  text_held Held.Null h = inl refl
  text_held (Held.Int n) h = absurd h
  text_held (Held.Long n) h = absurd h
  text_held Held.Unset h = absurd h

  pub capability_held : (v : Value) → HoldsDeclared around.classes heap v (class_type CAPABILITY) → (v ≡ Held.Null) ⊎ IsSomeCapability v
  capability_held (Held.Obj a) (o, is, fits) =
      let read = no_interface around.classes sound CAPABILITY refl in
      absurd (no_capability_object a o is
      (subst (λ (b : Bool). RefFits around.classes (type_of o) (class_read CAPABILITY b)) read fits))
  capability_held (Held.Cap k) fits = inr (k, refl)
  capability_held Held.Null h = inl refl
  capability_held (Held.Int n) h = absurd h
  capability_held (Held.Long n) h = absurd h
  capability_held Held.Unset h = absurd h

  pub reference_held : (c : ClassId) (v : Value) → HoldsDeclared around.classes heap v (class_type c) → IsSomeReference heap v
  reference_held c (Held.Obj a) (o, is, fits) = inr (inl (a, o, refl, is))
  reference_held c (Held.Cap k) fits = inr (inr (k, refl))
  reference_held c Held.Null h = inl refl
  reference_held c (Held.Int n) h = absurd h
  reference_held c (Held.Long n) h = absurd h
  reference_held c Held.Unset h = absurd h

  pub int_held : (v : Value) → HoldsDeclared around.classes heap v (number_type Base.Int) → IsInt v
  int_held (Held.Int n) h = (n, refl)
  int_held (Held.Obj a) h = absurd h
  int_held (Held.Cap k) h = absurd h
  int_held Held.Null h = absurd h
  int_held (Held.Long n) h = absurd h
  int_held Held.Unset h = absurd h

  long_held : (v : Value) → HoldsDeclared around.classes heap v (number_type Base.Long) → (n : ℤ) × (v ≡ Held.Long n)
  long_held (Held.Long n) h = (n, refl)
  long_held (Held.Obj a) h = absurd h
  long_held (Held.Cap k) h = absurd h
  long_held Held.Null h = absurd h
  long_held (Held.Int n) h = absurd h
  long_held Held.Unset h = absurd h

  text_worded : (v : Value) → IsTextOrNull heap v → HasWording heap As.Text v
  text_worded Held.Null h = (codes "null", refl)
  text_worded (Held.Obj a) (inl null) = absurd cc
  text_worded (Held.Obj a) (inr (units, is)) = (units, is)
  text_worded (Held.Cap k) (inl null) = absurd cc
  text_worded (Held.Cap k) (inr (units, is)) = absurd is
  text_worded (Held.Int n) (inl null) = absurd cc
  text_worded (Held.Int n) (inr (units, is)) = absurd is
  text_worded (Held.Long n) (inl null) = absurd cc
  text_worded (Held.Long n) (inr (units, is)) = absurd is
  text_worded Held.Unset (inl null) = absurd cc
  text_worded Held.Unset (inr (units, is)) = absurd is

  pub worded : (shown : Shown) (v : Value) → HoldsDeclared around.classes heap v (shown_type shown) → HasWording heap shown v
  worded As.Text v h = text_worded v (text_held v h)
  worded As.Int v h =
      let n = int_held v h in subst (λ (u : Value). HasWording heap As.Int u) (sym n.1) (number_text n.0, refl)
  worded As.Long v h =
      let n = long_held v h in subst (λ (u : Value). HasWording heap As.Long u) (sym n.1) (number_text n.0, refl)
  worded As.Char v h =
      let n = int_held v h in subst (λ (u : Value). HasWording heap As.Char u) (sym n.1) (as_char n.0 ∷ [], refl)
  worded As.Truth v h =
      let n = int_held v h in subst (λ (u : Value). HasWording heap As.Truth u) (sym n.1) (truth_text n.0, refl)

  -- ---- Receivers, by the class at which their methods are looked for.

  text_named : (a : ℕ) (o : Object) → object_named heap a ≡ Some o → STRING ≡ run_class o → IsSomeText heap (Held.Obj a)
  text_named a (Text units) is same = (units, is)
  text_named a (Plain d fields) is same = absurd ((plain_sealed a d fields is).1 (sym same))
  text_named a (Array t items) is same = absurd (other_class STRING OBJECT (λ e. omega (arith, e)) same)
  text_named a (Task n) is same = absurd (other_class STRING TASK (λ e. omega (arith, e)) same)

  text_runs : (v : Value) (class : ClassId) → RunsAs heap v class → class ≡ STRING → IsSomeText heap v
  text_runs (Held.Obj a) class (o, is, same) string = text_named a o is (sym string ∙ same)
  text_runs (Held.Cap k) class same string = absurd (other_class CAPABILITY STRING (λ e. omega (arith, e)) (sym same ∙ string))
  text_runs (Held.Int n) class runs string = absurd runs
  text_runs (Held.Long n) class runs string = absurd runs
  text_runs Held.Null class runs string = absurd runs
  text_runs Held.Unset class runs string = absurd runs

  pub text_receiver : (v : Value) (class : ClassId) → RunsAs heap v class → IsSubclass around.classes class STRING → IsSomeText heap v
  text_receiver v class runs below = text_runs v class runs (closed_alone around.classes sound class STRING string_closed below)

  task_named : (a : ℕ) (o : Object) → object_named heap a ≡ Some o → TASK ≡ run_class o → IsSomeTask heap (Held.Obj a)
  task_named a (Task n) is same = (a, n, refl, is)
  task_named a (Plain d fields) is same = absurd ((plain_sealed a d fields is).2 (sym same))
  task_named a (Array t items) is same = absurd (other_class TASK OBJECT (λ e. omega (arith, e)) same)
  task_named a (Text units) is same = absurd (other_class TASK STRING (λ e. omega (arith, e)) same)

  task_runs : (v : Value) (class : ClassId) → RunsAs heap v class → class ≡ TASK → IsSomeTask heap v
  task_runs (Held.Obj a) class (o, is, same) task = task_named a o is (sym task ∙ same)
  task_runs (Held.Cap k) class same task = absurd (other_class CAPABILITY TASK (λ e. omega (arith, e)) (sym same ∙ task))
  task_runs (Held.Int n) class runs task = absurd runs
  task_runs (Held.Long n) class runs task = absurd runs
  task_runs Held.Null class runs task = absurd runs
  task_runs Held.Unset class runs task = absurd runs

  pub task_receiver : (v : Value) (class : ClassId) → RunsAs heap v class → IsSubclass around.classes class TASK → IsSomeTask heap v
  task_receiver v class runs below = task_runs v class runs (closed_alone around.classes sound class TASK task_closed below)

  no_capability_named : (a : ℕ) (o : Object) → object_named heap a ≡ Some o → CAPABILITY ≡ run_class o → ⊥
  no_capability_named a (Task n) is same = other_class CAPABILITY TASK (λ e. omega (arith, e)) same
  no_capability_named a (Plain d fields) is same = (plain_sealed a d fields is).3 (sym same)
  no_capability_named a (Array t items) is same = other_class CAPABILITY OBJECT (λ e. omega (arith, e)) same
  no_capability_named a (Text units) is same = other_class CAPABILITY STRING (λ e. omega (arith, e)) same

  capability_runs : (v : Value) (class : ClassId) → RunsAs heap v class → class ≡ CAPABILITY → IsSomeCapability v
  capability_runs (Held.Obj a) class (o, is, same) cap = absurd (no_capability_named a o is (sym cap ∙ same))
  capability_runs (Held.Cap k) class same cap = (k, refl)
  capability_runs (Held.Int n) class runs cap = absurd runs
  capability_runs (Held.Long n) class runs cap = absurd runs
  capability_runs Held.Null class runs cap = absurd runs
  capability_runs Held.Unset class runs cap = absurd runs

  pub capability_receiver : (v : Value) (class : ClassId) → RunsAs heap v class → IsSubclass around.classes class CAPABILITY → IsSomeCapability v
  capability_receiver v class runs below =
      capability_runs v class runs (closed_alone around.classes sound class CAPABILITY capability_closed below)

  -- ---- Receivers that hold a text.

  -- a class whose objects are plain ones
  pub record IsPlainClass (c : ClassId) : Type 0 where
    pub no_object : c ≢ OBJECT
    pub no_text : c ≢ STRING
    pub no_task : c ≢ TASK
    pub no_capability : c ≢ CAPABILITY

  pub record IsPlainValue (v : Value) (c : ClassId) : Type 0 where
    pub name : ℕ
    pub names : v ≡ Held.Obj name
    pub fields : List Value
    pub object : object_named heap name ≡ Some (Plain c fields)

  plain_named : (a : ℕ) (o : Object) (c : ClassId) → object_named heap a ≡ Some o → c ≡ run_class o → IsPlainClass c → IsPlainValue (Held.Obj a) c
  plain_named a (Plain d fields) c is same plain = record {
    name = a;
    names = refl;
    fields = fields;
    object = is ∙ ap (λ (e : ClassId). Some (Plain e fields)) (sym same);
  }
  plain_named a (Array t items) c is same plain = absurd (plain.no_object same)
  plain_named a (Text units) c is same plain = absurd (plain.no_text same)
  plain_named a (Task n) c is same plain = absurd (plain.no_task same)

  pub plain_receiver : (v : Value) (c : ClassId) → RunsAs heap v c → IsPlainClass c → IsPlainValue v c
  plain_receiver (Held.Obj a) c (o, is, same) plain = plain_named a o c is same plain
  plain_receiver (Held.Cap k) c same plain = absurd (plain.no_capability same)
  plain_receiver (Held.Int n) c runs plain = absurd runs
  plain_receiver (Held.Long n) c runs plain = absurd runs
  plain_receiver Held.Null c runs plain = absurd runs
  plain_receiver Held.Unset c runs plain = absurd runs

  hides : (v : Value) → IsTextOrNull heap v → (units : List ℕ) × HidesUnits heap v units
  hides Held.Null h = ([], refl)
  hides (Held.Obj a) (inl null) = absurd cc
  hides (Held.Obj a) (inr (units, is)) = (units, is)
  hides (Held.Cap k) (inl null) = absurd cc
  hides (Held.Cap k) (inr (units, is)) = absurd is
  hides (Held.Int n) (inl null) = absurd cc
  hides (Held.Int n) (inr (units, is)) = absurd is
  hides (Held.Long n) (inl null) = absurd cc
  hides (Held.Long n) (inr (units, is)) = absurd is
  hides Held.Unset (inl null) = absurd cc
  hides Held.Unset (inr (units, is)) = absurd is

  holds_fields : (v : Value) (a : ℕ) (c : ClassId) (fields : List Value) → v ≡ Held.Obj a → object_named heap a ≡ Some (Plain c fields)
      → BeginsWithText around.classes c → HasFields around heap c fields → HoldsText heap v
  holds_fields v a c [] names is begins fields =
      let many : 0 ≡ length (begins.field ∷ begins.others) = fields.as_many ∙ ap (λ (fs : List FieldRecord). length fs) begins.records in
      absurd (omega (arith, many))
  holds_fields v a c (t ∷ others) names is begins fields =
      let at : slice_get (field_records around.classes c) 0 ≡ Some begins.field = ap (λ (fs : List FieldRecord). slice_get fs 0) begins.records in
      let fits = fields.each 0 t begins.field refl at in
      let hidden = hides t (text_held t (subst (λ (k : TypeRef). HoldsDeclared around.classes heap t k) begins.kind fits.0)) in (
        record { name = a; names = names; class = c; text = t; others = others; object = is },
        hidden.0,
        hidden.1,
      )

  pub holds_text : (v : Value) (c : ClassId) → IsPlainValue v c → BeginsWithText around.classes c → HoldsText heap v
  holds_text v c p begins = holds_fields v p.name c p.fields p.names p.object begins (plain_sealed p.name c p.fields p.object).5
