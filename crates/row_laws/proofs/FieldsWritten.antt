-- Putstatic and putfield keep what is kept: the value that is put is of the field's type.
use Rattle.std.proofs.Common.{inl, inr, ◌≡◌, ℕ, set, List, [], ◌∷◌, Some, slice_get, refl, sym, subst, ◌∙◌, arith}
use Rattle.std.proofs.lemmas.List.{length-set}
use Rattle.std.proofs.lemmas.Option.{same_Some}
use Rattle.list_lemmas.proofs.ItemsByPlace.{slice_get-set_cases}
use Rattle.jk_model.specs.declared.identifiers.MemberId.{MemberId}
use Rattle.jk_model.specs.declared.values.Value.{Value}
use Rattle.jk_model_classes.specs.declared.records.ClassRecord.{ClassRecord}
use Rattle.jk_model_classes.specs.declared.records.FieldRecord.{FieldRecord}
use Rattle.jk_model_classes.specs.declared.records.TypeRef.{TypeRef}
use Rattle.jk_model_classes.specs.Lookups.{FieldIs}
use Rattle.jk_model_typing.specs.declared.frames.Demand.TheVariants.{Fitting, PutReceiver}
use Rattle.jk_model_typing.specs.FrameTypes.{value_of}
use Rattle.jk_model_domains.specs.Objects.{NamedObject, Plain}
use Rattle.jk_model_heaps.specs.Heaps.{IsAlike, IsGrown, field_records, with_object}
use Rattle.jk_model_heaps.specs.RunningCode.{RunsCode}
use Rattle.jk_model_heaps.specs.StoredValues.{stored}
use Rattle.jk_model_heaps.specs.Workings.{GoesOnWith, Inside, Outcome, Setting, Working, with_heap, with_own}
use Rattle.jk_model_domains.specs.OwnStates.{with_static}
use Rattle.jk_model_heap_rows.specs.FieldRows.{HasField, PutsField, PutsStatic, with_field_value}
use Rattle.jk_model_sealing.specs.SealedInsides.{HasFields, IsSealedInside, Surroundings}
use Rattle.heap_laws.proofs.GrownHeaps.{writing_grows}
use Rattle.heap_laws.proofs.StillFits.{declared_held, value_known}
use Rattle.heap_laws.specs.FittingOutcomes.{IsOfType}
use Rattle.heap_laws.specs.KeptInsides.{KeepsInside}
use Rattle.heap_laws.specs.RunningFrames.{RunsWell}
use Rattle.row_laws.proofs.NamesStayKnown.{taken-known}
use Rattle.row_laws.proofs.FieldsByPlace.{StandInOneOrder, fields_there, object_there, record_there}
use Rattle.row_laws.proofs.FieldsRead.{field_here, one_named}
use Rattle.row_laws.proofs.HeapFramesLeft.{Keeps, fresh_raised, in_line, met, met_declared, shape_at, took}
use Rattle.row_laws.proofs.InsidesWritten.{states_stay, static_put_keeps, stored_fits, written_keeps}

-- ---- An object with another value in a field.

module _ (order : StandInOneOrder) (around : Surroundings) (x : Setting) (inside : Inside) (sealed : IsSealedInside around x.quota inside) (m : MemberId)
    (field : FieldRecord) (is : FieldIs around.classes m field) (v : Value) (f : HasField around.classes inside.heap v m) (u : Value)
    (fits : IsOfType around inside.heap field.kind u) where
  abbrev values : List Value
  values = set f.fields f.place u

  abbrev heap_then : List NamedObject
  heap_then = with_object f.name (Plain f.class values) inside.heap

  alike : IsAlike (Plain f.class f.fields) (Plain f.class values)
  alike = (refl, sym (length-set f.fields f.place u))

  grows : IsGrown inside.heap heap_then
  grows = writing_grows inside.heap f.name (Plain f.class f.fields) (Plain f.class values) f.object alike

  still : (t : TypeRef) (y : Value) → IsOfType around inside.heap t y → IsOfType around heap_then t y
  still t y h = (declared_held inside.heap heap_then grows around.classes y t h.0, value_known inside.heap heap_then grows around.caps y h.1)

  each_fits : (i : ℕ) (y : Value) (other : FieldRecord) → slice_get values i ≡ Some y → slice_get (field_records around.classes f.class) i ≡ Some other
      → IsOfType around heap_then other.kind y
  each_fits i y other at of = elim (slice_get-set_cases f.fields f.place i u y at) [
    | inl here ↦
        let there : slice_get (field_records around.classes f.class) i ≡ Some field =
        subst (λ (k : ℕ). slice_get (field_records around.classes f.class) k ≡ Some field) here.0
        (record_there order around x.quota inside sealed m field is v f) in
        let same : field ≡ other = same_Some field other (sym there ∙ of) in
        subst (λ (r : FieldRecord). IsOfType around heap_then r.kind y) same
        (subst (λ (z : Value). IsOfType around heap_then field.kind z) here.1 (still field.kind u fits))
    | inr was ↦ still other.kind y ((fields_there order around x.quota inside sealed m field is v f).each i y other was of)
  ]

  fields_then : HasFields around heap_then f.class values
  fields_then = record {
    as_many = length-set f.fields f.place u ∙ (fields_there order around x.quota inside sealed m field is v f).as_many;
    each = each_fits;
  }

  pub field_put_keeps : KeepsInside around x inside (with_heap inside heap_then)
  field_put_keeps =
      let was = object_there order around x.quota inside sealed m field is v f in
      written_keeps around x inside f.name (Plain f.class f.fields) (Plain f.class values) sealed f.object alike
      (was.0, was.1, was.2, was.3, was.4, fields_then) (λ n e. absurd cc)

-- ---- The rows.

module _ (around : Surroundings) (x : Setting) (w new : Working) (outcome : Outcome) (runs : RunsWell around x w)
    (code : RunsCode around.classes w.frame) where
  pub put_static_keeps : PutsStatic x code.scope code.instr w new outcome → Keeps around x w runs code new outcome
  put_static_keeps h =
      let is = shape_at around x w runs code 0xb3 h.op in
      let same : is.2 ≡ h.field = one_named around x w new outcome runs code is.1 h.member is.2 h.field (is.0, is.3.0, is.3.1) h.names in
      let meet = met around x w runs code (Fitting (value_of code.scope.classes is.2.kind) ∷ []) [] is.4 (h.value ∷ [])
      (h.does.replaced.below, h.does.replaced.before) refl in
      let known = taken-known around.caps w.inside.heap w.frame new.frame (h.value ∷ []) [] runs.known h.does.replaced in
      let held : IsOfType around w.inside.heap is.2.kind h.value =
      (met_declared around x w runs code h.value is.2.kind meet.0, known.0) in
      let here = subst (λ (f : FieldRecord). IsOfType around w.inside.heap f.kind h.value) same held in
      let kept = static_put_keeps around x w.inside runs.inside h.member (stored h.field.kind h.value) h.field
      (field_here around x w new outcome runs code h.member h.field h.names.2) (stored_fits around w.inside.heap h.field.kind h.value here) in
      took around x w runs code (Fitting (value_of code.scope.classes is.2.kind) ∷ []) [] is.4 (h.value ∷ []) []
      (with_own w.inside (with_static w.inside.own h.member (stored h.field.kind h.value))) new outcome h.does
      (in_line code.instr 0xb3 h.op refl) refl kept
      (states_stay around x w.inside runs.inside h.member (stored h.field.kind h.value)) tt tt

  abbrev Put : MemberId → FieldRecord → Value → Value → List ClassRecord → Type 0
  Put m field v u classes =
      (f : HasField classes w.inside.heap v m)
      → GoesOnWith w (v ∷ u ∷ []) [] (with_heap w.inside (with_field_value f (stored field.kind u))) new outcome
      → Keeps around x w runs code new outcome

  put : StandInOneOrder → (h : PutsField x code.scope code.instr w new outcome) → Put h.member h.field h.receiver h.value around.classes
  put order h f goes =
      let is = shape_at around x w runs code 0xb5 h.op in
      let same : is.2 ≡ h.field = one_named around x w new outcome runs code is.1 h.member is.2 h.field (is.0, is.3.0, is.3.1) h.names in
      let meet = met around x w runs code (PutReceiver is.0 is.1 ∷ Fitting (value_of code.scope.classes is.2.kind) ∷ []) [] is.4
      (h.receiver ∷ h.value ∷ []) h.on_top refl in
      let known = taken-known around.caps w.inside.heap w.frame new.frame (h.receiver ∷ h.value ∷ []) [] runs.known goes.replaced in
      let held : IsOfType around w.inside.heap is.2.kind h.value =
      (met_declared around x w runs code h.value is.2.kind meet.1.0, known.1.0) in
      let here = subst (λ (r : FieldRecord). IsOfType around w.inside.heap r.kind h.value) same held in
      let kept = field_put_keeps order around x w.inside runs.inside h.member h.field
      (field_here around x w new outcome runs code h.member h.field h.names.2) h.receiver f (stored h.field.kind h.value)
      (stored_fits around w.inside.heap h.field.kind h.value here) in
      took around x w runs code (PutReceiver is.0 is.1 ∷ Fitting (value_of code.scope.classes is.2.kind) ∷ []) [] is.4
      (h.receiver ∷ h.value ∷ []) [] (with_heap w.inside (with_field_value f (stored h.field.kind h.value))) new outcome goes
      (in_line code.instr 0xb5 h.op refl) refl kept (λ c. refl) tt tt

  pub put_field_keeps : StandInOneOrder → PutsField x code.scope code.instr w new outcome → Keeps around x w runs code new outcome
  put_field_keeps order h = elim h.does [
    | inl (null, raises) ↦ fresh_raised around x w runs code 26 9 new outcome (omega arith) refl raises
    | inr (f, goes) ↦ subst (Put h.member h.field h.receiver h.value) (sym runs.setting.classes) (put order h) f goes
  ]
