-- What is kept where an object that begins with a text gets another one.
use Rattle.std.proofs.Common.{◌≡◌, ℕ, zero, suc, List, [], ◌∷◌, Option, Some, None, slice_get, refl, sym, ap, subst, ◌∙◌}
use Rattle.std.proofs.lemmas.Option.{same_Some}
use Rattle.jk_model.specs.declared.identifiers.ClassId.{ClassId}
use Rattle.jk_model.specs.declared.values.Value.{Value}
use Rattle.jk_model.specs.declared.values.Value.TheVariants as Held
use Rattle.jk_model_classes.specs.declared.records.FieldRecord.{FieldRecord}
use Rattle.jk_model_classes.specs.declared.records.TypeRef.{TypeRef}
use Rattle.jk_model_typing.specs.FrameTypes.{STRING}
use Rattle.jk_model_domains.specs.Objects.{NamedObject, Plain, Text, class_type, object_named}
use Rattle.jk_model_domains.specs.ValueTypes.{HoldsDeclared}
use Rattle.jk_model_heaps.specs.Heaps.{IsGrown, MakesOne, field_records, named, with_object}
use Rattle.jk_model_heaps.specs.Workings.{Inside, Setting, with_heap}
use Rattle.jk_model_heaps.proofs.ArraysInHeaps.{same_name}
use Rattle.jk_model_sealing.specs.SealedInsides.{HasFields, IsKnownValue, IsSealedInside, IsSealedObject, Surroundings}
use Rattle.jk_model_system_rows.specs.Answers.{Answer, Answered, gives_nothing, with_answer}
use Rattle.jk_model_system_rows.specs.HiddenTexts.{SetsNewText, SetsText, TextHolder, with_text}
use Rattle.heap_laws.proofs.ObjectsAfterChanges.{old_there}
use Rattle.heap_laws.proofs.StillFits.{declared_held, value_known}
use Rattle.heap_laws.specs.FittingOutcomes.{IsOfType}
use Rattle.heap_laws.specs.KeptInsides.{KeepsInside}
use Rattle.heap_laws.specs.RunningFrames.{IsKnownSetting}
use Rattle.heap_laws.specs.SoundCodes.{AreSoundCodes}
use Rattle.row_laws.proofs.SystemAnswersKept.{AnswerFits, KeepsAnswer, kept_by, made_and, string_named, text_no_task, text_of_type}
use Rattle.row_laws.proofs.FirstFields.{BeginsWithText}
use Rattle.row_laws.proofs.GivenFromTypes.{IsHolder}
use Rattle.row_laws.proofs.InsidesKept.{kept_after, one_kept, one_there, writing_grown, writing_kept}
use Rattle.row_laws.proofs.ValuesOfHeaps.{plain_sealed}

-- ---- Another text in the place of the first.

module _ (around : Surroundings) (x : Setting) (sound : AreSoundCodes around.classes) (inside : Inside) (sealed : IsSealedInside around x.quota inside)
    (a : ℕ) (c : ClassId) (text : Value) (others : List Value) (there : object_named inside.heap a ≡ Some (Plain c (text ∷ others)))
    (begins : BeginsWithText around.classes c) where
  abbrev fields : HasFields around inside.heap c (text ∷ others)
  fields = (plain_sealed around sound x.quota inside sealed a c (text ∷ others) there).5

  first_at : slice_get (field_records around.classes c) 0 ≡ Some begins.field
  first_at = ap (λ (fs : List FieldRecord). slice_get fs 0) begins.records

  pub text_type : IsOfType around inside.heap (class_type STRING) text
  text_type =
      let fits = fields.each 0 text begins.field refl first_at in
      (subst (λ (t : TypeRef). HoldsDeclared around.classes inside.heap text t) begins.kind fits.0, fits.1)

  module _ (t : Value) (fits : IsOfType around inside.heap (class_type STRING) t) where
    abbrev new_heap : List NamedObject
    new_heap = with_object a (Plain c (t ∷ others)) inside.heap

    grows : IsGrown inside.heap new_heap
    grows = writing_grown around x inside sealed a (Plain c (text ∷ others)) (Plain c (t ∷ others)) there (refl, refl)

    each_fits : (i : ℕ) (v : Value) (field : FieldRecord) → slice_get (t ∷ others) i ≡ Some v
        → slice_get (field_records around.classes c) i ≡ Some field
        → HoldsDeclared around.classes new_heap v field.kind × IsKnownValue around.caps new_heap v
    each_fits zero v field at of =
        let value : t ≡ v = same_Some t v at in
        let same : begins.field ≡ field = same_Some begins.field field (sym first_at ∙ of) in
        let held : HoldsDeclared around.classes new_heap t begins.field.kind =
        subst (λ (k : TypeRef). HoldsDeclared around.classes new_heap t k) (sym begins.kind)
        (declared_held inside.heap new_heap grows around.classes t (class_type STRING) fits.0) in (
          subst (λ (u : Value). HoldsDeclared around.classes new_heap u field.kind) value
              (subst (λ (f : FieldRecord). HoldsDeclared around.classes new_heap t f.kind) same held),
          subst (λ (u : Value). IsKnownValue around.caps new_heap u) value (value_known inside.heap new_heap grows around.caps t fits.1),
        )
    each_fits (suc i) v field at of =
        let old = fields.each (suc i) v field at of in (
          declared_held inside.heap new_heap grows around.classes v field.kind old.0,
          value_known inside.heap new_heap grows around.caps v old.1,
        )

    object_sealed : IsSealedObject around new_heap (Plain c (t ∷ others))
    object_sealed =
        let s = plain_sealed around sound x.quota inside sealed a c (text ∷ others) there in
        (s.0, s.1, s.2, s.3, s.4, record { as_many = fields.as_many; each = each_fits })

    pub text_kept : KeepsInside around x inside (with_heap inside (with_object a (Plain c (t ∷ others)) inside.heap))
    text_kept =
        writing_kept around x inside sealed a (Plain c (text ∷ others)) (Plain c (t ∷ others)) there (refl, refl) object_sealed
        (λ n e. absurd cc)

-- ---- Rows that set a text.

same_class_there : (c d : ClassId) (vs ws : List Value) → Plain c vs ≡ Plain d ws → c ≡ d
same_class_there c d vs ws e = cc

module _ (around : Surroundings) (x : Setting) (known : IsKnownSetting around x) (old : Inside) (sealed : IsSealedInside around x.quota old) where
  abbrev Holder : Value → Type 0
  Holder v = IsHolder around known.codes x.quota old sealed v

  pub begins_here : (v : Value) (h : TextHolder old.heap v) → Holder v → BeginsWithText around.classes h.class
  begins_here v h k =
      let name : h.name ≡ k.plain.name = same_name h.name k.plain.name (sym h.names ∙ k.plain.names) in
      let object : Plain h.class (h.text ∷ h.others) ≡ Plain k.class k.plain.fields =
      same_Some (Plain h.class (h.text ∷ h.others)) (Plain k.class k.plain.fields)
      (sym h.object ∙ ap (object_named old.heap) name ∙ k.plain.object) in
      let class : h.class ≡ k.class = same_class_there h.class k.class (h.text ∷ h.others) k.plain.fields object in
      subst (BeginsWithText around.classes) (sym class) k.begins

  pub hidden_type : (v : Value) (h : TextHolder old.heap v) → Holder v → IsOfType around old.heap (class_type STRING) h.text
  hidden_type v h k = text_type around x known.codes old sealed h.name h.class h.text h.others h.object (begins_here v h k)

  pub set_kept : (v : Value) (h : TextHolder old.heap v) → Holder v → (t : Value) → IsOfType around old.heap (class_type STRING) t → (done : Answered)
      → SetsText old h t done → KeepsAnswer around x old None done
  set_kept v h k t fits done is =
      kept_by around x known old sealed None done (with_heap old (with_text h t old.heap)) gives_nothing is
      (text_kept around x known.codes old sealed h.name h.class h.text h.others h.object (begins_here v h k) t fits) refl tt

  module _ (v : Value) (h : TextHolder old.heap v) (k : Holder v) (units : List ℕ) (a : ℕ) (heap : List NamedObject)
      (makes : MakesOne around.classes x.quota old.heap a (Text units) heap) where
    abbrev made : Inside
    made = with_heap old heap

    made_kept : KeepsInside around x old made
    made_kept = one_kept around x old sealed a (Text units) heap makes (string_named around x known) (text_no_task around x units)

    pub new_text_set : KeepsInside around x old (with_heap old (with_text h (Held.Obj a) heap))
    new_text_set =
        kept_after around x old made (with_heap old (with_text h (Held.Obj a) heap)) made_kept
        (text_kept around x known.codes made made_kept.sealed h.name h.class h.text h.others
        (old_there around.classes x.quota old.heap (named a (Text units) ∷ []) heap makes h.name (Plain h.class (h.text ∷ h.others)) h.object)
        (begins_here v h k) (Held.Obj a)
        (text_of_type around known.codes heap a units (one_there around x old sealed a (Text units) heap makes)))

  pub set_new_kept : (v : Value) (h : TextHolder old.heap v) → Holder v → (units : List ℕ) (result : Option TypeRef) (answer : Answer)
      → ((heap : List NamedObject) → IsGrown old.heap heap → AnswerFits around heap result answer) → (done : Answered)
      → SetsNewText x old h units answer done → KeepsAnswer around x old result done
  set_new_kept v h k units result answer fits done row =
      made_and around x known old sealed result done (Text units)
      (λ a heap. with_answer (with_heap old (with_text h (Held.Obj a) heap)) answer)
      (λ a heap makes.
      let kept = new_text_set v h k units a heap makes in
      record { inside = kept; own = refl; answer = fits (with_text h (Held.Obj a) heap) kept.grown }) row
