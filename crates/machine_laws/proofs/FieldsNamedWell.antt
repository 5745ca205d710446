-- What C20 and C21 ask of the fields that a new method's instructions name.
use Rattle.std.proofs.Common.{◌≡◌, ℕ, pos, ◌+◌, inl, inr, IsTrue, List, length, Some, slice_get, Contains, refl, sym, ap, subst, ◌∙◌}
use Rattle.std.proofs.lemmas.Bool.{cases_Bool, cases_eq}
use Rattle.std.specs.Prelude.{IsFalse, ◌||◌, not}
use Rattle.model_lemmas.proofs.SameNumbers.{same_class}
use Rattle.jk_model.specs.Flags.{has, FINAL, STATIC}
use Rattle.jk_model.specs.declared.identifiers.ClassId.{ClassId}
use Rattle.jk_model.specs.declared.identifiers.MemberId.{MemberId}
use Rattle.jk_model.specs.declared.instructions.Instr.{Instr}
use Rattle.jk_model_classes.specs.LinkRules.{UsesField, is_instance_access, is_put, is_static_access}
use Rattle.jk_model_classes.specs.Lookups.{FieldIs}
use Rattle.jk_model_classes.specs.MemberCode.{is_jump, is_switch}
use Rattle.jk_model_classes.specs.Worlds.{NamedClass, WorldRecord}
use Rattle.jk_model_classes.specs.declared.records.FieldRecord.{FieldRecord}
use Rattle.jk_model_classes.specs.declared.records.LinkedCode.{LinkedCode}
use Rattle.jk_model_classes.specs.declared.records.MethodRecord.{MethodRecord}
use Rattle.jk_model_classes.specs.declared.sharing.Offer.{Offer}
use Rattle.jk_model_classes.specs.declared.sharing.Stub.{Stub}
use Rattle.jk_model_folders.specs.Loads.{Loads}
use Rattle.jk_model_folders.specs.declared.files.FolderFiles.{FolderFiles}
use Rattle.class_growth.proofs.LinksDontMatter.{field-linked}
use Rattle.heap_laws.specs.NamedWell.{uses_static_field, uses_object_field, puts_field}
use Rattle.sound_folders.proofs.FoundByLinks.{field-found, only_links}
use Rattle.sound_folders.proofs.NewClasses.{all}
use Rattle.machine_laws.proofs.InstructionsOfFiles.{links_well, accesses_well, own_class, own_scope}
use Rattle.machine_laws.proofs.NewMembers.{IsNewMethod}
use Rattle.machine_laws.proofs.OpcodesByTest.{static_field_by, object_field_by, put_by}
use Rattle.jk_model_classes.specs.declared.records.Body.TheVariants as Does
use Rattle.jk_model_classes.specs.declared.records.Link.TheVariants as To

abbrev IsSimple : ℕ → Type 0
IsSimple op = IsTrue (not (is_jump op || is_switch op))

module _ {f : FolderFiles} {w : WorldRecord} {into : List ℕ} {first : ClassId} {table : List NamedClass} {offers : List Offer} {stubs : List Stub}
    {new : WorldRecord} (l : Loads f w into first table offers stubs new) (m : MemberId) (method : MethodRecord)
    (n : IsNewMethod l m method) (code : LinkedCode) (body : method.body ≡ Does.Linked code) (i : Instr) (on : Contains code.instrs i) (index : ℕ)
    (operand : i.a ≡ pos index) (class : ClassId) (target : MemberId) (leads : slice_get n.class.links index ≡ Some (To.Field class target))
    (field : FieldRecord) (is : FieldIs (all l) target field) where
  uses : (x : Instr) → x.a ≡ i.a → UsesField (own_scope l m method n) n.of.own.file x target field
  uses x same_a =
      let found = field-found (own_scope l m method n) n.of.own.file n.class.links n.of.own.links index class target leads in
      let unlinked = field-linked (all l) l.placed.unlinked (sym (only_links l)) target field is in
      (index, same_a ∙ operand, found.0, unlinked)

  pub static_named : IsTrue (uses_static_field i.op) → IsTrue (has field.flags STATIC)
  static_named test = elim (cases_Bool (has field.flags STATIC)) [
    | inl static ↦ static
    | inr other ↦
        let never : IsTrue (not (has field.flags STATIC)) = rw other refl in
        let simple : IsSimple i.op = static_field_by IsSimple i.op refl refl test in
        absurd (links_well l m method n code body i on simple
        (λ x same_op same_a. inl (
          target,
          field,
          uses x same_a,
          inl (subst (λ (o : ℕ). IsTrue (is_static_access o)) (sym same_op) test, never),
        )))
  ]

  pub object_named : IsTrue (uses_object_field i.op) → IsFalse (has field.flags STATIC)
  object_named test = elim (cases_Bool (has field.flags STATIC)) [
    | inr other ↦ other
    | inl static ↦
        let simple : IsSimple i.op = object_field_by IsSimple i.op refl refl test in
        absurd (links_well l m method n code body i on simple
        (λ x same_op same_a. inl (
          target,
          field,
          uses x same_a,
          inr (subst (λ (o : ℕ). IsTrue (is_instance_access o)) (sym same_op) test, static),
        )))
  ]

  pub own_final_named : IsTrue (puts_field i.op) → IsTrue (has field.flags FINAL) → target.class ≡ own_class l m method n
  own_final_named test final = elim (cases_eq target.class.0 (length w.classes + n.of.k)) [
    | inl same ↦ same_class target.class (own_class l m method n) same
    | inr differ ↦
        let simple : IsSimple i.op = put_by IsSimple i.op refl refl test in
        absurd (accesses_well l m method n code body i on simple
        (λ x same_op same_a. inl (
          target,
          field,
          uses x same_a,
          subst (λ (o : ℕ). IsTrue (is_put o)) (sym same_op) test,
          final,
          λ e. differ (ap (λ (c : ClassId). c.0) e),
        )))
  ]
