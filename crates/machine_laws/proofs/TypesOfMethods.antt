-- What C8 asks of the types of a folder's methods: few parameters, and none, nor a result, where the method is a class initialiser.
use Rattle.std.proofs.Common.{◌≡◌, ℕ, ◌+◌, ◌≤◌, ◌⊎◌, inl, inr, List, [], ◌∷◌, length, Option, Some, None, refl, sym, ap, subst, ◌∙◌, arith, true≢false, codes, bytes_eq, sum_by}
use Rattle.std.proofs.lemmas.Bool.{cond_both, cases_Bool, cases_lt}
use Rattle.std.proofs.lemmas.List.Sums.{sum_by-cons}
use Rattle.std.proofs.lemmas.Slice.Eq.{bytes_eq-Decides}
use Rattle.std.specs.Prelude.{◌==◌}
use Rattle.jk_model.specs.Descriptors.{IsMethodText, field_slots, base_slots}
use Rattle.jk_model.specs.declared.descriptors.Base.{Base}
use Rattle.jk_model.specs.declared.descriptors.FieldType.{FieldType}
use Rattle.jk_model.specs.declared.descriptors.MethodType.{MethodType}
use Rattle.jk_model.specs.declared.identifiers.ClassId.{ClassId}
use Rattle.jk_model.specs.declared.identifiers.MemberId.{MemberId}
use Rattle.descriptors.proofs.NoTextBeginsAnother.{one_method}
use Rattle.jk_model_classes.specs.ClassNames.{HasText}
use Rattle.jk_model_classes.specs.Items.{Member}
use Rattle.jk_model_classes.specs.MemberDescriptors.{HasMethodType}
use Rattle.jk_model_classes.specs.Members.{CLINIT, INIT, TextAt}
use Rattle.jk_model_classes.specs.SystemRecords.{IsResultFor}
use Rattle.jk_model_classes.specs.Worlds.{NamedClass, WorldRecord}
use Rattle.jk_model_classes.specs.declared.records.MethodRecord.{MethodRecord}
use Rattle.jk_model_classes.specs.declared.records.TypeRef.{TypeRef}
use Rattle.jk_model_classes.specs.declared.sharing.Offer.{Offer}
use Rattle.jk_model_classes.specs.declared.sharing.Stub.{Stub}
use Rattle.class_lemmas.proofs.OneText.{one_text}
use Rattle.jk_model_folders.specs.Loads.{Loads}
use Rattle.jk_model_folders.specs.declared.files.FolderFiles.{FolderFiles}
use Rattle.sound_folders.proofs.NewClasses.{meaning}
use Rattle.machine_laws.proofs.FlagsOfMembers.{is_clinit}
use Rattle.machine_laws.proofs.NewMembers.{IsNewMethod, good_descriptors}
use Rattle.jk_model.specs.declared.descriptors.Base.TheVariants as Said

-- ---- Slots.

some_base : (b : Base) → 1 ≤ base_slots b
some_base Said.Long = omega arith
some_base Said.Double = omega arith
some_base _ = omega arith

some_slots : (t : FieldType) → 1 ≤ field_slots t
some_slots t = cond_both (t.dims == 0) (base_slots t.base) 1 (λ (n : ℕ). 1 ≤ n) (λ e. some_base t.base) (λ e. omega arith)

slots_long : (types : List FieldType) → length types ≤ sum_by field_slots types
slots_long [] = omega arith
slots_long (t ∷ types) = omega (arith, sum_by-cons field_slots t types, some_slots t, slots_long types)

-- ---- What may be asked.

none_or_not : (o : Option FieldType) → (o ≡ None) ⊎ (o ≡ None → ⊥)
none_or_not None = inl refl
none_or_not (Some t) = inr (λ e. cc)

pub text_or_not : (a b : List ℕ) → (a ≡ b) ⊎ (a ≡ b → ⊥)
text_or_not a b = elim (cases_Bool (bytes_eq a b)) [
  | inl e ↦ inl ((bytes_eq-Decides a b).0 e)
  | inr e ↦ inr (λ same. true≢false (sym ((bytes_eq-Decides a b).1 same) ∙ e))
]

le_or_not : (a b : ℕ) → (a ≤ b) ⊎ (a ≤ b → ⊥)
le_or_not a b = elim (cases_lt b a) [
  | inl less ↦ inr (λ most. omega (arith, less, most))
  | inr most ↦ inl most
]

result_none : (meaning : List ℕ → Option ClassId) (o : Option FieldType) (r : Option TypeRef) → o ≡ None → IsResultFor meaning o r → r ≡ None
result_none meaning None r e h = h
result_none meaning (Some t) r e h = absurd cc

no_types : (refs : List TypeRef) → length refs ≡ 0 → refs ≡ []
no_types [] e = refl
no_types (t ∷ refs) e = absurd (omega (arith, e))

void_text : IsMethodText (codes "()V") (record { params = []; result = None })
void_text = ((tt, tt), refl)

-- ---- Methods.

module _ {f : FolderFiles} {w : WorldRecord} {into : List ℕ} {first : ClassId} {table : List NamedClass} {offers : List Offer} {stubs : List Stub}
    {new : WorldRecord} (l : Loads f w into first table offers stubs new) (m : MemberId) (method : MethodRecord)
    (n : IsNewMethod l m method) where
  by_type : (P : Type 0) → P ⊎ (P → ⊥) → ((t : MethodType) → HasMethodType n.of.own.file n.info t → P) → P
  by_type P (inl holds) so = holds
  by_type P (inr fails) so =
      absurd (good_descriptors l n.of.own.place n.of.own.file n.of.own.listed (Member (length n.of.own.file.fields + m.index + 1))
      (inr (n.info, (m.index, refl, n.listed), λ t h. fails (so t h))))

  same_kind : (t : MethodType) → HasText (λ units. IsMethodText units t) n.of.own.file.pool n.info.descriptor → t ≡ method.kind
  same_kind t (units, at, is) =
      let same : units ≡ n.is.kind.0 = one_text n.of.own.file.pool n.info.descriptor units n.is.kind.0 at n.is.kind.1 in
      one_method n.is.kind.0 t method.kind (subst (λ (x : List ℕ). IsMethodText x t) same is) n.is.kind.2

  pub few_params : length method.params ≤ 255
  few_params = by_type (length method.params ≤ 255) (le_or_not (length method.params) 255) few
    where
      few : (t : MethodType) → HasMethodType n.of.own.file n.info t → length method.params ≤ 255
      few t h =
          let same : length t.params ≡ length method.kind.params = ap (λ (x : MethodType). length x.params) (same_kind t h.text) in
          omega (arith, same, n.is.params.as_many, slots_long t.params, h.few)

  pub constructor_result : method.name ≡ INIT → method.result ≡ None
  constructor_result named =
      result_none (meaning l) method.kind.result method.result
      (by_type (method.kind.result ≡ None) (none_or_not method.kind.result)
      (λ t h. ap (λ (x : MethodType). x.result) (sym (same_kind t h.text))
      ∙ h.init (subst (λ (x : List ℕ). TextAt n.of.own.file.pool n.info.name x) named n.is.name)))
      n.is.result

  void_kind : method.name ≡ CLINIT → method.kind ≡ record { params = []; result = None }
  void_kind named =
      let says : n.is.kind.0 ≡ codes "()V" =
      by_type (n.is.kind.0 ≡ codes "()V") (text_or_not n.is.kind.0 (codes "()V"))
      (λ t h. one_text n.of.own.file.pool n.info.descriptor n.is.kind.0 (codes "()V") n.is.kind.1 (h.clinit (is_clinit l m method n named))) in
      one_method (codes "()V") method.kind (record { params = []; result = None })
      (subst (λ (x : List ℕ). IsMethodText x method.kind) says n.is.kind.2) void_text

  pub clinit_types : method.name ≡ CLINIT → (method.params ≡ []) × (method.result ≡ None)
  clinit_types named =
      let kind = void_kind named in (
        no_types method.params (omega (arith, n.is.params.as_many, ap (λ (x : MethodType). length x.params) kind)),
        result_none (meaning l) method.kind.result method.result (ap (λ (x : MethodType). x.result) kind) n.is.result,
      )
