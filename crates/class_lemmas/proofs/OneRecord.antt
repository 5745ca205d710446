-- A member has one record at most, and a method of a class file has its flags in one way.
use Rattle.std.proofs.Common.{◌≡◌, ℕ, List, inl, inr, sym, ◌∙◌, ap}
use Rattle.std.specs.Prelude.{slice_get}
use Rattle.std.proofs.lemmas.Option.{same_Some}
use Rattle.jk_model.specs.declared.class_file.ClassFile.{ClassFile}
use Rattle.jk_model.specs.declared.class_file.MemberInfo.{MemberInfo}
use Rattle.jk_model.specs.declared.identifiers.MemberId.{MemberId}
use Rattle.jk_model_classes.specs.declared.records.ClassRecord.{ClassRecord}
use Rattle.jk_model_classes.specs.declared.records.FieldRecord.{FieldRecord}
use Rattle.jk_model_classes.specs.declared.records.MethodRecord.{MethodRecord}
use Rattle.jk_model_classes.specs.ClassFlags.{MethodFlags}
use Rattle.jk_model_classes.specs.Lookups.{FieldIs, MethodIs}

module _ (classes : List ClassRecord) where
  pub one_field : (m : MemberId) (f g : FieldRecord) → FieldIs classes m f → FieldIs classes m g → f ≡ g
  one_field m f g (r, at, there) (s, also, too) =
      let same : r ≡ s = same_Some r s (sym at ∙ also) in
      same_Some f g (sym there ∙ ap (λ (x : ClassRecord). slice_get x.fields m.index) same ∙ too)

  pub one_method : (m : MemberId) (a b : MethodRecord) → MethodIs classes m a → MethodIs classes m b → a ≡ b
  one_method m a b (r, at, there) (s, also, too) =
      let same : r ≡ s = same_Some r s (sym at ∙ also) in
      same_Some a b (sym there ∙ ap (λ (x : ClassRecord). slice_get x.methods m.index) same ∙ too)

pub one_flags : (c : ClassFile) (info : MemberInfo) (f g : ℕ) → MethodFlags c info f → MethodFlags c info g → f ≡ g
one_flags c info f g (inl (is, e)) (inl (also, d)) = e ∙ sym d
one_flags c info f g (inl (is, e)) (inr (isnt, d)) = absurd (isnt is)
one_flags c info f g (inr (isnt, e)) (inl (is, d)) = absurd (isnt is)
one_flags c info f g (inr (isnt, e)) (inr (also, d)) = e ∙ sym d
