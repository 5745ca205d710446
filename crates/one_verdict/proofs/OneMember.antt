-- A text says one type, and a reference finds one member at most.
use Rattle.std.proofs.Common.{◌≡◌, ℕ, List, Option, Some, None, sym, ◌∙◌, ap, subst}
use Rattle.std.proofs.lemmas.Option.{same_Some}
use Rattle.jk_model.specs.declared.class_file.ClassFile.{ClassFile}
use Rattle.jk_model.specs.declared.class_file.PoolEntry.{PoolEntry}
use Rattle.jk_model.specs.declared.descriptors.FieldType.{FieldType}
use Rattle.jk_model.specs.declared.descriptors.MethodType.{MethodType}
use Rattle.jk_model.specs.declared.identifiers.ClassId.{ClassId}
use Rattle.jk_model.specs.declared.identifiers.MemberId.{MemberId}
use Rattle.jk_model.specs.Descriptors.{IsFieldText, IsMethodText}
use Rattle.jk_model_classes.specs.declared.records.TypeRef.{TypeRef}
use Rattle.jk_model_classes.specs.ClassNames.{HasText}
use Rattle.jk_model_classes.specs.Classes.{field_walk, method_walk}
use Rattle.jk_model_classes.specs.LinkRules.{FindsFieldAt, FindsMethodAt, LinkScope}
use Rattle.jk_model_classes.specs.Lookups.{FindsField, FindsMethod, IsFieldOf, IsMethodOf}
use Rattle.jk_model_classes.specs.Members.{Field}
use Rattle.jk_model_classes.specs.SystemRecords.{IsResultFor, IsTypeFor}
use Rattle.class_lemmas.proofs.OneMember.{one_type, one_on}
use Rattle.class_lemmas.proofs.OneReference.{one_reference}
use Rattle.class_lemmas.proofs.OneText.{one_text}
use Rattle.descriptors.proofs.NoTextBeginsAnother.{one_field, one_method}

-- ---- Types.

pub one_result : (meaning : List ℕ → Option ClassId) (t : Option FieldType) (a b : Option TypeRef) → IsResultFor meaning t a → IsResultFor meaning t b → a ≡ b
one_result meaning None a b p q = p ∙ sym q
one_result meaning (Some t) a b (x, is_x, p) (y, is_y, q) =
    let same : x ≡ y = one_type meaning t x y p q in
    cc

pub one_field_type : (pool : List PoolEntry) (i : ℕ) (t u : FieldType) → HasText (λ units. IsFieldText units t) pool i
    → HasText (λ units. IsFieldText units u) pool i → t ≡ u
one_field_type pool i t u (us, at, says) (vs, there, tells) =
    one_field vs t u (subst (λ (w : List ℕ). IsFieldText w t) (one_text pool i us vs at there) says) tells

pub one_method_type : (pool : List PoolEntry) (i : ℕ) (t u : MethodType) → HasText (λ units. IsMethodText units t) pool i
    → HasText (λ units. IsMethodText units u) pool i → t ≡ u
one_method_type pool i t u (us, at, says) (vs, there, tells) =
    one_method vs t u (subst (λ (w : List ℕ). IsMethodText w t) (one_text pool i us vs at there) says) tells

-- ---- Members, and the classes that the references to them name.

module _ (s : LinkScope) (c : ClassFile) (i : ℕ) where
  pub one_field_found : (m n : MemberId) (f : FindsFieldAt s c i m) (g : FindsFieldAt s c i n) → (m ≡ n) × (f.class ≡ g.class)
  one_field_found m n f g =
      let parts = one_reference c.pool i Field Field f.target g.target f.name g.name f.descriptor g.descriptor f.is_there g.is_there in
      let class : f.class ≡ g.class = same_Some f.class g.class (sym f.class_is ∙ ap s.meaning parts.target ∙ g.class_is) in
      let type : f.type ≡ g.type =
      one_field g.descriptor f.type g.type (subst (λ (w : List ℕ). IsFieldText w f.type) parts.descriptor f.text) g.text in
      let kind : f.kind ≡ g.kind =
      one_type s.meaning g.type f.kind g.kind (subst (λ (w : FieldType). IsTypeFor s.meaning w f.kind) type f.resolved) g.resolved in
      let found : FindsField s.classes g.class g.name g.kind (Some m) =
      subst (λ (k : TypeRef). FindsField s.classes g.class g.name k (Some m)) kind
      (subst (λ (a : List ℕ). FindsField s.classes g.class a f.kind (Some m)) parts.name
      (subst (λ (k : ClassId). FindsField s.classes k f.name f.kind (Some m)) class f.found)) in
      (one_on (IsFieldOf s.classes g.name g.kind) (field_walk s.classes g.class) m n found g.found, class)

  pub one_method_found : (m n : MemberId) (f : FindsMethodAt s c i m) (g : FindsMethodAt s c i n) → (m ≡ n) × (f.class ≡ g.class)
  one_method_found m n f g =
      let parts = one_reference c.pool i f.kind g.kind f.target g.target f.name g.name f.descriptor g.descriptor f.is_there g.is_there in
      let class : f.class ≡ g.class = same_Some f.class g.class (sym f.class_is ∙ ap s.meaning parts.target ∙ g.class_is) in
      let type : f.type ≡ g.type =
      one_method g.descriptor f.type g.type (subst (λ (w : List ℕ). IsMethodText w f.type) parts.descriptor f.text) g.text in
      let found : FindsMethod s.classes g.class g.name g.type (Some m) =
      subst (λ (k : MethodType). FindsMethod s.classes g.class g.name k (Some m)) type
      (subst (λ (a : List ℕ). FindsMethod s.classes g.class a f.type (Some m)) parts.name
      (subst (λ (k : ClassId). FindsMethod s.classes k f.name f.type (Some m)) class f.found)) in
      (one_on (IsMethodOf s.classes g.name g.type) (method_walk s.classes g.class) m n found g.found, class)
