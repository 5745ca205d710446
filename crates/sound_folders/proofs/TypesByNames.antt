-- What a descriptor says by a meaning of names: one list of types, and the same by each meaning that agrees on the names in it.
use Rattle.std.proofs.Common.{◌≡◌, ℕ, suc, inl, inr, List, [], ◌∷◌, length, Option, Some, None, slice_get, refl, sym, ap, subst, ◌∙◌, arith}
use Rattle.std.proofs.lemmas.Option.{same_Some, slice_get_within}
use Rattle.list_lemmas.proofs.ItemsByPlace.{item_there}
use Rattle.jk_model.specs.declared.descriptors.Base.{Base as ABase}
use Rattle.jk_model.specs.declared.descriptors.Base.TheVariants as Said
use Rattle.jk_model.specs.declared.descriptors.FieldType.{FieldType}
use Rattle.jk_model.specs.declared.descriptors.MethodType.{MethodType}
use Rattle.jk_model.specs.declared.identifiers.ClassId.{ClassId}
use Rattle.jk_model_classes.specs.declared.records.BaseRef.{BaseRef}
use Rattle.jk_model_classes.specs.declared.records.BaseRef.TheVariants as Base
use Rattle.jk_model_classes.specs.declared.records.MethodRecord.{MethodRecord}
use Rattle.jk_model_classes.specs.declared.records.TypeRef.{TypeRef}
use Rattle.jk_model_classes.specs.Items.{HasItem}
use Rattle.jk_model_classes.specs.References.{IsOfClass, IsResultOfClass}
use Rattle.jk_model_classes.specs.SystemRecords.{AreTypesFor, IsBaseFor, IsResultFor, IsTypeFor}
use Rattle.class_lemmas.proofs.OneMember.{same_type}
use Rattle.sound_folders.specs.NamesAndTypes.{IsSaidBy, NamesInType}

-- ---- By another meaning.

module _ (M N : List ℕ → Option ClassId) where
  base-by : (b : ABase) (base : BaseRef) → ((name : List ℕ) (c : ClassId) → b ≡ Said.Class name → M name ≡ Some c → N name ≡ Some c)
      → IsBaseFor M b base → IsBaseFor N b base
  base-by (Said.Class name) base keeps (c, meant, is) = (c, keeps name c refl meant, is)
  base-by Said.Byte base keeps is = is
  base-by Said.Char base keeps is = is
  base-by Said.Int base keeps is = is
  base-by Said.Long base keeps is = is
  base-by Said.Short base keeps is = is
  base-by Said.Bool base keeps is = is
  base-by b base keeps never = absurd never

  types-by : (types : List FieldType) (refs : List TypeRef)
      → ((name : List ℕ) (c : ClassId) → HasItem (IsOfClass name) types → M name ≡ Some c → N name ≡ Some c)
      → AreTypesFor M types refs → AreTypesFor N types refs
  types-by types refs keeps h =
      record {
        as_many = h.as_many;
        each = λ i t ref at_type at_ref.
            let is = h.each i t ref at_type at_ref in
            (is.0, base-by t.base ref.base (λ name c named. keeps name c (i, t, at_type, named)) is.1);
      }

  result-by : (type : Option FieldType) (result : Option TypeRef)
      → ((name : List ℕ) (c : ClassId) → IsResultOfClass name type → M name ≡ Some c → N name ≡ Some c)
      → IsResultFor M type result → IsResultFor N type result
  result-by None result keeps is = is
  result-by (Some t) result keeps (ref, e, is) = (ref, e, (is.0, base-by t.base ref.base (λ name c named. keeps name c (t, refl, named)) is.1))

  pub said-by : (method : MethodRecord)
      → ((name : List ℕ) (c : ClassId) → NamesInType method.kind name → M name ≡ Some c → N name ≡ Some c) → IsSaidBy M method → IsSaidBy N method
  said-by method keeps h = (
    types-by method.kind.params method.params (λ name c named. keeps name c (inl named)) h.0,
    result-by method.kind.result method.result (λ name c named. keeps name c (inr named)) h.1,
  )

-- ---- By one meaning.

same-items : {X : Type 0} (xs ys : List X) → length xs ≡ length ys
    → ((i : ℕ) (x y : X) → slice_get xs i ≡ Some x → slice_get ys i ≡ Some y → x ≡ y) → xs ≡ ys
same-items [] [] many same = refl
same-items [] (y ∷ ys) many same = absurd (omega (arith, many))
same-items (x ∷ xs) [] many same = absurd (omega (arith, many))
same-items {X = X} (x ∷ xs) (y ∷ ys) many same =
    let first : x ≡ y = same 0 x y refl refl in
    let rest : xs ≡ ys = same-items xs ys (omega (arith, many)) (λ i a b. same (suc i) a b) in
    ap (λ (z : X). z ∷ xs) first ∙ ap (λ (zs : List X). y ∷ zs) rest

module _ (M : List ℕ → Option ClassId) where
  base-one : (b : ABase) (x y : BaseRef) → IsBaseFor M b x → IsBaseFor M b y → x ≡ y
  base-one (Said.Class name) x y (c, meant, is) (d, also, so) =
      is ∙ ap (λ (z : ClassId). Base.Class z) (same_Some c d (sym meant ∙ also)) ∙ sym so
  base-one Said.Byte x y is so = is ∙ sym so
  base-one Said.Char x y is so = is ∙ sym so
  base-one Said.Int x y is so = is ∙ sym so
  base-one Said.Long x y is so = is ∙ sym so
  base-one Said.Short x y is so = is ∙ sym so
  base-one Said.Bool x y is so = is ∙ sym so
  base-one b x y never so = absurd never

  type-one : (t : FieldType) (x y : TypeRef) → IsTypeFor M t x → IsTypeFor M t y → x ≡ y
  type-one t x y h k = same_type x y (h.0 ∙ sym k.0) (base-one t.base x.base y.base h.1 k.1)

  types-one : (types : List FieldType) (xs ys : List TypeRef) → AreTypesFor M types xs → AreTypesFor M types ys → xs ≡ ys
  types-one types xs ys h k =
      same-items xs ys (h.as_many ∙ sym k.as_many)
      (λ i x y at_x at_y.
      let t = item_there types i (omega (arith, slice_get_within xs i x at_x, h.as_many)) in
      type-one t.0 x y (h.each i t.0 x t.1 at_x) (k.each i t.0 y t.1 at_y))

  result-one : (type : Option FieldType) (x y : Option TypeRef) → IsResultFor M type x → IsResultFor M type y → x ≡ y
  result-one None x y h k = h ∙ sym k
  result-one (Some t) x y (a, is, fits) (b, so, also) = is ∙ ap (λ (z : TypeRef). Some z) (type-one t a b fits also) ∙ sym so

  -- methods of one type take and answer the same
  pub said-one : (a b : MethodRecord) → a.kind ≡ b.kind → IsSaidBy M a → IsSaidBy M b → (a.params ≡ b.params) × (a.result ≡ b.result)
  said-one a b same h k =
      let params : AreTypesFor M a.kind.params b.params = subst (λ (x : MethodType). AreTypesFor M x.params b.params) (sym same) k.0 in
      let result : IsResultFor M a.kind.result b.result = subst (λ (x : MethodType). IsResultFor M x.result b.result) (sym same) k.1 in
      (types-one a.kind.params a.params b.params h.0 params, result-one a.kind.result a.result b.result h.1 result)
