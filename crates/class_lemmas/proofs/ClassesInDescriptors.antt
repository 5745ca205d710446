-- The classes in the descriptor of a field are that of its type, and those in the descriptor of a method the ones of its
-- parameters and of what it returns.
use Rattle.std.proofs.Common.{◌≡◌, ◌≢◌, ℕ, zero, suc, ◌<◌, ◌⊎◌, inl, inr, List, ◌∷◌, ◌++◌, replicate, sym, ◌∙◌, subst, arith}
use Rattle.jk_model.specs.declared.descriptors.Base.{Base}
use Rattle.jk_model.specs.declared.descriptors.Base.TheVariants.{Byte, Char, Double, Float, Int, Long, Short, Bool as Boolean, Class}
use Rattle.jk_model.specs.declared.descriptors.FieldType.{FieldType}
use Rattle.jk_model.specs.declared.descriptors.MethodType.{MethodType}
use Rattle.jk_model.specs.Descriptors.{IsFieldText, IsMethodText, base_text}
use Rattle.jk_model_classes.specs.Items.{HasItem}
use Rattle.jk_model_classes.specs.References.{IsOfClass, IsResultOfClass, Mentions}
use Rattle.descriptors.proofs.NoTextBeginsAnother.{one_field, one_method}

pub differ : (a b : ℕ) (xs ys : List ℕ) → b < a → a ∷ xs ≡ b ∷ ys → ⊥
differ a b xs ys above e = let first : a ≡ b = cc in omega arith

-- what is written of no array begins below the letter that arrays begin with, and no field's text with a parenthesis
pub begins_otherwise : (base : Base) (u : ℕ) (rest : List ℕ) → (u < 66) ⊎ (90 < u) → base_text base ≡ u ∷ rest → ⊥
begins_otherwise Byte u rest far e = let first : 66 ≡ u = cc in omega (arith, far)
begins_otherwise Char u rest far e = let first : 67 ≡ u = cc in omega (arith, far)
begins_otherwise Double u rest far e = let first : 68 ≡ u = cc in omega (arith, far)
begins_otherwise Float u rest far e = let first : 70 ≡ u = cc in omega (arith, far)
begins_otherwise Int u rest far e = let first : 73 ≡ u = cc in omega (arith, far)
begins_otherwise Long u rest far e = let first : 74 ≡ u = cc in omega (arith, far)
begins_otherwise Short u rest far e = let first : 83 ≡ u = cc in omega (arith, far)
begins_otherwise Boolean u rest far e = let first : 90 ≡ u = cc in omega (arith, far)
begins_otherwise (Class name) u rest far e = let first : 76 ≡ u = cc in omega (arith, far)

pub no_parenthesis : (n : ℕ) (base : Base) (rest : List ℕ) → replicate n 91 ++ base_text base ≡ 40 ∷ rest → ⊥
no_parenthesis (suc n) base rest e = differ 91 40 _ _ (omega arith) e
no_parenthesis zero base rest e = begins_otherwise base 40 rest (inl (omega arith)) e

pub some_dims : (n : ℕ) (base : Base) (rest : List ℕ) → replicate n 91 ++ base_text base ≡ 91 ∷ rest → n ≢ 0
some_dims (suc n) base rest e none = omega arith
some_dims zero base rest e none = begins_otherwise base 91 rest (inr (omega arith)) e

-- units that begin as an array's name are the text of an array
pub is_array : (units rest : List ℕ) (t : FieldType) → units ≡ 91 ∷ rest → IsFieldText units t → t.dims ≢ 0
is_array units rest t begins text = some_dims t.dims t.base rest (sym text.1 ∙ begins)

pub not_both : (units : List ℕ) (t : FieldType) (k : MethodType) → IsFieldText units t → IsMethodText units k → ⊥
not_both units t k field method = no_parenthesis t.dims t.base _ (sym field.1 ∙ method.1)

pub field_mentions : (units name : List ℕ) (t : FieldType) → IsFieldText units t → Mentions units name → t.base ≡ Class name
field_mentions units name t text (inl (u, other, is)) = subst (λ (x : FieldType). x.base ≡ Class name) (one_field units u t other text) is
field_mentions units name t text (inr (k, method, is)) = absurd (not_both units t k text method)

pub method_mentions : (units name : List ℕ) (m : MethodType) → IsMethodText units m → Mentions units name
    → HasItem (IsOfClass name) m.params ⊎ IsResultOfClass name m.result
method_mentions units name m text (inl (t, field, is)) = absurd (not_both units t m field text)
method_mentions units name m text (inr (k, method, is)) =
    subst (λ (x : MethodType). HasItem (IsOfClass name) x.params ⊎ IsResultOfClass name x.result) (one_method units k m method text) is
