-- The references among the arguments fit the types of their parameters, and values one after another fit types one after another.
use Rattle.std.proofs.Common.{◌≡◌, ℕ, ◌⊎◌, inl, inr, List, [], ◌∷◌, refl, sym, subst}
use Rattle.jk_model.specs.declared.values.Value.{Value}
use Rattle.jk_model.specs.declared.values.Value.TheVariants as Held
use Rattle.jk_model_classes.specs.declared.records.TypeRef.{TypeRef}
use Rattle.jk_model_classes.specs.Classes.{OBJECT}
use Rattle.jk_model_typing.specs.declared.frames.VType.{VType}
use Rattle.jk_model_typing.specs.declared.frames.VType.TheVariants.{Ref}
use Rattle.jk_model_typing.specs.Scopes.{CodeScope}
use Rattle.jk_model_domains.specs.Objects.{Plain, class_type}
use Rattle.jk_model_domains.specs.ValueTypes.{EachValueFits, ValueFits}
use Rattle.number_check.specs.RunFrames.{HEAP}

-- a name of the heap
abbrev pub IsName : ℕ → Type 0
IsName name = (name ≡ 1) ⊎ (name ≡ 2)

named_fits : (s : CodeScope) (name : ℕ) (t : TypeRef) → IsName name → t ≡ class_type OBJECT → ValueFits s HEAP (Held.Obj name) (Ref t)
named_fits s name t (inl e) is = subst (λ (n : ℕ). ValueFits s HEAP (Held.Obj n) (Ref t)) (sym e) (Plain OBJECT [], refl, inl (sym is))
named_fits s name t (inr e) is = subst (λ (n : ℕ). ValueFits s HEAP (Held.Obj n) (Ref t)) (sym e) (Plain OBJECT [], refl, inl (sym is))

pub object_fits : (s : CodeScope) (v : Value) (name : ℕ) (t : TypeRef) → v ≡ Held.Obj name → IsName name → t ≡ class_type OBJECT
    → ValueFits s HEAP v (Ref t)
object_fits s v name t e named is = subst (λ (x : Value). ValueFits s HEAP x (Ref t)) (sym e) (named_fits s name t named is)

pub one_more_fits : (s : CodeScope) (values more : List Value) (types later : List VType) (v : Value) (t : VType) → values ≡ v ∷ more
    → types ≡ t ∷ later → ValueFits s HEAP v t → EachValueFits s HEAP more later → EachValueFits s HEAP values types
one_more_fits s values more types later v t e f one all =
    subst (λ (xs : List Value). EachValueFits s HEAP xs types) (sym e)
    (subst (λ (xs : List VType). EachValueFits s HEAP (v ∷ more) xs) (sym f) (one, all))
