-- The object of a name that begins with a text is one object, and so is its text.
use Rattle.std.proofs.Common.{◌≡◌, ℕ, List, ◌∷◌, Some, sym, ap, ◌∙◌}
use Rattle.std.proofs.lemmas.Option.{same_Some}
use Rattle.jk_model.specs.declared.identifiers.ClassId.{ClassId}
use Rattle.jk_model.specs.declared.values.Value.{Value}
use Rattle.jk_model.specs.declared.values.Value.TheVariants as Held
use Rattle.jk_model_domains.specs.Objects.{NamedObject, Plain, object_named}
use Rattle.jk_model_system_rows.specs.HiddenTexts.{TextHolder}

pub record IsThatHolder (m n : ℕ) (c d : ClassId) (t u : Value) (vs us : List Value) : Type 0 where
  pub name : m ≡ n
  pub class : c ≡ d
  pub text : t ≡ u
  pub others : vs ≡ us

same_parts : (m n : ℕ) (c d : ClassId) (t u : Value) (vs us : List Value) → m ≡ n → Plain c (t ∷ vs) ≡ Plain d (u ∷ us)
    → IsThatHolder m n c d t u vs us
same_parts m n c d t u vs us name e = record { name = name; class = cc; text = cc; others = cc }

same_name : (a b : ℕ) → Held.Obj a ≡ Held.Obj b → b ≡ a
same_name a b e = cc

pub that_holder : (heap : List NamedObject) (n : ℕ) (c : ClassId) (t : Value) (vs : List Value) → object_named heap n ≡ Some (Plain c (t ∷ vs))
    → (h : TextHolder heap (Held.Obj n)) → IsThatHolder h.name n h.class c h.text t h.others vs
that_holder heap n c t vs stands h =
    let name : h.name ≡ n = same_name n h.name h.names in
    same_parts h.name n h.class c h.text t h.others vs name
    (same_Some (Plain h.class (h.text ∷ h.others)) (Plain c (t ∷ vs)) (sym h.object ∙ ap (object_named heap) name ∙ stands))
