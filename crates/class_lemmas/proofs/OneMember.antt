-- A walk finds one member at most, a pair of numbers is one reference, and a written type is one type.
use Rattle.std.proofs.Common.{◌≡◌, ℕ, inl, inr, List, Option, refl, sym, ◌∙◌, ap, subst}
use Rattle.std.specs.Prelude.{slice_get}
use Rattle.std.proofs.lemmas.Bool.{cases_order}
use Rattle.std.proofs.lemmas.Option.{same_Some}
use Rattle.jk_model.specs.declared.descriptors.Base.{Base as ABase}
use Rattle.jk_model.specs.declared.descriptors.Base.TheVariants as Base
use Rattle.jk_model.specs.declared.descriptors.FieldType.{FieldType}
use Rattle.jk_model.specs.declared.identifiers.ClassId.{ClassId}
use Rattle.jk_model.specs.declared.identifiers.MemberId.{MemberId}
use Rattle.jk_model_classes.specs.declared.records.BaseRef.{BaseRef}
use Rattle.jk_model_classes.specs.declared.records.TypeRef.{TypeRef}
use Rattle.jk_model_classes.specs.Lookups.{IsFirstOn}
use Rattle.jk_model_classes.specs.Members.{Field, InterfaceMethod, MemberKind, Method, reference}
use Rattle.jk_model_classes.specs.SystemRecords.{IsBaseFor, IsTypeFor}
use Rattle.model_lemmas.proofs.SameNumbers.{same_member}

module _ (Suits : MemberId → Type 0) (walk : List ClassId) where
  pub one_in_class : (m n : MemberId) → IsFirstOn Suits walk m → IsFirstOn Suits walk n → m.class ≡ n.class → m ≡ n
  one_in_class m n f g e = elim (cases_order m.index n.index) [
    | inl same ↦ same_member m n e same
    | inr other ↦
        elim other [
          | inl before ↦
              absurd (g.member.first m.index before
              (subst (λ (k : ClassId). Suits (record { class = k; index = m.index })) e f.member.suits))
          | inr after ↦
              absurd (f.member.first n.index after
              (subst (λ (k : ClassId). Suits (record { class = k; index = n.index })) (sym e) g.member.suits))
        ]
  ]

  pub one_on : (m n : MemberId) → IsFirstOn Suits walk m → IsFirstOn Suits walk n → m ≡ n
  one_on m n f g = elim (cases_order f.place g.place) [
    | inl same ↦
        one_in_class m n f g
        (same_Some m.class n.class (sym f.visited ∙ ap (λ (p : ℕ). slice_get walk p) same ∙ g.visited))
    | inr other ↦
        elim other [
          | inl before ↦ absurd (g.earlier (f.place, m.class, before, f.visited, (m.index, f.member.suits)))
          | inr after ↦ absurd (f.earlier (g.place, n.class, after, g.visited, (n.index, g.member.suits)))
        ]
  ]

pub record SameReference (k l : MemberKind) (a c b d : ℕ) : Type 0 where
  pub kind : k ≡ l
  pub class : a ≡ c
  pub pair : b ≡ d

pub same_reference : (k l : MemberKind) (a b c d : ℕ) → reference k a b ≡ reference l c d → SameReference k l a c b d
same_reference Field Field a b c d e = record { kind = refl; class = cc; pair = cc }
same_reference Method Method a b c d e = record { kind = refl; class = cc; pair = cc }
same_reference InterfaceMethod InterfaceMethod a b c d e = record { kind = refl; class = cc; pair = cc }
same_reference _ _ a b c d e = absurd cc

pub one_base : (meaning : List ℕ → Option ClassId) (base : ABase) (a b : BaseRef) → IsBaseFor meaning base a → IsBaseFor meaning base b → a ≡ b
one_base meaning Base.Byte a b p q = p ∙ sym q
one_base meaning Base.Char a b p q = p ∙ sym q
one_base meaning Base.Double a b p q = absurd p
one_base meaning Base.Float a b p q = absurd p
one_base meaning Base.Int a b p q = p ∙ sym q
one_base meaning Base.Long a b p q = p ∙ sym q
one_base meaning Base.Short a b p q = p ∙ sym q
one_base meaning Base.Bool a b p q = p ∙ sym q
one_base meaning (Base.Class name) a b (c, means, e) (d, also, f) =
    let same : c ≡ d = same_Some c d (sym means ∙ also) in
    cc

pub same_type : (a b : TypeRef) → a.dims ≡ b.dims → a.base ≡ b.base → a ≡ b
same_type a b d e =
    ap (λ (n : ℕ). let x : TypeRef = record { dims = n; base = a.base } in x) d
    ∙ ap (λ (r : BaseRef). let x : TypeRef = record { dims = b.dims; base = r } in x) e

pub one_type : (meaning : List ℕ → Option ClassId) (t : FieldType) (a b : TypeRef) → IsTypeFor meaning t a → IsTypeFor meaning t b → a ≡ b
one_type meaning t a b p q = same_type a b (p.0 ∙ sym q.0) (one_base meaning t.base a.base b.base p.1 q.1)
