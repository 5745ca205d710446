-- Fitting is an order: each type fits itself, what fits a type fits whatever this one fits, and two types that fit one
-- another are one.
use Rattle.std.proofs.Common.{◌≡◌, ℕ, ◌⊎◌, List, refl, sym, ap, subst, ◌∙◌, inl, inr, arith}
use Rattle.jk_model.specs.declared.identifiers.ClassId.{ClassId}
use Rattle.jk_model_classes.specs.declared.records.BaseRef.{BaseRef}
use Rattle.jk_model_classes.specs.declared.records.BaseRef.TheVariants as Base
use Rattle.jk_model_classes.specs.declared.records.ClassRecord.{ClassRecord}
use Rattle.jk_model_classes.specs.declared.records.TypeRef.{TypeRef}
use Rattle.jk_model_classes.specs.Classes.{AreOrdered, IsSubclass, OBJECT}
use Rattle.jk_model_typing.specs.declared.frames.VType.{VType}
use Rattle.jk_model_typing.specs.declared.frames.VType.TheVariants.{Unusable, Null, Ref}
use Rattle.jk_model_typing.specs.FrameTypes.{IsClassBelow, RefFits, Fits, IsJoin}
use Rattle.class_lemmas.proofs.OneMember.{same_type}
use Rattle.class_table.proofs.StandingAbove.{superclasses-lower, superclasses-trans}

pub same_class : (a b : ClassId) → a.0 ≡ b.0 → a ≡ b
same_class a b e = ap (λ (n : ℕ). record { 0 = n }) e

module _ (classes : List ClassRecord) where
  -- ---- How a type may fit another.

  pub Fits-cases : (a b : VType) → Fits classes a b
      → (b ≡ Unusable) ⊎ (a ≡ b) ⊎ ((r : TypeRef) × (a ≡ Null) × (b ≡ Ref r))
      ⊎ ((x : TypeRef) × (y : TypeRef) × (a ≡ Ref x) × (b ≡ Ref y) × RefFits classes x y)
  Fits-cases a Unusable h = inl refl
  Fits-cases Null (Ref r) h = inr (inr (inl (r, refl, refl)))
  Fits-cases (Ref x) (Ref y) h = inr (inr (inr (x, y, refl, refl, h)))
  Fits-cases a b h = inr (inl h)

  -- what fits a class or an array
  pub Fits-below_ref : (a : VType) (y : TypeRef) → Fits classes a (Ref y)
      → (a ≡ Null) ⊎ ((x : TypeRef) × (a ≡ Ref x) × RefFits classes x y)
  Fits-below_ref Null y h = inl refl
  Fits-below_ref (Ref x) y h = inr (x, refl, h)
  Fits-below_ref a y h = absurd cc

  -- what a class or an array fits
  pub Fits-above_ref : (x : TypeRef) (b : VType) → Fits classes (Ref x) b
      → (b ≡ Unusable) ⊎ ((y : TypeRef) × (b ≡ Ref y) × RefFits classes x y)
  Fits-above_ref x Unusable h = inl refl
  Fits-above_ref x (Ref y) h = inr (y, refl, h)
  Fits-above_ref x b h = absurd cc

  pub Fits-null : (a : VType) → Fits classes a Null → a ≡ Null
  Fits-null Null h = refl
  Fits-null a h = h

  pub Fits-unusable : (a : VType) → Fits classes Unusable a → a ≡ Unusable
  Fits-unusable Unusable h = refl
  Fits-unusable a h = sym h

  pub Fits-refl : (a : VType) → Fits classes a a
  Fits-refl Unusable = tt
  Fits-refl (Ref r) = inl refl
  Fits-refl a = refl

  pub Fits-eq : (a b : VType) → a ≡ b → Fits classes a b
  Fits-eq a b e = subst (Fits classes a) e (Fits-refl a)

module _ (classes : List ClassRecord) (ordered : AreOrdered classes) where
  -- ---- Classes, and what arrays are of.

  pub IsSubclass-antisym : (a b : ClassId) → IsSubclass classes a b → IsSubclass classes b a → a ≡ b
  IsSubclass-antisym a b ab ba =
      let low = superclasses-lower classes ordered a b ab in
      let high = superclasses-lower classes ordered b a ba in
      same_class a b (omega arith)

  -- nothing is above java/lang/Object
  pub above_object : (c : ClassId) → IsSubclass classes OBJECT c → c ≡ OBJECT
  above_object c above =
      let low = superclasses-lower classes ordered OBJECT c above in
      same_class c OBJECT (omega arith)

  pub IsClassBelow-trans : (a b c : BaseRef) → IsClassBelow classes a b → IsClassBelow classes b c → IsClassBelow classes a c
  IsClassBelow-trans (Base.Class a) (Base.Class b) (Base.Class c) ab bc = superclasses-trans classes ordered a b c ab bc
  IsClassBelow-trans (Base.Class a) (Base.Class b) c ab bc = absurd bc
  IsClassBelow-trans (Base.Class a) b c ab bc = absurd ab
  IsClassBelow-trans a b c ab bc = absurd ab

  pub IsClassBelow-antisym : (a b : BaseRef) → IsClassBelow classes a b → IsClassBelow classes b a → a ≡ b
  IsClassBelow-antisym (Base.Class a) (Base.Class b) ab ba = ap (λ c. Base.Class c) (IsSubclass-antisym a b ab ba)
  IsClassBelow-antisym (Base.Class a) b ab ba = absurd ab
  IsClassBelow-antisym a b ab ba = absurd ab

  pub base_above_object : (b : BaseRef) → IsClassBelow classes (Base.Class OBJECT) b → b ≡ Base.Class OBJECT
  base_above_object (Base.Class b) above = ap (λ c. Base.Class c) (above_object b above)
  base_above_object b above = absurd above

  -- ---- Classes and arrays.

  pub RefFits-trans : (a b c : TypeRef) → RefFits classes a b → RefFits classes b c → RefFits classes a c
  RefFits-trans a b c (inl same) bc = subst (λ (t : TypeRef). RefFits classes t c) (sym same) bc
  RefFits-trans a b c (inr (inl ab)) (inl same) = subst (λ (t : TypeRef). RefFits classes a t) same (inr (inl ab))
  RefFits-trans a b c (inr (inl ab)) (inr (inl bc)) =
      inr (inl (ab.0 ∙ bc.0, IsClassBelow-trans a.base b.base c.base ab.1 bc.1))
  RefFits-trans a b c (inr (inl ab)) (inr (inr bc)) = inr (inr (omega (arith, ab.0, bc.0), bc.1))
  RefFits-trans a b c (inr (inr ab)) (inl same) = subst (λ (t : TypeRef). RefFits classes a t) same (inr (inr ab))
  RefFits-trans a b c (inr (inr ab)) (inr (inl bc)) =
      let above = subst (λ (r : BaseRef). IsClassBelow classes r c.base) ab.1 bc.1 in
      inr (inr (omega (arith, ab.0, bc.0), base_above_object c.base above))
  RefFits-trans a b c (inr (inr ab)) (inr (inr bc)) = inr (inr (omega (arith, ab.0, bc.0), bc.1))

  pub RefFits-antisym : (a b : TypeRef) → RefFits classes a b → RefFits classes b a → a ≡ b
  RefFits-antisym a b (inl same) ba = same
  RefFits-antisym a b (inr ab) (inl same) = sym same
  RefFits-antisym a b (inr (inl ab)) (inr (inl ba)) = same_type a b ab.0 (IsClassBelow-antisym a.base b.base ab.1 ba.1)
  RefFits-antisym a b (inr (inl ab)) (inr (inr ba)) = absurd (omega (arith, ab.0, ba.0))
  RefFits-antisym a b (inr (inr ab)) (inr (inl ba)) = absurd (omega (arith, ab.0, ba.0))
  RefFits-antisym a b (inr (inr ab)) (inr (inr ba)) = absurd (omega (arith, ab.0, ba.0))

  -- ---- Types.

  Fits-trans_ref : (a : VType) (y z : TypeRef) → Fits classes a (Ref y) → RefFits classes y z → Fits classes a (Ref z)
  Fits-trans_ref a y z ay yz = elim (Fits-below_ref classes a y ay) [
    | inl null ↦ subst (λ (t : VType). Fits classes t (Ref z)) (sym null) tt
    | inr (x, e, xy) ↦ subst (λ (t : VType). Fits classes t (Ref z)) (sym e) (RefFits-trans x y z xy yz)
  ]

  pub Fits-trans : (a b c : VType) → Fits classes a b → Fits classes b c → Fits classes a c
  Fits-trans a b c ab bc = elim (Fits-cases classes b c bc) [
    | inl e ↦ subst (λ (t : VType). Fits classes a t) (sym e) tt
    | inr (inl e) ↦ subst (λ (t : VType). Fits classes a t) e ab
    | inr (inr (inl (r, null, e))) ↦
        let first : a ≡ Null = Fits-null classes a (subst (λ (t : VType). Fits classes a t) null ab) in
        subst (λ (t : VType). Fits classes t c) (sym first) (subst (λ (t : VType). Fits classes Null t) (sym e) tt)
    | inr (inr (inr (y, z, eb, ec, yz))) ↦
        let ay = subst (λ (t : VType). Fits classes a t) eb ab in
        subst (λ (t : VType). Fits classes a t) (sym ec) (Fits-trans_ref a y z ay yz)
  ]

  pub Fits-antisym : (a b : VType) → Fits classes a b → Fits classes b a → a ≡ b
  Fits-antisym a b ab ba = elim (Fits-cases classes a b ab) [
    | inl e ↦ Fits-unusable classes a (subst (λ (t : VType). Fits classes t a) e ba) ∙ sym e
    | inr (inl e) ↦ e
    | inr (inr (inl (r, null, e))) ↦ null ∙ sym (Fits-null classes b (subst (λ (t : VType). Fits classes b t) null ba))
    | inr (inr (inr (x, y, ea, eb, xy))) ↦
        let yx = subst (λ (t : VType). Fits classes t (Ref x)) eb (subst (λ (t : VType). Fits classes b t) ea ba) in
        ea ∙ ap (λ (t : TypeRef). Ref t) (RefFits-antisym x y xy yx) ∙ sym eb
  ]

  -- two types have one join
  pub IsJoin-one : (a b c d : VType) → IsJoin classes a b c → IsJoin classes a b d → c ≡ d
  IsJoin-one a b c d first second =
      Fits-antisym c d (first.least d second.left second.right) (second.least c first.left first.right)
