-- Going up from the lower of two classes passes over no class that is above both.
use Rattle.std.proofs.Common.{◌≡◌, ◌≢◌, ◌≤◌, List, [], ◌∷◌, Option, Some, None, MatchOption, refl, sym, ap, ◌∙◌, inl, inr, arith}
use Rattle.jk_model.specs.declared.identifiers.ClassId.{ClassId}
use Rattle.jk_model_classes.specs.declared.records.BaseRef.{BaseRef}
use Rattle.jk_model_classes.specs.declared.records.BaseRef.TheVariants as Base
use Rattle.jk_model_classes.specs.declared.records.ClassRecord.{ClassRecord}
use Rattle.jk_model_classes.specs.Classes.{AreOrdered, IsSubclass, parents_of}
use Rattle.list_lemmas.proofs.ItemsOfLists.{Contains-here}
use Rattle.class_table.proofs.StandingAbove.{is-own_superclass, superclasses-lower, superclasses-cases, superclasses-of_parent, superclasses-trans}
use Rattle.type_frames.specs.TypesAbove.{IsNearest, BaseFits, HaveNoBase, IsNearestBase}

module _ (classes : List ClassRecord) (ordered : AreOrdered classes) where
  pub parent_above : (c d p : ClassId) → parents_of classes d ≡ p ∷ [] → IsSubclass classes c d → IsSubclass classes c p
  parent_above c d p only above =
      superclasses-trans classes ordered c d p above
      (superclasses-of_parent classes ordered d p p (rw only (Contains-here p [])) (is-own_superclass classes ordered p))

  module _ (low other : ClassId) (order : other.0 ≤ low.0) (apart : low.0 ≢ other.0) where
    -- what is above both isn't the lower one
    above_both : (d : ClassId) → IsSubclass classes low d → IsSubclass classes other d
        → (p : ClassId) × (parents_of classes low ≡ p ∷ []) × IsSubclass classes p d
    above_both d above above_other = elim (superclasses-cases classes ordered low d above) [
      | inl same ↦
          let order_back = superclasses-lower classes ordered other d above_other in
          let e : low.0 ≡ d.0 = ap (λ (c : ClassId). c.0) same in
          absurd (apart (omega arith))
      | inr up ↦ up
    ]

    pub above_parent : (p d : ClassId) → parents_of classes low ≡ p ∷ [] → IsSubclass classes low d → IsSubclass classes other d
        → IsSubclass classes p d
    above_parent p d only above above_other =
        let up = above_both d above above_other in
        let same : p ∷ [] ≡ up.0 ∷ [] = sym only ∙ up.1 in
        let one : p ≡ up.0 = cc in
        rw one up.2

    pub above_none : (d : ClassId) → parents_of classes low ≡ [] → IsSubclass classes low d → IsSubclass classes other d → ⊥
    above_none d none above above_other =
        let up = above_both d above above_other in
        let same : [] ≡ up.0 ∷ [] = sym none ∙ up.1 in
        absurd cc

-- ---- The same of what arrays are of.

module _ (classes : List ClassRecord) (ordered : AreOrdered classes) where
  BaseFits-class : (a : ClassId) (d : BaseRef) → BaseFits classes (Base.Class a) d → (c : ClassId) × (d ≡ Base.Class c) × IsSubclass classes a c
  BaseFits-class a d (inl same) = (a, sym same, is-own_superclass classes ordered a)
  BaseFits-class a (Base.Class c) (inr above) = (c, refl, above)
  BaseFits-class a d (inr never) = absurd never

  BaseFits-of : (a c : ClassId) (d : BaseRef) → d ≡ Base.Class c → IsSubclass classes a c → BaseFits classes (Base.Class a) d
  BaseFits-of a c d is above = rw is (inr above)

  BaseFits-both : (a b : ClassId) (d : BaseRef) → BaseFits classes (Base.Class a) d → BaseFits classes (Base.Class b) d
      → (c : ClassId) × (d ≡ Base.Class c) × IsSubclass classes a c × IsSubclass classes b c
  BaseFits-both a b d above above_other =
      let left = BaseFits-class a d above in
      let right = BaseFits-class b d above_other in
      let same : Base.Class right.0 ≡ Base.Class left.0 = sym right.1 ∙ left.1 in
      let one : right.0 ≡ left.0 = cc in
      (left.0, left.1, left.2, rw (← one) right.2)

  pub bases_of_classes : (a b : ClassId) (o : Option ClassId)
      → MatchOption o ((c : ClassId) → IsSubclass classes a c → IsSubclass classes b c → ⊥) (IsNearest classes a b)
      → MatchOption o (HaveNoBase classes (Base.Class a) (Base.Class b)) (IsNearestBase classes (Base.Class a) (Base.Class b))
  bases_of_classes a b None none = λ d above above_other.
      let both = BaseFits-both a b d above above_other in none both.0 both.2 both.3
  bases_of_classes a b (Some c) near = record {
    left = inr near.left;
    right = inr near.right;
    nearest = λ d above above_other.
        let both = BaseFits-both a b d above above_other in BaseFits-of c both.0 d both.1 (near.nearest both.0 both.2 both.3);
  }
