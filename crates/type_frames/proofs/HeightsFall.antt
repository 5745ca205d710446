-- Above a type stand lower ones only.
use Rattle.std.proofs.Common.{◌≡◌, ◌≢◌, ℕ, zero, suc, ◌+◌, ◌<◌, ◌≤◌, ◌⊎◌, List, [], ◌∷◌, length, flat_map, refl, sym, ap, ◌∙◌, inl, inr, arith, Option, None}
use Rattle.std.proofs.Math.Nat.{min-le_left, min-eq_left}
use Rattle.std.proofs.lemmas.List.{length-append}
use Rattle.std.proofs.lemmas.Option.{slice_get_cases}
use Rattle.std.specs.Option.{option_map_or}
use Rattle.jk_model.specs.declared.identifiers.ClassId.{ClassId}
use Rattle.jk_model_classes.specs.declared.records.BaseRef.{BaseRef}
use Rattle.jk_model_classes.specs.declared.records.BaseRef.TheVariants as Base
use Rattle.jk_model_classes.specs.declared.records.ClassRecord.{ClassRecord}
use Rattle.jk_model_classes.specs.Classes.{AreOrdered, IsSubclass, parents_of, record_of, superclasses, superclasses_within}
use Rattle.jk_model_typing.specs.declared.frames.VType.TheVariants.{Ref}
use Rattle.jk_model_typing.specs.FrameTypes.{array_type}
use Rattle.class_table.proofs.StandingAbove.{one-parent, flat_map-one, superclasses-cases, parent-lower}
use Rattle.class_table.proofs.HeightsAreEnough.{superclasses-step}
use Rattle.type_frames.specs.Heights.{base_height, height}
use Rattle.type_frames.specs.TypesAbove.{BaseFits}

-- ---- How many classes stand above a class.

parents_of_none : (o : Option ClassRecord) → o ≡ None
    → option_map_or (λ (r : ClassRecord). option_map_or (λ p. p ∷ []) r.parent []) o [] ≡ []
parents_of_none o e = rw e refl

module _ (classes : List ClassRecord) where
  few_from_parents : (h : ℕ) (parents : List ClassId) → (parents ≡ []) ⊎ ((p : ClassId) × (parents ≡ p ∷ []))
      → ((p : ClassId) → length (superclasses_within h classes p) ≤ h) → length (flat_map (superclasses_within h classes) parents) ≤ h
  few_from_parents h parents (inl none) few = rw none (omega arith)
  few_from_parents h parents (inr (p, only)) few =
      rw only (simp length-append (omega (arith, few p)))

  superclasses_within-few : (h : ℕ) (c : ClassId) → length (superclasses_within h classes c) ≤ h
  superclasses_within-few zero c = omega arith
  superclasses_within-few (suc h) c =
      let above : length (flat_map (superclasses_within h classes) (parents_of classes c)) ≤ h =
      few_from_parents h (parents_of classes c) (one-parent classes c) (superclasses_within-few h) in
      omega arith

  pub superclasses-few : (c : ClassId) → length (superclasses classes c) ≤ c.0 + 1
  superclasses-few c = superclasses_within-few (c.0 + 1) c

  -- a number that no class has has no parent
  pub has_parent-is_class : (c p : ClassId) → parents_of classes c ≡ p ∷ [] → c.0 < length classes
  has_parent-is_class c p only = elim (slice_get_cases classes c.0).1 [
    | inl (r, within, is, at) ↦ within
    | inr (past, is) ↦
        let none : parents_of classes c ≡ [] = parents_of_none (record_of classes c) is in
        let clash : [] ≡ p ∷ [] = sym none ∙ only in
        absurd cc
  ]

module _ (classes : List ClassRecord) (ordered : AreOrdered classes) where
  -- one more than above the parent
  superclasses-one_more : (c p : ClassId) → parents_of classes c ≡ p ∷ []
      → length (superclasses classes c) ≡ length (superclasses classes p) + 1
  superclasses-one_more c p only =
      rw (superclasses-step classes ordered c)
      (let one = ap length (flat_map-one (superclasses classes) (parents_of classes c) p only) in
      omega (arith, simp length-append at one))

  superclasses-fewer_within : (h : ℕ) (a b : ClassId) → a.0 < h → IsSubclass classes a b
      → length (superclasses classes b) ≤ length (superclasses classes a)
  superclasses-fewer_within zero a b low sub = absurd (omega arith)
  superclasses-fewer_within (suc h) a b low sub = elim (superclasses-cases classes ordered a b sub) [
    | inl same ↦ rw same (omega arith)
    | inr (p, only, pb) ↦
        let lower = parent-lower classes ordered a p only in
        let rest = superclasses-fewer_within h p b (omega arith) pb in
        omega (arith, superclasses-one_more a p only)
  ]

  pub superclasses-fewer : (a b : ClassId) → IsSubclass classes a b → a ≢ b
      → length (superclasses classes b) < length (superclasses classes a)
  superclasses-fewer a b sub other = elim (superclasses-cases classes ordered a b sub) [
    | inl same ↦ absurd (other same)
    | inr (p, only, pb) ↦
        let rest = superclasses-fewer_within (p.0 + 1) p b (omega arith) pb in
        omega (arith, superclasses-one_more a p only)
  ]

  -- ---- What arrays are of.

  pub base_height-falls : (a b : ClassId) → IsSubclass classes a b → a ≢ b
      → base_height classes (Base.Class b) < base_height classes (Base.Class a)
  base_height-falls a b sub other = elim (superclasses-cases classes ordered a b sub) [
    | inl same ↦ absurd (other same)
    | inr (p, only, pb) ↦
        let known = has_parent-is_class classes a p only in
        let few = superclasses-few classes a in
        let within : length (superclasses classes a) ≤ length classes + 1 = omega arith in
        omega (arith, superclasses-fewer a b sub other, min-le_left (length (superclasses classes b)) (length classes + 1), min-eq_left within)
  ]

  -- ---- Types.

  pub height-falls : (dims : ℕ) (a b : ClassId) → IsSubclass classes a b → a ≢ b
      → height classes (Ref (array_type dims (Base.Class b))) < height classes (Ref (array_type dims (Base.Class a)))
  height-falls dims a b sub other = let low = base_height-falls a b sub other in omega arith

  pub base_above_is_lower : (dims : ℕ) (a : BaseRef) (c : ClassId) → BaseFits classes a (Base.Class c)
      → Ref (array_type dims (Base.Class c)) ≢ Ref (array_type dims a)
      → height classes (Ref (array_type dims (Base.Class c))) < height classes (Ref (array_type dims a))
  base_above_is_lower dims a c (inl same) other = absurd (other (ap (λ (r : BaseRef). Ref (array_type dims r)) (sym same)))
  base_above_is_lower dims (Base.Class a) c (inr below) other =
      height-falls dims a c below (λ same. other (ap (λ (d : ClassId). Ref (array_type dims (Base.Class d))) (sym same)))
  base_above_is_lower dims a c (inr never) other = absurd never
