-- The types of values are the same with more classes behind, for a type whose class was there. What fits stays fitting, for
-- whatever types.
use Rattle.std.proofs.Common.{◌≡◌, ℕ, zero, suc, List, [], ◌∷◌, ◌++◌, refl, ap, inl, inr, if◌then◌else◌}
use Rattle.jk_model.specs.declared.identifiers.ClassId.{ClassId}
use Rattle.jk_model_classes.specs.declared.records.BaseRef.{BaseRef}
use Rattle.jk_model_classes.specs.declared.records.BaseRef.TheVariants as Base
use Rattle.jk_model_classes.specs.declared.records.ClassRecord.{ClassRecord}
use Rattle.jk_model_classes.specs.declared.records.TypeRef.{TypeRef}
use Rattle.jk_model_classes.specs.Classes.{HasClass, OBJECT, is_interface_record}
use Rattle.jk_model_typing.specs.declared.frames.FrameType.{FrameType}
use Rattle.jk_model_typing.specs.declared.frames.VType.{VType}
use Rattle.jk_model_typing.specs.declared.frames.VType.TheVariants.{Unusable, Null, Ref}
use Rattle.jk_model_typing.specs.FrameTypes.{erased_class, erased_base, erased, of_type, of_class, base_value, dims_value, value_of, array_type, IsClassBelow, RefFits, Fits, EachFits, FrameFits}
use Rattle.class_growth.specs.ClosedClasses.{HasBase, HasType}
use Rattle.class_growth.proofs.MoreClasses.{record-kept, subclass-still}

module _ (classes more : List ClassRecord) where
  erased_class-kept : (c : ClassId) → HasClass classes c → erased_class (classes ++ more) c ≡ erased_class classes c
  erased_class-kept c there = ap (λ o. if is_interface_record o then OBJECT else c) (record-kept classes more c there)

  pub erased_base-kept : (base : BaseRef) → HasBase classes base → erased_base (classes ++ more) base ≡ erased_base classes base
  erased_base-kept (Base.Class c) there = ap Base.Class (erased_class-kept c there)
  erased_base-kept base there = refl

  pub erased-kept : (t : TypeRef) → HasType classes t → erased (classes ++ more) t ≡ erased classes t
  erased-kept t there = ap (array_type t.dims) (erased_base-kept t.base there)

  pub of_type-kept : (t : TypeRef) → HasType classes t → of_type (classes ++ more) t ≡ of_type classes t
  of_type-kept t there = ap Ref (erased-kept t there)

  pub of_class-kept : (c : ClassId) → HasClass classes c → of_class (classes ++ more) c ≡ of_class classes c
  of_class-kept c there = of_type-kept (array_type 0 (Base.Class c)) there

  base_value-kept : (base : BaseRef) → HasBase classes base → base_value (classes ++ more) base ≡ base_value classes base
  base_value-kept (Base.Class c) there = of_class-kept c there
  base_value-kept Base.Long there = refl
  base_value-kept base there = refl

  dims_value-kept : (dims : ℕ) (base : BaseRef) → HasBase classes base → dims_value (classes ++ more) dims base ≡ dims_value classes dims base
  dims_value-kept zero base there = base_value-kept base there
  dims_value-kept (suc dims) base there = of_type-kept (array_type (suc dims) base) there

  pub value_of-kept : (t : TypeRef) → HasType classes t → value_of (classes ++ more) t ≡ value_of classes t
  value_of-kept t there = dims_value-kept t.dims t.base there

  -- ---- Fitting.

  class_below-still : (a b : BaseRef) → IsClassBelow classes a b → IsClassBelow (classes ++ more) a b
  class_below-still (Base.Class a) (Base.Class b) h = subclass-still classes more a b h
  class_below-still a b h = h

  pub ref_fits-still : (a b : TypeRef) → RefFits classes a b → RefFits (classes ++ more) a b
  ref_fits-still a b (inl same) = inl same
  ref_fits-still a b (inr (inl (dims, below))) = inr (inl (dims, class_below-still a.base b.base below))
  ref_fits-still a b (inr (inr object)) = inr (inr object)

  pub fits-still : (a b : VType) → Fits classes a b → Fits (classes ++ more) a b
  fits-still a Unusable h = tt
  fits-still Null (Ref b) h = tt
  fits-still (Ref a) (Ref b) h = ref_fits-still a b h
  fits-still a b h = h

  pub each_fits-still : (xs ys : List VType) → EachFits classes xs ys → EachFits (classes ++ more) xs ys
  each_fits-still [] [] h = tt
  each_fits-still (a ∷ xs) (b ∷ ys) h = (fits-still a b h.0, each_fits-still xs ys h.1)
  each_fits-still xs ys h = h

  pub frame_fits-still : (a b : FrameType) → FrameFits classes a b → FrameFits (classes ++ more) a b
  frame_fits-still a b h =
      record {
        locals = each_fits-still a.locals b.locals h.locals;
        stack = each_fits-still a.stack b.stack h.stack;
        usable = h.usable;
        fresh = h.fresh;
      }
