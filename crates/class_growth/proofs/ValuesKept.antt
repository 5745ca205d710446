-- Values that fit types still fit them with more classes behind, over the same heap.
use Rattle.std.proofs.Common.{ℕ, zero, suc, List, [], ◌∷◌, ◌++◌, sym, subst}
use Rattle.jk_model.specs.declared.values.Value.{Value}
use Rattle.jk_model.specs.declared.values.Value.TheVariants as Held
use Rattle.jk_model_classes.specs.declared.records.BaseRef.{BaseRef}
use Rattle.jk_model_classes.specs.declared.records.BaseRef.TheVariants as Base
use Rattle.jk_model_classes.specs.declared.records.ClassRecord.{ClassRecord}
use Rattle.jk_model_classes.specs.declared.records.TypeRef.{TypeRef}
use Rattle.jk_model_typing.specs.declared.frames.FrameType.{FrameType}
use Rattle.jk_model_typing.specs.declared.frames.VType.{VType}
use Rattle.jk_model_typing.specs.declared.frames.VType.TheVariants.{Unusable, Ref, Fresh, FreshThis}
use Rattle.jk_model_typing.specs.FrameTypes.{RefFits, erased, array_type}
use Rattle.jk_model_typing.specs.Scopes.{CodeScope}
use Rattle.jk_model_frames.specs.Frames.{FrameState}
use Rattle.jk_model_domains.specs.Objects.{NamedObject, Object, CAPABILITY, class_type, type_of}
use Rattle.jk_model_domains.specs.ValueTypes.{ObjectFits, ValueFits, EachValueFits, FrameHolds, HoldsDeclared}
use Rattle.class_growth.specs.ClosedClasses.{HasBase, HasType}
use Rattle.class_growth.specs.ScopesOver.{with_more}
use Rattle.class_growth.proofs.MoreClasses.{subclass-still}
use Rattle.class_growth.proofs.TypesKept.{erased-kept, ref_fits-still}

-- ---- In frames.

module _ (s : CodeScope) (more : List ClassRecord) where
  object_fits-still : (object : Object) (t : VType) → ObjectFits s object t → ObjectFits (with_more s more) object t
  object_fits-still object (Ref t) h = ref_fits-still s.classes more (type_of object) t h
  object_fits-still object (Fresh place) h = h
  object_fits-still object FreshThis (c, is, below) = (c, is, subclass-still s.classes more c s.self below)
  object_fits-still object t h = h

  module _ (heap : List NamedObject) where
    pub value_fits-still : (v : Value) (t : VType) → ValueFits s heap v t → ValueFits (with_more s more) heap v t
    value_fits-still v Unusable h = tt
    value_fits-still (Held.Obj a) t (object, is, fits) = (object, is, object_fits-still object t fits)
    value_fits-still (Held.Cap k) (Ref t) h = ref_fits-still s.classes more (class_type CAPABILITY) t h
    value_fits-still v t h = h

    pub each_value_fits-still : (vs : List Value) (ts : List VType) → EachValueFits s heap vs ts → EachValueFits (with_more s more) heap vs ts
    each_value_fits-still [] [] h = tt
    each_value_fits-still (v ∷ vs) (t ∷ ts) h = (value_fits-still v t h.0, each_value_fits-still vs ts h.1)
    each_value_fits-still vs ts h = h

    pub frame_holds-still : (f : FrameState) (t : FrameType) → FrameHolds s heap f t → FrameHolds (with_more s more) heap f t
    frame_holds-still f t h =
        record {
          locals = each_value_fits-still f.locals t.locals h.locals;
          stack = each_value_fits-still f.stack t.stack h.stack;
        }

-- ---- In fields, elements and static fields.

module _ (classes more : List ClassRecord) (heap : List NamedObject) where
  -- of a reference type, whose class was there
  erased_fits-still : (object declared : TypeRef) → HasType classes declared → RefFits classes object (erased classes declared)
      → RefFits (classes ++ more) object (erased (classes ++ more) declared)
  erased_fits-still object declared there h =
      subst (RefFits (classes ++ more) object) (sym (erased-kept classes more declared there))
      (ref_fits-still classes more object (erased classes declared) h)

  holds-still_by : (v : Value) (dims : ℕ) (base : BaseRef) → HasBase classes base → HoldsDeclared classes heap v (array_type dims base)
      → HoldsDeclared (classes ++ more) heap v (array_type dims base)
  holds-still_by (Held.Obj a) zero (Base.Class c) there (object, is, fits) =
      (object, is, erased_fits-still (type_of object) (array_type 0 (Base.Class c)) there fits)
  holds-still_by (Held.Obj a) (suc dims) base there (object, is, fits) =
      (object, is, erased_fits-still (type_of object) (array_type (suc dims) base) there fits)
  holds-still_by (Held.Cap k) zero (Base.Class c) there fits =
      erased_fits-still (class_type CAPABILITY) (array_type 0 (Base.Class c)) there fits
  holds-still_by (Held.Cap k) (suc dims) base there fits =
      erased_fits-still (class_type CAPABILITY) (array_type (suc dims) base) there fits
  holds-still_by (Held.Int n) zero (Base.Class c) there h = h
  holds-still_by (Held.Int n) zero base there h = h
  holds-still_by (Held.Int n) (suc dims) base there h = h
  holds-still_by (Held.Long n) zero (Base.Class c) there h = h
  holds-still_by (Held.Long n) zero base there h = h
  holds-still_by (Held.Long n) (suc dims) base there h = h
  holds-still_by Held.Null zero (Base.Class c) there h = h
  holds-still_by Held.Null zero base there h = h
  holds-still_by Held.Null (suc dims) base there h = h
  holds-still_by v zero (Base.Class c) there h = h
  holds-still_by v zero base there h = h
  holds-still_by v (suc dims) base there h = h

  pub holds_declared-still : (v : Value) (declared : TypeRef) → HasType classes declared → HoldsDeclared classes heap v declared
      → HoldsDeclared (classes ++ more) heap v declared
  holds_declared-still v declared there h = holds-still_by v declared.dims declared.base there h
