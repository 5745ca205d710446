-- A type that fits one that meets a demand meets it too.
use Rattle.std.proofs.Common.{◌≡◌, ℕ, ◌-◌, ◌<◌, ◌⊎◌, inl, inr, List, [], ◌∷◌, sym, ap, ◌∙◌, subst, arith}
use Rattle.jk_model.specs.declared.identifiers.ClassId.{ClassId}
use Rattle.jk_model_classes.specs.declared.records.BaseRef.{BaseRef}
use Rattle.jk_model_classes.specs.declared.records.BaseRef.TheVariants as Base
use Rattle.jk_model_classes.specs.declared.records.ClassRecord.{ClassRecord}
use Rattle.jk_model_classes.specs.declared.records.TypeRef.{TypeRef}
use Rattle.jk_model_classes.specs.declared.records.Member.{Member}
use Rattle.jk_model_classes.specs.declared.records.Member.TheVariants.{Field}
use Rattle.jk_model_classes.specs.Classes.{AreOrdered}
use Rattle.jk_model_typing.specs.declared.frames.Demand.{Demand}
use Rattle.jk_model_typing.specs.declared.frames.Demand.TheVariants.{Fitting, FittingEither, FittingBoth, Reference, AnyReference, ReferenceArray, Array, Receiver, PutReceiver}
use Rattle.jk_model_typing.specs.declared.frames.VType.{VType}
use Rattle.jk_model_typing.specs.declared.frames.VType.TheVariants.{Unusable, Long, Null, Ref, Fresh, FreshThis}
use Rattle.jk_model_typing.specs.FrameTypes.{Fits, EachFits, RefFits, IsClassBelow, IsUsable, array_type, of_class}
use Rattle.jk_model_typing.specs.Rows.{IsReference, IsAnyReference, IsReferenceArray, IsArray, IsClass, IsReceiver, Meets, AllMeet, element}
use Rattle.jk_model_typing.specs.Scopes.{CodeScope}
use Rattle.type_frames.proofs.OrderOfTypes.{Fits-refl, Fits-trans}

-- ---- The ways in which a type fits another.

pub data FitsBy (classes : List ClassRecord) : VType → VType → Type 0 where
  same : {v : VType} → FitsBy classes v v
  null : {t : TypeRef} → FitsBy classes Null (Ref t)
  refs : {a b : TypeRef} → RefFits classes a b → FitsBy classes (Ref a) (Ref b)
  unusable : {v : VType} → FitsBy classes v Unusable

module _ (classes : List ClassRecord) where
  same_by : (v w : VType) → v ≡ w → FitsBy classes v w
  same_by v w e = subst (λ w. FitsBy classes v w) e same

  pub fits-by : (v w : VType) → Fits classes v w → FitsBy classes v w
  fits-by v Unusable h = unusable
  fits-by Null (Ref t) h = null
  fits-by (Ref a) (Ref b) h = refs h
  fits-by v w h = same_by v w h

  -- ---- References and arrays.

  reference-down : {v w : VType} → FitsBy classes v w → IsReference w → IsReference v
  reference-down same h = h
  reference-down null h = tt
  reference-down (refs e) h = tt
  reference-down unusable h = absurd h

  any_reference-down : {v w : VType} → FitsBy classes v w → IsAnyReference w → IsAnyReference v
  any_reference-down same h = h
  any_reference-down null h = tt
  any_reference-down (refs e) h = tt
  any_reference-down unusable h = absurd h

  class-below : (a b : BaseRef) → IsClassBelow classes a b → IsClass a
  class-below (Base.Class a) (Base.Class b) h = tt
  class-below _ _ h = absurd h

  array_of_references : (a b : TypeRef) → RefFits classes a b → (1 < b.dims) ⊎ ((b.dims ≡ 1) × IsClass b.base) → (1 < a.dims) ⊎ ((a.dims ≡ 1) × IsClass a.base)
  array_of_references a b (inl e) h = subst (λ (t : TypeRef). (1 < t.dims) ⊎ ((t.dims ≡ 1) × IsClass t.base)) (sym e) h
  array_of_references a b (inr (inl below)) (inl deep) = inl (omega (arith, below.0))
  array_of_references a b (inr (inl below)) (inr flat) = inr (below.0 ∙ flat.0, class-below a.base b.base below.1)
  array_of_references a b (inr (inr deeper)) (inl deep) = inl (omega (arith, deeper.0))
  array_of_references a b (inr (inr deeper)) (inr flat) = inl (omega (arith, deeper.0, flat.0))

  array_of_any : (a b : TypeRef) → RefFits classes a b → 0 < b.dims → 0 < a.dims
  array_of_any a b (inl e) h = subst (λ (t : TypeRef). 0 < t.dims) (sym e) h
  array_of_any a b (inr (inl below)) h = omega (arith, below.0)
  array_of_any a b (inr (inr deeper)) h = omega (arith, deeper.0)

  pub reference_array-down : {v w : VType} → FitsBy classes v w → IsReferenceArray w → IsReferenceArray v
  reference_array-down same h = h
  reference_array-down null h = tt
  reference_array-down (refs {a = a} {b = b} e) h = array_of_references a b e h
  reference_array-down unusable h = absurd h

  array-down : {v w : VType} → FitsBy classes v w → IsArray w → IsArray v
  array-down same h = h
  array-down null h = tt
  array-down (refs {a = a} {b = b} e) h = array_of_any a b e h
  array-down unusable h = absurd h

  elements_fit : (a b : TypeRef) → RefFits classes a b → (1 < b.dims) ⊎ ((b.dims ≡ 1) × IsClass b.base)
      → RefFits classes (array_type (a.dims - 1) a.base) (array_type (b.dims - 1) b.base)
  elements_fit a b (inl e) h = inl (ap (λ (t : TypeRef). array_type (t.dims - 1) t.base) e)
  elements_fit a b (inr (inl below)) h = inr (inl (ap (λ n. n - 1) below.0, below.1))
  elements_fit a b (inr (inr deeper)) (inl deep) = inr (inr (omega (arith, deeper.0), deeper.1))
  elements_fit a b (inr (inr deeper)) (inr flat) = inr (inr (omega (arith, deeper.0, flat.0), deeper.1))

  pub element-fits : {v w : VType} → FitsBy classes v w → IsReferenceArray w → Fits classes (element v) (element w)
  element-fits {v} same h = Fits-refl classes (element v)
  element-fits null h = tt
  element-fits (refs {a = a} {b = b} e) h = elements_fit a b e h
  element-fits unusable h = absurd h

  -- ---- Entries of a stack.

  pub long-up : {v w : VType} → FitsBy classes v w → IsUsable w → v ≡ Long → w ≡ Long
  long-up same h e = e
  long-up null h e = cc
  long-up (refs r) h e = cc
  long-up unusable h e = absurd h

  pub fresh-up : {v w : VType} → FitsBy classes v w → IsUsable w → (place : ℕ) → v ≡ Fresh place → w ≡ Fresh place
  fresh-up same h place e = e
  fresh-up null h place e = cc
  fresh-up (refs r) h place e = cc
  fresh-up unusable h place e = absurd h

  pub fresh-down : {v w : VType} → FitsBy classes v w → (place : ℕ) → w ≡ Fresh place → v ≡ Fresh place
  fresh-down same place e = e
  fresh-down null place e = cc
  fresh-down (refs r) place e = cc
  fresh-down unusable place e = cc

  pub fresh_this-down : {v w : VType} → FitsBy classes v w → w ≡ FreshThis → v ≡ FreshThis
  fresh_this-down same e = e
  fresh_this-down null e = cc
  fresh_this-down (refs h) e = cc
  fresh_this-down unusable e = cc
  -- ---- Stacks.

-- ---- Demands.

module _ (s : CodeScope) (ordered : AreOrdered s.classes) where
  trans : (a b c : VType) → Fits s.classes a b → Fits s.classes b c → Fits s.classes a c
  trans a b c ab bc = Fits-trans s.classes ordered a b c ab bc

  receiver-down : (named : ClassId) (member : Member) (v w : VType) → Fits s.classes v w → IsReceiver s named member w → IsReceiver s named member v
  receiver-down named member v w h m = record {
    fits = trans v w (of_class s.classes named) h m.fits;
    guarded = λ g. trans v w (of_class s.classes s.self) h (m.guarded g);
  }

  pub meets-down : (d : Demand) (v w : VType) → Fits s.classes v w → Meets s d w → Meets s d v
  meets-down (Fitting t) v w h m = trans v w t h m
  meets-down (FittingEither t u) v w h (inl m) = inl (trans v w t h m)
  meets-down (FittingEither t u) v w h (inr m) = inr (trans v w u h m)
  meets-down (FittingBoth t u) v w h m = (trans v w t h m.0, trans v w u h m.1)
  meets-down Reference v w h m = reference-down s.classes (fits-by s.classes v w h) m
  meets-down AnyReference v w h m = any_reference-down s.classes (fits-by s.classes v w h) m
  meets-down ReferenceArray v w h m = reference_array-down s.classes (fits-by s.classes v w h) m
  meets-down Array v w h m = array-down s.classes (fits-by s.classes v w h) m
  meets-down (Receiver named member) v w h m = receiver-down named member v w h m
  meets-down (PutReceiver named m) v w h (inl r) = inl (receiver-down named (Field m) v w h r)
  meets-down (PutReceiver named m) v w h (inr this) = inr (fresh_this-down s.classes (fits-by s.classes v w h) this.0, this.1)

  pub all_meet-down : (ds : List Demand) (vs ws : List VType) → EachFits s.classes vs ws → AllMeet s ds ws → AllMeet s ds vs
  all_meet-down [] [] [] h m = tt
  all_meet-down (d ∷ ds) (v ∷ vs) (w ∷ ws) h m = (meets-down d v w h.0 m.0, all_meet-down ds vs ws h.1 m.1)
  all_meet-down [] (v ∷ vs) (w ∷ ws) h m = absurd m
  all_meet-down (d ∷ ds) [] [] h m = absurd m
  all_meet-down ds [] (w ∷ ws) h m = absurd h
  all_meet-down ds (v ∷ vs) [] h m = absurd h
