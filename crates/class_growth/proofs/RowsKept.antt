-- An instruction that may begin with a frame and leaves another may do so still with more classes behind, in the scope of a
-- method of closed, ordered classes.
use Rattle.std.proofs.Common.{ℕ, List, [], ◌∷◌, ◌++◌, sym, ap, subst, ◌∙◌, inl, inr}
use Rattle.std.specs.Prelude.{Bool}
use Rattle.std.specs.List.{AllByRecursion}
use Rattle.jk_model.specs.declared.identifiers.ClassId.{ClassId}
use Rattle.jk_model.specs.declared.identifiers.MemberId.{MemberId}
use Rattle.jk_model.specs.declared.instructions.Instr.{Instr}
use Rattle.jk_model_classes.specs.declared.records.ClassRecord.{ClassRecord}
use Rattle.jk_model_classes.specs.declared.records.Member.{Member}
use Rattle.jk_model_classes.specs.declared.records.Member.TheVariants.{Field, Method}
use Rattle.jk_model_classes.specs.Classes.{HasClass, AreOrdered}
use Rattle.jk_model_classes.specs.Lookups.{class_of}
use Rattle.jk_model_typing.specs.declared.frames.VType.{VType}
use Rattle.jk_model_typing.specs.declared.frames.FrameType.{FrameType}
use Rattle.jk_model_typing.specs.declared.frames.Demand.{Demand}
use Rattle.jk_model_typing.specs.declared.frames.Demand.TheVariants.{Fitting, FittingEither, FittingBoth, Receiver, PutReceiver}
use Rattle.jk_model_typing.specs.FrameTypes.{Fits, of_class}
use Rattle.jk_model_typing.specs.Groups.{Shape, Takes, Loads, Stores, Constructs, group_of}
use Rattle.jk_model_typing.specs.Rows.{IsGuarded, IsReceiver, Meets, AllMeet, IsOwnOrParent, ConstructsObject, ConstructsThis, replaced, is_made_at, is_fresh_this, Does, Row}
use Rattle.jk_model_typing.specs.Scopes.{CodeScope}
use Rattle.class_growth.specs.ScopesOver.{with_more}
use Rattle.class_growth.proofs.MoreClasses.{record-still, flags-before, package-still, subclass-before}
use Rattle.class_growth.proofs.TypesKept.{of_class-kept, fits-still}
use Rattle.class_growth.proofs.ScopesKept.{IsClosedScope}
use Rattle.class_growth.proofs.ShapesKept.{HasDemand, HasShapes, group_of-names_none, shape-still}

module _ (s : CodeScope) (more : List ClassRecord) (ordered : AreOrdered s.classes) (closed : IsClosedScope s) where
  -- ---- Demands.

  class_fits-still : (v : VType) (c : ClassId) → HasClass s.classes c → Fits s.classes v (of_class s.classes c)
      → Fits (s.classes ++ more) v (of_class (s.classes ++ more) c)
  class_fits-still v c there h =
      subst (Fits (s.classes ++ more) v) (sym (of_class-kept s.classes more c there)) (fits-still s.classes more v (of_class s.classes c) h)

  guarded-before : (member : Member) → HasClass s.classes (class_of member) → IsGuarded (with_more s more) member → IsGuarded s member
  guarded-before member there (flags, are, protected, instance, below, apart) = (
    flags,
    flags-before s.classes more member flags there are,
    protected,
    instance,
    subclass-before s.classes more ordered s.self closed.self (class_of member) below,
    λ one. apart (package-still s.classes more s.self (class_of member) one),
  )

  receiver-still : (named : ClassId) (member : Member) (v : VType) → HasClass s.classes named → HasClass s.classes (class_of member)
      → IsReceiver s named member v → IsReceiver (with_more s more) named member v
  receiver-still named member v named_there there h =
      record {
        fits = class_fits-still v named named_there h.fits;
        guarded = λ guard. class_fits-still v s.self closed.self (h.guarded (guarded-before member there guard));
      }

  meets-still : (d : Demand) (v : VType) → HasDemand s.classes d → Meets s d v → Meets (with_more s more) d v
  meets-still (Fitting t) v there h = fits-still s.classes more v t h
  meets-still (FittingEither t u) v there (inl h) = inl (fits-still s.classes more v t h)
  meets-still (FittingEither t u) v there (inr h) = inr (fits-still s.classes more v u h)
  meets-still (FittingBoth t u) v there (h, k) = (fits-still s.classes more v t h, fits-still s.classes more v u k)
  meets-still (Receiver named member) v there h = receiver-still named member v there.0 there.1 h
  meets-still (PutReceiver named m) v there (inl h) = inl (receiver-still named (Field m) v there.0 there.1 h)
  meets-still (PutReceiver named m) v there (inr h) = inr h
  meets-still d v there h = h

  all_meet-still : (ds : List Demand) (vs : List VType) → AllByRecursion (HasDemand s.classes) ds → AllMeet s ds vs → AllMeet (with_more s more) ds vs
  all_meet-still [] [] there h = tt
  all_meet-still (d ∷ ds) (v ∷ vs) there h = (meets-still d v there.0 h.0, all_meet-still ds vs there.1 h.1)
  all_meet-still ds vs there h = h

  -- ---- Constructors.

  constructs_object-still : (c : ClassId) (m : MemberId) (receiver : VType) (before : FrameType) (below : List VType) (after : FrameType)
      → HasClass s.classes c → HasClass s.classes m.class → ConstructsObject s c m receiver before below after
      → ConstructsObject (with_more s more) c m receiver before below after
  constructs_object-still c m receiver before below after there declared (place, fresh, made, may, e) = (
    place,
    fresh,
    made,
    λ guard. may (guarded-before (Method m) declared guard),
    e
        ∙ ap
        (λ new. record before { locals = replaced (is_made_at place) new before.locals; stack = replaced (is_made_at place) new below })
        (sym (of_class-kept s.classes more c there)),
  )

  own_or_parent-still : (c : ClassId) → IsOwnOrParent s c → IsOwnOrParent (with_more s more) c
  own_or_parent-still c (inl own) = inl own
  own_or_parent-still c (inr (r, is, parent)) = inr (r, record-still s.classes more s.self r is, parent)

  constructs_this-still : (c : ClassId) (receiver : VType) (before : FrameType) (below : List VType) (after : FrameType)
      → ConstructsThis s c receiver before below after → ConstructsThis (with_more s more) c receiver before below after
  constructs_this-still c receiver before below after (fresh, own, e) = (
    fresh,
    own_or_parent-still c own,
    e
        ∙ ap
        (λ new. record { locals = replaced is_fresh_this new before.locals; stack = replaced is_fresh_this new below; fresh = Bool.false })
        (sym (of_class-kept s.classes more s.self closed.self)),
  )

  -- ---- Rows.

  does-still : (place : ℕ) (shape : Shape) (before after : FrameType) → HasShapes s.classes shape → Does s place shape before after
      → Does (with_more s more) place shape before after
  does-still place (Takes demands gives) before after there (below, taken, stack, meet, e) =
      (below, taken, stack, all_meet-still demands taken there meet, e)
  does-still place (Loads demand n) before after there (v, at, meets, e) = (v, at, meets-still demand v there meets, e)
  does-still place (Stores demand n) before after there (below, v, stack, meets, within, e) =
      (below, v, stack, meets-still demand v there meets, within, e)
  does-still place (Constructs c m demands) before after there (below, receiver, taken, stack, meet, inl object) = (
    below,
    receiver,
    taken,
    stack,
    all_meet-still demands taken there.2 meet,
    inl (constructs_object-still c m receiver before below after there.0 there.1 object),
  )
  does-still place (Constructs c m demands) before after there (below, receiver, taken, stack, meet, inr this) =
      (below, receiver, taken, stack, all_meet-still demands taken there.2 meet, inr (constructs_this-still c receiver before below after this))
  does-still place shape before after there h = h

  pub row-still : (place : ℕ) (i : Instr) (before after : FrameType) → Row s place i before after → Row (with_more s more) place i before after
  row-still place i before after row =
      let kept = shape-still s more closed i (group_of i.op) row.shape (group_of-names_none i.op) row.shape_is in
      record {
        shape = row.shape;
        shape_is = kept.0;
        does = does-still place row.shape before after kept.1 row.does;
        room = row.room;
      }
