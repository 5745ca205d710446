-- An instruction that may begin with a frame among more classes could begin with it among those in front, where these are closed and
-- in order, and all classes in the frame are of these.
use Rattle.std.proofs.Common.{◌≡◌, ℕ, ◌+◌, Bool, false, List, [], ◌∷◌, ◌++◌, refl, sym, ap, subst, ◌∙◌, inl, inr, arith}
use Rattle.std.specs.Prelude.{length, nat_le}
use Rattle.std.specs.List.{AllByRecursion}
use Rattle.std.proofs.lemmas.Bool.{leb-false}
use Rattle.jk_model.specs.declared.identifiers.ClassId.{ClassId}
use Rattle.jk_model.specs.declared.identifiers.MemberId.{MemberId}
use Rattle.jk_model.specs.declared.instructions.Instr.{Instr}
use Rattle.jk_model.proofs.EachItem.{all_at, all_back}
use Rattle.jk_model_classes.specs.declared.records.BaseRef.{BaseRef}
use Rattle.jk_model_classes.specs.declared.records.BaseRef.TheVariants as Base
use Rattle.jk_model_classes.specs.declared.records.ClassRecord.{ClassRecord}
use Rattle.jk_model_classes.specs.declared.records.FieldRecord.{FieldRecord}
use Rattle.jk_model_classes.specs.declared.records.Link.TheVariants as Link
use Rattle.jk_model_classes.specs.declared.records.Member.{Member}
use Rattle.jk_model_classes.specs.declared.records.Member.TheVariants.{Field, Method}
use Rattle.jk_model_classes.specs.declared.records.MethodRecord.{MethodRecord}
use Rattle.jk_model_classes.specs.declared.records.TypeRef.{TypeRef}
use Rattle.jk_model_classes.specs.Classes.{HasClass, AreOrdered}
use Rattle.jk_model_classes.specs.Lookups.{class_of}
use Rattle.jk_model_typing.specs.declared.frames.Demand.{Demand}
use Rattle.jk_model_typing.specs.declared.frames.Demand.TheVariants.{Fitting, FittingEither, FittingBoth, Reference, Receiver, PutReceiver}
use Rattle.jk_model_typing.specs.declared.frames.FrameType.{FrameType}
use Rattle.jk_model_typing.specs.declared.frames.VType.{VType}
use Rattle.jk_model_typing.specs.declared.frames.VType.TheVariants.{Unusable, Int, Long, Null, Ref}
use Rattle.jk_model_typing.specs.FrameTypes.{IsClassBelow, RefFits, Fits, EachFits, FrameFits, array_type, of_class}
use Rattle.jk_model_typing.specs.Groups.{Group, Shape, ReturnsInt, ReturnsLong, ReturnsReference, GetsStatic, PutsStatic, GetsField, PutsField, CallsVirtual, CallsSpecial, CallsStatic, CallsInterface, MakesArray, MakesArrays, Casts, Takes, Loads, Stores, Constructs, group_of}
use Rattle.jk_model_typing.specs.Rows.{Answers, arguments, ConstructsObject, ConstructsThis, Does, HasShape, IsGuarded, IsOwnOrParent, IsReceiver, Meets, AllMeet, Row, UsesField, UsesMethod, is_fresh_this, is_made_at, replaced}
use Rattle.jk_model_typing.specs.Scopes.{CodeScope}
use Rattle.class_growth.specs.ScopesOver.{with_more}
use Rattle.class_growth.proofs.MoreClasses.{field-before, flags-still, method-before, package-before, record-kept, subclass-before, subclass-still}
use Rattle.class_growth.proofs.ScopesKept.{IsClosedScope}
use Rattle.class_growth.proofs.ShapesKept.{HasDemand, HasShapes, arguments-kept, field_value-kept, group_of-names_none, method_results-kept, method_there, shape-still, type_there}
use Rattle.class_growth.proofs.TypesKept.{of_class-kept, of_type-kept, value_of-kept}
use Rattle.erased_typings.proofs.MarkedTypes.{is_marked, IsPlain, IsPlainFrame}

-- ---- Classes that are new.

-- the class doesn't stand in front
abbrev pub is_new : List ClassRecord → ClassId → Bool
is_new classes c = nat_le (length classes) c.0

pub there-not_new : (classes : List ClassRecord) (c : ClassId) → is_new classes c ≡ false → HasClass classes c
there-not_new classes c e = omega (arith, leb-false (length classes) c.0 e)

module _ (classes more : List ClassRecord) (ordered : AreOrdered classes) where
  -- ---- Fitting.

  class_below-before : (a b : BaseRef) → is_marked (is_new classes) a ≡ false → IsClassBelow (classes ++ more) a b → IsClassBelow classes a b
  class_below-before (Base.Class a) (Base.Class b) old h = subclass-before classes more ordered a (there-not_new classes a old) b h
  class_below-before a b old h = h

  ref_fits-before : (a b : TypeRef) → is_marked (is_new classes) a.base ≡ false → RefFits (classes ++ more) a b → RefFits classes a b
  ref_fits-before a b old (inl same) = inl same
  ref_fits-before a b old (inr (inl (dims, below))) = inr (inl (dims, class_below-before a.base b.base old below))
  ref_fits-before a b old (inr (inr object)) = inr (inr object)

  pub fits-before : (a b : VType) → IsPlain (is_new classes) a → Fits (classes ++ more) a b → Fits classes a b
  fits-before a Unusable old h = tt
  fits-before Null (Ref b) old h = tt
  fits-before (Ref a) (Ref b) old h = ref_fits-before a b old h
  fits-before a b old h = h

  each_fits-before : (xs ys : List VType) → AllByRecursion (IsPlain (is_new classes)) xs → EachFits (classes ++ more) xs ys → EachFits classes xs ys
  each_fits-before [] [] old h = tt
  each_fits-before (a ∷ xs) (b ∷ ys) old h = (fits-before a b old.0 h.0, each_fits-before xs ys old.1 h.1)
  each_fits-before xs ys old h = h

  pub frame_fits-before : (a b : FrameType) → IsPlainFrame (is_new classes) a → FrameFits (classes ++ more) a b → FrameFits classes a b
  frame_fits-before a b old h =
      record {
        locals = each_fits-before a.locals b.locals old.0 h.locals;
        stack = each_fits-before a.stack b.stack old.1 h.stack;
        usable = h.usable;
        fresh = h.fresh;
      }

module _ (s : CodeScope) (more : List ClassRecord) (ordered : AreOrdered s.classes) (closed : IsClosedScope s) (i : Instr) where
  -- ---- Shapes.

  uses_field-before : (c : ClassId) (m : MemberId) (field : FieldRecord) → UsesField (with_more s more) i c m field → UsesField s i c m field
  uses_field-before c m field (leads, is) =
      (leads, field-before s.classes more m field (closed.links leads.0 (Link.Field c m) leads.2).1 is)

  uses_method-before : (c : ClassId) (m : MemberId) (method : MethodRecord) → UsesMethod (with_more s more) i c m method → UsesMethod s i c m method
  uses_method-before c m method (leads, is) =
      (leads, method-before s.classes more m method (closed.links leads.0 (Link.Method c m) leads.2).1 is)

  answers-before : (v : VType) → Answers (with_more s more) v → Answers s v
  answers-before v (t, is, e) = (t, is, e ∙ value_of-kept s.classes more t (closed.method.result t is))

  takes : {ds es : List Demand} {vs ws : List VType} (shape : Shape) → shape ≡ Takes ds vs → ds ≡ es → vs ≡ ws → shape ≡ Takes es ws
  takes {ds = ds} {es = es} {vs = vs} {ws = ws} shape e demands gives = e ∙ ap (λ xs. Takes xs vs) demands ∙ ap (Takes es) gives

  shape-before : (g : Group) (shape : Shape) → HasShape (with_more s more) i g shape → HasShape s i g shape
  shape-before ReturnsInt shape (answers, e) = (answers-before Int answers, e)
  shape-before ReturnsLong shape (answers, e) = (answers-before Long answers, e)
  shape-before ReturnsReference shape (t, answers, e) = (t, answers-before (Ref t) answers, e)
  shape-before GetsStatic shape (c, m, field, uses, e) =
      let before = uses_field-before c m field uses in
      let kept = field_value-kept s more closed i c m field before in
      (c, m, field, before, takes shape e refl (ap (λ v. v ∷ []) kept))
  shape-before PutsStatic shape (c, m, field, uses, e) =
      let before = uses_field-before c m field uses in
      let kept = field_value-kept s more closed i c m field before in
      (c, m, field, before, takes shape e (ap (λ v. Fitting v ∷ []) kept) refl)
  shape-before GetsField shape (c, m, field, uses, e) =
      let before = uses_field-before c m field uses in
      let kept = field_value-kept s more closed i c m field before in
      (c, m, field, before, takes shape e refl (ap (λ v. v ∷ []) kept))
  shape-before PutsField shape (c, m, field, uses, e) =
      let before = uses_field-before c m field uses in
      let kept = field_value-kept s more closed i c m field before in
      (c, m, field, before, takes shape e (ap (λ v. PutReceiver c m ∷ Fitting v ∷ []) kept) refl)
  shape-before CallsVirtual shape (c, m, method, uses, e) =
      let before = uses_method-before c m method uses in
      let given = ap (λ ds. Receiver c (Method m) ∷ ds) (arguments-kept s more closed i c m method before) in
      (c, m, method, before, takes shape e given (method_results-kept s more closed i c m method before))
  shape-before CallsSpecial shape (c, m, method, uses, inl (named, e)) =
      let before = uses_method-before c m method uses in
      (c, m, method, before, inl (named, e ∙ ap (Constructs c m) (arguments-kept s more closed i c m method before)))
  shape-before CallsSpecial shape (c, m, method, uses, inr (named, below, e)) =
      let before = uses_method-before c m method uses in
      let named_class = of_class-kept s.classes more c (method_there s more closed i c m method before).0 in
      let own_class = of_class-kept s.classes more s.self closed.self in
      let demands : FittingBoth (of_class (s.classes ++ more) c) (of_class (s.classes ++ more) s.self) ∷ arguments (with_more s more) method
      ≡ FittingBoth (of_class s.classes c) (of_class s.classes s.self) ∷ arguments s method
      = rw (named_class, own_class, arguments-kept s more closed i c m method before) refl in (
        c,
        m,
        method,
        before,
        inr (
          named,
          subclass-before s.classes more ordered s.self closed.self c below,
          takes shape e demands (method_results-kept s more closed i c m method before),
        ),
      )
  shape-before CallsStatic shape (c, m, method, uses, e) =
      let before = uses_method-before c m method uses in (
        c,
        m,
        method,
        before,
        takes shape e (arguments-kept s more closed i c m method before) (method_results-kept s more closed i c m method before),
      )
  shape-before CallsInterface shape (c, m, method, uses, e) =
      let before = uses_method-before c m method uses in
      let given = ap (λ ds. Reference ∷ ds) (arguments-kept s more closed i c m method before) in
      (c, m, method, before, takes shape e given (method_results-kept s more closed i c m method before))
  shape-before MakesArray shape (t, leads, few, e) =
      let kept = of_type-kept s.classes more (array_type (t.dims + 1) t.base) (type_there s more closed i t leads) in
      (t, leads, few, takes shape e refl (ap (λ v. v ∷ []) kept))
  shape-before MakesArrays shape (t, n, leads, b, some, few, e) =
      let kept = of_type-kept s.classes more t (type_there s more closed i t leads) in
      (t, n, leads, b, some, few, takes shape e refl (ap (λ v. v ∷ []) kept))
  shape-before Casts shape (t, leads, e) =
      let kept = of_type-kept s.classes more t (type_there s more closed i t leads) in
      (t, leads, takes shape e refl (ap (λ v. v ∷ []) kept))
  shape-before g shape h = h

  -- ---- Demands.

  class_fits-before : (v : VType) (c : ClassId) → HasClass s.classes c → IsPlain (is_new s.classes) v
      → Fits (s.classes ++ more) v (of_class (s.classes ++ more) c) → Fits s.classes v (of_class s.classes c)
  class_fits-before v c there old h =
      fits-before s.classes more ordered v (of_class s.classes c) old
      (subst (Fits (s.classes ++ more) v) (of_class-kept s.classes more c there) h)

  guarded-still : (member : Member) → HasClass s.classes (class_of member) → IsGuarded s member → IsGuarded (with_more s more) member
  guarded-still member there (flags, are, protected, instance, below, apart) = (
    flags,
    flags-still s.classes more member flags are,
    protected,
    instance,
    subclass-still s.classes more s.self (class_of member) below,
    λ one. apart (package-before s.classes more s.self (class_of member) closed.self there one),
  )

  receiver-before : (named : ClassId) (member : Member) (v : VType) → HasClass s.classes named → HasClass s.classes (class_of member)
      → IsPlain (is_new s.classes) v → IsReceiver (with_more s more) named member v → IsReceiver s named member v
  receiver-before named member v named_there there old h =
      record {
        fits = class_fits-before v named named_there old h.fits;
        guarded = λ guard. class_fits-before v s.self closed.self old (h.guarded (guarded-still member there guard));
      }

  meets-before : (d : Demand) (v : VType) → HasDemand s.classes d → IsPlain (is_new s.classes) v → Meets (with_more s more) d v → Meets s d v
  meets-before (Fitting t) v there old h = fits-before s.classes more ordered v t old h
  meets-before (FittingEither t u) v there old (inl h) = inl (fits-before s.classes more ordered v t old h)
  meets-before (FittingEither t u) v there old (inr h) = inr (fits-before s.classes more ordered v u old h)
  meets-before (FittingBoth t u) v there old (h, k) =
      (fits-before s.classes more ordered v t old h, fits-before s.classes more ordered v u old k)
  meets-before (Receiver named member) v there old h = receiver-before named member v there.0 there.1 old h
  meets-before (PutReceiver named m) v there old (inl h) = inl (receiver-before named (Field m) v there.0 there.1 old h)
  meets-before (PutReceiver named m) v there old (inr h) = inr h
  meets-before d v there old h = h

  all_meet-before : (ds : List Demand) (vs : List VType) → AllByRecursion (HasDemand s.classes) ds → AllByRecursion (IsPlain (is_new s.classes)) vs
      → AllMeet (with_more s more) ds vs → AllMeet s ds vs
  all_meet-before [] [] there old h = tt
  all_meet-before (d ∷ ds) (v ∷ vs) there old h = (meets-before d v there.0 old.0 h.0, all_meet-before ds vs there.1 old.1 h.1)
  all_meet-before ds vs there old h = h

  -- ---- Constructors.

  constructs_object-before : (c : ClassId) (m : MemberId) (receiver : VType) (before : FrameType) (below : List VType) (after : FrameType)
      → HasClass s.classes c → HasClass s.classes m.class → ConstructsObject (with_more s more) c m receiver before below after
      → ConstructsObject s c m receiver before below after
  constructs_object-before c m receiver before below after there there_m (place, fresh, made, may, e) = (
    place,
    fresh,
    made,
    λ guard. may (guarded-still (Method m) there_m guard),
    e
        ∙ ap
        (λ new. record before { locals = replaced (is_made_at place) new before.locals; stack = replaced (is_made_at place) new below })
        (of_class-kept s.classes more c there),
  )

  own_or_parent-before : (c : ClassId) → IsOwnOrParent (with_more s more) c → IsOwnOrParent s c
  own_or_parent-before c (inl own) = inl own
  own_or_parent-before c (inr (r, is, parent)) = inr (r, sym (record-kept s.classes more s.self closed.self) ∙ is, parent)

  constructs_this-before : (c : ClassId) (receiver : VType) (before : FrameType) (below : List VType) (after : FrameType)
      → ConstructsThis (with_more s more) c receiver before below after → ConstructsThis s c receiver before below after
  constructs_this-before c receiver before below after (fresh, own, e) = (
    fresh,
    own_or_parent-before c own,
    e
        ∙ ap
        (λ new. record { locals = replaced is_fresh_this new before.locals; stack = replaced is_fresh_this new below; fresh = false })
        (of_class-kept s.classes more s.self closed.self),
  )

  -- ---- Rows.

  module _ (place : ℕ) (before after : FrameType) (old : IsPlainFrame (is_new s.classes) before) where
    taken_old : (below taken : List VType) → before.stack ≡ below ++ taken → AllByRecursion (IsPlain (is_new s.classes)) taken
    taken_old below taken stack = all_back (IsPlain (is_new s.classes)) below taken (rw stack at old.1)

    does-before : (shape : Shape) → HasShapes s.classes shape → Does (with_more s more) place shape before after → Does s place shape before after
    does-before (Takes demands gives) there (below, taken, stack, meet, e) =
        (below, taken, stack, all_meet-before demands taken there (taken_old below taken stack) meet, e)
    does-before (Loads demand n) there (v, at, meets, e) =
        (v, at, meets-before demand v there (all_at (IsPlain (is_new s.classes)) before.locals n v old.0 at) meets, e)
    does-before (Stores demand n) there (below, v, stack, meets, within, e) =
        (below, v, stack, meets-before demand v there (taken_old below (v ∷ []) stack).0 meets, within, e)
    does-before (Constructs c m demands) there (below, receiver, taken, stack, meet, inl object) = (
      below,
      receiver,
      taken,
      stack,
      all_meet-before demands taken there.2 (taken_old below (receiver ∷ taken) stack).1 meet,
      inl (constructs_object-before c m receiver before below after there.0 there.1 object),
    )
    does-before (Constructs c m demands) there (below, receiver, taken, stack, meet, inr this) = (
      below,
      receiver,
      taken,
      stack,
      all_meet-before demands taken there.2 (taken_old below (receiver ∷ taken) stack).1 meet,
      inr (constructs_this-before c receiver before below after this),
    )
    does-before shape there h = h

    pub row-before : Row (with_more s more) place i before after → Row s place i before after
    row-before row =
        let shape_is = shape-before (group_of i.op) row.shape row.shape_is in
        let there = (shape-still s more closed i (group_of i.op) row.shape (group_of-names_none i.op) shape_is).1 in
        record {
          shape = row.shape;
          shape_is = shape_is;
          does = does-before row.shape there row.does;
          room = row.room;
        }
