-- A least typing stays the least one with more classes behind: whatever typing there is then, its references to new classes can be
-- lowered to null, since no instruction of the method pushes one, and so it is a typing among the classes in front.
use Rattle.std.proofs.Common.{◌≡◌, ℕ, zero, suc, ◌<◌, ◌≤◌, Bool, true, false, inl, inr, List, [], ◌∷◌, ◌++◌, length, map, flat_map, take, drop, Option, Some, None, Contains, refl, sym, ap, ◌∙◌, subst, arith, if◌then◌else◌}
use Rattle.std.specs.Prelude.{slice_get, ◌⊎◌}
use Rattle.std.specs.List.{AllByRecursion}
use Rattle.std.specs.Option.{option_map_or}
use Rattle.std.proofs.lemmas.Bool.{cases_Bool, cases_lt, leb-false, leb-true}
use Rattle.std.proofs.lemmas.List.{take-append-drop, take_all}
use Rattle.std.proofs.lemmas.Option.{slice_get_within}
use Rattle.list_lemmas.proofs.ItemsByPlace.{slice_get-from_take, slice_get-take, item_there}
use Rattle.list_lemmas.proofs.ItemsOfLists.{Contains-here, Contains-there}
use Rattle.jk_model.specs.declared.identifiers.ClassId.{ClassId}
use Rattle.jk_model.specs.declared.identifiers.MemberId.{MemberId}
use Rattle.jk_model.specs.declared.instructions.Instr.{Instr}
use Rattle.jk_model.specs.SystemTable.{method_number, system_classes}
use Rattle.jk_model_classes.specs.declared.records.BaseRef.{BaseRef}
use Rattle.jk_model_classes.specs.declared.records.BaseRef.TheVariants as Base
use Rattle.jk_model_classes.specs.declared.records.Caught.{Caught}
use Rattle.jk_model_classes.specs.declared.records.ClassRecord.{ClassRecord}
use Rattle.jk_model_classes.specs.declared.records.Link.TheVariants as Link
use Rattle.jk_model_classes.specs.declared.records.TypeRef.{TypeRef}
use Rattle.jk_model_classes.specs.Classes.{record_of, AreOrdered, HasClass, OBJECT, is_interface_record}
use Rattle.jk_model_classes.specs.SystemRecords.{AreSystemRecords}
use Rattle.class_lemmas.proofs.CodeOfMethods.{system_has_none}
use Rattle.jk_model_typing.specs.declared.frames.FrameType.{FrameType}
use Rattle.jk_model_typing.specs.declared.frames.VType.{VType}
use Rattle.jk_model_typing.specs.FrameTypes.{FrameFits, array_type, base_value, dims_value, erased_base, of_class, of_type, throwable, value_of, STRING, THROWABLE}
use Rattle.jk_model_typing.specs.Scopes.{CodeScope, IsScopeOf, own_receiver, parameter_values}
use Rattle.jk_model_typing.specs.Typing.{FitsAt, FrameAt, GoesWell, IsLeastTyping, IsStart, IsTyping, as_locals, caught_value, handler_frame}
use Rattle.class_growth.specs.ClosedClasses.{HasBase, HasType, IsClosed}
use Rattle.class_growth.specs.ScopesOver.{among, with_more}
use Rattle.class_growth.proofs.MoreClasses.{field-before, method-before, record-still, has_class-by_record}
use Rattle.class_growth.proofs.ScopesKept.{IsClosedScope, closed-scope, field-closed, method-closed, scope-before}
use Rattle.class_growth.proofs.ShapesKept.{parameters-kept}
use Rattle.class_growth.proofs.TypesKept.{frame_fits-still}
use Rattle.class_growth.proofs.TypingsKept.{caught_value-kept, own_receiver-kept, typing-still}
use Rattle.class_table.proofs.StandingAbove.{superclasses-lower}
use Rattle.type_frames.proofs.OrderOfFrames.{FrameFits-trans}
use Rattle.erased_typings.proofs.MarkedTypes.{is_marked, lowered_frame, IsPlain, IsPlainFrame, AreMarks, all-plain, frame-below}
use Rattle.erased_typings.proofs.MarkedRows.{PushesPlain, does-plain, shape-gives}
use Rattle.erased_typings.proofs.MarkedTypings.{BeginsPlain, lowered_frames, frame-from_lowered, start-plain, typing-lowered}
use Rattle.erased_typings.proofs.RowsBefore.{is_new, frame_fits-before, row-before}

-- ---- New classes as marked ones.

there-old : (classes : List ClassRecord) (c : ClassId) → HasClass classes c → is_new classes c ≡ false
there-old classes c there = elim (cases_Bool (is_new classes c)) [
  | inl yes_new ↦ absurd (omega (arith, there, leb-true (length classes) c.0 yes_new))
  | inr old ↦ old
]

marks-new : (classes all : List ClassRecord) → AreOrdered all → HasClass classes OBJECT → AreMarks all (is_new classes)
marks-new classes all ordered object =
    record {
      object = there-old classes OBJECT object;
      below = λ a b above new.
          elim (cases_Bool (is_new classes a)) [
            | inl e ↦ e
            | inr old ↦
                absurd (omega (arith, leb-true (length classes) b.0 new, leb-false (length classes) a.0 old, superclasses-lower all ordered a b above))
          ];
    }

-- ---- What is read of a type whose class is there.

module _ (classes all : List ClassRecord) (object : HasClass classes OBJECT) where
  class_old : (c : ClassId) (b : Bool) → HasClass classes c → is_new classes (if b then OBJECT else c) ≡ false
  class_old c true there = there-old classes OBJECT object
  class_old c false there = there-old classes c there

  base_old : (base : BaseRef) → HasBase classes base → is_marked (is_new classes) (erased_base all base) ≡ false
  base_old (Base.Class c) there = class_old c (is_interface_record (record_of all c)) there
  base_old base there = refl

  type_old : (t : TypeRef) → HasType classes t → IsPlain (is_new classes) (of_type all t)
  type_old t there = base_old t.base there

  base_value_old : (base : BaseRef) → HasBase classes base → IsPlain (is_new classes) (base_value all base)
  base_value_old Base.Long there = tt
  base_value_old (Base.Class c) there = type_old (array_type 0 (Base.Class c)) there
  base_value_old base there = tt

  dims_value_old : (dims : ℕ) (base : BaseRef) → HasBase classes base → IsPlain (is_new classes) (dims_value all dims base)
  dims_value_old zero base there = base_value_old base there
  dims_value_old (suc dims) base there = type_old (array_type (suc dims) base) there

  value_old : (t : TypeRef) → HasType classes t → IsPlain (is_new classes) (value_of all t)
  value_old t there = dims_value_old t.dims t.base there

  values_old : (ts : List TypeRef) → ((t : TypeRef) → Contains ts t → HasType classes t)
      → AllByRecursion (IsPlain (is_new classes)) (map (value_of all) ts)
  values_old [] there = tt
  values_old (t ∷ ts) there = (value_old t (there t (Contains-here t ts)), values_old ts (λ u on. there u (Contains-there u t ts on)))

  results_old : (o : Option TypeRef) → ((t : TypeRef) → o ≡ Some t → HasType classes t)
      → AllByRecursion (IsPlain (is_new classes)) (option_map_or (λ (t : TypeRef). value_of all t ∷ []) o [])
  results_old None there = tt
  results_old (Some t) there = (value_old t (there t refl), tt)

  caught_old : HasClass classes THROWABLE → (o : Option ClassId) → ((c : ClassId) → o ≡ Some c → HasClass classes c)
      → IsPlain (is_new classes) (elim o as (λ _. VType) [ Some c ↦ of_class all c | None ↦ throwable ])
  caught_old throws None there = there-old classes THROWABLE throws
  caught_old throws (Some c) there = type_old (array_type 0 (Base.Class c)) (there c refl)

-- ---- Scopes of closed classes, with more behind.

module _ (s : CodeScope) (more : List ClassRecord) (closed : IsClosedScope s) (throws : HasClass s.classes THROWABLE) where
  abbrev all : List ClassRecord
  all = s.classes ++ more

  object_there : HasClass s.classes OBJECT
  object_there = omega (arith, throws)

  string_there : HasClass s.classes STRING
  string_there = omega (arith, throws)

  pushes-old : PushesPlain (with_more s more) (is_new s.classes)
  pushes-old =
      record {
        own = type_old s.classes all object_there (array_type 0 (Base.Class s.self)) closed.self;
        text = there-old s.classes STRING string_there;
        types = λ i t dims leads.
            type_old s.classes all object_there (array_type dims t.base) (closed.links leads.0 (Link.Class t) leads.2);
        fields = λ i c m field uses.
            let there = (closed.links uses.0.0 (Link.Field c m) uses.0.2).1 in
            value_old s.classes all object_there field.kind
            (field-closed s.classes closed.classes m field (field-before s.classes more m field there uses.1));
        results = λ i c m method uses.
            let there = (closed.links uses.0.0 (Link.Method c m) uses.0.2).1 in
            let mentioned = method-closed s.classes closed.classes m method (method-before s.classes more m method there uses.1) in
            results_old s.classes all object_there method.result mentioned.result;
        constructed = λ i c m method uses.
            type_old s.classes all object_there (array_type 0 (Base.Class c)) (closed.links uses.0.0 (Link.Method c m) uses.0.2).0;
      }

  begins-old : BeginsPlain (with_more s more) (is_new s.classes)
  begins-old =
      record {
        parameters = values_old s.classes all object_there s.method.params closed.method.params;
        caught = λ h is. caught_old s.classes all object_there throws h.class (closed.handlers h is);
      }

  -- ---- What is judged with more behind was judged before, where frames are of classes that are there.

  module _ (ordered : AreOrdered s.classes) where
    fits_at-before : (frames : List (Option FrameType)) (place : ℕ) (f : FrameType) → IsPlainFrame (is_new s.classes) f
        → FitsAt (with_more s more) frames place f → FitsAt s frames place f
    fits_at-before frames place f old (g, at, fits) = (g, at, frame_fits-before s.classes more ordered f g old fits)

    handler-before : (frames : List (Option FrameType)) (h : Caught) (locals : List VType) (fresh : Bool) → Contains s.code.handlers h
        → AllByRecursion (IsPlain (is_new s.classes)) locals
        → FitsAt (with_more s more) frames h.handler (handler_frame (with_more s more) h locals fresh)
        → FitsAt s frames h.handler (handler_frame s h locals fresh)
    handler-before frames h locals fresh is old fits =
        let kept = caught_value-kept s more h (closed.handlers h is) in
        let caught : IsPlain (is_new s.classes) (caught_value s h) = subst (λ (v : VType). IsPlain (is_new s.classes) v) kept (begins-old.caught h is) in
        let fits_here : FitsAt (with_more s more) frames h.handler (handler_frame s h locals fresh) =
        subst (λ (v : VType). FitsAt (with_more s more) frames h.handler (record { locals = locals; stack = v ∷ []; fresh = fresh })) kept fits in
        fits_at-before frames h.handler (handler_frame s h locals fresh) (old, (caught, tt)) fits_here

    goes_well-before : (frames : List (Option FrameType)) (place : ℕ) (i : Instr) (f : FrameType) → IsPlainFrame (is_new s.classes) f
        → GoesWell (with_more s more) frames place i f → GoesWell s frames place i f
    goes_well-before frames place i f old well =
        let after : IsPlainFrame (is_new s.classes) well.after =
        does-plain (with_more s more) (is_new s.classes) place f well.after old pushes-old.own well.row.shape
        (shape-gives (with_more s more) (is_new s.classes) pushes-old i well.row.shape well.row.shape_is) well.row.does in
        record {
          after = well.after;
          row = row-before s more ordered closed i place f well.after old well.row;
          goes_on = λ next goes.
              let on = well.goes_on next goes in
              (on.0, on.1, fits_at-before frames on.0 well.after after on.2);
          caught = λ h is covers. handler-before frames h f.locals f.fresh is old.0 (well.caught h is covers);
          caught_after = λ h is covers stores. handler-before frames h well.after.locals f.fresh is after.0 (well.caught_after h is covers stores);
        }

    start-before : (f : FrameType) → IsStart (with_more s more) f → IsStart s f
    start-before f start =
        record {
          given = start.given;
          given_is =
              start.given_is
              ∙ ap (λ receiver. receiver ++ flat_map as_locals (parameter_values (with_more s more) s.method)) (own_receiver-kept s more closed.self)
              ∙ ap (λ values. own_receiver s ++ flat_map as_locals values) (parameters-kept s more s.method closed.method);
          room = start.room;
          locals = start.locals;
          stack = start.stack;
          fresh = start.fresh;
        }

-- ---- Typings.

module _ (classes more : List ClassRecord) (ordered : AreOrdered (classes ++ more)) (closed : IsClosed classes)
    (throws : HasClass classes THROWABLE) (m : MemberId) (there : HasClass classes m.class) where
  in_order : AreOrdered classes
  in_order c r is = ordered c r (record-still classes more c r is)

  -- a typing of frames whose classes are there was one before
  typing-before : (frames : List (Option FrameType)) → IsTyping (classes ++ more) m frames
      → ((place : ℕ) (f : FrameType) → FrameAt frames place f → IsPlainFrame (is_new classes) f) → IsTyping classes m frames
  typing-before frames typing old =
      let s : CodeScope = among typing.scope classes in
      let is : IsScopeOf classes m s = scope-before classes more m typing.scope there typing.scope_is in
      let shut : IsClosedScope s = closed-scope classes closed m s is in
      let e = typing.scope_is.all in
      let start : IsStart (with_more s more) typing.start = subst (λ all. IsStart (among typing.scope all) typing.start) e typing.start_is in
      let plain = start-plain (with_more s more) (is_new classes) (marks-new classes (classes ++ more) ordered (object_there s more shut throws)) ordered
      (pushes-old s more shut throws) (begins-old s more shut throws) typing.start start in
      record {
        scope = s;
        scope_is = is;
        as_many = typing.as_many;
        sized = typing.sized;
        start = typing.start;
        start_is = start-before s more shut throws in_order typing.start start;
        first = fits_at-before s more shut throws in_order frames 0 typing.start plain
            (subst (λ all. FitsAt (among typing.scope all) frames 0 typing.start) e typing.first);
        each = λ place i f instr at.
            goes_well-before s more shut throws in_order frames place i f (old place f at)
            (subst (λ all. GoesWell (among typing.scope all) frames place i f) e (typing.each place i f instr at));
      }

  module _ (other : List (Option FrameType)) (typing : IsTyping (classes ++ more) m other) where
    -- the typing without the classes behind
    abbrev low : List (Option FrameType)
    low = lowered_frames (is_new classes) other

    low-typing : IsTyping (classes ++ more) m low
    low-typing =
        let s : CodeScope = among typing.scope classes in
        let is : IsScopeOf classes m s = scope-before classes more m typing.scope there typing.scope_is in
        let shut : IsClosedScope s = closed-scope classes closed m s is in
        let e = typing.scope_is.all in
        typing-lowered (classes ++ more) m other typing (is_new classes)
        (marks-new classes (classes ++ more) ordered (object_there s more shut throws)) ordered
        (subst (λ all. PushesPlain (among typing.scope all) (is_new classes)) (sym e) (pushes-old s more shut throws))
        (subst (λ all. BeginsPlain (among typing.scope all) (is_new classes)) (sym e) (begins-old s more shut throws))

    low-typing-before : IsTyping classes m low
    low-typing-before =
        typing-before low low-typing
        (λ place f at.
        let from = frame-from_lowered (is_new classes) other place f at in
        subst (IsPlainFrame (is_new classes)) from.2 (all-plain (is_new classes) from.0.locals, all-plain (is_new classes) from.0.stack))

  pub least-still : (frames : List (Option FrameType)) → IsLeastTyping classes m frames → IsLeastTyping (classes ++ more) m frames
  least-still frames least =
      record {
        typing = typing-still classes more in_order closed m frames least.typing;
        least = λ other typing place f at.
            let before = least.least (low other typing) (low-typing-before other typing) place f at in
            let from = frame-from_lowered (is_new classes) other place before.0 before.1 in
            let fits : FrameFits classes f (lowered_frame (is_new classes) from.0) = subst (FrameFits classes f) (sym from.2) before.2 in
            let below = frame-below (is_new classes) (classes ++ more) from.0 (typing.sized place from.0 from.1).usable in (
              from.0,
              from.1,
              FrameFits-trans (classes ++ more) ordered f (lowered_frame (is_new classes) from.0) from.0
                  (frame_fits-still classes more f (lowered_frame (is_new classes) from.0) fits) below,
            );
      }

-- ---- Among some first classes.

-- a method with code is of no system class, so that the system classes stand in front of its own
system_among : (classes : List ClassRecord) (stood : ℕ) (m : MemberId) → AreSystemRecords (take (length system_classes) classes)
    → (s : CodeScope) → IsScopeOf (take stood classes) m s → length system_classes ≤ length (take stood classes)
system_among classes stood m system s is = elim (cases_lt (length (take stood classes)) (length system_classes)) [
  | inr enough ↦ enough
  | inl few ↦
      let within = slice_get_within (take stood classes) m.class.0 is.class is.class_is in
      let at : slice_get classes m.class.0 ≡ Some is.class = slice_get-from_take classes stood m.class.0 is.class is.class_is in
      let low : m.class.0 < length system_classes = omega (arith, within, few) in
      let front : slice_get (take (length system_classes) classes) m.class.0 ≡ Some is.class =
      slice_get-take classes (length system_classes) m.class.0 low ∙ at in
      let entry = item_there system_classes m.class.0 low in
      let said = system.each m.class.0 entry.0 is.class entry.1 front in
      let within_methods = slice_get_within is.class.methods m.index s.method is.method in
      let method = item_there entry.0.methods m.index (omega (arith, within_methods, said.method_count)) in
      let is_method = said.methods m.index method.0 s.method method.1 is.method in
      absurd (system_has_none (method_number m.class.0 m.index) s.code (sym is_method.body ∙ is.body))
]

pub least-by_first : (classes : List ClassRecord) (stood : ℕ) (m : MemberId) (frames : List (Option FrameType)) → AreOrdered classes
    → AreSystemRecords (take (length system_classes) classes) → (stood ≡ length classes) ⊎ IsClosed (take stood classes)
    → IsLeastTyping (take stood classes) m frames → IsLeastTyping classes m frames
least-by_first classes stood m frames ordered system (inl whole) least =
    subst (λ some. IsLeastTyping some m frames) (take_all stood classes (omega (arith, whole))) least
least-by_first classes stood m frames ordered system (inr closed) least =
    let joined = take-append-drop stood classes in
    let is = least.typing.scope_is in
    let many = system_among classes stood m system least.typing.scope is in
    let all : 45 ≡ length system_classes = refl in
    let throws : HasClass (take stood classes) THROWABLE = omega (arith, all, many) in
    subst (λ every. IsLeastTyping every m frames) joined
    (least-still (take stood classes) (drop stood classes) (subst AreOrdered (sym joined) ordered) closed throws m
    (has_class-by_record (take stood classes) m.class is.class is.class_is) frames least)

pub least-stays : (classes more : List ClassRecord) (m : MemberId) (frames : List (Option FrameType)) → AreOrdered (classes ++ more)
    → IsClosed classes → length system_classes ≤ length classes → IsLeastTyping classes m frames → IsLeastTyping (classes ++ more) m frames
least-stays classes more m frames ordered closed many least =
    let all : 45 ≡ length system_classes = refl in
    let is = least.typing.scope_is in
    least-still classes more ordered closed (omega (arith, all, many)) m (has_class-by_record classes m.class is.class is.class_is) frames least
