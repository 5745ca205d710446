-- Whether frames catch an object, by the first handler that suits it at the place where they stand.
use Rattle.std.proofs.Common.{inl, inr, ◌≡◌, ℕ, Bool, true, false, List, Option, Some, None, is_some, slice_get, refl, sym, ap, subst, ◌∙◌}
use Rattle.std.specs.Prelude.{IfNone, IfSome, MatchOption, ⊤}
use Rattle.std.proofs.lemmas.Bool.{both_ways}
use Rattle.std.proofs.lemmas.Option.{none-some, same_Some}
use Rattle.jk_model.specs.declared.frames.FrameHead.{FrameHead}
use Rattle.jk_model.specs.declared.identifiers.ClassId.{ClassId}
use Rattle.jk_model.specs.declared.identifiers.MemberId.{MemberId}
use Rattle.jk_model.specs.declared.values.Value.TheVariants as Held
use Rattle.jk_model_classes.specs.declared.records.Caught.{Caught}
use Rattle.jk_model_classes.specs.declared.records.ClassRecord.{ClassRecord}
use Rattle.jk_model_typing.specs.Scopes.{CodeScope, IsScopeOf}
use Rattle.jk_model_typing.specs.Typing.{Covers}
use Rattle.typing_lemmas.proofs.OneScope.{one-scope}
use Rattle.jk_model_frames.specs.Frames.{FrameState}
use Rattle.jk_model_domains.specs.Objects.{NamedObject, Object, class_type, object_named, type_of}
use Rattle.jk_model_heaps.specs.Instances.{IsA, IsInstance}
use Rattle.jk_model_heaps.specs.RunningCode.{RunsCode}
use Rattle.jk_model_heaps.specs.Workings.{Setting}
use Rattle.jk_model_unwinding.specs.Unwinding.{HasCaughtClass}
use Rattle.exception_unwind.specs.declared.catching.CodePlace.{CodePlace}
use Rattle.exception_unwind.specs.Handlers.{IsFirstSuited, IsOfCaught, NoneSuits}
use Rattle.exception_unwind.specs.Trials.{CatchesNowhere, IsCaughtBy, IsCaughtThere, IsTried, place_of}

-- ---- The class of an object.

module _ (x : Setting) (heap : List NamedObject) (a : ℕ) (object : Object) (there : object_named heap a ≡ Some object) where
  told_by : (o : Option ClassId)
      → MatchOption o ⊤ (λ (c : ClassId). IsInstance x.classes x.caps heap (Held.Obj a) (class_type c))
      → MatchOption o ⊤ (λ (c : ClassId). IsA x.classes (type_of object) (class_type c))
  told_by None h = tt
  told_by (Some c) (other, is, isa) =
      subst (λ (y : Object). IsA x.classes (type_of y) (class_type c)) (same_Some other object (sym is ∙ there)) isa

  has_by : (o : Option ClassId)
      → MatchOption o ⊤ (λ (c : ClassId). IsA x.classes (type_of object) (class_type c))
      → MatchOption o ⊤ (λ (c : ClassId). IsInstance x.classes x.caps heap (Held.Obj a) (class_type c))
  has_by None h = tt
  has_by (Some c) isa = (object, there, isa)

  told : (h : Caught) → HasCaughtClass x heap a h → IsOfCaught x.classes object h
  told h has = told_by h.class has

  has : (h : Caught) → IsOfCaught x.classes object h → HasCaughtClass x heap a h
  has h is = has_by h.class is

-- ---- A place.

module _ (classes : List ClassRecord) (heap : List NamedObject) (place : CodePlace) (a : ℕ) where
  method_at : (f : FrameState) → place_of f.head ≡ place → f.head.method ≡ place.method
  method_at f at = ap (λ (p : CodePlace). p.method) at

  stands_at : (f : FrameState) → place_of f.head ≡ place → f.head.at ≡ place.at
  stands_at f at = ap (λ (p : CodePlace). p.at) at

  pub no_method : place.method ≡ None → IsTried classes heap place a
  no_method none = λ x f same at h catches. none-some catches.code.method (sym (method_at f at ∙ none) ∙ catches.code.is_method)

  pub no_code : (m : MemberId) → place.method ≡ Some m → ((s : CodeScope) → IsScopeOf classes m s → ⊥) → IsTried classes heap place a
  no_code m is none = λ x f same at h catches.
      let method : catches.code.method ≡ m = same_Some catches.code.method m (sym catches.code.is_method ∙ method_at f at ∙ is) in
      none catches.code.scope
      (subst (λ (cs : List ClassRecord). IsScopeOf cs m catches.code.scope) same
      (subst (λ (k : MemberId). IsScopeOf x.classes k catches.code.scope) method catches.code.is_scope))

  module _ (m : MemberId) (is : place.method ≡ Some m) (s : CodeScope) (scope : IsScopeOf classes m s) (object : Object)
      (there : object_named heap a ≡ Some object) where
    same_code : (x : Setting) (f : FrameState) → x.classes ≡ classes → place_of f.head ≡ place → (code : RunsCode x.classes f) → code.scope ≡ s
    same_code x f same at code =
        let method : code.method ≡ m = same_Some code.method m (sym code.is_method ∙ method_at f at ∙ is) in
        one-scope x.classes m code.scope s (subst (λ (k : MemberId). IsScopeOf x.classes k code.scope) method code.is_scope)
        (subst (λ (cs : List ClassRecord). IsScopeOf cs m s) (sym same) scope)

    pub none_suits : NoneSuits classes s.code.handlers place.at object → IsTried classes heap place a
    none_suits none = λ x f same at h catches.
        let code = same_code x f same at catches.code in
        none catches.place h (subst (λ (y : CodeScope). slice_get y.code.handlers catches.place ≡ Some h) code catches.listed) (
          subst (Covers h) (stands_at f at) catches.covers,
          subst (λ (cs : List ClassRecord). IsOfCaught cs object h) same (told x heap a object there h catches.of_class),
        )

    pub one_suits : (n : ℕ) → IsFirstSuited classes s.code.handlers place.at object n → IsCaughtThere classes heap place a n
    one_suits n suited = λ x f same at need stands. elim stands [
      | inl none ↦ absurd (none-some m (sym none ∙ method_at f at ∙ is))
      | inr code ↦
          let here = same_code x f same at code in (
            suited.handler,
            record {
              no_need = need;
              code = code;
              place = suited.place;
              listed = subst (λ (y : CodeScope). slice_get y.code.handlers suited.place ≡ Some suited.handler) (sym here) suited.listed;
              covers = subst (Covers suited.handler) (sym (stands_at f at)) suited.suits.0;
              of_class = has x heap a object there suited.handler
                  (subst (λ (cs : List ClassRecord). IsOfCaught cs object suited.handler) (sym same) suited.suits.1);
              first = λ earlier g low listed covers class.
                  suited.first earlier g low (subst (λ (y : CodeScope). slice_get y.code.handlers earlier ≡ Some g) here listed) (
                    subst (Covers g) (stands_at f at) covers,
                    subst (λ (cs : List ClassRecord). IsOfCaught cs object g) same (told x heap a object there g class),
                  );
            },
            suited.begins_there,
          )
    ]

    -- what is told of handlers that are those of the code
    module _ (cs : List ClassRecord) (same_classes : cs ≡ classes) (handlers : List Caught) (same_handlers : handlers ≡ s.code.handlers) where
      matched : (o : Option ℕ) → MatchOption o (NoneSuits cs handlers place.at object) (λ n. IsFirstSuited cs handlers place.at object n)
          → MatchOption o (IsTried classes heap place a) (λ n. IsCaughtThere classes heap place a n)
      matched None none =
          none_suits
          (subst (λ (hs : List Caught). NoneSuits classes hs place.at object) same_handlers
          (subst (λ (ds : List ClassRecord). NoneSuits ds handlers place.at object) same_classes none))
      matched (Some n) first =
          one_suits n
          (subst (λ (hs : List Caught). IsFirstSuited classes hs place.at object n) same_handlers
          (subst (λ (ds : List ClassRecord). IsFirstSuited ds handlers place.at object n) same_classes first))

      none_of : (o : Option ℕ) → MatchOption o (IsTried classes heap place a) (λ n. IsCaughtThere classes heap place a n)
          → IfNone o (IsTried classes heap place a)
      none_of None h = h
      none_of (Some n) h = tt

      some_of : (o : Option ℕ) → MatchOption o (IsTried classes heap place a) (λ n. IsCaughtThere classes heap place a n)
          → IfSome o (λ n. IsCaughtThere classes heap place a n)
      some_of None h = tt
      some_of (Some n) h = h

      pub none_told : (o : Option ℕ) → MatchOption o (NoneSuits cs handlers place.at object) (λ n. IsFirstSuited cs handlers place.at object n)
          → IfNone o (IsTried classes heap place a)
      none_told o h = none_of o (matched o h)

      pub one_told : (o : Option ℕ) → MatchOption o (NoneSuits cs handlers place.at object) (λ n. IsFirstSuited cs handlers place.at object n)
          → IfSome o (λ n. IsCaughtThere classes heap place a n)
      one_told o h = some_of o (matched o h)

-- ---- A frame, by its head.

module _ (classes : List ClassRecord) (heap : List NamedObject) (head : FrameHead) (a : ℕ) where
  pub need_stands : (t : Bool) → t ≡ is_some head.need → t ≡ true → CatchesNowhere classes heap head a
  need_stands t test stands = λ x f same is h catches.
      let none : head.need ≡ None = ap (λ (k : FrameHead). k.need) (sym is) ∙ catches.no_need in
      both_ways t (test ∙ ap (λ (o : Option ClassId). is_some o) none) stands

  pub no_need : (t : Bool) → t ≡ is_some head.need → t ≡ false → head.need ≡ None
  no_need t test off = none_by head.need (sym test ∙ off)
    where
      none_by : (o : Option ClassId) → is_some o ≡ false → o ≡ None
      none_by None e = refl
      none_by (Some c) e = absurd cc

  pub tried_nowhere : IsTried classes heap (place_of head) a → CatchesNowhere classes heap head a
  tried_nowhere tried = λ x f same is h catches. tried x f same (ap place_of is) h catches

  pub told_nowhere : (o : Option ℕ) → IfNone o (IsTried classes heap (place_of head) a) → IfNone o (CatchesNowhere classes heap head a)
  told_nowhere None tried = tried_nowhere tried
  told_nowhere (Some n) tried = tt

  caught_by : head.need ≡ None → (n : ℕ) → IsCaughtThere classes heap (place_of head) a n → IsCaughtBy classes heap head a n
  caught_by none n there = λ x f same is stands.
      let need : f.head.need ≡ None = ap (λ (k : FrameHead). k.need) is ∙ none in
      (need, there x f same (ap place_of is) need stands)

  some_by : head.need ≡ None → (o : Option ℕ) → IfSome o (λ n. IsCaughtThere classes heap (place_of head) a n)
      → IfSome o (λ n. IsCaughtBy classes heap head a n)
  some_by none None h = tt
  some_by none (Some n) h = caught_by none n h

  pub told_there : (t : Bool) → t ≡ is_some head.need → t ≡ false → (o : Option ℕ)
      → IfSome o (λ n. IsCaughtThere classes heap (place_of head) a n) → IfSome o (λ n. IsCaughtBy classes heap head a n)
  told_there t test off o h = some_by (no_need t test off) o h
