-- A frame that begins a method fits its least typing, and what it is given has room in its locals.
use Rattle.std.proofs.Common.{inl, inr, ◌≡◌, ◌⊎◌, ℕ, zero, suc, ◌-◌, ◌≤◌, Bool, true, false, IsTrue, List, [], ◌∷◌, ◌++◌, length, map, flat_map, replicate, Option, refl, sym, subst}
use Rattle.std.specs.Prelude.{IsFalse, if◌then◌else◌}
use Rattle.std.specs.List.{AllByRecursion}
use Rattle.jk_model.specs.Flags.{has, STATIC}
use Rattle.jk_model.specs.declared.identifiers.MemberId.{MemberId}
use Rattle.jk_model.specs.declared.values.Value.{Value}
use Rattle.jk_model.specs.declared.values.Value.TheVariants as Held
use Rattle.jk_model_classes.specs.declared.records.Body.TheVariants as Does
use Rattle.jk_model_classes.specs.declared.records.LinkedCode.{LinkedCode}
use Rattle.jk_model_classes.specs.declared.records.MethodRecord.{MethodRecord}
use Rattle.jk_model_classes.specs.declared.records.TypeRef.{TypeRef}
use Rattle.jk_model_classes.specs.Lookups.{MethodIs}
use Rattle.jk_model_typing.specs.declared.frames.FrameType.{FrameType}
use Rattle.jk_model_typing.specs.declared.frames.VType.{VType}
use Rattle.jk_model_typing.specs.declared.frames.VType.TheVariants.{Unusable, Long, FreshThis}
use Rattle.jk_model_typing.specs.FrameTypes.{IsUsable, of_class, value_of}
use Rattle.jk_model_typing.specs.Scopes.{CodeScope, IsScopeOf, is_init, own_receiver, parameter_values}
use Rattle.jk_model_typing.specs.Typing.{FitsAt, IsLeastTyping, IsStart, as_locals as type_locals}
use Rattle.jk_model_frames.specs.Frames.{FrameState, as_locals, called_frame, locals_of}
use Rattle.jk_model_domains.specs.Objects.{NamedObject}
use Rattle.jk_model_domains.specs.ValueTypes.{EachValueFits, FrameHolds, ValueFits}
use Rattle.jk_model_heaps.specs.CalledFrames.{IsCalledFrame, call_head}
use Rattle.number_laws.proofs.ValuesAbove.{frame-above}
use Rattle.jk_model_sealing.specs.FittingFrames.{FitsAsTop}
use Rattle.jk_model_sealing.specs.SealedInsides.{Surroundings}
use Rattle.number_laws.proofs.ValuesFit.{fits-append, fits-length}
use Rattle.heap_laws.specs.FittingOutcomes.{AreOfTypes}
use Rattle.heap_laws.specs.SoundCodes.{AreSoundCodes}
use Rattle.typing_lemmas.proofs.OneScope.{one-scope, scope, scope_of}
use Rattle.typing_lemmas.proofs.TypesOfValues.{usable-value}
use Rattle.row_laws.specs.CallOperands.{BeginMethod}
use Rattle.row_laws.proofs.HeldValues.{fits_here}
use Rattle.row_laws.proofs.ReceiversFit.{of_a_folder, receiver_begins, receiver_fits}

-- ---- Values in the locals.

module _ (s : CodeScope) (heap : List NamedObject) where
  unset_fit : (n : ℕ) → EachValueFits s heap (replicate n Held.Unset) (replicate n Unusable)
  unset_fit zero = tt
  unset_fit (suc n) = (tt, unset_fit n)

  -- a long takes two locals, as its type does
  in_locals : (v : Value) (t : VType) → ValueFits s heap v t → IsUsable t → EachValueFits s heap (as_locals v) (type_locals t)
  in_locals v Unusable h u = absurd u
  in_locals (Held.Long n) Long h u = (h, (tt, tt))
  in_locals (Held.Obj a) Long h u = absurd h.2
  in_locals v Long h u = absurd h
  in_locals (Held.Long n) t h u = absurd h
  in_locals v t h u = (h, tt)

  each_in_locals : (vs : List Value) (ts : List VType) → EachValueFits s heap vs ts → AllByRecursion IsUsable ts
      → EachValueFits s heap (locals_of vs) (flat_map type_locals ts)
  each_in_locals [] [] h u = tt
  each_in_locals [] (t ∷ ts) h u = absurd h
  each_in_locals (v ∷ vs) [] h u = absurd h
  each_in_locals (v ∷ vs) (t ∷ ts) h u =
      fits-append s heap (as_locals v) (locals_of vs) (type_locals t) (flat_map type_locals ts) (in_locals v t h.0 u.0)
      (each_in_locals vs ts h.1 u.1)

  usable_values : (types : List TypeRef) → AllByRecursion IsUsable (map (value_of s.classes) types)
  usable_values [] = tt
  usable_values (t ∷ types) = (usable-value s.classes t.dims t.base, usable_values types)

-- ---- What the frame begins with.

-- the locals that are given, as typing has them
abbrev given_types : CodeScope → List VType
given_types s = own_receiver s ++ flat_map type_locals (parameter_values s s.method)

module _ (around : Surroundings) (sound : AreSoundCodes around.classes) (heap : List NamedObject) (m : MemberId) (method : MethodRecord)
    (code : LinkedCode) (is : MethodIs around.classes m method) (body : method.body ≡ Does.Linked code) where
  abbrev s : CodeScope
  s = scope around.classes m.class is.0.links method code

  is_scope : IsScopeOf around.classes m s
  is_scope = scope_of around.classes m method code is body

  -- what fits declared types fits the types of parameters
  each_given : (ts : List TypeRef) (vs : List Value) → AreOfTypes around heap ts vs → EachValueFits s heap vs (map (value_of s.classes) ts)
  each_given [] [] h = tt
  each_given [] (v ∷ vs) h = absurd h
  each_given (t ∷ ts) [] h = absurd h
  each_given (t ∷ ts) (v ∷ vs) h = (fits_here s heap v t h.0.0, each_given ts vs h.1)

  arguments_fit : (vs : List Value) → AreOfTypes around heap method.params vs
      → EachValueFits s heap (locals_of vs) (flat_map type_locals (parameter_values s method))
  arguments_fit vs h =
      each_in_locals s heap vs (parameter_values s method) (each_given method.params vs h) (usable_values s heap method.params)

  static_given : IsTrue (has method.flags STATIC) → (vs : List Value) → AreOfTypes around heap method.params vs
      → EachValueFits s heap (locals_of vs) (given_types s)
  static_given static vs h =
      subst
      (λ (b : Bool). EachValueFits s heap (locals_of vs)
      ((if b then [] else if is_init method then FreshThis ∷ [] else of_class s.classes s.self ∷ [])
      ++ flat_map type_locals (parameter_values s method))) (sym static) (arguments_fit vs h)

  receiver_given : (v : Value) → ValueFits s heap v FreshThis → ValueFits s heap v (of_class s.classes s.self)
      → IsFalse (has method.flags STATIC) → EachValueFits s heap (as_locals v) (own_receiver s)
  receiver_given v fresh made dynamic =
      subst
      (λ (b : Bool). EachValueFits s heap (as_locals v)
      (if b then [] else if is_init method then FreshThis ∷ [] else of_class s.classes s.self ∷ [])) (sym dynamic)
      (by_name (is_init method))
    where
      by_name : (b : Bool) → EachValueFits s heap (as_locals v) (if b then FreshThis ∷ [] else of_class s.classes s.self ∷ [])
      by_name true = in_locals s heap v FreshThis fresh tt
      by_name false = in_locals s heap v (of_class s.classes s.self) made tt

  begun_given : (given : List Value) → BeginMethod around heap m method given → EachValueFits s heap (locals_of given) (given_types s)
  begun_given [] h = absurd h
  begun_given (v ∷ vs) (dynamic, (c, runs, below), typed) =
      let high = of_a_folder around.classes sound m method code is body in
      fits-append s heap (as_locals v) (locals_of vs) (own_receiver s) (flat_map type_locals (parameter_values s method))
      (receiver_given v (receiver_begins s heap sound v c high runs below) (receiver_fits s heap sound v c m.class runs below) dynamic)
      (arguments_fit vs typed)

  pub given_fits : (given : List Value)
      → (IsTrue (has method.flags STATIC) × AreOfTypes around heap method.params given) ⊎ BeginMethod around heap m method given
      → EachValueFits s heap (locals_of given) (given_types s)
  given_fits given (inl (static, typed)) = static_given static given typed
  given_fits given (inr begins) = begun_given given begins

  -- ---- The frame.

  abbrev least : (frames : List (Option FrameType)) × IsLeastTyping around.classes m frames
  least = sound.typed m s is_scope

  one : least.1.typing.scope ≡ s
  one = one-scope around.classes m least.1.typing.scope s least.1.typing.scope_is is_scope

  abbrev start : FrameType
  start = least.1.typing.start

  is_start : IsStart s start
  is_start = subst (λ (x : CodeScope). IsStart x start) one least.1.typing.start_is

  first : FitsAt s least.0 0 start
  first = subst (λ (x : CodeScope). FitsAt x least.0 0 start) one least.1.typing.first

  module _ (given : List Value) (fits : EachValueFits s heap (locals_of given) (given_types s)) where
    here : EachValueFits s heap (locals_of given) is_start.given
    here = subst (EachValueFits s heap (locals_of given)) (sym is_start.given_is) fits

    pub has_room : length (locals_of given) ≤ code.max_locals
    has_room = subst (λ (n : ℕ). n ≤ code.max_locals) (sym (fits-length s heap (locals_of given) is_start.given here)) is_start.room

    abbrev rest : List Value
    rest = replicate (code.max_locals - length (locals_of given)) Held.Unset

    rest_fits : EachValueFits s heap rest (replicate (code.max_locals - length is_start.given) Unusable)
    rest_fits =
        subst (λ (n : ℕ). EachValueFits s heap rest (replicate (code.max_locals - n) Unusable))
        (fits-length s heap (locals_of given) is_start.given here) (unset_fit s heap (code.max_locals - length (locals_of given)))

    begun : FrameHolds s heap (called_frame (call_head m code) given) start
    begun = record {
      locals =
          subst (EachValueFits s heap (locals_of given ++ rest)) (sym is_start.locals)
          (fits-append s heap (locals_of given) rest is_start.given (replicate (code.max_locals - length is_start.given) Unusable) here rest_fits);
      stack = subst (EachValueFits s heap []) (sym is_start.stack) tt;
    }

    stands : FitsAsTop around.classes heap (called_frame (call_head m code) given)
    stands =
        inr (
          inl refl,
          (
            record {
              method = m;
              is_method = refl;
              scope = s;
              is_scope = is_scope;
              room = (refl, refl);
              frames = least.0;
              is_least = least.1;
              type = first.0;
              stands = first.1;
            },
            frame-above s heap sound.ordered (called_frame (call_head m code) given) start first.0 begun first.2,
          ),
        )

    pub called_fits : (called : FrameState) → IsCalledFrame m code given called → FitsAsTop around.classes heap called
    called_fits called (room, is_called) = subst (FitsAsTop around.classes heap) (sym is_called) stands
