-- What a call finds on the stack: arguments of the types of the method that is named, and a receiver that suits it, unless it is invokestatic.
use Rattle.std.proofs.Common.{inl, inr, ◌≡◌, ◌≢◌, ◌⊎◌, ℕ, List, [], ◌∷◌, map, sym, subst}
use Rattle.std.specs.List.{AllByRecursion}
use Rattle.jk_model.specs.declared.identifiers.ClassId.{ClassId}
use Rattle.jk_model.specs.declared.identifiers.MemberId.{MemberId}
use Rattle.jk_model.specs.declared.instructions.Instr.{Instr}
use Rattle.jk_model.specs.declared.opcodes.TheConstants.{INVOKEINTERFACE, INVOKESPECIAL, INVOKESTATIC, INVOKEVIRTUAL}
use Rattle.jk_model.specs.declared.values.Value.{Value}
use Rattle.jk_model_classes.specs.declared.records.ClassRecord.{ClassRecord}
use Rattle.jk_model_classes.specs.declared.records.Link.TheVariants as To
use Rattle.jk_model_classes.specs.declared.records.Member.TheVariants.{Method}
use Rattle.jk_model_classes.specs.declared.records.MethodRecord.{MethodRecord}
use Rattle.jk_model_classes.specs.declared.records.TypeRef.{TypeRef}
use Rattle.jk_model_classes.specs.Classes.{IsSubclass}
use Rattle.jk_model_classes.specs.Lookups.{MethodIs}
use Rattle.jk_model_classes.specs.Members.{INIT}
use Rattle.jk_model_typing.specs.declared.frames.Demand.{Demand}
use Rattle.jk_model_typing.specs.declared.frames.Demand.TheVariants.{FittingBoth, Receiver, Reference}
use Rattle.jk_model_typing.specs.declared.frames.VType.{VType}
use Rattle.jk_model_typing.specs.declared.frames.VType.TheVariants.{Fresh, FreshThis}
use Rattle.jk_model_typing.specs.FrameTypes.{of_class, value_of}
use Rattle.jk_model_typing.specs.Groups.{Constructs, Takes, group_of}
use Rattle.jk_model_typing.specs.Rows.{AllMeet, ConstructsObject, ConstructsThis, HasShape, IsOwnOrParent, IsReference, MakesAt, Meets, arguments}
use Rattle.jk_model_typing.specs.Scopes.{CodeScope, LeadsToLink, parameter_values, result_values}
use Rattle.jk_model_domains.specs.NumberRows.{IsOnTop}
use Rattle.jk_model_domains.specs.Objects.{NamedObject}
use Rattle.jk_model_domains.specs.ValueTypes.{EachValueFits, HoldsDeclared, ValueFits}
use Rattle.jk_model_heaps.specs.RunningCode.{RunsCode}
use Rattle.jk_model_heaps.specs.Workings.{Setting, Working}
use Rattle.jk_model_sealing.specs.FittingFrames.{IsCall}
use Rattle.jk_model_sealing.specs.SealedInsides.{IsKnownValue, Surroundings}
use Rattle.number_laws.proofs.ValuesAbove.{all-fitting, value-above}
use Rattle.number_laws.proofs.ValuesFit.{end_fits}
use Rattle.heap_laws.specs.FittingOutcomes.{AreOfTypes}
use Rattle.heap_laws.specs.RunningFrames.{RunsWell}
use Rattle.heap_laws.specs.SoundCodes.{AreSoundCodes}
use Rattle.row_laws.specs.StandingFrames.{StandsTyped}
use Rattle.row_laws.proofs.HeldValues.{held_here}
use Rattle.row_laws.proofs.NamesStayKnown.{known-parts}
use Rattle.row_laws.proofs.OperandsOnTop.{does_shape}
use Rattle.row_laws.proofs.StandsHere.{stands_typed}

-- What is known of a receiver, by the instruction. The class is the one that the instruction's reference names.
pub data SuitsCall (s : CodeScope) (heap : List NamedObject) (i : Instr) (c : ClassId) (method : MethodRecord) (v : Value) : Type 0 where
  for_virtual : i.op ≡ INVOKEVIRTUAL → ValueFits s heap v (of_class s.classes c) → SuitsCall s heap i c method v
  for_made : i.op ≡ INVOKESPECIAL → method.name ≡ INIT → (place : ℕ) → MakesAt s place c → ValueFits s heap v (Fresh place)
      → SuitsCall s heap i c method v
  for_this : i.op ≡ INVOKESPECIAL → method.name ≡ INIT → IsOwnOrParent s c → ValueFits s heap v FreshThis → SuitsCall s heap i c method v
  for_special : i.op ≡ INVOKESPECIAL → method.name ≢ INIT → IsSubclass s.classes s.self c → ValueFits s heap v (of_class s.classes s.self)
      → SuitsCall s heap i c method v
  for_interface : i.op ≡ INVOKEINTERFACE → (t : VType) → IsReference t → ValueFits s heap v t → SuitsCall s heap i c method v

-- What a call with a receiver is given.
pub record GivenToCall (around : Surroundings) (w : Working) (s : CodeScope) (i : Instr) : Type 0 where
  pub class : ClassId
  pub found : MemberId
  pub method : MethodRecord
  pub leads : LeadsToLink s i (To.Method class found)
  pub is_method : MethodIs s.classes found method
  pub receiver : Value
  pub given : List Value
  pub on_top : IsOnTop w.frame (receiver ∷ given)
  pub suits : SuitsCall s w.inside.heap i class method receiver
  pub of_types : AreOfTypes around w.inside.heap method.params given

module _ (around : Surroundings) (x : Setting) (w : Working) (runs : RunsWell around x w) (code : RunsCode around.classes w.frame) where
  abbrev s : CodeScope
  s = code.scope

  abbrev i : Instr
  i = code.instr

  abbrev heap : List NamedObject
  heap = w.inside.heap

  sound_here : AreSoundCodes s.classes
  sound_here = subst AreSoundCodes (sym code.is_scope.all) runs.setting.codes

  typed : StandsTyped around.classes heap w.frame code
  typed = stands_typed around.classes runs.setting.codes w.frame code runs.fits.0 heap runs.fits.1

  shape_at : (op : ℕ) → i.op ≡ op → HasShape s i (group_of op) typed.typed.row.shape
  shape_at op is = subst (λ (k : ℕ). HasShape s i (group_of k) typed.typed.row.shape) is typed.typed.row.shape_is

  abbrev AreKnown : List Value → Type 0
  AreKnown vs = AllByRecursion (IsKnownValue around.caps heap) vs

  known_top : (vs : List Value) → IsOnTop w.frame vs → AreKnown vs
  known_top vs (below, is) = (known-parts (IsKnownValue around.caps heap) below vs (subst AreKnown is runs.known.1)).1

  -- values of parameters' types
  of_parameters : (ts : List TypeRef) (vs : List Value) → EachValueFits s heap vs (map (value_of s.classes) ts) → AreKnown vs
      → AreOfTypes around heap ts vs
  of_parameters [] [] h k = tt
  of_parameters [] (v ∷ vs) h k = absurd h
  of_parameters (t ∷ ts) [] h k = absurd h
  of_parameters (t ∷ ts) (v ∷ vs) h k = (
    (subst (λ (classes : List ClassRecord). HoldsDeclared classes heap v t) code.is_scope.all (held_here s heap v t h.0), k.0),
    of_parameters ts vs h.1 k.1,
  )

  -- values of types that meet what is asked of arguments
  of_arguments : (method : MethodRecord) (vs : List Value) (ts : List VType) → EachValueFits s heap vs ts → AllMeet s (arguments s method) ts
      → AreKnown vs → AreOfTypes around heap method.params vs
  of_arguments method vs ts fits meet known =
      of_parameters method.params vs (all-fitting s heap sound_here.ordered vs ts (parameter_values s method) fits meet) known

  -- ---- invokestatic.

  pub given_to_static : i.op ≡ INVOKESTATIC
      → (class : ClassId) × (found : MemberId) × (method : MethodRecord) × (given : List Value) × LeadsToLink s i (To.Method class found)
      × MethodIs s.classes found method × IsOnTop w.frame given × AreOfTypes around heap method.params given
  given_to_static op =
      let at = shape_at INVOKESTATIC op in
      let does =
      does_shape s heap w.frame.head.at i w.frame typed.before typed.after (Takes (arguments s at.2) (result_values s at.2)) typed.typed at.4 in
      let split = end_fits s heap w.frame.stack does.0 does.1 (subst (EachValueFits s heap w.frame.stack) does.2 typed.typed.holds.stack) in
      let top : IsOnTop w.frame split.back = (split.front, split.whole) in (
        at.0,
        at.1,
        at.2,
        split.back,
        at.3.0,
        at.3.1,
        top,
        of_arguments at.2 split.back does.1 split.back_fits does.3 (known_top split.back top),
      )

  -- ---- A receiver and arguments.

  module _ (class : ClassId) (found : MemberId) (method : MethodRecord) (leads : LeadsToLink s i (To.Method class found))
      (is_method : MethodIs s.classes found method) where
    -- values on top, the first of which suits
    with_receiver : (vs : List Value) → IsOnTop w.frame vs → (t : VType) (ts : List VType) → EachValueFits s heap vs (t ∷ ts)
        → AllMeet s (arguments s method) ts → ((v : Value) → ValueFits s heap v t → SuitsCall s heap i class method v)
        → GivenToCall around w s i
    with_receiver [] top t ts fits meet suits = absurd fits
    with_receiver (v ∷ vs) top t ts fits meet suits = record {
      class = class;
      found = found;
      method = method;
      leads = leads;
      is_method = is_method;
      receiver = v;
      given = vs;
      on_top = top;
      suits = suits v fits.0;
      of_types = of_arguments method vs ts fits.1 meet (known_top (v ∷ vs) top).1;
    }

    -- a call that isn't one of a constructor
    taken_by : (d : Demand) (gives : List VType) → typed.typed.row.shape ≡ Takes (d ∷ arguments s method) gives
        → ((v : Value) (t : VType) → Meets s d t → ValueFits s heap v t → SuitsCall s heap i class method v) → GivenToCall around w s i
    taken_by d gives takes suits =
        let does =
        does_shape s heap w.frame.head.at i w.frame typed.before typed.after (Takes (d ∷ arguments s method) gives) typed.typed takes in
        let split = end_fits s heap w.frame.stack does.0 does.1 (subst (EachValueFits s heap w.frame.stack) does.2 typed.typed.holds.stack) in
        from split.back (split.front, split.whole) does.1 split.back_fits does.3
      where
        from : (vs : List Value) → IsOnTop w.frame vs → (ts : List VType) → EachValueFits s heap vs ts → AllMeet s (d ∷ arguments s method) ts
            → GivenToCall around w s i
        from vs top [] fits meet = absurd meet
        from vs top (t ∷ ts) fits meet = with_receiver vs top t ts fits meet.1 (λ v fit. suits v t meet.0 fit)

    constructed : i.op ≡ INVOKESPECIAL → method.name ≡ INIT → typed.typed.row.shape ≡ Constructs class found (arguments s method)
        → GivenToCall around w s i
    constructed op init makes =
        let does =
        does_shape s heap w.frame.head.at i w.frame typed.before typed.after (Constructs class found (arguments s method)) typed.typed makes in
        let split =
        end_fits s heap w.frame.stack does.0 (does.1 ∷ does.2) (subst (EachValueFits s heap w.frame.stack) does.3 typed.typed.holds.stack) in
        with_receiver split.back (split.front, split.whole) does.1 does.2 split.back_fits does.4 (suits does.1 does.0 does.5)
      where
        suits : (t : VType) (below : List VType)
            → ConstructsObject s class found t typed.before below typed.after ⊎ ConstructsThis s class t typed.before below typed.after
            → (v : Value) → ValueFits s heap v t → SuitsCall s heap i class method v
        suits t below (inl made) v fit = for_made op init made.0 made.2 (subst (ValueFits s heap v) made.1 fit)
        suits t below (inr this) v fit = for_this op init this.1 (subst (ValueFits s heap v) this.0 fit)

  given_by : IsCall i → i.op ≢ INVOKESTATIC → GivenToCall around w s i
  given_by (inl op) other =
      let at = shape_at INVOKEVIRTUAL op in
      taken_by at.0 at.1 at.2 at.3.0 at.3.1 (Receiver at.0 (Method at.1)) (result_values s at.2) at.4
      (λ v t meets fit. for_virtual op (value-above s heap sound_here.ordered v t (of_class s.classes at.0) fit meets.fits))
  given_by (inr (inl op)) other =
      let at = shape_at INVOKESPECIAL op in
      elim at.4 [
        | inl (init, makes) ↦ constructed at.0 at.1 at.2 at.3.0 at.3.1 op init makes
        | inr (no_init, below, takes) ↦
            taken_by at.0 at.1 at.2 at.3.0 at.3.1 (FittingBoth (of_class s.classes at.0) (of_class s.classes s.self)) (result_values s at.2) takes
            (λ v t meets fit. for_special op no_init below (value-above s heap sound_here.ordered v t (of_class s.classes s.self) fit meets.1))
      ]
  given_by (inr (inr (inl op))) other = absurd (other op)
  given_by (inr (inr (inr op))) other =
      let at = shape_at INVOKEINTERFACE op in
      taken_by at.0 at.1 at.2 at.3.0 at.3.1 Reference (result_values s at.2) at.4 (λ v t meets fit. for_interface op t meets fit)

  pub given_to_call : IsCall i → i.op ≢ INVOKESTATIC → GivenToCall around w s i
  given_to_call call other = given_by call other
