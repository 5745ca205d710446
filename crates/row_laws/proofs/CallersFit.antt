-- A frame that a call has left stands at its call: what is below the receiver and the arguments fits what the call leaves below its result.
use Rattle.std.proofs.Common.{inl, inr, ◌≡◌, ◌⊎◌, ℕ, ◌+◌, Bool, true, false, List, [], ◌∷◌, ◌++◌, length, Option, None, slice_get, refl, sym, ap, subst, ◌∙◌, arith}
use Rattle.std.specs.Prelude.{if◌then◌else◌}
use Rattle.std.specs.Option.{option_map_or}
use Rattle.std.proofs.lemmas.Bool.{eqb-true}
use Rattle.std.proofs.lemmas.List.{append-nil, length-map}
use Rattle.std.proofs.lemmas.Option.{same_Some}
use Rattle.list_lemmas.proofs.EndsOfLists.{one_split}
use Rattle.jk_model.specs.declared.frames.FrameHead.{FrameHead}
use Rattle.jk_model.specs.declared.identifiers.ClassId.{ClassId}
use Rattle.jk_model.specs.declared.identifiers.MemberId.{MemberId}
use Rattle.jk_model.specs.declared.instructions.Instr.{Instr}
use Rattle.jk_model.specs.declared.values.Value.{Value}
use Rattle.jk_model.specs.declared.values.Value.TheVariants as Held
use Rattle.jk_model_classes.specs.declared.records.BaseRef.TheVariants as Base
use Rattle.jk_model_classes.specs.declared.records.ClassRecord.{ClassRecord}
use Rattle.jk_model_classes.specs.declared.records.Link.TheVariants as To
use Rattle.jk_model_classes.specs.declared.records.Member.TheVariants.{Method}
use Rattle.jk_model_classes.specs.declared.records.MethodRecord.{MethodRecord}
use Rattle.jk_model_classes.specs.declared.records.TypeRef.{TypeRef}
use Rattle.jk_model_classes.specs.Lookups.{MethodIs}
use Rattle.jk_model_classes.specs.Members.{INIT}
use Rattle.jk_model_typing.specs.declared.frames.Demand.{Demand}
use Rattle.jk_model_typing.specs.declared.frames.Demand.TheVariants.{Fitting, FittingBoth, Receiver, Reference}
use Rattle.jk_model_typing.specs.declared.frames.FrameType.{FrameType}
use Rattle.jk_model_typing.specs.declared.frames.VType.{VType}
use Rattle.jk_model_typing.specs.declared.frames.VType.TheVariants.{Fresh, FreshThis}
use Rattle.jk_model_typing.specs.FrameTypes.{RefFits, erased, of_class, value_of}
use Rattle.jk_model_typing.specs.Groups.{Constructs, Shape, Takes, group_of}
use Rattle.jk_model_typing.specs.Rows.{Does, HasShape, MakesAt, Row, arguments, is_fresh_this, is_made_at, replaced}
use Rattle.jk_model_typing.specs.Scopes.{CodeScope, NamesClass, parameter_values, result_values}
use Rattle.jk_model_frames.specs.Frames.{FrameState}
use Rattle.jk_model_domains.specs.NumberRows.{Replaces}
use Rattle.jk_model_domains.specs.Objects.{NamedObject, class_type, type_of}
use Rattle.jk_model_domains.specs.ValueTypes.{EachValueFits, FrameHolds, ValueFits}
use Rattle.jk_model_heaps.specs.RunningCode.{NamesMethod, RunsCode}
use Rattle.jk_model_call_rows.specs.CallRows.{given_count}
use Rattle.jk_model_sealing.specs.AnsweringFrames.{AwaitsResult}
use Rattle.jk_model_sealing.specs.FittingFrames.{FitsAtCall, HasTyping, IsCall}
use Rattle.class_lemmas.proofs.OneRecord.{one_method}
use Rattle.number_laws.proofs.EntriesExchanged.{as_many}
use Rattle.number_laws.proofs.ValuesFit.{end_fits, fits-length}
use Rattle.heap_laws.specs.SoundCodes.{AreSoundCodes}
use Rattle.typing_lemmas.proofs.OneScope.{one_link}
use Rattle.row_laws.proofs.InstancesFitTypes.{class_fits}
use Rattle.row_laws.proofs.StandsHere.{goes, holds_here, typing_of}
use Rattle.class_table.proofs.StandingAbove.{is-own_superclass}

-- ---- The shape of a call.

-- a call that takes its receiver and its arguments and gives its result, or one of a constructor
pub data CallShape (s : CodeScope) (op : ℕ) (m : MemberId) (method : MethodRecord) (shape : Shape) : Type 0 where
  takes_all : (ds : List Demand) → shape ≡ Takes ds (result_values s method) → length ds ≡ given_count op method → CallShape s op m method shape
  constructs : (c : ClassId) → shape ≡ Constructs c m (arguments s method) → method.name ≡ INIT
      → 1 + length (arguments s method) ≡ given_count op method → CallShape s op m method shape

arguments_count : (s : CodeScope) (method : MethodRecord) → length (arguments s method) ≡ length method.params
arguments_count s method =
    length-map (parameter_values s method) Fitting ∙ length-map method.params (value_of s.classes)

module _ (s : CodeScope) (i : Instr) (m : MemberId) (method : MethodRecord) (names : NamesMethod s i m method) where
  -- the typing names the same method
  pub same_named : (n : MemberId) (other : MethodRecord) → NamesMethod s i n other → (n ≡ m) × (other ≡ method)
  same_named n other (d, leads, is) =
      let links = one_link s i (To.Method d n) (To.Method names.0 m) leads names.1 in
      let member : n ≡ m = cc in
      (member, one_method s.classes m other method (subst (λ (k : MemberId). MethodIs s.classes k other) member is) names.2)

  shape_of_call : (shape : Shape) (op : ℕ) → (op ≡ 0xb6) ⊎ (op ≡ 0xb7) ⊎ (op ≡ 0xb8) ⊎ (op ≡ 0xb9) → HasShape s i (group_of op) shape
      → CallShape s op m method shape
  shape_of_call shape op (inl virtual) has =
      let at = subst (λ (k : ℕ). HasShape s i (group_of k) shape) virtual has in
      let same = same_named at.1 at.2 (at.0, at.3.0, at.3.1) in
      let takes : shape ≡ Takes (Receiver at.0 (Method at.1) ∷ arguments s method) (result_values s method) =
      subst (λ (x : MethodRecord). shape ≡ Takes (Receiver at.0 (Method at.1) ∷ arguments s x) (result_values s x)) same.1 at.4 in
      subst (λ (k : ℕ). CallShape s k m method shape) (sym virtual)
      (takes_all (Receiver at.0 (Method at.1) ∷ arguments s method) takes (let many = arguments_count s method in omega (arith, many)))
  shape_of_call shape op (inr (inl special)) has =
      let at = subst (λ (k : ℕ). HasShape s i (group_of k) shape) special has in
      let same = same_named at.1 at.2 (at.0, at.3.0, at.3.1) in
      let many = arguments_count s method in
      subst (λ (k : ℕ). CallShape s k m method shape) (sym special)
      (elim at.4 [
        | inl (init, makes) ↦
            constructs at.0
            (subst (λ (x : MethodRecord). shape ≡ Constructs at.0 m (arguments s x)) same.1
            (subst (λ (k : MemberId). shape ≡ Constructs at.0 k (arguments s at.2)) same.0 makes))
            (subst (λ (x : MethodRecord). x.name ≡ INIT) same.1 init) (omega (arith, many))
        | inr (other, below, takes) ↦
            takes_all (FittingBoth (of_class s.classes at.0) (of_class s.classes s.self) ∷ arguments s method)
            (subst (λ (x : MethodRecord). shape ≡ Takes (FittingBoth (of_class s.classes at.0) (of_class s.classes s.self) ∷ arguments s x)
            (result_values s x)) same.1 takes) (omega (arith, many))
      ])
  shape_of_call shape op (inr (inr (inl static))) has =
      let at = subst (λ (k : ℕ). HasShape s i (group_of k) shape) static has in
      let same = same_named at.1 at.2 (at.0, at.3.0, at.3.1) in
      subst (λ (k : ℕ). CallShape s k m method shape) (sym static)
      (takes_all (arguments s method) (subst (λ (x : MethodRecord). shape ≡ Takes (arguments s x) (result_values s x)) same.1 at.4)
      (arguments_count s method))
  shape_of_call shape op (inr (inr (inr interface))) has =
      let at = subst (λ (k : ℕ). HasShape s i (group_of k) shape) interface has in
      let same = same_named at.1 at.2 (at.0, at.3.0, at.3.1) in
      subst (λ (k : ℕ). CallShape s k m method shape) (sym interface)
      (takes_all (Reference ∷ arguments s method)
      (subst (λ (x : MethodRecord). shape ≡ Takes (Reference ∷ arguments s x) (result_values s x)) same.1 at.4)
      (let many = arguments_count s method in omega (arith, many)))

  pub call_shape : (shape : Shape) → IsCall i → HasShape s i (group_of i.op) shape → CallShape s i.op m method shape
  call_shape shape call has = shape_of_call shape i.op call has

-- ---- Objects whose constructor was called.

module _ (s : CodeScope) (heap : List NamedObject) (sound : AreSoundCodes s.classes) where
  -- one instruction makes objects of one class
  pub one_class : (place : ℕ) (c d : ClassId) → MakesAt s place c → MakesAt s place d → d ≡ c
  one_class place c d (i, at, op, names) (j, at_too, op_too, names_too) =
      let instr : j ≡ i = same_Some j i (sym at_too ∙ at) in
      let links = one_link s i (To.Class (class_type d)) (To.Class (class_type c)) (subst (λ (k : Instr). NamesClass s k d) instr names_too) names in
      let types : class_type d ≡ class_type c = cc in
      let base : Base.Class d ≡ Base.Class c = ap (λ (t : TypeRef). t.base) types in
      cc

  made_object : (place : ℕ) (c : ClassId) (v : Value) (t : VType) (b : Bool) → is_made_at place t ≡ b → MakesAt s place c → ValueFits s heap v t
      → ValueFits s heap v (if b then of_class s.classes c else t)
  made_object place c v t false e makes h = h
  made_object place c v (Fresh p) true e makes h = fresh_by v h
    where
      fresh_by : (u : Value) → ValueFits s heap u (Fresh p) → ValueFits s heap u (of_class s.classes c)
      fresh_by (Held.Obj a) (o, is, (d, made, (fields, plain_is))) =
          let same : d ≡ c =
          one_class place c d makes (subst (λ (n : ℕ). MakesAt s n d) (eqb-true p place e) made) in
          let own = class_fits s.classes sound c c (is-own_superclass s.classes sound.ordered c) in (
            o,
            is,
            subst (λ (t : TypeRef). RefFits s.classes t
                (erased s.classes (class_type c)))
                (ap class_type (sym same) ∙ ap type_of (sym plain_is)) own,
          )
      fresh_by (Held.Int n) k = absurd k
      fresh_by (Held.Long n) k = absurd k
      fresh_by Held.Null k = absurd k
      fresh_by (Held.Cap n) k = absurd k
      fresh_by Held.Unset k = absurd k
  made_object place c v t true e makes h = absurd cc

  this_object : (v : Value) (t : VType) (b : Bool) → is_fresh_this t ≡ b → ValueFits s heap v t
      → ValueFits s heap v (if b then of_class s.classes s.self else t)
  this_object v t false e h = h
  this_object v FreshThis true e h = this_by v h
    where
      this_by : (u : Value) → ValueFits s heap u FreshThis → ValueFits s heap u (of_class s.classes s.self)
      this_by (Held.Obj a) (o, is, (d, (fields, plain_is), below)) = (
        o,
        is,
        subst (λ (t : TypeRef). RefFits s.classes t
            (erased s.classes (class_type s.self)))
            (ap type_of (sym plain_is)) (class_fits s.classes sound d s.self below),
      )
      this_by (Held.Int n) k = absurd k
      this_by (Held.Long n) k = absurd k
      this_by Held.Null k = absurd k
      this_by (Held.Cap n) k = absurd k
      this_by Held.Unset k = absurd k
  this_object v t true e h = absurd cc

  pub each_made : (place : ℕ) (c : ClassId) → MakesAt s place c → (vs : List Value) (ts : List VType) → EachValueFits s heap vs ts
      → EachValueFits s heap vs (replaced (is_made_at place) (of_class s.classes c) ts)
  each_made place c makes [] [] h = tt
  each_made place c makes [] (t ∷ ts) h = absurd h
  each_made place c makes (v ∷ vs) [] h = absurd h
  each_made place c makes (v ∷ vs) (t ∷ ts) h = (made_object place c v t (is_made_at place t) refl makes h.0, each_made place c makes vs ts h.1)

  pub each_this : (vs : List Value) (ts : List VType) → EachValueFits s heap vs ts
      → EachValueFits s heap vs (replaced is_fresh_this (of_class s.classes s.self) ts)
  each_this [] [] h = tt
  each_this [] (t ∷ ts) h = absurd h
  each_this (v ∷ vs) [] h = absurd h
  each_this (v ∷ vs) (t ∷ ts) h = (this_object v t (is_fresh_this t) refl h.0, each_this vs ts h.1)

-- ---- What is left of the frame.

-- what a call leaves: types below its result, which the values below fit, and locals
pub record Departs (s : CodeScope) (heap : List NamedObject) (stack locals : List Value) (method : MethodRecord) (after : FrameType) : Type 0 where
  pub below : List VType
  pub left : after.stack ≡ below ++ result_values s method
  pub stack_fits : EachValueFits s heap stack below
  pub locals_fit : EachValueFits s heap locals after.locals

module _ (s : CodeScope) (heap : List NamedObject) (sound : AreSoundCodes s.classes) (place : ℕ) (i : Instr) (f : FrameState)
    (before after : FrameType) (holds : FrameHolds s heap f before) (m : MemberId) (method : MethodRecord) (is : MethodIs s.classes m method)
    (below given : List Value) (stack : f.stack ≡ below ++ given) where
  -- the values below those that are given
  below_fits : (low high : List VType) → before.stack ≡ low ++ high → length given ≡ length high → EachValueFits s heap below low
  below_fits low high types many =
      let split = end_fits s heap f.stack low high (subst (EachValueFits s heap f.stack) types holds.stack) in
      let whole : below ++ given ≡ split.front ++ split.back = sym stack ∙ split.whole in
      let both = one_split below split.front given split.back whole (many ∙ sym (fits-length s heap split.back high split.back_fits)) in
      subst (λ (vs : List Value). EachValueFits s heap vs low) (sym both.0) split.front_fits

  no_result : method.name ≡ INIT → result_values s method ≡ []
  no_result init =
      ap (λ (o : Option TypeRef). option_map_or (λ (t : TypeRef). value_of s.classes t ∷ []) o []) (sound.constructors m method is init)

  pub departs : (shape : Shape) → CallShape s i.op m method shape → Does s place shape before after → length given ≡ given_count i.op method
      → Departs s heap below f.locals method after
  departs shape (takes_all ds takes count) does many =
      let done = subst (λ (y : Shape). Does s place y before after) takes does in
      record {
        below = done.0;
        left = ap (λ (t : FrameType). t.stack) done.4;
        stack_fits = below_fits done.0 done.1 done.2 (many ∙ sym count ∙ as_many s ds done.1 done.3);
        locals_fit = subst (EachValueFits s heap f.locals) (sym (ap (λ (t : FrameType). t.locals) done.4)) holds.locals;
      }
  departs shape (constructs c makes init count) does many =
      let done = subst (λ (y : Shape). Does s place y before after) makes does in
      let count_too = as_many s (arguments s method) done.2 done.4 in
      let high : length given ≡ length (done.1 ∷ done.2) = omega (arith, many, count, count_too) in
      let low = below_fits done.0 (done.1 ∷ done.2) done.3 high in
      elim done.5 [
        | inl (made, receiver, at, may, leaves) ↦ record {
          below = replaced (is_made_at made) (of_class s.classes c) done.0;
          left = ap (λ (t : FrameType). t.stack) leaves
              ∙ sym (ap (λ (more : List VType). replaced (is_made_at made) (of_class s.classes c) done.0 ++ more) (no_result init)
              ∙ append-nil (replaced (is_made_at made) (of_class s.classes c) done.0));
          stack_fits = each_made s heap sound made c at below done.0 low;
          locals_fit = subst (EachValueFits s heap f.locals) (sym (ap (λ (t : FrameType). t.locals) leaves))
              (each_made s heap sound made c at f.locals before.locals holds.locals);
        }
        | inr (receiver, own, leaves) ↦ record {
          below = replaced is_fresh_this (of_class s.classes s.self) done.0;
          left = ap (λ (t : FrameType). t.stack) leaves
              ∙ sym (ap (λ (more : List VType). replaced is_fresh_this (of_class s.classes s.self) done.0 ++ more) (no_result init)
              ∙ append-nil (replaced is_fresh_this (of_class s.classes s.self) done.0));
          stack_fits = each_this s heap sound below done.0 low;
          locals_fit = subst (EachValueFits s heap f.locals) (sym (ap (λ (t : FrameType). t.locals) leaves))
              (each_this s heap sound f.locals before.locals holds.locals);
        }
      ]

pub caller_fits : (classes : List ClassRecord) (sound : AreSoundCodes classes) (heap : List NamedObject) (f g : FrameState) (t : HasTyping classes f)
    → FrameHolds t.scope heap f t.type → (code : RunsCode classes f) → f.head.need ≡ None → IsCall code.instr → (m : MemberId) (method : MethodRecord)
    → NamesMethod code.scope code.instr m method → (given : List Value) → length given ≡ given_count code.instr.op method
    → Replaces f g given [] → FitsAtCall classes heap g × AwaitsResult classes g method.result
caller_fits classes sound heap f g t holds code none call m method names given many replaces =
    let s : CodeScope = code.scope in
    let head : g.head ≡ f.head = ap (λ (x : FrameState). x.head) replaces.after in
    let row = (goes classes sound f code t).row in
    let sound_here : AreSoundCodes s.classes = subst AreSoundCodes (sym code.is_scope.all) sound in
    let left = departs s heap sound_here f.head.at code.instr f t.type (goes classes sound f code t).after
    (holds_here classes sound f code t heap holds) m method
    names.2 replaces.below given replaces.before row.shape (call_shape s code.instr m method names row.shape call row.shape_is) row.does many in
    let stack : g.stack ≡ replaces.below = ap (λ (x : FrameState). x.stack) replaces.after ∙ append-nil replaces.below in
    let locals : g.locals ≡ f.locals = ap (λ (x : FrameState). x.locals) replaces.after in (
      record {
        no_need = ap (λ (h : FrameHead). h.need) head ∙ none;
        typing = typing_of classes sound f code t g head;
        instr = code.instr;
        is_instr = ap (λ (h : FrameHead). slice_get s.code.instrs h.at) head ∙ code.stands;
        is_call = call;
        member = m;
        called = method;
        names = names;
        after = (goes classes sound f code t).after;
        row = subst (λ (n : ℕ). Row s n code.instr t.type (goes classes sound f code t).after) (sym (ap (λ (h : FrameHead). h.at) head)) row;
        below = left.below;
        left = left.left;
        stack = subst (λ (vs : List Value). EachValueFits s heap vs left.below) (sym stack) left.stack_fits;
        locals = subst (λ (vs : List Value). EachValueFits s heap vs (goes classes sound f code t).after.locals) (sym locals) left.locals_fit;
        locals_before = subst (λ (vs : List Value). EachValueFits s heap vs t.type.locals) (sym locals) (holds_here classes sound f code t heap holds).locals;
      },
      (
        record {
          method = code.method;
          is_method = ap (λ (h : FrameHead). h.method) head ∙ code.is_method;
          scope = s;
          is_scope = code.is_scope;
          instr = code.instr;
          stands = ap (λ (h : FrameHead). slice_get s.code.instrs h.at) head ∙ code.stands;
        },
        m,
        method,
        names,
        refl,
      ),
    )
