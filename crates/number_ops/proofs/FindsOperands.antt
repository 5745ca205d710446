-- What the typing of instructions says of the top frame: the operands that an instruction asks for are there, and there is
-- room for what it pushes.
use Rattle.std.proofs.Common.{◌≡◌, ℕ, ◌+◌, ◌≤◌, pos, List, [], ◌∷◌, ◌++◌, length, Some, refl, sym, ap, subst, ◌∙◌, append_assoc, arith, inl, inr}
use Rattle.std.specs.List.{AllByRecursion}
use Rattle.std.proofs.lemmas.List.{append-nil, length-append}
use Rattle.std.proofs.lemmas.List.Sums.{sum_by-cons}
use Rattle.jk_model.specs.declared.frames.FrameHead.{FrameHead}
use Rattle.jk_model.specs.declared.identifiers.SegmentNo.{SegmentNo}
use Rattle.jk_model.specs.declared.instructions.Instr.{Instr}
use Rattle.jk_model.specs.declared.values.Value.{Value}
use Rattle.jk_model_classes.specs.declared.records.ClassRecord.{ClassRecord}
use Rattle.jk_model_typing.specs.declared.frames.Demand.{Demand}
use Rattle.jk_model_typing.specs.declared.frames.Demand.TheVariants.{Fitting}
use Rattle.jk_model_typing.specs.declared.frames.FrameType.{FrameType}
use Rattle.jk_model_typing.specs.declared.frames.VType.{VType}
use Rattle.jk_model_typing.specs.declared.frames.VType.TheVariants.{Int, Long, Ref}
use Rattle.jk_model_typing.specs.FrameTypes.{IsFrameOf, IsUsable, slots, slots_of}
use Rattle.jk_model_typing.specs.Groups.{Group, Shape, Always, LoadsLocal, StoresLocal, IncrementsLocal, LoadsConstant, LoadsLong, ReturnsInt, ReturnsLong, ReturnsReference, Takes, Drops, Copies, Swaps, Loads, Stores, Increments, group_of}
use Rattle.jk_model_typing.specs.Rows.{Does, HasShape}
use Rattle.jk_model_typing.specs.Scopes.{CodeScope}
use Rattle.jk_model_frames.specs.Frames.{FrameState}
use Rattle.jk_model_domains.specs.Objects.{NamedObject}
use Rattle.jk_model_domains.specs.ValueTypes.{EachValueFits, FrameHolds, ValueFits}
use Rattle.frame_store.specs.FrameContents.{FrameContent, TopFrame}
use Rattle.number_ops.specs.NumberSteps.{IsReady}
use Rattle.number_ops.specs.Operands.{Finds, FindsShape, FindsValue}
use Rattle.number_ops.specs.TopChanges.{OnTopWithRoom}
use Rattle.typing_lemmas.proofs.LocalsStored.{slots_needed}
use Rattle.number_laws.proofs.ValuesFit.{are_met, end_fits, fits-length, fits-slots, int_fits, long_slots, usable-append, value_at, value_slots-fit}

module _ (c : FrameContent) (s : SegmentNo) (scope : CodeScope) (heap : List NamedObject) (f : FrameState) (place : ℕ) (i : Instr)
    (before after : FrameType) where
  -- The frame holds values that fit a frame type, with which the instruction may begin.
  pub record Holds : Type 0 where
    pub top : TopFrame c s f
    pub max : f.head.max_stack ≡ scope.code.max_stack
    pub sized : IsFrameOf scope.code before
    pub room : IsFrameOf scope.code after
    pub holds : FrameHolds scope heap f before

  room_for : Holds → (front : List Value) (below gives : List VType) → length front ≡ length below → after.stack ≡ below ++ gives
      → length front + length gives ≤ f.head.max_stack
  room_for h front below gives many is =
      let fits : slots (below ++ gives) ≤ scope.code.max_stack =
      subst (λ (ts : List VType). slots ts ≤ scope.code.max_stack) is h.room.stack in
      omega (arith, fits, long_slots (below ++ gives), length-append below gives, many, h.max)

  one_value : (vs : List Value) (a : VType) → EachValueFits scope heap vs (a ∷ []) → (v : Value) × (vs ≡ v ∷ []) × ValueFits scope heap v a
  one_value [] a h = absurd h
  one_value (v ∷ []) a h = (v, refl, h.0)
  one_value (v ∷ w ∷ vs) a h = absurd h.1

  two_values : (vs : List Value) (a b : VType) → EachValueFits scope heap vs (a ∷ b ∷ [])
      → (v : Value) × (w : Value) × (vs ≡ v ∷ w ∷ []) × ValueFits scope heap v a × ValueFits scope heap w b
  two_values [] a b h = absurd h
  two_values (v ∷ []) a b h = absurd h.1
  two_values (v ∷ w ∷ []) a b h = (v, w, refl, h.0, h.1.0)
  two_values (v ∷ w ∷ x ∷ vs) a b h = absurd h.1.1

  finds_taken : Holds → (ds : List Demand) (gives : List VType) → Does scope place (Takes ds gives) before after
      → FindsShape c s (Takes ds gives)
  finds_taken h ds gives does =
      let split = end_fits scope heap f.stack does.0 does.1 (subst (EachValueFits scope heap f.stack) does.2 h.holds.stack) in (
        split.back,
        are_met scope heap ds does.1 split.back does.3 split.back_fits,
        record {
          frame = f;
          top = h.top;
          below = split.front;
          stack = split.whole;
          has_room = room_for h split.front does.0 gives (fits-length scope heap split.front does.0 split.front_fits)
              (ap (λ (t : FrameType). t.stack) does.4);
        },
      )

  finds_dropped : Holds → (n : ℕ) → Does scope place (Drops n) before after → FindsShape c s (Drops n)
  finds_dropped h n does =
      let split = end_fits scope heap f.stack does.0 does.1 (subst (EachValueFits scope heap f.stack) does.2 h.holds.stack) in
      let usable = usable-append does.0 does.1 (subst (AllByRecursion IsUsable) does.2 h.sized.usable) in (
        split.back,
        fits-slots scope heap split.back does.1 split.back_fits usable.1 ∙ does.3,
        record { frame = f; top = h.top; on_top = (split.front, split.whole) },
      )

  finds_copied : Holds → (m n : ℕ) → Does scope place (Copies m n) before after → FindsShape c s (Copies m n)
  finds_copied h m n does =
      let outer = end_fits scope heap f.stack (does.0 ++ does.1) does.2 (subst (EachValueFits scope heap f.stack) does.3 h.holds.stack) in
      let inner = end_fits scope heap outer.front does.0 does.1 outer.front_fits in
      let usable = usable-append (does.0 ++ does.1) does.2 (subst (AllByRecursion IsUsable) does.3 h.sized.usable) in
      let usable' = usable-append does.0 does.1 usable.0 in
      let fits : slots (does.0 ++ does.2 ++ does.1 ++ does.2) ≤ scope.code.max_stack =
      subst (λ (ts : List VType). slots ts ≤ scope.code.max_stack) (ap (λ (t : FrameType). t.stack) does.6) h.room.stack in
      let low = fits-length scope heap inner.front does.0 inner.front_fits in
      let mid = fits-length scope heap inner.back does.1 inner.back_fits in
      let up = fits-length scope heap outer.back does.2 outer.back_fits in (
        inner.back,
        outer.back,
        fits-slots scope heap inner.back does.1 inner.back_fits usable'.1 ∙ does.4,
        fits-slots scope heap outer.back does.2 outer.back_fits usable.1 ∙ does.5,
        record {
          frame = f;
          top = h.top;
          below = inner.front;
          stack = outer.whole ∙ ap (λ (xs : List Value). xs ++ outer.back) inner.whole ∙ append_assoc inner.front inner.back outer.back;
          has_room = omega (
            arith,
            fits,
            long_slots (does.0 ++ does.2 ++ does.1 ++ does.2),
            length-append (does.0 ++ does.2 ++ does.1) does.2,
            length-append (does.0 ++ does.2) does.1,
            length-append does.0 does.2,
            low,
            mid,
            up,
            h.max,
          );
        },
      )

  finds_swapped : Holds → Does scope place Swaps before after → FindsShape c s Swaps
  finds_swapped h does =
      let split = end_fits scope heap f.stack does.0 (does.1 ∷ does.2 ∷ []) (subst (EachValueFits scope heap f.stack) does.3 h.holds.stack) in
      let usable = usable-append does.0 (does.1 ∷ does.2 ∷ []) (subst (AllByRecursion IsUsable) does.3 h.sized.usable) in
      let two = two_values split.back does.1 does.2 split.back_fits in
      let first : slots_of does.1 ≡ 1 = omega (arith, does.4, sum_by-cons slots_of does.1 []) in
      let second : slots_of does.2 ≡ 1 = omega (arith, does.5, sum_by-cons slots_of does.2 []) in (
        two.0,
        two.1,
        value_slots-fit scope heap two.0 does.1 two.3 usable.1.0 ∙ first,
        value_slots-fit scope heap two.1 does.2 two.4 usable.1.1.0 ∙ second,
        record {
          frame = f;
          top = h.top;
          below = split.front;
          stack = split.whole ∙ ap (λ (xs : List Value). split.front ++ xs) two.2;
          has_room = room_for h split.front does.0 (does.2 ∷ does.1 ∷ []) (fits-length scope heap split.front does.0 split.front_fits)
              (ap (λ (t : FrameType). t.stack) does.6);
        },
      )

  finds_loaded : Holds → (d : Demand) (n : ℕ) → i.a ≡ pos n → Does scope place (Loads d n) before after → Finds c s i (LoadsLocal d)
  finds_loaded h d n is does =
      let local = value_at scope heap f.locals before.locals n does.0 h.holds.locals does.1 in (
        n,
        local.value,
        is,
        record { frame = f; top = h.top; local = local.at },
        record {
          frame = f;
          top = h.top;
          below = f.stack;
          stack = sym (append-nil f.stack);
          has_room = room_for h f.stack before.stack (does.0 ∷ []) (fits-length scope heap f.stack before.stack h.holds.stack)
              (ap (λ (t : FrameType). t.stack) does.3);
        },
      )

  finds_stored : Holds → (d : Demand) (n : ℕ) → i.a ≡ pos n → Does scope place (Stores d n) before after → Finds c s i (StoresLocal d)
  finds_stored h d n is does =
      let split = end_fits scope heap f.stack does.0 (does.1 ∷ []) (subst (EachValueFits scope heap f.stack) does.2 h.holds.stack) in
      let usable = usable-append does.0 (does.1 ∷ []) (subst (AllByRecursion IsUsable) does.2 h.sized.usable) in
      let one = one_value split.back does.1 split.back_fits in
      let many = fits-length scope heap f.locals before.locals h.holds.locals in
      let slot = value_slots-fit scope heap one.0 does.1 one.2 usable.1.0 in
      let needed = slots_needed before.locals after.locals n does.1 does.4 (ap (λ (t : FrameType). t.locals) does.5) h.room.halves in (
        n,
        one.0,
        is,
        record { frame = f; top = h.top; on_top = (split.front, split.whole ∙ ap (λ (xs : List Value). split.front ++ xs) one.1) },
        record { frame = f; top = h.top; many = omega (arith, many, slot, needed) },
      )

  finds_incremented : Holds → (n : ℕ) → i.a ≡ pos n → Does scope place (Increments n) before after → Finds c s i IncrementsLocal
  finds_incremented h n is does =
      let local = value_at scope heap f.locals before.locals n Int h.holds.locals does.0 in
      let int = int_fits scope heap local.value local.fits in
      (n, int.0, is, record { frame = f; top = h.top; local = local.at ∙ ap Some int.1 })

  -- ---- By groups.

  finds_constant : Holds → (v : VType) → Does scope place (Takes [] (v ∷ [])) before after → OnTopWithRoom c s [] 1
  finds_constant h v does = none_taken (finds_taken h [] (v ∷ []) does)
    where
      none_taken : FindsShape c s (Takes [] (v ∷ [])) → OnTopWithRoom c s [] 1
      none_taken ([], met, on) = on
      none_taken (w ∷ ws, met, on) = absurd met

  finds_returned : Holds → (d : Demand) → Does scope place (Takes (d ∷ []) []) before after → FindsValue c s
  finds_returned h d does = one_taken (finds_taken h (d ∷ []) [] does)
    where
      one_taken : FindsShape c s (Takes (d ∷ []) []) → FindsValue c s
      one_taken ([], met, on) = absurd met
      one_taken (w ∷ [], met, on) = (w, record { frame = on.frame; top = on.top; on_top = (on.below, on.stack) })
      one_taken (w ∷ x ∷ ws, met, on) = absurd met.1

  of_shape : Holds → (shape : Shape) → Does scope place shape before after → FindsShape c s shape
  of_shape h (Takes ds gives) does = finds_taken h ds gives does
  of_shape h (Drops n) does = finds_dropped h n does
  of_shape h (Copies m n) does = finds_copied h m n does
  of_shape h Swaps does = finds_swapped h does
  of_shape h _ does = tt

  by_group : Holds → (g : Group) (shape : Shape) → HasShape scope i g shape → Does scope place shape before after → Finds c s i g
  by_group h (Always of_all) shape is does = of_shape h of_all (subst (λ (x : Shape). Does scope place x before after) is does)
  by_group h (LoadsLocal d) shape is does =
      finds_loaded h d is.0 is.1 (subst (λ (x : Shape). Does scope place x before after) is.2 does)
  by_group h (StoresLocal d) shape is does =
      finds_stored h d is.0 is.1 (subst (λ (x : Shape). Does scope place x before after) is.2 does)
  by_group h IncrementsLocal shape is does =
      finds_incremented h is.0 is.1 (subst (λ (x : Shape). Does scope place x before after) is.2 does)
  by_group h LoadsConstant shape is does = elim is [
    | inl int ↦ finds_constant h _ (subst (λ (x : Shape). Does scope place x before after) int.2 does)
    | inr text ↦ finds_constant h _ (subst (λ (x : Shape). Does scope place x before after) text.2 does)
  ]
  by_group h LoadsLong shape is does = finds_constant h _ (subst (λ (x : Shape). Does scope place x before after) is.2 does)
  by_group h ReturnsInt shape is does = finds_returned h (Fitting Int) (subst (λ (x : Shape). Does scope place x before after) is.1 does)
  by_group h ReturnsLong shape is does = finds_returned h (Fitting Long) (subst (λ (x : Shape). Does scope place x before after) is.1 does)
  by_group h ReturnsReference shape is does = finds_returned h (Fitting (Ref is.0)) (subst (λ (x : Shape). Does scope place x before after) is.2 does)
  by_group h _ shape is does = tt

pub finds : (c : FrameContent) (classes : List ClassRecord) (s : SegmentNo) (head : FrameHead) (i : Instr) → IsReady c classes s head i
    → Finds c s i (group_of i.op)
finds c classes s head i r =
    let max = sym (ap (λ (h : FrameHead). h.max_stack) r.ahead) ∙ r.room.1 in
    by_group c s r.scope r.heap r.frame head.at i r.before r.after
    (record { top = r.top; max = max; sized = r.sized; room = r.row.room; holds = r.holds })
    (group_of i.op) r.row.shape r.row.shape_is r.row.does
