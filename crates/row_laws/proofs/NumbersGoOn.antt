-- An instruction on numbers has a row of what it does, at a frame that holds a frame type with which the instruction may begin.
use Rattle.std.proofs.Common.{◌≡◌, ◌≢◌, ℕ, zero, suc, ◌+◌, ◌<◌, ◌≤◌, ◌⊎◌, ◌&&◌, ◌||◌, Bool, true, false, not, ℤ, pos, negsuc, List, [], ◌∷◌, ◌++◌, length, Option, Some, None, slice_get, slice_set, find, IsTrue, refl, sym, ap, subst, ◌∙◌, inl, inr, append_assoc, lit<, lit≤, arith}
use Rattle.std.specs.Prelude.{int_lt, int_rem}
use Rattle.std.specs.Int.{w8, w16, w32, w64, int_bit_and, int_bit_or, int_bit_xor, int_rem_euclid, int_shl, int_shr, int_wrap, int_wrapping_add, int_wrapping_div, int_wrapping_mul, int_wrapping_neg, int_wrapping_sub}
use Rattle.std.specs.List.{AllByRecursion}
use Rattle.std.specs.Option.{option_map_or}
use Rattle.std.specs.Ordering.{int_eq}
use Rattle.std.proofs.lemmas.List.{append-nil}
use Rattle.std.proofs.lemmas.List.Sums.{sum_by-cons}
use Rattle.std.proofs.lemmas.Option.{same_Some}
use Rattle.jk_model.specs.declared.instructions.Instr.{Instr}
use Rattle.jk_model.specs.declared.instructions.SwitchCase.{SwitchCase}
use Rattle.jk_model.specs.declared.steps.After.{After}
use Rattle.jk_model.specs.declared.steps.After.TheVariants as Next
use Rattle.jk_model.specs.declared.steps.Raise.TheVariants.{Fresh}
use Rattle.jk_model.specs.declared.values.Value.{Value}
use Rattle.jk_model.specs.declared.values.Value.TheVariants as Held
use Rattle.jk_model_classes.specs.Items.{HasItem}
use Rattle.jk_model_classes.specs.MemberCode.{is_jump, is_switch}
use Rattle.jk_model_typing.specs.declared.frames.Demand.{Demand}
use Rattle.jk_model_typing.specs.declared.frames.Demand.TheVariants.{AnyReference, Fitting}
use Rattle.jk_model_typing.specs.declared.frames.FrameType.{FrameType}
use Rattle.jk_model_typing.specs.declared.frames.VType.{VType}
use Rattle.jk_model_typing.specs.declared.frames.VType.TheVariants.{Int, Long, Ref}
use Rattle.jk_model_typing.specs.FrameTypes.{IsFrameOf, IsUsable, slots_of}
use Rattle.jk_model_typing.specs.Groups.{Group, Shape, Always, LoadsLocal, StoresLocal, IncrementsLocal, NoGroup, Takes, Loads, Stores, Increments, Drops, Copies, Swaps, group_of, has_group, int, long, takes}
use Rattle.jk_model_typing.specs.Rows.{Does, HasShape, Row}
use Rattle.jk_model_typing.specs.Scopes.{CodeScope}
use Rattle.jk_model_typing.specs.Typing.{GoesOnAt}
use Rattle.jk_model_frames.specs.Frames.{FrameState}
use Rattle.jk_model_domains.specs.NumberRows.{ARITHMETIC_EXCEPTION, Calculates, Decides, DividesByZero, Exchanges, HasRow, IsConversion, IsOfNumbers, IsOnTop, Moves, NumberRow, Pushes, Replaces, compared, comparisons, copies, distance, divides_by_zero, drops, exchanges, int_divisions, int_operations, is_load, is_null, is_return_of_value, is_same_reference, is_store_of_top, jumps, long_divisions, long_operations, long_shifts, number_opcodes, returns, returns_nothing, shift_zeros, shift_zeros_long, switch_target, switches, uses_local, value_slots, values_slots, with_value}
use Rattle.jk_model_domains.specs.Objects.{NamedObject}
use Rattle.jk_model_domains.specs.ValueTypes.{EachValueFits, FrameHolds, ValueFits}
use Rattle.typing_lemmas.proofs.LocalsStored.{slots_needed}
use Rattle.number_laws.proofs.ValuesFit.{value_slots-fit, int_fits, fits-length, fits-slots, end_fits, value_at, are_met, usable-append}
use Rattle.number_laws.specs.KnownValues.{IsMet, AreMet}
use Rattle.row_laws.proofs.OpcodesByKind.{constants, conversions, each_among_any, in-range, int_jumps, ints, kinds, listed, locals, longs, moves, other_jumps, returns_of}

abbrev Operation : Type 0
Operation = ℤ → ℤ → ℤ

-- 0 or another number
zero_or_not : (y : ℤ) → (y ≡ pos 0) ⊎ (y ≢ pos 0)
zero_or_not (pos zero) = inl refl
zero_or_not (pos (suc n)) = inr (λ e. cc)
zero_or_not (negsuc n) = inr (λ e. cc)

-- a group with a shape
with-shape : (s : CodeScope) (i : Instr) (op : ℕ) (g : Group) (shape : Shape) → group_of op ≡ g → HasShape s i g shape → has_group op ≡ true
with-shape s i op g shape e h = ap (λ (x : Group). elim x as (λ _. Bool) [ NoGroup ↦ false | _ ↦ true ]) e ∙ known g shape h
  where
    known : (g : Group) (shape : Shape) → HasShape s i g shape → elim g as (λ _. Bool) [ NoGroup ↦ false | _ ↦ true ] ≡ true
    known NoGroup shape h = absurd h
    known _ shape h = refl

-- what holds of each item holds of the one at a place
each-at : (rows : List (ℕ × ℕ)) (k : ℕ) (r : ℕ × ℕ) → AllByRecursion (λ (x : ℕ × ℕ). x.1 ≤ 199) rows → slice_get rows k ≡ Some r → r.1 ≤ 199
each-at [] k r all e = absurd cc
each-at (x ∷ rows) zero r all e = subst (λ (y : ℕ × ℕ). y.1 ≤ 199) (same_Some x r e) all.0
each-at (x ∷ rows) (suc k) r all e = each-at rows k r all.1 e

-- the case that a search finds is one of them
found-case : (test : SwitchCase → Bool) (cs : List SwitchCase) (c : SwitchCase) → find test cs ≡ Some c
    → HasItem (λ (x : SwitchCase). c.target ≡ x.target) cs
found-case test [] c e = absurd cc
found-case test (x ∷ cs) c e = by_test (test x) refl (found-case test cs c)
  where
    by_test : (b : Bool) → test x ≡ b → (find test cs ≡ Some c → HasItem (λ (y : SwitchCase). c.target ≡ y.target) cs)
        → HasItem (λ (y : SwitchCase). c.target ≡ y.target) (x ∷ cs)
    by_test true t rest =
        let here : Some x ≡ Some c = rw t at e in
        (0, x, refl, ap (λ (y : SwitchCase). y.target) (sym (same_Some x c here)))
    by_test false t rest =
        let later : find test cs ≡ Some c = rw t at e in
        let item = rest later in
        (suc item.0, item.1, item.2, item.3)

module _ (s : CodeScope) (heap : List NamedObject) (place : ℕ) (i : Instr) (f : FrameState) (before after : FrameType) where
  pub record Begins : Type 0 where
    pub sized : IsFrameOf s.code before
    pub room : IsFrameOf s.code after
    pub holds : FrameHolds s heap f before
    -- control goes on at places
    pub goes_on : (next : ℤ) → GoesOnAt place i next → (n : ℕ) × (next ≡ pos n)

  abbrev pub Goes : Type 0
  Goes = (g : FrameState) × (next : After) × NumberRow s place i f g next

  -- what the typing of an instruction of a group says
  abbrev Of : Group → Type 0
  Of g = (shape : Shape) × HasShape s i g shape × Does s place shape before after

  abbrev Case : ℕ → Type 0
  Case k = i.op ≡ k → Of (group_of k) → Goes

  does-as : (want shape : Shape) → shape ≡ want → Does s place shape before after → Does s place want before after
  does-as want shape e does = subst (λ (x : Shape). Does s place x before after) e does

  row-here : {X : Type 0} (rows : List (ℕ × X)) (k : ℕ) (x : X) → i.op ≡ k → HasRow rows k x → HasRow rows i.op x
  row-here rows k x e h = subst (λ (op : ℕ). HasRow rows op x) (sym e) h

  -- ---- Operands.

  abbrev Found : List Demand → Type 0
  Found ds = (taken : List Value) × AreMet ds taken × IsOnTop f taken

  found : Begins → (ds : List Demand) (gives : List VType) → Of (takes ds gives) → Found ds
  found h ds gives t =
      let does = does-as (Takes ds gives) t.0 t.1 t.2 in
      let split = end_fits s heap f.stack does.0 does.1 (subst (EachValueFits s heap f.stack) does.2 h.holds.stack) in
      (split.back, are_met s heap ds does.1 split.back does.3 split.back_fits, (split.front, split.whole))

  one_of : (d : Demand) → Found (d ∷ []) → (v : Value) × IsMet d v × IsOnTop f (v ∷ [])
  one_of d ([], met, on) = absurd met
  one_of d (v ∷ [], met, on) = (v, met.0, on)
  one_of d (v ∷ w ∷ vs, met, on) = absurd met.1

  two_of : (d e : Demand) → Found (d ∷ e ∷ []) → (v : Value) × (w : Value) × IsMet d v × IsMet e w × IsOnTop f (v ∷ w ∷ [])
  two_of d e ([], met, on) = absurd met
  two_of d e (v ∷ [], met, on) = absurd met.1
  two_of d e (v ∷ w ∷ [], met, on) = (v, w, met.0, met.1.0, on)
  two_of d e (v ∷ w ∷ x ∷ vs, met, on) = absurd met.1.1

  found_int : Begins → (gives : List VType) → Of (takes (int ∷ []) gives) → (x : ℤ) × IsOnTop f (Held.Int x ∷ [])
  found_int h gives t =
      let one = one_of int (found h (int ∷ []) gives t) in
      (one.1.0, subst (λ (v : Value). IsOnTop f (v ∷ [])) one.1.1 one.2)

  found_long : Begins → (gives : List VType) → Of (takes (long ∷ []) gives) → (x : ℤ) × IsOnTop f (Held.Long x ∷ [])
  found_long h gives t =
      let one = one_of long (found h (long ∷ []) gives t) in
      (one.1.0, subst (λ (v : Value). IsOnTop f (v ∷ [])) one.1.1 one.2)

  found_ints : Begins → (gives : List VType) → Of (takes (int ∷ int ∷ []) gives)
      → (x : ℤ) × (y : ℤ) × IsOnTop f (Held.Int x ∷ Held.Int y ∷ [])
  found_ints h gives t =
      let two = two_of int int (found h (int ∷ int ∷ []) gives t) in (
        two.2.0,
        two.3.0,
        subst (λ (v : Value). IsOnTop f (Held.Int two.2.0 ∷ v ∷ [])) two.3.1
            (subst (λ (v : Value). IsOnTop f (v ∷ two.1 ∷ [])) two.2.1 two.4),
      )

  found_longs : Begins → (gives : List VType) → Of (takes (long ∷ long ∷ []) gives)
      → (x : ℤ) × (y : ℤ) × IsOnTop f (Held.Long x ∷ Held.Long y ∷ [])
  found_longs h gives t =
      let two = two_of long long (found h (long ∷ long ∷ []) gives t) in (
        two.2.0,
        two.3.0,
        subst (λ (v : Value). IsOnTop f (Held.Long two.2.0 ∷ v ∷ [])) two.3.1
            (subst (λ (v : Value). IsOnTop f (v ∷ two.1 ∷ [])) two.2.1 two.4),
      )

  found_shift : Begins → (gives : List VType) → Of (takes (long ∷ int ∷ []) gives)
      → (x : ℤ) × (n : ℤ) × IsOnTop f (Held.Long x ∷ Held.Int n ∷ [])
  found_shift h gives t =
      let two = two_of long int (found h (long ∷ int ∷ []) gives t) in (
        two.2.0,
        two.3.0,
        subst (λ (v : Value). IsOnTop f (Held.Long two.2.0 ∷ v ∷ [])) two.3.1
            (subst (λ (v : Value). IsOnTop f (v ∷ two.1 ∷ [])) two.2.1 two.4),
      )

  none-on-top : IsOnTop f []
  none-on-top = (f.stack, sym (append-nil f.stack))

  -- ---- What is made of them.

  replaced : (taken pushed : List Value) → IsOnTop f taken → (g : FrameState) × Replaces f g taken pushed
  replaced taken pushed on = (record f { stack = on.0 ++ pushed }, record { below = on.0; before = on.1; after = refl })

  exchange : (taken pushed : List Value) → Exchanges s i taken pushed → IsOnTop f taken → Goes
  exchange taken pushed ex on =
      let new = replaced taken pushed on in
      (new.0, Next.Goto (place + 1), exchanges taken pushed ex new.1)

  pushes : (pushed : List Value) → Pushes s i pushed → Goes
  pushes pushed h = exchange [] pushed (inl (refl, h)) none-on-top

  moved : (taken pushed : List Value) (k : ℕ) → i.op ≡ k → Moves k taken pushed → IsOnTop f taken → Goes
  moved taken pushed k e h on = exchange taken pushed (inr (inl (subst (λ (op : ℕ). Moves op taken pushed) (sym e) h))) on

  calculated : (taken pushed : List Value) → Calculates i.op taken pushed → IsOnTop f taken → Goes
  calculated taken pushed h on = exchange taken pushed (inr (inr h)) on

  -- ---- Locals.

  loads-case : Begins → (d : Demand) (k : ℕ) → IsTrue (is_load k) → i.op ≡ k → Of (LoadsLocal d) → Goes
  loads-case h d k is e t =
      let does = does-as (Loads d t.1.0) t.0 t.1.2 t.2 in
      let local = value_at s heap f.locals before.locals t.1.0 does.0 h.holds.locals does.1 in
      let load : IsTrue (is_load i.op) = subst (λ (op : ℕ). IsTrue (is_load op)) (sym e) is in (
        record f { stack = f.stack ++ local.value ∷ [] },
        Next.Goto (place + 1),
        uses_local (inl (t.1.0, local.value, load, t.1.1, local.at, refl)),
      )

  one_value : (vs : List Value) (a : VType) → EachValueFits s heap vs (a ∷ []) → (v : Value) × (vs ≡ v ∷ []) × ValueFits s heap v a
  one_value [] a h = absurd h
  one_value (v ∷ []) a h = (v, refl, h.0)
  one_value (v ∷ w ∷ vs) a h = absurd h.1

  stores-case : Begins → (d : Demand) (k : ℕ) → IsTrue (is_store_of_top k) → i.op ≡ k → Of (StoresLocal d) → Goes
  stores-case h d k is e t =
      let does = does-as (Stores d t.1.0) t.0 t.1.2 t.2 in
      let split = end_fits s heap f.stack does.0 (does.1 ∷ []) (subst (EachValueFits s heap f.stack) does.2 h.holds.stack) in
      let one = one_value split.back does.1 split.back_fits in
      let stack : f.stack ≡ split.front ++ one.0 ∷ [] = split.whole ∙ ap (λ (xs : List Value). split.front ++ xs) one.1 in
      let usable = usable-append does.0 (does.1 ∷ []) (subst (AllByRecursion IsUsable) does.2 h.sized.usable) in
      let many = fits-length s heap f.locals before.locals h.holds.locals in
      let slot = value_slots-fit s heap one.0 does.1 one.2 usable.1.0 in
      let needed = slots_needed before.locals after.locals t.1.0 does.1 does.4 (ap (λ (x : FrameType). x.locals) does.5) h.room.halves in
      let there : t.1.0 + value_slots one.0 ≤ length f.locals = omega (arith, many, slot, needed) in
      let store : IsTrue (is_store_of_top i.op) = subst (λ (op : ℕ). IsTrue (is_store_of_top op)) (sym e) is in (
        record f { locals = with_value f.locals t.1.0 one.0; stack = split.front },
        Next.Goto (place + 1),
        uses_local (inr (inl (t.1.0, one.0, split.front, store, t.1.1, stack, there, refl))),
      )

  increments-case : Begins → i.op ≡ 0x84 → Of IncrementsLocal → Goes
  increments-case h e t =
      let does = does-as (Increments t.1.0) t.0 t.1.2 t.2 in
      let local = value_at s heap f.locals before.locals t.1.0 Int h.holds.locals does.0 in
      let n = int_fits s heap local.value local.fits in
      let at : slice_get f.locals t.1.0 ≡ Some (Held.Int n.0) = local.at ∙ ap Some n.1 in (
        record f { locals = slice_set f.locals t.1.0 (Held.Int (int_wrapping_add w32 n.0 i.b)) },
        Next.Goto (place + 1),
        uses_local (inr (inr (t.1.0, n.0, e, t.1.1, at, refl))),
      )

  -- ---- The stack.

  drops-case : Begins → (n k : ℕ) → HasRow drops k n → i.op ≡ k → Of (Always (Drops n)) → Goes
  drops-case h n k row e t =
      let does = does-as (Drops n) t.0 t.1 t.2 in
      let split = end_fits s heap f.stack does.0 does.1 (subst (EachValueFits s heap f.stack) does.2 h.holds.stack) in
      let usable = usable-append does.0 does.1 (subst (AllByRecursion IsUsable) does.2 h.sized.usable) in
      let slots : values_slots split.back ≡ n = fits-slots s heap split.back does.1 split.back_fits usable.1 ∙ does.3 in
      moved split.back [] k e (inl (n, row, slots, refl)) (split.front, split.whole)

  copies-case : Begins → (m n k : ℕ) → HasRow copies k (m, n) → i.op ≡ k → Of (Always (Copies m n)) → Goes
  copies-case h m n k row e t =
      let does = does-as (Copies m n) t.0 t.1 t.2 in
      let outer = end_fits s heap f.stack (does.0 ++ does.1) does.2 (subst (EachValueFits s heap f.stack) does.3 h.holds.stack) in
      let inner = end_fits s heap outer.front does.0 does.1 outer.front_fits in
      let usable = usable-append (does.0 ++ does.1) does.2 (subst (AllByRecursion IsUsable) does.3 h.sized.usable) in
      let usable' = usable-append does.0 does.1 usable.0 in
      let skipped : values_slots inner.back ≡ m = fits-slots s heap inner.back does.1 inner.back_fits usable'.1 ∙ does.4 in
      let copied : values_slots outer.back ≡ n = fits-slots s heap outer.back does.2 outer.back_fits usable.1 ∙ does.5 in
      moved (inner.back ++ outer.back) (outer.back ++ inner.back ++ outer.back) k e
      (inr (inl (m, n, inner.back, outer.back, row, skipped, copied, refl, refl)))
      (inner.front, outer.whole ∙ ap (λ (xs : List Value). xs ++ outer.back) inner.whole ∙ append_assoc inner.front inner.back outer.back)

  two_values : (vs : List Value) (a b : VType) → EachValueFits s heap vs (a ∷ b ∷ [])
      → (v : Value) × (w : Value) × (vs ≡ v ∷ w ∷ []) × ValueFits s heap v a × ValueFits s heap w b
  two_values [] a b h = absurd h
  two_values (v ∷ []) a b h = absurd h.1
  two_values (v ∷ w ∷ []) a b h = (v, w, refl, h.0, h.1.0)
  two_values (v ∷ w ∷ x ∷ vs) a b h = absurd h.1.1

  swaps-case : Begins → i.op ≡ 0x5f → Of (Always Swaps) → Goes
  swaps-case h e t =
      let does = does-as Swaps t.0 t.1 t.2 in
      let split = end_fits s heap f.stack does.0 (does.1 ∷ does.2 ∷ []) (subst (EachValueFits s heap f.stack) does.3 h.holds.stack) in
      let usable = usable-append does.0 (does.1 ∷ does.2 ∷ []) (subst (AllByRecursion IsUsable) does.3 h.sized.usable) in
      let two = two_values split.back does.1 does.2 split.back_fits in
      let first : slots_of does.1 ≡ 1 = omega (arith, does.4, sum_by-cons slots_of does.1 []) in
      let second : slots_of does.2 ≡ 1 = omega (arith, does.5, sum_by-cons slots_of does.2 []) in
      moved (two.0 ∷ two.1 ∷ []) (two.1 ∷ two.0 ∷ []) 0x5f e
      (inr (inr (
        refl,
        (
          two.0,
          two.1,
          value_slots-fit s heap two.0 does.1 two.3 usable.1.0 ∙ first,
          value_slots-fit s heap two.1 does.2 two.4 usable.1.1.0 ∙ second,
          refl,
          refl,
        ),
      )))
      (split.front, split.whole ∙ ap (λ (xs : List Value). split.front ++ xs) two.2)

  -- ---- Arithmetic.

  ints-case : Begins → (k : ℕ) (op : Operation) → HasRow int_operations k op → i.op ≡ k → Of (takes (int ∷ int ∷ []) (Int ∷ [])) → Goes
  ints-case h k op row e t =
      let two = found_ints h (Int ∷ []) t in
      calculated (Held.Int two.0 ∷ Held.Int two.1 ∷ []) (Held.Int (op two.0 two.1) ∷ [])
      (inl (op, two.0, two.1, row-here int_operations k op e row, refl, refl)) two.2

  longs-case : Begins → (k : ℕ) (op : Operation) → HasRow long_operations k op → i.op ≡ k → Of (takes (long ∷ long ∷ []) (Long ∷ [])) → Goes
  longs-case h k op row e t =
      let two = found_longs h (Long ∷ []) t in
      calculated (Held.Long two.0 ∷ Held.Long two.1 ∷ []) (Held.Long (op two.0 two.1) ∷ [])
      (inr (inr (inl (op, two.0, two.1, row-here long_operations k op e row, refl, refl)))) two.2

  refused : (taken : List Value) → DividesByZero i.op taken → IsOnTop f taken → Goes
  refused taken h on = (f, Next.Raise (Fresh ARITHMETIC_EXCEPTION), divides_by_zero taken h on refl)

  int_divisions-case : Begins → (k : ℕ) (op : Operation) → HasRow int_divisions k op → i.op ≡ k → Of (takes (int ∷ int ∷ []) (Int ∷ [])) → Goes
  int_divisions-case h k op row e t =
      let two = found_ints h (Int ∷ []) t in
      let here = row-here int_divisions k op e row in
      elim (zero_or_not two.1) [
        | inl none ↦ refused (Held.Int two.0 ∷ Held.Int (pos 0) ∷ []) (inl (op, two.0, here, refl))
            (subst (λ (y : ℤ). IsOnTop f (Held.Int two.0 ∷ Held.Int y ∷ [])) none two.2)
        | inr some ↦ calculated (Held.Int two.0 ∷ Held.Int two.1 ∷ []) (Held.Int (op two.0 two.1) ∷ [])
            (inr (inl (op, two.0, two.1, here, some, refl, refl))) two.2
      ]

  long_divisions-case : Begins → (k : ℕ) (op : Operation) → HasRow long_divisions k op → i.op ≡ k → Of (takes (long ∷ long ∷ []) (Long ∷ [])) → Goes
  long_divisions-case h k op row e t =
      let two = found_longs h (Long ∷ []) t in
      let here = row-here long_divisions k op e row in
      elim (zero_or_not two.1) [
        | inl none ↦ refused (Held.Long two.0 ∷ Held.Long (pos 0) ∷ []) (inr (op, two.0, here, refl))
            (subst (λ (y : ℤ). IsOnTop f (Held.Long two.0 ∷ Held.Long y ∷ [])) none two.2)
        | inr some ↦ calculated (Held.Long two.0 ∷ Held.Long two.1 ∷ []) (Held.Long (op two.0 two.1) ∷ [])
            (inr (inr (inr (inl (op, two.0, two.1, here, some, refl, refl))))) two.2
      ]

  shifts-case : Begins → (k : ℕ) (op : Operation) → HasRow long_shifts k op → i.op ≡ k → Of (takes (long ∷ int ∷ []) (Long ∷ [])) → Goes
  shifts-case h k op row e t =
      let two = found_shift h (Long ∷ []) t in
      calculated (Held.Long two.0 ∷ Held.Int two.1 ∷ []) (Held.Long (op two.0 two.1) ∷ [])
      (inr (inr (inr (inr (inl (op, two.0, two.1, row-here long_shifts k op e row, refl, refl)))))) two.2

  compares-case : Begins → i.op ≡ 0x94 → Of (takes (long ∷ long ∷ []) (Int ∷ [])) → Goes
  compares-case h e t =
      let two = found_longs h (Int ∷ []) t in
      calculated (Held.Long two.0 ∷ Held.Long two.1 ∷ []) (Held.Int (compared two.0 two.1) ∷ [])
      (inr (inr (inr (inr (inr (inl (two.0, two.1, e, refl, refl))))))) two.2

  converts : (v w : Value) (k : ℕ) → i.op ≡ k → IsConversion k v w → IsOnTop f (v ∷ []) → Goes
  converts v w k e h on =
      calculated (v ∷ []) (w ∷ [])
      (inr (inr (inr (inr (inr (inr (v, w, subst (λ (op : ℕ). IsConversion op v w) (sym e) h, refl, refl))))))) on

  converts_int : Begins → (k : ℕ) (gives : List VType) (to : ℤ → Value) → ((x : ℤ) → IsConversion k (Held.Int x) (to x)) → i.op ≡ k
      → Of (takes (int ∷ []) gives) → Goes
  converts_int h k gives to is e t =
      let one = found_int h gives t in
      converts (Held.Int one.0) (to one.0) k e (is one.0) one.1

  converts_long : Begins → (k : ℕ) (gives : List VType) (to : ℤ → Value) → ((x : ℤ) → IsConversion k (Held.Long x) (to x)) → i.op ≡ k
      → Of (takes (long ∷ []) gives) → Goes
  converts_long h k gives to is e t =
      let one = found_long h gives t in
      converts (Held.Long one.0) (to one.0) k e (is one.0) one.1

  -- ---- Jumps.

  jump : Begins → (k : ℕ) → IsTrue (is_jump k || is_switch k) → i.op ≡ k → (taken : List Value) (holds : Bool) → Decides k taken holds
      → IsOnTop f taken → Goes
  jump h k is e taken holds decides on =
      by-holds holds (subst (λ (op : ℕ). Decides op taken holds) (sym e) decides)
    where
      new : (g : FrameState) × Replaces f g taken []
      new = replaced taken [] on

      leads : IsTrue (is_jump i.op || is_switch i.op)
      leads = subst (λ (op : ℕ). IsTrue (is_jump op || is_switch op)) (sym e) is

      by-holds : (b : Bool) → Decides i.op taken b → Goes
      by-holds true d =
          let to = h.goes_on i.a (inr (inl (leads, refl))) in
          (new.0, Next.Goto to.0, jumps taken true to.0 d new.1 to.1)
      by-holds false d = (new.0, Next.Goto (place + 1), jumps taken false (place + 1) d new.1 refl)

  zero_jumps-case : Begins → (n : ℕ) (test : ℤ → ℤ → Bool) → HasRow comparisons n test → IsTrue (is_jump (0x99 + n) || is_switch (0x99 + n))
      → i.op ≡ 0x99 + n → Of (takes (int ∷ []) []) → Goes
  zero_jumps-case h n test row is e t =
      let one = found_int h [] t in
      jump h (0x99 + n) is e (Held.Int one.0 ∷ []) (test one.0 (pos 0)) (inl (n, test, one.0, row, refl, refl, refl)) one.1

  int_jumps-case : Begins → (n : ℕ) (test : ℤ → ℤ → Bool) → HasRow comparisons n test → IsTrue (is_jump (0x9f + n) || is_switch (0x9f + n))
      → i.op ≡ 0x9f + n → Of (takes (int ∷ int ∷ []) []) → Goes
  int_jumps-case h n test row is e t =
      let two = found_ints h [] t in
      jump h (0x9f + n) is e (Held.Int two.0 ∷ Held.Int two.1 ∷ []) (test two.0 two.1)
      (inr (inl (n, test, two.0, two.1, row, refl, refl, refl))) two.2

  same-case : Begins → i.op ≡ 0xa5 → Of (takes (AnyReference ∷ AnyReference ∷ []) []) → Goes
  same-case h e t =
      let two = two_of AnyReference AnyReference (found h (AnyReference ∷ AnyReference ∷ []) [] t) in
      jump h 0xa5 refl e (two.0 ∷ two.1 ∷ []) (is_same_reference two.0 two.1) (inr (inr (inl (two.0, two.1, refl, refl, refl)))) two.4

  differ-case : Begins → i.op ≡ 0xa6 → Of (takes (AnyReference ∷ AnyReference ∷ []) []) → Goes
  differ-case h e t =
      let two = two_of AnyReference AnyReference (found h (AnyReference ∷ AnyReference ∷ []) [] t) in
      jump h 0xa6 refl e (two.0 ∷ two.1 ∷ []) (not (is_same_reference two.0 two.1))
      (inr (inr (inr (inl (two.0, two.1, refl, refl, refl))))) two.4

  null-case : Begins → i.op ≡ 0xc6 → Of (takes (AnyReference ∷ []) []) → Goes
  null-case h e t =
      let one = one_of AnyReference (found h (AnyReference ∷ []) [] t) in
      jump h 0xc6 refl e (one.0 ∷ []) (is_null one.0) (inr (inr (inr (inr (inl (one.0, refl, refl, refl)))))) one.2

  not_null-case : Begins → i.op ≡ 0xc7 → Of (takes (AnyReference ∷ []) []) → Goes
  not_null-case h e t =
      let one = one_of AnyReference (found h (AnyReference ∷ []) [] t) in
      jump h 0xc7 refl e (one.0 ∷ []) (not (is_null one.0)) (inr (inr (inr (inr (inr (inl (one.0, refl, refl, refl))))))) one.2

  goto-case : Begins → i.op ≡ 0xa7 → Goes
  goto-case h e = jump h 0xa7 refl e [] true (inr (inr (inr (inr (inr (inr (refl, refl, refl))))))) none-on-top

  -- ---- Switches.

  switch_goes : Begins → (k : ℕ) → IsTrue (is_jump k || is_switch k) → i.op ≡ k → (key : ℤ) → (n : ℕ) × (switch_target i key ≡ pos n)
  switch_goes h k is e key = by-case (find (λ (c : SwitchCase). int_eq c.key key) i.cases) refl
    where
      by-case : (o : Option SwitchCase) → find (λ (c : SwitchCase). int_eq c.key key) i.cases ≡ o
          → (n : ℕ) × (option_map_or (λ (c : SwitchCase). c.target) (find (λ (c : SwitchCase). int_eq c.key key) i.cases) i.a ≡ pos n)
      by-case (Some c) same =
          let to = h.goes_on c.target (inr (inr (found-case (λ (c : SwitchCase). int_eq c.key key) i.cases c same))) in
          (to.0, ap (λ (o : Option SwitchCase). option_map_or (λ (c : SwitchCase). c.target) o i.a) same ∙ to.1)
      by-case None same =
          let to = h.goes_on i.a (inr (inl (subst (λ (op : ℕ). IsTrue (is_jump op || is_switch op)) (sym e) is, refl))) in
          (to.0, ap (λ (o : Option SwitchCase). option_map_or (λ (c : SwitchCase). c.target) o i.a) same ∙ to.1)

  switch-case : Begins → (k : ℕ) → IsTrue (is_switch k) → IsTrue (is_jump k || is_switch k) → i.op ≡ k → Of (takes (int ∷ []) []) → Goes
  switch-case h k is leads e t =
      let one = found_int h [] t in
      let to = switch_goes h k leads e one.0 in
      let new = replaced (Held.Int one.0 ∷ []) [] one.1 in
      (new.0, Next.Goto to.0, switches one.0 to.0 (subst (λ (op : ℕ). IsTrue (is_switch op)) (sym e) is) new.1 to.1)

  -- ---- Returns.

  value-returned : Begins → (k : ℕ) → IsTrue (is_return_of_value k) → i.op ≡ k → (d : Demand) → Of (takes (d ∷ []) []) → Goes
  value-returned h k is e d t =
      let one = one_of d (found h (d ∷ []) [] t) in
      let new = replaced (one.0 ∷ []) [] one.2 in
      (new.0, Next.Return (Some one.0), returns one.0 (subst (λ (op : ℕ). IsTrue (is_return_of_value op)) (sym e) is) new.1)

  nothing-returned : i.op ≡ 0xb1 → Goes
  nothing-returned e = (f, Next.Return None, returns_nothing e refl)

  -- ---- By opcodes, in the order of their lists.

  of_constants : Begins → AllByRecursion Case constants
  of_constants h = (
    (λ e t. pushes [] (inl (e, refl))),
    (
      (λ e t. pushes (Held.Null ∷ []) (inr (inl (e, refl)))),
      (
        (λ e t. pushes (Held.Long i.a ∷ []) (inr (inr (inr (inl (e, refl)))))),
        (
          (λ e t. pushes (Held.Int i.a ∷ []) (inr (inr (inl (e, refl))))),
          (
            (λ e t. pushes (Held.Long t.1.0 ∷ []) (inr (inr (inr (inr (inr (e, (t.1.0, t.1.1, refl)))))))),
            tt,
          ),
        ),
      ),
    ),
  )

  of_locals : Begins → AllByRecursion Case locals
  of_locals h = (
    loads-case h int 0x15 refl,
    (
      loads-case h long 0x16 refl,
      (
        loads-case h AnyReference 0x19 refl,
        (
          stores-case h int 0x36 refl,
          (
            stores-case h long 0x37 refl,
            (
              stores-case h AnyReference 0x3a refl,
              (
                increments-case h,
                tt,
              ),
            ),
          ),
        ),
      ),
    ),
  )

  of_moves : Begins → AllByRecursion Case moves
  of_moves h = (
    drops-case h 1 0x57 (0, lit< tt, refl),
    (
      drops-case h 2 0x58 (1, lit< tt, refl),
      (
        copies-case h 0 1 0x59 (0, lit< tt, refl),
        (
          copies-case h 1 1 0x5a (1, lit< tt, refl),
          (
            copies-case h 2 1 0x5b (2, lit< tt, refl),
            (
              copies-case h 0 2 0x5c (3, lit< tt, refl),
              (
                copies-case h 1 2 0x5d (4, lit< tt, refl),
                (
                  copies-case h 2 2 0x5e (5, lit< tt, refl),
                  (
                    swaps-case h,
                    tt,
                  ),
                ),
              ),
            ),
          ),
        ),
      ),
    ),
  )

  of_ints : Begins → AllByRecursion Case ints
  of_ints h = (
    ints-case h 0x60 (int_wrapping_add w32) (0, lit< tt, refl),
    (
      ints-case h 0x64 (int_wrapping_sub w32) (1, lit< tt, refl),
      (
        ints-case h 0x68 (int_wrapping_mul w32) (2, lit< tt, refl),
        (
          int_divisions-case h 0x6c (int_wrapping_div w32) (0, lit< tt, refl),
          (
            int_divisions-case h 0x70 int_rem (1, lit< tt, refl),
            (
              ints-case h 0x78 (λ x n. int_shl w32 x (distance 32 n)) (6, lit< tt, refl),
              (
                ints-case h 0x7a (λ x n. int_shr x (distance 32 n)) (7, lit< tt, refl),
                (
                  ints-case h 0x7c (λ x n. shift_zeros x (distance 32 n)) (8, lit< tt, refl),
                  (
                    ints-case h 0x7e (int_bit_and w32) (3, lit< tt, refl),
                    (
                      ints-case h 0x80 (int_bit_or w32) (4, lit< tt, refl),
                      (
                        ints-case h 0x82 (int_bit_xor w32) (5, lit< tt, refl),
                        tt,
                      ),
                    ),
                  ),
                ),
              ),
            ),
          ),
        ),
      ),
    ),
  )

  of_longs : Begins → AllByRecursion Case longs
  of_longs h = (
    longs-case h 0x61 (int_wrapping_add w64) (0, lit< tt, refl),
    (
      longs-case h 0x65 (int_wrapping_sub w64) (1, lit< tt, refl),
      (
        longs-case h 0x69 (int_wrapping_mul w64) (2, lit< tt, refl),
        (
          long_divisions-case h 0x6d (int_wrapping_div w64) (0, lit< tt, refl),
          (
            long_divisions-case h 0x71 int_rem (1, lit< tt, refl),
            (
              shifts-case h 0x79 (λ x n. int_shl w64 x (distance 64 n)) (0, lit< tt, refl),
              (
                shifts-case h 0x7b (λ x n. int_shr x (distance 64 n)) (1, lit< tt, refl),
                (
                  shifts-case h 0x7d (λ x n. shift_zeros_long x (distance 64 n)) (2, lit< tt, refl),
                  (
                    longs-case h 0x7f (int_bit_and w64) (3, lit< tt, refl),
                    (
                      longs-case h 0x81 (int_bit_or w64) (4, lit< tt, refl),
                      (
                        longs-case h 0x83 (int_bit_xor w64) (5, lit< tt, refl),
                        (
                          compares-case h,
                          tt,
                        ),
                      ),
                    ),
                  ),
                ),
              ),
            ),
          ),
        ),
      ),
    ),
  )

  of_conversions : Begins → AllByRecursion Case conversions
  of_conversions h = (
    converts_int h 0x74 (Int ∷ []) (λ x. Held.Int (int_wrapping_neg w32 x)) (λ x. inl (refl, refl)),
    (
      converts_long h 0x75 (Long ∷ []) (λ x. Held.Long (int_wrapping_neg w64 x)) (λ x. inl (refl, refl)),
      (
        converts_int h 0x85 (Long ∷ []) (λ x. Held.Long x) (λ x. inr (inl (refl, refl))),
        (
          converts_long h 0x88 (Int ∷ []) (λ x. Held.Int (int_wrap w32 x)) (λ x. inr (refl, refl)),
          (
            converts_int h 0x91 (Int ∷ []) (λ x. Held.Int (int_wrap w8 x)) (λ x. inr (inr (inl (refl, refl)))),
            (
              converts_int h 0x92 (Int ∷ []) (λ x. Held.Int (int_rem_euclid x (pos 65536))) (λ x. inr (inr (inr (inl (refl, refl))))),
              (
                converts_int h 0x93 (Int ∷ []) (λ x. Held.Int (int_wrap w16 x)) (λ x. inr (inr (inr (inr (refl, refl))))),
                tt,
              ),
            ),
          ),
        ),
      ),
    ),
  )

  of_int_jumps : Begins → AllByRecursion Case int_jumps
  of_int_jumps h = (
    zero_jumps-case h 0 (λ x y. not (int_lt x y) && not (int_lt y x)) (0, lit< tt, refl) refl,
    (
      zero_jumps-case h 1 (λ x y. int_lt x y || int_lt y x) (1, lit< tt, refl) refl,
      (
        zero_jumps-case h 2 (λ x y. int_lt x y) (2, lit< tt, refl) refl,
        (
          zero_jumps-case h 3 (λ x y. not (int_lt x y)) (3, lit< tt, refl) refl,
          (
            zero_jumps-case h 4 (λ x y. int_lt y x) (4, lit< tt, refl) refl,
            (
              zero_jumps-case h 5 (λ x y. not (int_lt y x)) (5, lit< tt, refl) refl,
              (
                int_jumps-case h 0 (λ x y. not (int_lt x y) && not (int_lt y x)) (0, lit< tt, refl) refl,
                (
                  int_jumps-case h 1 (λ x y. int_lt x y || int_lt y x) (1, lit< tt, refl) refl,
                  (
                    int_jumps-case h 2 (λ x y. int_lt x y) (2, lit< tt, refl) refl,
                    (
                      int_jumps-case h 3 (λ x y. not (int_lt x y)) (3, lit< tt, refl) refl,
                      (
                        int_jumps-case h 4 (λ x y. int_lt y x) (4, lit< tt, refl) refl,
                        (
                          int_jumps-case h 5 (λ x y. not (int_lt y x)) (5, lit< tt, refl) refl,
                          tt,
                        ),
                      ),
                    ),
                  ),
                ),
              ),
            ),
          ),
        ),
      ),
    ),
  )

  of_other_jumps : Begins → AllByRecursion Case other_jumps
  of_other_jumps h = (
    same-case h,
    (
      differ-case h,
      (
        (λ e t. goto-case h e),
        (
          null-case h,
          (
            not_null-case h,
            (
              switch-case h 0xaa refl refl,
              (
                switch-case h 0xab refl refl,
                tt,
              ),
            ),
          ),
        ),
      ),
    ),
  )

  of_returns : Begins → AllByRecursion Case returns_of
  of_returns h = (
    (λ e t. value-returned h 0xac refl e int (t.0, t.1.1, t.2)),
    (
      (λ e t. value-returned h 0xad refl e long (t.0, t.1.1, t.2)),
      (
        (λ e t. value-returned h 0xb0 refl e (Fitting (Ref t.1.0)) (t.0, t.1.2, t.2)),
        (
          (λ e t. nothing-returned e),
          tt,
        ),
      ),
    ),
  )

  of_kinds : Begins → AllByRecursion (AllByRecursion Case) kinds
  of_kinds h = (
    of_constants h,
    (
      of_locals h,
      (
        of_moves h,
        (
          of_ints h,
          (
            of_longs h,
            (
              of_conversions h,
              (
                of_int_jumps h,
                (
                  of_other_jumps h,
                  (
                    of_returns h,
                    tt,
                  ),
                ),
              ),
            ),
          ),
        ),
      ),
    ),
  )

  pub numbers-go : Begins → Row s place i before after → IsOfNumbers s i → Goes
  numbers-go h row (inr (op, (n, leads))) = pushes (Held.Int n ∷ []) (inr (inr (inr (inr (inl (op, (n, leads, refl)))))))
  numbers-go h row (inl item) =
      let inside = in-range number_opcodes i.op item in
      let grouped = with-shape s i i.op (group_of i.op) row.shape refl row.shape_is in
      let low : i.op < 256 = small item in
      each_among_any Case kinds i.op (of_kinds h) (listed i.op low inside grouped) refl (row.shape, row.shape_is, row.does)
    where
      small : HasItem (λ (r : ℕ × ℕ). (r.0 ≤ i.op) × (i.op ≤ r.1)) number_opcodes → i.op < 256
      small it =
          let high : it.1.1 ≤ 199 = each-at number_opcodes it.0 it.1 (
            lit≤ tt,
            (
              lit≤ tt,
              (
                lit≤ tt,
                (
                  lit≤ tt,
                  (
                    lit≤ tt,
                    (
                      lit≤ tt,
                      (
                        lit≤ tt,
                        (
                          lit≤ tt,
                          (
                            lit≤ tt,
                            (lit≤ tt, (lit≤ tt, (lit≤ tt, (lit≤ tt, (lit≤ tt, tt))))),
                          ),
                        ),
                      ),
                    ),
                  ),
                ),
              ),
            ),
          ) it.2 in
          omega (arith, high, it.3.1)
