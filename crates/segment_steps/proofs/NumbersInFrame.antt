-- Which instructions compute or jump within their frame; that they need no class, go on at an instruction, and change nothing where they don't.
use Rattle.std.proofs.Common.{inl, inr, ◌≡◌, ℕ, ◌+◌, ◌<◌, ◌≤◌, ◌⊎◌, IsTrue, List, length, Some, None, pos, slice_get, refl, sym, ap, subst, ◌∙◌, lit<, arith}
use Rattle.std.specs.List.{AllByRecursion}
use Rattle.std.proofs.lemmas.Grind.{common_steps}
use Rattle.std.proofs.lemmas.Option.{none-some, same_Some}
use Rattle.list_lemmas.proofs.ItemsByPlace.{item_there}
use Rattle.list_lemmas.proofs.TestsAndOrders.{same_pos}
use Rattle.jk_model.specs.declared.identifiers.ClassId.{ClassId}
use Rattle.jk_model.specs.declared.identifiers.MemberId.{MemberId}
use Rattle.jk_model.specs.declared.identifiers.SegmentNo.{SegmentNo}
use Rattle.jk_model.specs.declared.instructions.Instr.{Instr}
use Rattle.jk_model.specs.declared.steps.After.{After}
use Rattle.jk_model.specs.declared.steps.After.TheVariants as Next
use Rattle.jk_model.proofs.EachItem.{all_at}
use Rattle.jk_model_classes.specs.declared.records.ClassRecord.{ClassRecord}
use Rattle.jk_model_classes.specs.Items.{HasItem}
use Rattle.jk_model_typing.specs.Scopes.{CodeScope, IsScopeOf}
use Rattle.typing_lemmas.proofs.OneScope.{one-scope}
use Rattle.jk_model_frames.specs.Frames.{FrameState}
use Rattle.jk_model_domains.specs.NumberRows.{IsOfNumbers, NumberRow, divides_by_zero, exchanges, is_return_of_value, jumps, number_opcodes, returns, returns_nothing, switches, uses_local}
use Rattle.jk_model_heap_rows.specs.HeapRows.{heap_opcodes}
use Rattle.jk_model_heaps.specs.RunningCode.{InstrNeeds}
use Rattle.frame_store.specs.FrameContents.{FrameContent, SetsTop}
use Rattle.number_laws.specs.FrameLaws.{IsTyped, with_head}
use Rattle.number_laws.proofs.TypesKept.{rows_kept}
use Rattle.number_ops.specs.NumberSteps.{DoesNumbers, IsReady}
use Rattle.number_ops.proofs.TopFrames.{same_top}
use Rattle.step_contents.specs.InstructionKinds.{HasRow}
use Rattle.step_contents.specs.Operands.{LeadsToText}
use Rattle.step_contents.specs.PlacesInCode.{IsPlaceIn, PlaceInCode}
use Rattle.step_contents.proofs.KindsByOpcode.{constant_of_numbers, listed_item, one_of_kinds, row_group}
use Rattle.segment_steps.specs.InFrameTurns.{IsInFrame, StaysAsItIs}

-- ---- It needs no class.

-- a row of the table of opcodes on numbers ends before those that need a class, or begins after them
abbrev IsApart : ℕ × ℕ → Type 0
IsApart r = (r.1 < 0xb2) ⊎ (0xbb < r.0)

apart : AllByRecursion IsApart number_opcodes
apart = (
  inl (lit< tt),
  (
    inl (lit< tt),
    (
      inl (lit< tt),
      (
        inl (lit< tt),
        (
          inl (lit< tt),
          (
            inl (lit< tt),
            (
              inl (lit< tt),
              (inl (lit< tt), (inl (lit< tt), (inl (lit< tt), (inl (lit< tt), (inl (lit< tt), (inl (lit< tt), (inr (lit< tt), tt))))))),
            ),
          ),
        ),
      ),
    ),
  ),
)

opcode_apart : (s : CodeScope) (i : Instr) → IsOfNumbers s i → (i.op < 0xb2) ⊎ (0xbb < i.op)
opcode_apart s i (inr constant) = inl (omega (arith, constant.0))
opcode_apart s i (inl (k, r, there, within)) = elim (all_at IsApart number_opcodes k r apart there) [
  | inl before ↦ inl (omega (arith, before, within.1))
  | inr behind ↦ inr (omega (arith, behind, within.0))
]

out_of : (op k : ℕ) → (op < 0xb2) ⊎ (0xbb < op) → op ≡ k → 0xb2 ≤ k → k ≤ 0xbb → ⊥
out_of op k (inl before) is low high = absurd (omega (arith, before, is, low))
out_of op k (inr behind) is low high = absurd (omega (arith, behind, is, high))

pub needs_no_class : (s : CodeScope) (i : Instr) → IsOfNumbers s i → (c : ClassId) → InstrNeeds s i c → ⊥
needs_no_class s i numbers c (inl (inl op, by)) = out_of i.op 0xb2 (opcode_apart s i numbers) op (omega arith) (omega arith)
needs_no_class s i numbers c (inl (inr op, by)) = out_of i.op 0xb3 (opcode_apart s i numbers) op (omega arith) (omega arith)
needs_no_class s i numbers c (inr (inl (op, by))) = out_of i.op 0xb8 (opcode_apart s i numbers) op (omega arith) (omega arith)
needs_no_class s i numbers c (inr (inr (op, by))) = out_of i.op 0xbb (opcode_apart s i numbers) op (omega arith) (omega arith)

-- ---- It is told by its opcode.

-- up to aload; istore to astore; pop to lookupswitch; ifnull and ifnonnull
abbrev pub IsQuick : ℕ → Type 0
IsQuick op =
    (op ≤ 0x19) ⊎ ((0x36 ≤ op) × (op ≤ 0x3a)) ⊎ ((0x57 ≤ op) × (op ≤ 0xab)) ⊎ ((0xc6 ≤ op) × (op ≤ 0xc7))

-- a row of the table of opcodes on objects lies between those
abbrev LiesBetween : ℕ × ℕ → Type 0
LiesBetween r = ((0x19 < r.0) × (r.1 < 0x36)) ⊎ ((0x3a < r.0) × (r.1 < 0x57)) ⊎ ((0xab < r.0) × (r.1 < 0xc6))

heaps_lie_between : AllByRecursion LiesBetween heap_opcodes
heaps_lie_between = (
  inl (lit< tt, lit< tt),
  (
    inl (lit< tt, lit< tt),
    (
      inr (inl (lit< tt, lit< tt)),
      (
        inr (inl (lit< tt, lit< tt)),
        (
          inr (inr (lit< tt, lit< tt)),
          (inr (inr (lit< tt, lit< tt)), (inr (inr (lit< tt, lit< tt)), tt)),
        ),
      ),
    ),
  ),
)

quick_is_low : (op : ℕ) → IsQuick op → op < 256
quick_is_low op (inl low) = omega (arith, low)
quick_is_low op (inr (inl (from, to))) = omega (arith, to)
quick_is_low op (inr (inr (inl (from, to)))) = omega (arith, to)
quick_is_low op (inr (inr (inr (from, to)))) = omega (arith, to)

quick_is_no_call : (op : ℕ) → IsQuick op → 0xb6 ≤ op → op ≤ 0xb9 → ⊥
quick_is_no_call op (inl low) a b = absurd (omega (arith, low, a))
quick_is_no_call op (inr (inl (from, to))) a b = absurd (omega (arith, to, a))
quick_is_no_call op (inr (inr (inl (from, to)))) a b = absurd (omega (arith, to, a))
quick_is_no_call op (inr (inr (inr (from, to)))) a b = absurd (omega (arith, from, b))

quick_is_no_return : (op : ℕ) → IsQuick op → 0xac ≤ op → op ≤ 0xb1 → ⊥
quick_is_no_return op (inl low) a b = absurd (omega (arith, low, a))
quick_is_no_return op (inr (inl (from, to))) a b = absurd (omega (arith, to, a))
quick_is_no_return op (inr (inr (inl (from, to)))) a b = absurd (omega (arith, to, a))
quick_is_no_return op (inr (inr (inr (from, to)))) a b = absurd (omega (arith, from, b))

in_no_gap : (op first last : ℕ) → IsQuick op → LiesBetween (first, last) → first ≤ op → op ≤ last → ⊥
in_no_gap op first last (inl low) (inl (x, y)) a b = absurd (omega (arith, low, x, a))
in_no_gap op first last (inl low) (inr (inl (x, y))) a b = absurd (omega (arith, low, x, a))
in_no_gap op first last (inl low) (inr (inr (x, y))) a b = absurd (omega (arith, low, x, a))
in_no_gap op first last (inr (inl (from, to))) (inl (x, y)) a b = absurd (omega (arith, from, y, b))
in_no_gap op first last (inr (inl (from, to))) (inr (inl (x, y))) a b = absurd (omega (arith, to, x, a))
in_no_gap op first last (inr (inl (from, to))) (inr (inr (x, y))) a b = absurd (omega (arith, to, x, a))
in_no_gap op first last (inr (inr (inl (from, to)))) (inl (x, y)) a b = absurd (omega (arith, from, y, b))
in_no_gap op first last (inr (inr (inl (from, to)))) (inr (inl (x, y))) a b = absurd (omega (arith, from, y, b))
in_no_gap op first last (inr (inr (inl (from, to)))) (inr (inr (x, y))) a b = absurd (omega (arith, to, x, a))
in_no_gap op first last (inr (inr (inr (from, to)))) (inl (x, y)) a b = absurd (omega (arith, from, y, b))
in_no_gap op first last (inr (inr (inr (from, to)))) (inr (inl (x, y))) a b = absurd (omega (arith, from, y, b))
in_no_gap op first last (inr (inr (inr (from, to)))) (inr (inr (x, y))) a b = absurd (omega (arith, from, y, b))

quick_is_no_heap : (op : ℕ) → IsQuick op → HasItem (λ (r : ℕ × ℕ). (r.0 ≤ op) × (op ≤ r.1)) heap_opcodes → ⊥
quick_is_no_heap op quick (k, r, there, within) =
    in_no_gap op r.0 r.1 quick (all_at LiesBetween heap_opcodes k r heaps_lie_between there) within.0 within.1

pub quick_in_frame : (at : PlaceInCode) → HasRow at → (at.instr.op ≡ 0x13 → ⊥) → IsQuick at.instr.op → IsInFrame at
quick_in_frame at row no_ldc quick = (
  elim (one_of_kinds at.instr.op (quick_is_low at.instr.op quick) (row_group at row)) [
    | inl ldc ↦ absurd (no_ldc ldc)
    | inr (inl call) ↦ absurd (quick_is_no_call at.instr.op quick call.0 call.1)
    | inr (inr (inl heap)) ↦ absurd (quick_is_no_heap at.instr.op quick (listed_item heap_opcodes at.instr.op heap))
    | inr (inr (inr number)) ↦ inl (listed_item number_opcodes at.instr.op number)
  ],
  quick_is_no_return at.instr.op quick,
)

pub constant_in_frame : (at : PlaceInCode) → HasRow at → at.instr.op ≡ 0x13 → LeadsToText at None → IsInFrame at
constant_in_frame at row op no_text = (constant_of_numbers at row op no_text, λ low high. absurd (omega (arith, op, low)))

-- ---- Where it doesn't go on, and is no return, its frame stands as it stood.

abbrev IsNoReturn : ℕ → Type 0
IsNoReturn op = 0xac ≤ op → op ≤ 0xb1 → ⊥

abbrev GoesNowhere : After → Type 0
GoesNowhere after = (n : ℕ) → after ≡ Next.Goto n → ⊥

no_value : (op : ℕ) → IsTrue (is_return_of_value op) → IsNoReturn op → ⊥
no_value op is other =
    let low : 0xac ≤ op = grind (arith, common_steps) in
    let high : op ≤ 0xb1 = grind (arith, common_steps) in
    other low high

row_stays : (s : CodeScope) (place : ℕ) (i : Instr) (f g : FrameState) (after : After) → NumberRow s place i f g after → IsNoReturn i.op
    → GoesNowhere after → g ≡ f
row_stays s place i f g after (exchanges taken pushed does rep) other nowhere = absurd (nowhere (place + 1) refl)
row_stays s place i f g after (uses_local does) other nowhere = absurd (nowhere (place + 1) refl)
row_stays s place i f g after (jumps taken truth to does rep e) other nowhere = absurd (nowhere to refl)
row_stays s place i f g after (switches key to is rep e) other nowhere = absurd (nowhere to refl)
row_stays s place i f g after (divides_by_zero taken does on same) other nowhere = same
row_stays s place i f g after (returns v is rep) other nowhere = absurd (no_value i.op is other)
row_stays s place i f g after (returns_nothing op same) other nowhere = absurd (other (omega (arith, op)) (omega (arith, op)))

pub stays : (old new : FrameContent) (classes : List ClassRecord) (s : SegmentNo) (at : PlaceInCode) (after : After) → IsInFrame at
    → DoesNumbers old new classes s at.head at.instr after → GoesNowhere after → StaysAsItIs old new s
stays old new classes s at after in_frame (f, g, method, scope, top, ahead, has, is, row, sets) nowhere = λ k on.
    let same : g ≡ with_head f at.head = row_stays scope at.head.at at.instr (with_head f at.head) g after row in_frame.1 nowhere in
    let one : f ≡ k = same_top old s f k top on in
    let whole : with_head g f.head ≡ k = ap (λ (x : FrameState). with_head x f.head) same ∙ one in
    subst (SetsTop old new s) whole sets

-- ---- Where it goes on, there is an instruction.

-- the code at a place is judged in one scope
pub scope_at : (classes : List ClassRecord) (at : PlaceInCode) → IsPlaceIn classes at → (m : MemberId) (s : CodeScope)
    → at.head.method ≡ Some m → IsScopeOf classes m s → s ≡ at.scope
scope_at classes at place m s has is =
    let method : m ≡ place.method = same_Some m place.method (sym has ∙ place.is_method) in
    one-scope classes place.method s at.scope (subst (λ (x : MemberId). IsScopeOf classes x s) method is) place.is_scope

module _ (c new : FrameContent) (classes : List ClassRecord) (s : SegmentNo) (at : PlaceInCode) (place : IsPlaceIn classes at)
    (ready : IsReady c classes s at.head at.instr) where
  typed : IsTyped ready.scope ready.heap at.head.at at.instr (with_head ready.frame at.head) ready.before ready.after
  typed = record {
    sized = ready.sized;
    row = ready.row;
    holds = record { locals = ready.holds.locals; stack = ready.holds.stack };
  }

  pub next_within : (n : ℕ) → DoesNumbers c new classes s at.head at.instr (Next.Goto n) → n < length at.scope.code.instrs
  next_within n (f, g, method, scope, top, ahead, has, is, row, sets) =
      let one : f ≡ ready.frame = same_top c s f ready.frame top ready.top in
      let here : scope ≡ ready.scope = scope_at classes at place method scope has is ∙ sym (scope_at classes at place ready.method ready.scope
      ready.method_is ready.scope_is) in
      let done : NumberRow ready.scope at.head.at at.instr (with_head ready.frame at.head) g (Next.Goto n) =
      subst (λ (x : CodeScope). NumberRow x at.head.at at.instr (with_head ready.frame at.head) g (Next.Goto n)) here
      (subst (λ (x : FrameState). NumberRow scope at.head.at at.instr (with_head x at.head) g (Next.Goto n)) one row) in
      let goes = rows_kept ready.scope ready.heap at.head.at at.instr (with_head ready.frame at.head) g ready.before ready.after n typed done in
      let to = ready.goes_on (pos n) goes.1 in
      let same : n ≡ to.0 = same_pos n to.0 to.1 in
      let whole : length ready.scope.code.instrs ≡ length at.scope.code.instrs =
      ap (λ (x : CodeScope). length x.code.instrs) (scope_at classes at place ready.method ready.scope ready.method_is ready.scope_is) in
      omega (arith, same, to.2, whole)

  -- so a search by its place finds one
  pub next_there : (n : ℕ) → DoesNumbers c new classes s at.head at.instr (Next.Goto n) → slice_get at.scope.code.instrs n ≡ None → ⊥
  next_there n does none =
      let found = item_there at.scope.code.instrs n (next_within n does) in
      none-some found.0 (sym none ∙ found.1)
