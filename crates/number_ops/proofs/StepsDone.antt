-- What the parts of a step do to the store is what the row of the instruction says.
use Rattle.std.proofs.Common.{◌≡◌, inl, inr, ℕ, ◌+◌, ◌<◌, ◌≤◌, ℤ, pos, Bool, true, false, List, [], ◌∷◌, length, Some, None, IsTrue, refl, sym, ap, subst, arith, not, ◌&&◌, ◌==◌, slice_get, nat_le}
use Rattle.std.specs.Prelude.{suc, zero, ◌^◌}
use Rattle.std.proofs.lemmas.Grind.{common_steps}
use Rattle.std.proofs.lemmas.List.{append-nil}
use Rattle.std.proofs.lemmas.Option.{same_Some, slice_get_within}
use Rattle.jk_model_domains.specs.NumberRows.{IsOnTop, UsesLocal}
use Rattle.number_ops.specs.Parts.{is_in}
use Rattle.number_laws.specs.FrameLaws.{with_head}
use Rattle.number_laws.proofs.FrameParts.{with_stack}
use Rattle.number_laws.proofs.HeadsStay.{number-head, row-with-head}
use Rattle.number_laws.proofs.JumpsGoOn.{either_way, first_way}
use Rattle.jk_model.specs.declared.identifiers.SegmentNo.{SegmentNo}
use Rattle.jk_model.specs.declared.instructions.Instr.{Instr}
use Rattle.jk_model.specs.declared.steps.After.{After}
use Rattle.jk_model.specs.declared.steps.After.TheVariants as Next
use Rattle.jk_model.specs.declared.steps.Raise.TheVariants.{Fresh}
use Rattle.jk_model.specs.declared.values.Value.{Value}
use Rattle.jk_model.specs.declared.values.Value.TheVariants.{Int}
use Rattle.jk_model_classes.specs.declared.records.ClassRecord.{ClassRecord}
use Rattle.jk_model_classes.specs.declared.records.Link.TheVariants as To
use Rattle.jk_model_classes.specs.MemberCode.{is_switch}
use Rattle.jk_model_typing.specs.Groups.{Group, Shape, NoGroup, group_of, has_group}
use Rattle.jk_model_typing.specs.Rows.{HasShape}
use Rattle.jk_model_typing.specs.Scopes.{CodeScope, LeadsToLink}
use Rattle.jk_model_typing.specs.Typing.{GoesOnAt}
use Rattle.jk_model_frames.specs.Frames.{FrameState}
use Rattle.jk_model_domains.specs.NumberRows.{ARITHMETIC_EXCEPTION, Exchanges, NumberRow, Replaces, exchanges, uses_local, jumps, switches, divides_by_zero, returns, returns_nothing, is_return_of_value, number_opcodes, place_after, switch_target, Pushes}
use Rattle.frame_store.specs.FrameContents.{FrameContent, SetsTop}
use Rattle.number_ops.specs.NumberSteps.{DoesNumbers, IsReady}
use Rattle.number_ops.specs.Operands.{Calculated, Decided, Moved, Refused}
use Rattle.jk_model.specs.declared.frames.FrameHead.{FrameHead}
use Rattle.number_ops.specs.TopChanges.{Becomes, HasAtMostLocals, Turns, Uses}
use Rattle.number_laws.proofs.ValuesFit.{fits-length}
use Rattle.number_ops.proofs.TopFrames.{same_top, stays}

-- ---- Tests.

within : (x : ℕ × ℕ) (op : ℕ) → x.0 ≤ op → op ≤ x.1 → IsTrue (nat_le x.0 op && nat_le op x.1)
within x op low high = grind (arith, common_steps)

neither : (a b e : Bool) → IsTrue a → b ≡ true → IsTrue (not (a && b) && e) → ⊥
neither true true e p q h = absurd cc
neither true false e p q h = absurd cc
neither false b e p q h = absurd cc

last_false : (a b : Bool) → b ≡ true → IsTrue (a && not b) → ⊥
last_false true true p h = absurd cc
last_false true false p h = absurd cc
last_false false b p h = absurd cc

is_it : (m n : ℕ) → m ≡ n → (m == n) ≡ true
is_it m n e = grind (arith, common_steps)

-- the row of the stored frame is one of the frame with the head that is handed in
row_done : (c d : FrameContent) (classes : List ClassRecord) (s : SegmentNo) (head : FrameHead) (i : Instr) (r : IsReady c classes s head i)
    (g : FrameState) (after : After) → NumberRow r.scope head.at i r.frame g after → SetsTop c d s g → DoesNumbers c d classes s head i after
row_done c d classes s head i r g after row sets = (
  r.frame,
  with_head g head,
  r.method,
  r.scope,
  r.top,
  r.ahead,
  r.method_is,
  r.scope_is,
  row-with-head r.frame g head r.scope head.at i after row,
  subst (λ (h : FrameHead). SetsTop c d s (with_head g h)) (number-head r.scope head.at i r.frame g after row) sets,
)

module _ (c d : FrameContent) (classes : List ClassRecord) (s : SegmentNo) (head : FrameHead) (i : Instr) (r : IsReady c classes s head i) where
  -- a change of the top frame is one of this frame
  same : (f g : FrameState) → Becomes c d s f g → f ≡ r.frame
  same f g becomes = same_top c s f r.frame becomes.top r.top

  pub exchanged : (n : ℕ) (taken pushed : List Value) → Exchanges r.scope i taken pushed → Turns c d s taken pushed
      → n ≡ head.at + 1 → DoesNumbers c d classes s head i (Next.Goto n)
  exchanged n taken pushed ex turns e =
      let replaces = subst (λ (x : FrameState). Replaces x turns.after taken pushed) (same turns.before turns.after turns.becomes) turns.replaces in
      subst (λ (m : ℕ). DoesNumbers c d classes s head i (Next.Goto m)) (sym e)
      (row_done c d classes s head i r turns.after _ (exchanges taken pushed ex replaces) turns.becomes.sets)

  pub moved : (n : ℕ) → Moved c d s i.op → n ≡ head.at + 1 → DoesNumbers c d classes s head i (Next.Goto n)
  moved n h e = exchanged n h.0 h.1 (inr (inl h.2)) h.3 e

  pub calculated : (n : ℕ) → Calculated c d s i.op → n ≡ head.at + 1 → DoesNumbers c d classes s head i (Next.Goto n)
  calculated n h e = exchanged n h.0 h.1 (inr (inr h.2)) h.3 e

  pub pushed : (n : ℕ) (v : Value) → Pushes r.scope i (v ∷ []) → Turns c d s [] (v ∷ []) → n ≡ head.at + 1
      → DoesNumbers c d classes s head i (Next.Goto n)
  pushed n v h turns e = exchanged n [] (v ∷ []) (inl (refl, h)) turns e

  pub used : (n : ℕ) → Uses c d s i → n ≡ head.at + 1 → DoesNumbers c d classes s head i (Next.Goto n)
  used n h e =
      subst (λ (m : ℕ). DoesNumbers c d classes s head i (Next.Goto m)) (sym e)
      (row_done c d classes s head i r h.after _
      (uses_local (subst (λ (x : FrameState). UsesLocal i x h.after) (same h.before h.after h.becomes) h.uses)) h.becomes.sets)

  pub divided : Refused c d s i.op → DoesNumbers c d classes s head i (Next.Raise (Fresh ARITHMETIC_EXCEPTION))
  divided h =
      let is = same_top c s h.2.frame r.frame h.2.top r.top in
      row_done c d classes s head i r r.frame _ (divides_by_zero h.0 h.1 (subst (λ (x : FrameState). IsOnTop x h.0) is h.2.on_top) refl)
      (subst (λ (x : FrameContent). SetsTop c x s r.frame) (sym h.3) (stays c s r.frame r.top))

  pub jumped : (n : ℕ) (holds : Bool) → Decided c d s i.op holds → place_after head.at holds i.a ≡ pos n
      → DoesNumbers c d classes s head i (Next.Goto n)
  jumped n holds h at =
      let turns = h.2 in
      let replaces = subst (λ (x : FrameState). Replaces x turns.after h.0 []) (same turns.before turns.after turns.becomes) turns.replaces in
      row_done c d classes s head i r turns.after _ (jumps h.0 holds n h.1 replaces at) turns.becomes.sets

  pub switched : (n : ℕ) (key : ℤ) → IsTrue (is_switch i.op) → Turns c d s (Int key ∷ []) [] → switch_target i key ≡ pos n
      → DoesNumbers c d classes s head i (Next.Goto n)
  switched n key op turns at =
      let replaces = subst (λ (x : FrameState). Replaces x turns.after (Int key ∷ []) []) (same turns.before turns.after turns.becomes) turns.replaces in
      row_done c d classes s head i r turns.after _ (switches key n op replaces at) turns.becomes.sets

  pub returned : (v : Value) → IsTrue (is_return_of_value i.op) → Turns c d s (v ∷ []) [] → DoesNumbers c d classes s head i (Next.Return (Some v))
  returned v op turns =
      let replaces = subst (λ (x : FrameState). Replaces x turns.after (v ∷ []) []) (same turns.before turns.after turns.becomes) turns.replaces in
      row_done c d classes s head i r turns.after _ (returns v op replaces) turns.becomes.sets

module _ (c : FrameContent) (classes : List ClassRecord) (s : SegmentNo) (head : FrameHead) (i : Instr) (r : IsReady c classes s head i) where
  pub returned_nothing : i.op ≡ 0xb1 → DoesNumbers c c classes s head i (Next.Return None)
  returned_nothing op = row_done c c classes s head i r r.frame _ (returns_nothing op refl) (stays c s r.frame r.top)

  pub did_nothing : (n : ℕ) → i.op ≡ 0x00 → n ≡ head.at + 1 → DoesNumbers c c classes s head i (Next.Goto n)
  did_nothing n op e =
      let none : List Value = [] in
      let same : Replaces r.frame r.frame none none =
      record { below = r.frame.stack; before = sym (append-nil r.frame.stack); after = ap (with_stack r.frame) (sym (append-nil r.frame.stack)) } in
      subst (λ (m : ℕ). DoesNumbers c c classes s head i (Next.Goto m)) (sym e)
      (row_done c c classes s head i r r.frame _ (exchanges none none (inl (refl, inl (op, refl))) same) (stays c s r.frame r.top))

  -- ---- Places.

  pub next_fits : head.at + 1 < 2 ^ 32
  next_fits = omega (arith, slice_get_within r.scope.code.instrs head.at i r.stands, r.short)

  -- where a jump or a switch leads
  pub leads : (target : ℤ) → GoesOnAt head.at i target → (n : ℕ) × (target ≡ pos n) × (n < 2 ^ 32)
  leads target h = let there = r.goes_on target h in (there.0, there.1, omega (arith, there.2, r.short))

-- ---- What isn't of numbers.

grouped : (s : CodeScope) (i : Instr) (g : Group) (shape : Shape) → HasShape s i g shape → (elim g as (λ _. Bool) [ NoGroup ↦ false | _ ↦ true ]) ≡ true
grouped s i NoGroup shape h = absurd h
grouped s i _ shape h = refl

in_ranges : (rows : List (ℕ × ℕ)) (op : ℕ) (k : ℕ) (r : ℕ × ℕ) → slice_get rows k ≡ Some r → r.0 ≤ op → op ≤ r.1 → IsTrue (is_in rows op)
in_ranges [] op k r at low high = absurd cc
in_ranges (x ∷ rows) op zero r at low high =
    let is : x ≡ r = same_Some x r at in
    first_way (nat_le x.0 op && nat_le op x.1) (is_in rows op)
    (within x op (subst (λ (y : ℕ × ℕ). y.0 ≤ op) (sym is) low) (subst (λ (y : ℕ × ℕ). op ≤ y.1) (sym is) high))
in_ranges (x ∷ rows) op (suc k) r at low high =
    either_way (nat_le x.0 op && nat_le op x.1) (is_in rows op) (in_ranges rows op k r at low high)

pub no_other : (c : FrameContent) (classes : List ClassRecord) (s : SegmentNo) (head : FrameHead) (i : Instr) → IsReady c classes s head i
    → IsTrue (not (is_in number_opcodes i.op && has_group i.op) && not (i.op == 0x13)) → ⊥
no_other c classes s head i r h =
    let group : has_group i.op ≡ true = grouped r.scope i (group_of i.op) r.row.shape r.row.shape_is in
    elim r.of_numbers [
      | inl item ↦ neither (is_in number_opcodes i.op) (has_group i.op) (not (i.op == 0x13))
          (in_ranges number_opcodes i.op item.0 item.1 item.2 item.3.0 item.3.1) group h
      | inr ldc ↦ last_false (not (is_in number_opcodes i.op && has_group i.op)) (i.op == 0x13) (is_it i.op 0x13 ldc.0) h
    ]

-- ---- Constants.

pub ldc_int : (c : FrameContent) (classes : List ClassRecord) (s : SegmentNo) (head : FrameHead) (i : Instr) → (r : IsReady c classes s head i) → i.op ≡ 0x13
    → (n : ℤ) × LeadsToLink r.scope i (To.Int n)
ldc_int c classes s head i r op = elim r.of_numbers [
  | inl item ↦
      (let among = in_ranges number_opcodes i.op item.0 item.1 item.2 item.3.0 item.3.1 in
      let here : IsTrue (is_in number_opcodes 0x13) = subst (λ (k : ℕ). IsTrue (is_in number_opcodes k)) op among in
      absurd cc)
  | inr ldc ↦ ldc.1
]

pub ldc_long : (c : FrameContent) (classes : List ClassRecord) (s : SegmentNo) (head : FrameHead) (i : Instr) → (r : IsReady c classes s head i) → i.op ≡ 0x14
    → (n : ℤ) × LeadsToLink r.scope i (To.Long n)
ldc_long c classes s head i r op =
    let is = subst (λ (k : ℕ). HasShape r.scope i (group_of k) r.row.shape) op r.row.shape_is in
    (is.0, is.1)

-- ---- Locals.

pub most_locals : (c : FrameContent) (classes : List ClassRecord) (s : SegmentNo) (head : FrameHead) (i : Instr) → IsReady c classes s head i
    → HasAtMostLocals c s head.max_locals
most_locals c classes s head i r = λ f top.
    let same = ap (λ (x : FrameState). length x.locals) (same_top c s f r.frame top r.top) in
    let many = fits-length r.scope r.heap r.frame.locals r.before.locals r.holds.locals in
    omega (arith, same, many, r.sized.locals, r.room.0)
