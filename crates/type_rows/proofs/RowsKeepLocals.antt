-- Which instructions keep the locals and the flag, and what a store does to them.
use Rattle.std.proofs.Common.{◌≡◌, ℕ, pos, suc, ◌+◌, ◌<◌, ◌⊎◌, inl, inr, Bool, true, false, IsTrue, List, [], ◌∷◌, length, Option, Some, refl, sym, ◌∙◌, arith, cond}
use Rattle.std.specs.List.{slice_get}
use Rattle.std.specs.Prelude.{◌==◌, ◌&&◌, ◌||◌, nat_le, find, option_map, unwrap_or}
use Rattle.std.proofs.lemmas.Bool.Decides.{eqb_tells}
use Rattle.std.proofs.lemmas.Bool.{eqb-true, leb-true, false≢true, and_parts as both}
use Rattle.jk_model.specs.declared.instructions.Instr.{Instr}
use Rattle.jk_model.specs.Instructions.{Row as TableRow, format_among}
use Rattle.jk_model.specs.declared.opcodes.TheConstants.{NEW, INVOKESPECIAL}
use Rattle.jk_model_typing.specs.declared.frames.Demand.{Demand}
use Rattle.jk_model_typing.specs.declared.frames.Demand.TheVariants.{AnyReference}
use Rattle.jk_model_typing.specs.declared.frames.FrameType.{FrameType}
use Rattle.jk_model_typing.specs.declared.frames.VType.TheVariants.{Int}
use Rattle.jk_model_typing.specs.Groups.{Group, Shape, Always, LoadsLocal, StoresLocal, IncrementsLocal, LoadsConstant, LoadsLong, ReturnsInt, ReturnsLong, ReturnsReference, ReturnsNothing, GetsStatic, PutsStatic, GetsField, PutsField, CallsVirtual, CallsSpecial, CallsStatic, CallsInterface, MakesObject, MakesArray, MakesArrays, Casts, Tests, MakesNumbers, NoGroup, Takes, Loads, Stores, Increments, Drops, Copies, Swaps, LoadsElement, Makes, Constructs, Leaves, groups, group_of, int, long}
use Rattle.jk_model_typing.specs.Rows.{Does, Row, HasShape}
use Rattle.jk_model_typing.specs.Scopes.{CodeScope}
use Rattle.jk_model_typing.specs.Typing.{is_store}
use Rattle.type_rows.proofs.RowsFitLocals.{with_local-length, with_local-elsewhere, get-within}

-- ---- By shapes.

keeps_locals : Shape → Bool
keeps_locals (Stores demand n) = false
keeps_locals Makes = false
keeps_locals (Constructs c m arguments) = false
keeps_locals _ = true

group_keeps : Group → Bool
group_keeps (Always shape) = keeps_locals shape
group_keeps (StoresLocal demand) = false
group_keeps CallsSpecial = false
group_keeps MakesObject = false
group_keeps _ = true

module _ (s : CodeScope) where
  does-keeps : (place : ℕ) (shape : Shape) (before after : FrameType) → keeps_locals shape ≡ true → Does s place shape before after
      → (after.locals ≡ before.locals) × (after.fresh ≡ before.fresh)
  unfolding keeps_locals
  does-keeps place (Takes demands gives) before after h (below, taken, stack, meet, e) = rw e (refl, refl)
  does-keeps place (Loads demand n) before after h (v, at, meet, e) = rw e (refl, refl)
  does-keeps place (Stores demand n) before after h does = cc
  does-keeps place (Increments n) before after h (at, e) = rw e (refl, refl)
  does-keeps place (Drops n) before after h (below, dropped, stack, sized, e) = rw e (refl, refl)
  does-keeps place (Copies skipped copied) before after h (below, between, top, stack, skips, counts, e) = rw e (refl, refl)
  does-keeps place Swaps before after h (below, a, b, stack, one, other, e) = rw e (refl, refl)
  does-keeps place LoadsElement before after h (below, array, stack, meet, e) = rw e (refl, refl)
  does-keeps place Makes before after h does = cc
  does-keeps place (Constructs c m arguments) before after h does = cc
  does-keeps place Leaves before after h (done, e) = rw e (refl, refl)

  shape-keeps : (i : Instr) (group : Group) (shape : Shape) → group_keeps group ≡ true → HasShape s i group shape → keeps_locals shape ≡ true
  unfolding keeps_locals group_keeps
  shape-keeps i (Always of_all) shape h e = rw e h
  shape-keeps i (LoadsLocal demand) shape h (n, n_is, e) = rw e refl
  shape-keeps i (StoresLocal demand) shape h has = cc
  shape-keeps i IncrementsLocal shape h (n, n_is, e) = rw e refl
  shape-keeps i LoadsConstant shape h (inl (n, to, e)) = rw e refl
  shape-keeps i LoadsConstant shape h (inr (text, to, e)) = rw e refl
  shape-keeps i LoadsLong shape h (n, to, e) = rw e refl
  shape-keeps i ReturnsInt shape h (t, e) = rw e refl
  shape-keeps i ReturnsLong shape h (t, e) = rw e refl
  shape-keeps i ReturnsReference shape h (t, answers, e) = rw e refl
  shape-keeps i ReturnsNothing shape h (none, e) = rw e refl
  shape-keeps i GetsStatic shape h (c, m, x, to, e) = rw e refl
  shape-keeps i PutsStatic shape h (c, m, x, to, e) = rw e refl
  shape-keeps i GetsField shape h (c, m, x, to, e) = rw e refl
  shape-keeps i PutsField shape h (c, m, x, to, e) = rw e refl
  shape-keeps i CallsVirtual shape h (c, m, x, to, e) = rw e refl
  shape-keeps i CallsSpecial shape h has = cc
  shape-keeps i CallsStatic shape h (c, m, x, to, e) = rw e refl
  shape-keeps i CallsInterface shape h (c, m, x, to, e) = rw e refl
  shape-keeps i MakesObject shape h has = cc
  shape-keeps i MakesNumbers shape h (n, base, n_is, code, e) = rw e refl
  shape-keeps i MakesArray shape h (t, to, few, e) = rw e refl
  shape-keeps i MakesArrays shape h (t, n, to, n_is, some, within, e) = rw e refl
  shape-keeps i Casts shape h (t, to, e) = rw e refl
  shape-keeps i Tests shape h (t, to, e) = rw e refl
  shape-keeps i NoGroup shape h has = absurd has

-- ---- By opcodes.

either : (a b : Bool) → (a || b) ≡ true → (a ≡ true) ⊎ (b ≡ true)
either true b h = inl refl
either false b h = inr h

-- istore, lstore, astore, new, invokespecial
changes_locals : ℕ → Bool
changes_locals op = op == 0x36 || op == 0x37 || op == 0x3a || op == NEW || op == INVOKESPECIAL

-- the row's group keeps the locals, or the row is of one such opcode
is_told : TableRow Group → Bool
is_told r = group_keeps r.format || (r.first == r.last && changes_locals r.first)

all_told : List (TableRow Group) → Bool
all_told [] = true
all_told (r ∷ rows) = is_told r && all_told rows

groups-told : all_told groups ≡ true
unfolding all_told is_told group_keeps keeps_locals changes_locals
groups-told = refl

told-row : (r : TableRow Group) (op : ℕ) → is_told r ≡ true → nat_le r.first op && nat_le op r.last ≡ true → changes_locals op ≡ false
    → group_keeps r.format ≡ true
unfolding is_told
told-row r op told within kept = elim (either (group_keeps r.format) (r.first == r.last && changes_locals r.first) told) [
  | inl e ↦ e
  | inr one ↦
      let parts = both (r.first == r.last) (changes_locals r.first) one in
      let range = both (nat_le r.first op) (nat_le op r.last) within in
      let low = leb-true r.first op range.0 in
      let high = leb-true op r.last range.1 in
      let single = eqb-true r.first r.last parts.0 in
      let same : r.first ≡ op = omega arith in
      absurd (false≢true (sym kept ∙ (rw same at parts.1)))
]

found_or_later : (b : Bool) (r : TableRow Group) (later : Option (TableRow Group)) → (b ≡ true → group_keeps r.format ≡ true)
    → group_keeps (unwrap_or (option_map (λ (x : TableRow Group). x.format) later) NoGroup) ≡ true
    → group_keeps (unwrap_or (option_map (λ (x : TableRow Group). x.format) (cond b (Some r) later)) NoGroup) ≡ true
found_or_later true r later here there = here refl
found_or_later false r later here there = there

told-among : (rows : List (TableRow Group)) (op : ℕ) → all_told rows ≡ true → changes_locals op ≡ false
    → group_keeps (format_among NoGroup rows op) ≡ true
unfolding all_told group_keeps
told-among [] op told kept = refl
told-among (r ∷ rows) op told kept =
    let parts = both (is_told r) (all_told rows) told in
    found_or_later (nat_le r.first op && nat_le op r.last) r (find (λ (x : TableRow Group). nat_le x.first op && nat_le op x.last) rows)
    (λ within. told-row r op parts.0 within kept) (told-among rows op parts.1 kept)

is_not : (op n : ℕ) → (op ≡ n → ⊥) → (op == n) ≡ false
is_not op n h = elim (eqb_tells op n) [ inl p ↦ absurd (h p.1) | inr p ↦ p.0 ]

kept_by_opcode : (op : ℕ) → (IsTrue (is_store op) → ⊥) → (op ≡ NEW → ⊥) → (op ≡ INVOKESPECIAL → ⊥) → changes_locals op ≡ false
unfolding changes_locals
kept_by_opcode op store new special =
    rw (
      is_not op 0x36 (λ e. store (rw e refl)),
      is_not op 0x37 (λ e. store (rw e refl)),
      is_not op 0x3a (λ e. store (rw e refl)),
      is_not op NEW new,
      is_not op INVOKESPECIAL special,
    ) refl

-- ---- Rows.

-- the local that a store or iinc names, and what it leaves of the others: the one before it may be a long that is cut, and the
-- one after it the second half of a long that is stored
pub record ChangesLocal (i : Instr) (before after : FrameType) : Type 0 where
  pub local : ℕ
  pub local_is : i.a ≡ pos local
  pub within : local < length before.locals
  pub as_many : length after.locals ≡ length before.locals
  pub others : (k : ℕ) → (suc k < local) ⊎ (local + 1 < k) → slice_get after.locals k ≡ slice_get before.locals k
  pub fresh : after.fresh ≡ before.fresh

module _ (s : CodeScope) (place : ℕ) (i : Instr) (before after : FrameType) where
  -- an instruction other than a store, iinc, new and invokespecial
  pub row-keeps_locals : (IsTrue (is_store i.op) → ⊥) → (i.op ≡ NEW → ⊥) → (i.op ≡ INVOKESPECIAL → ⊥) → Row s place i before after
      → (after.locals ≡ before.locals) × (after.fresh ≡ before.fresh)
  row-keeps_locals store new special row =
      let keeps = told-among groups i.op groups-told (kept_by_opcode i.op store new special) in
      does-keeps s place row.shape before after (shape-keeps s i (group_of i.op) row.shape keeps row.shape_is) row.does

  stored_at : (demand : Demand) (n : ℕ) → i.a ≡ pos n → Does s place (Stores demand n) before after → ChangesLocal i before after
  stored_at demand n n_is (below, v, stack, meet, within, e) = record {
    local = n;
    local_is = n_is;
    within = within;
    as_many = rw e (with_local-length before.locals n v);
    others = λ k away. rw e (with_local-elsewhere before.locals n v k away);
    fresh = rw e refl;
  }

  stores_local : (demand : Demand) (shape : Shape) → HasShape s i (StoresLocal demand) shape → Does s place shape before after
      → ChangesLocal i before after
  stores_local demand shape (n, n_is, e) does = stored_at demand n n_is (rw e at does)

  incremented_at : (n : ℕ) → i.a ≡ pos n → Does s place (Increments n) before after → ChangesLocal i before after × (after ≡ before)
  incremented_at n n_is (at, e) = (
    record {
      local = n;
      local_is = n_is;
      within = get-within before.locals n Int at;
      as_many = rw e refl;
      others = λ k away. rw e refl;
      fresh = rw e refl;
    },
    e,
  )

  increments_local : (shape : Shape) → HasShape s i IncrementsLocal shape → Does s place shape before after
      → ChangesLocal i before after × (after ≡ before)
  increments_local shape (n, n_is, e) does = incremented_at n n_is (rw e at does)

  -- iinc leaves all as it was
  pub row-increments : i.op ≡ 0x84 → Row s place i before after → after ≡ before
  row-increments op row = (increments_local row.shape (rw op at row.shape_is) row.does).1

  -- istore, lstore, astore, iinc
  pub row-changes_local : IsTrue (is_store i.op) → Row s place i before after → ChangesLocal i before after
  row-changes_local store row = elim (either (i.op == 0x36 || i.op == 0x37 || i.op == 0x3a) (i.op == 0x84) store) [
    | inr iinc ↦ (increments_local row.shape (rw (eqb-true i.op 0x84 iinc) at row.shape_is) row.does).0
    | inl stores ↦ elim (either (i.op == 0x36 || i.op == 0x37) (i.op == 0x3a) stores) [
      | inr astore ↦ stores_local AnyReference row.shape (rw (eqb-true i.op 0x3a astore) at row.shape_is) row.does
      | inl numbers ↦ elim (either (i.op == 0x36) (i.op == 0x37) numbers) [
        | inl istore ↦ stores_local int row.shape (rw (eqb-true i.op 0x36 istore) at row.shape_is) row.does
        | inr lstore ↦ stores_local long row.shape (rw (eqb-true i.op 0x37 lstore) at row.shape_is) row.does
      ]
    ]
  ]
