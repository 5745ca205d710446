-- The shape of an instruction that names its local by another number, and shapes where only the code differs.
use Rattle.std.proofs.Common.{◌≡◌, ℕ, ◌⊎◌, inl, inr, Bool, true, false, pos, List, [], ◌∷◌, Option, Some, refl, sym, ◌∙◌, ap, subst, arith, cond}
use Rattle.std.specs.Prelude.{⊤, ◌==◌, ◌&&◌, ◌||◌, nat_le, find, option_map, unwrap_or}
use Rattle.std.proofs.lemmas.Bool.{eqb-true, leb-true, false≢true, and_parts as both}
use Rattle.jk_model.specs.Instructions.{Row as TableRow, format_among}
use Rattle.jk_model.specs.declared.instructions.Instr.{Instr}
use Rattle.jk_model.specs.declared.opcodes.TheConstants.{ILOAD, LLOAD, ALOAD, ISTORE, LSTORE, ASTORE, IINC}
use Rattle.jk_model_classes.specs.declared.records.LinkedCode.{LinkedCode}
use Rattle.jk_model_typing.specs.Groups.{Group, Shape, Always, LoadsLocal, StoresLocal, IncrementsLocal, LoadsConstant, LoadsLong, ReturnsInt, ReturnsLong, ReturnsReference, ReturnsNothing, GetsStatic, PutsStatic, GetsField, PutsField, CallsVirtual, CallsSpecial, CallsStatic, CallsInterface, MakesObject, MakesArray, MakesArrays, Casts, Tests, MakesNumbers, NoGroup, Loads, Stores, Increments, groups, group_of}
use Rattle.jk_model_typing.specs.Rows.{HasShape}
use Rattle.jk_model_typing.specs.Scopes.{CodeScope}
use Rattle.jk_model_typing.specs.Typing.{is_store}
use Rattle.touched_locals.specs.Narrowing.{IsRenamed, IsTouched, names_local, rank, with_code}

abbrev pub renamed_shape : List Bool → Shape → Shape
renamed_shape marks (Loads demand n) = Loads demand (rank marks n)
renamed_shape marks (Stores demand n) = Stores demand (rank marks n)
renamed_shape marks (Increments n) = Increments (rank marks n)
renamed_shape marks shape = shape

-- the local that it names is kept, with those beside it
abbrev pub Touches : List Bool → Shape → Type 0
Touches marks (Loads demand n) = IsTouched marks n
Touches marks (Stores demand n) = IsTouched marks n
Touches marks (Increments n) = IsTouched marks n
Touches marks shape = ⊤

-- ---- Which opcodes name locals.

names_none : Shape → Bool
names_none (Loads demand n) = false
names_none (Stores demand n) = false
names_none (Increments n) = false
names_none shape = true

group_names_none : Group → Bool
group_names_none (Always shape) = names_none shape
group_names_none (LoadsLocal demand) = false
group_names_none (StoresLocal demand) = false
group_names_none IncrementsLocal = false
group_names_none group = true

group_names : Group → Bool
group_names (LoadsLocal demand) = true
group_names (StoresLocal demand) = true
group_names IncrementsLocal = true
group_names group = false

either : (a b : Bool) → (a || b) ≡ true → (a ≡ true) ⊎ (b ≡ true)
either true b h = inl refl
either false b h = inr h

-- the row's group names no local, or the row is of one opcode that does
is_told : TableRow Group → Bool
is_told r = group_names_none r.format || (r.first == r.last && names_local r.first)

all_told : List (TableRow Group) → Bool
all_told [] = true
all_told (r ∷ rows) = is_told r && all_told rows

groups-told : all_told groups ≡ true
unfolding all_told is_told group_names_none names_none
groups-told = refl

told-row : (r : TableRow Group) (op : ℕ) → is_told r ≡ true → nat_le r.first op && nat_le op r.last ≡ true → names_local op ≡ false
    → group_names_none r.format ≡ true
unfolding is_told
told-row r op told within other = elim (either (group_names_none r.format) (r.first == r.last && names_local r.first) told) [
  | inl e ↦ e
  | inr one ↦
      let parts = both (r.first == r.last) (names_local r.first) one in
      let range = both (nat_le r.first op) (nat_le op r.last) within in
      let low = leb-true r.first op range.0 in
      let high = leb-true op r.last range.1 in
      let single = eqb-true r.first r.last parts.0 in
      let same : r.first ≡ op = omega arith in
      absurd (false≢true (sym other ∙ subst (λ (n : ℕ). names_local n ≡ true) same parts.1))
]

found_or_later : (b : Bool) (r : TableRow Group) (later : Option (TableRow Group)) → (b ≡ true → group_names_none r.format ≡ true)
    → group_names_none (unwrap_or (option_map (λ (x : TableRow Group). x.format) later) NoGroup) ≡ true
    → group_names_none (unwrap_or (option_map (λ (x : TableRow Group). x.format) (cond b (Some r) later)) NoGroup) ≡ true
found_or_later true r later here there = here refl
found_or_later false r later here there = there

told-among : (rows : List (TableRow Group)) (op : ℕ) → all_told rows ≡ true → names_local op ≡ false
    → group_names_none (format_among NoGroup rows op) ≡ true
unfolding all_told group_names_none
told-among [] op told other = refl
told-among (r ∷ rows) op told other =
    let parts = both (is_told r) (all_told rows) told in
    found_or_later (nat_le r.first op && nat_le op r.last) r (find (λ (x : TableRow Group). nat_le x.first op && nat_le op x.last) rows)
    (λ within. told-row r op parts.0 within other) (told-among rows op parts.1 other)

-- what holds of each opcode that names a local
pub by_opcodes : (P : ℕ → Type 0) → P ILOAD → P LLOAD → P ALOAD → P ISTORE → P LSTORE → P ASTORE → P IINC → (op : ℕ) → names_local op ≡ true → P op
by_opcodes P il ll al is ls as_ ii op h =
    elim (either (op == ILOAD || op == LLOAD || op == ALOAD) (is_store op) h) [
      | inl load ↦ elim (either (op == ILOAD || op == LLOAD) (op == ALOAD) load) [
        | inl first ↦ elim (either (op == ILOAD) (op == LLOAD) first) [
          | inl e ↦ subst P (sym (eqb-true op ILOAD e)) il
          | inr e ↦ subst P (sym (eqb-true op LLOAD e)) ll
        ]
        | inr e ↦ subst P (sym (eqb-true op ALOAD e)) al
      ]
      | inr store ↦ elim (either (op == ISTORE || op == LSTORE || op == ASTORE) (op == IINC) store) [
        | inl kept ↦ elim (either (op == ISTORE || op == LSTORE) (op == ASTORE) kept) [
          | inl first ↦ elim (either (op == ISTORE) (op == LSTORE) first) [
            | inl e ↦ subst P (sym (eqb-true op ISTORE e)) is
            | inr e ↦ subst P (sym (eqb-true op LSTORE e)) ls
          ]
          | inr e ↦ subst P (sym (eqb-true op ASTORE e)) as_
        ]
        | inr e ↦ subst P (sym (eqb-true op IINC e)) ii
      ]
    ]

by_opcode : (op : ℕ) → names_local op ≡ true → group_names (group_of op) ≡ true
unfolding group_names
by_opcode op h = by_opcodes (λ n. group_names (group_of n) ≡ true) refl refl refl refl refl refl refl op h

-- ---- Shapes that name no local.

shape-names_none : (s : CodeScope) (i : Instr) (group : Group) (shape : Shape) → group_names_none group ≡ true → HasShape s i group shape
    → names_none shape ≡ true
unfolding names_none group_names_none
shape-names_none s i (Always of_all) shape h e = rw e h
shape-names_none s i (LoadsLocal demand) shape h has = cc
shape-names_none s i (StoresLocal demand) shape h has = cc
shape-names_none s i IncrementsLocal shape h has = cc
shape-names_none s i LoadsConstant shape h (inl (n, to, e)) = rw e refl
shape-names_none s i LoadsConstant shape h (inr (text, to, e)) = rw e refl
shape-names_none s i LoadsLong shape h (n, to, e) = rw e refl
shape-names_none s i ReturnsInt shape h (t, e) = rw e refl
shape-names_none s i ReturnsLong shape h (t, e) = rw e refl
shape-names_none s i ReturnsReference shape h (t, answers, e) = rw e refl
shape-names_none s i ReturnsNothing shape h (none, e) = rw e refl
shape-names_none s i GetsStatic shape h (c, m, x, to, e) = rw e refl
shape-names_none s i PutsStatic shape h (c, m, x, to, e) = rw e refl
shape-names_none s i GetsField shape h (c, m, x, to, e) = rw e refl
shape-names_none s i PutsField shape h (c, m, x, to, e) = rw e refl
shape-names_none s i CallsVirtual shape h (c, m, x, to, e) = rw e refl
shape-names_none s i CallsSpecial shape h (c, m, x, to, inl (named, e)) = rw e refl
shape-names_none s i CallsSpecial shape h (c, m, x, to, inr (other, below, e)) = rw e refl
shape-names_none s i CallsStatic shape h (c, m, x, to, e) = rw e refl
shape-names_none s i CallsInterface shape h (c, m, x, to, e) = rw e refl
shape-names_none s i MakesObject shape h (c, names, e) = rw e refl
shape-names_none s i MakesNumbers shape h (n, base, n_is, code, e) = rw e refl
shape-names_none s i MakesArray shape h (t, to, few, e) = rw e refl
shape-names_none s i MakesArrays shape h (t, n, to, n_is, some, within, e) = rw e refl
shape-names_none s i Casts shape h (t, to, e) = rw e refl
shape-names_none s i Tests shape h (t, to, e) = rw e refl
shape-names_none s i NoGroup shape h has = absurd has

same-shape : (marks : List Bool) (shape : Shape) → names_none shape ≡ true → (renamed_shape marks shape ≡ shape) × Touches marks shape
unfolding names_none
same-shape marks (Loads demand n) h = cc
same-shape marks (Stores demand n) h = cc
same-shape marks (Increments n) h = cc
same-shape marks shape h = (refl, tt)

-- ---- The shape in a scope with another code.

module _ (s : CodeScope) (code : LinkedCode) where
  has_with : (i : Instr) (group : Group) (shape : Shape) → HasShape s i group shape → HasShape (with_code s code) i group shape
  has_with i (Always of_all) shape h = h
  has_with i (LoadsLocal demand) shape h = h
  has_with i (StoresLocal demand) shape h = h
  has_with i IncrementsLocal shape h = h
  has_with i LoadsConstant shape h = h
  has_with i LoadsLong shape h = h
  has_with i ReturnsInt shape h = h
  has_with i ReturnsLong shape h = h
  has_with i ReturnsReference shape h = h
  has_with i ReturnsNothing shape h = h
  has_with i GetsStatic shape h = h
  has_with i PutsStatic shape h = h
  has_with i GetsField shape h = h
  has_with i PutsField shape h = h
  has_with i CallsVirtual shape h = h
  has_with i CallsSpecial shape h = h
  has_with i CallsStatic shape h = h
  has_with i CallsInterface shape h = h
  has_with i MakesObject shape h = h
  has_with i MakesNumbers shape h = h
  has_with i MakesArray shape h = h
  has_with i MakesArrays shape h = h
  has_with i Casts shape h = h
  has_with i Tests shape h = h
  has_with i NoGroup shape h = h

  has_without : (i : Instr) (group : Group) (shape : Shape) → HasShape (with_code s code) i group shape → HasShape s i group shape
  has_without i (Always of_all) shape h = h
  has_without i (LoadsLocal demand) shape h = h
  has_without i (StoresLocal demand) shape h = h
  has_without i IncrementsLocal shape h = h
  has_without i LoadsConstant shape h = h
  has_without i LoadsLong shape h = h
  has_without i ReturnsInt shape h = h
  has_without i ReturnsLong shape h = h
  has_without i ReturnsReference shape h = h
  has_without i ReturnsNothing shape h = h
  has_without i GetsStatic shape h = h
  has_without i PutsStatic shape h = h
  has_without i GetsField shape h = h
  has_without i PutsField shape h = h
  has_without i CallsVirtual shape h = h
  has_without i CallsSpecial shape h = h
  has_without i CallsStatic shape h = h
  has_without i CallsInterface shape h = h
  has_without i MakesObject shape h = h
  has_without i MakesNumbers shape h = h
  has_without i MakesArray shape h = h
  has_without i MakesArrays shape h = h
  has_without i Casts shape h = h
  has_without i Tests shape h = h
  has_without i NoGroup shape h = h

  -- ---- Of an instruction and the same one renamed.

  module _ (marks : List Bool) where
    same_number : (m n : ℕ) → pos m ≡ pos n → m ≡ n
    same_number m n e = cc

    local_shape : (i j : Instr) (n : ℕ) → i.a ≡ pos n → IsTouched marks n → j.a ≡ pos (rank marks n) → (group : Group) (shape : Shape)
        → group_names group ≡ true → HasShape s i group shape
        → HasShape (with_code s code) j group (renamed_shape marks shape) × Touches marks shape
    unfolding group_names
    local_shape i j n is touched now (LoadsLocal demand) shape h (m, m_is, e) =
        let same : n ≡ m = same_number n m (sym is ∙ m_is) in
        rw (e, ← same) ((rank marks n, now, refl), touched)
    local_shape i j n is touched now (StoresLocal demand) shape h (m, m_is, e) =
        let same : n ≡ m = same_number n m (sym is ∙ m_is) in
        rw (e, ← same) ((rank marks n, now, refl), touched)
    local_shape i j n is touched now IncrementsLocal shape h (m, m_is, e) =
        let same : n ≡ m = same_number n m (sym is ∙ m_is) in
        rw (e, ← same) ((rank marks n, now, refl), touched)
    local_shape i j n is touched now (Always of_all) shape h has = cc
    local_shape i j n is touched now LoadsConstant shape h has = cc
    local_shape i j n is touched now LoadsLong shape h has = cc
    local_shape i j n is touched now ReturnsInt shape h has = cc
    local_shape i j n is touched now ReturnsLong shape h has = cc
    local_shape i j n is touched now ReturnsReference shape h has = cc
    local_shape i j n is touched now ReturnsNothing shape h has = cc
    local_shape i j n is touched now GetsStatic shape h has = cc
    local_shape i j n is touched now PutsStatic shape h has = cc
    local_shape i j n is touched now GetsField shape h has = cc
    local_shape i j n is touched now PutsField shape h has = cc
    local_shape i j n is touched now CallsVirtual shape h has = cc
    local_shape i j n is touched now CallsSpecial shape h has = cc
    local_shape i j n is touched now CallsStatic shape h has = cc
    local_shape i j n is touched now CallsInterface shape h has = cc
    local_shape i j n is touched now MakesObject shape h has = cc
    local_shape i j n is touched now MakesNumbers shape h has = cc
    local_shape i j n is touched now MakesArray shape h has = cc
    local_shape i j n is touched now MakesArrays shape h has = cc
    local_shape i j n is touched now Casts shape h has = cc
    local_shape i j n is touched now Tests shape h has = cc
    local_shape i j n is touched now NoGroup shape h has = cc

    pub shape-renamed : (i j : Instr) (shape : Shape) → IsRenamed marks i j → HasShape s i (group_of i.op) shape
        → HasShape (with_code s code) j (group_of j.op) (renamed_shape marks shape) × Touches marks shape
    shape-renamed i j shape (inl (other, same)) has =
        let none = shape-names_none s i (group_of i.op) shape (told-among groups i.op groups-told other) has in
        let (is, touches) = same-shape marks shape none in (
          subst (λ (k : Instr). HasShape (with_code s code) k (group_of k.op) (renamed_shape marks shape)) (sym same)
              (subst (λ (x : Shape). HasShape (with_code s code) i (group_of i.op) x) (sym is) (has_with i (group_of i.op) shape has)),
          touches,
        )
    shape-renamed i j shape (inr (names, (n, is, touched, same))) has =
        let both = local_shape i (record i { a = pos (rank marks n) }) n is touched refl (group_of i.op) shape (by_opcode i.op names) has in
        (subst (λ (k : Instr). HasShape (with_code s code) k (group_of k.op) (renamed_shape marks shape)) (sym same) both.0, both.1)

    -- ---- The other way round.

    -- a shape of the whole code whose renamed one this is
    abbrev pub IsShapeOf : Instr → Shape → Type 0
    IsShapeOf i x = (shape : Shape) × (x ≡ renamed_shape marks shape) × HasShape s i (group_of i.op) shape × Touches marks shape

    local_whole : (i j : Instr) (n : ℕ) → i.a ≡ pos n → IsTouched marks n → j.a ≡ pos (rank marks n) → (group : Group) (x : Shape)
        → group_names group ≡ true → HasShape (with_code s code) j group x
        → (shape : Shape) × (x ≡ renamed_shape marks shape) × HasShape s i group shape × Touches marks shape
    unfolding group_names
    local_whole i j n is touched now (LoadsLocal demand) x h (m, m_is, e) =
        let same : m ≡ rank marks n = same_number m (rank marks n) (sym m_is ∙ now) in
        (Loads demand n, e ∙ ap (Loads demand) same, (n, is, refl), touched)
    local_whole i j n is touched now (StoresLocal demand) x h (m, m_is, e) =
        let same : m ≡ rank marks n = same_number m (rank marks n) (sym m_is ∙ now) in
        (Stores demand n, e ∙ ap (Stores demand) same, (n, is, refl), touched)
    local_whole i j n is touched now IncrementsLocal x h (m, m_is, e) =
        let same : m ≡ rank marks n = same_number m (rank marks n) (sym m_is ∙ now) in
        (Increments n, e ∙ ap Increments same, (n, is, refl), touched)
    local_whole i j n is touched now (Always of_all) x h has = cc
    local_whole i j n is touched now LoadsConstant x h has = cc
    local_whole i j n is touched now LoadsLong x h has = cc
    local_whole i j n is touched now ReturnsInt x h has = cc
    local_whole i j n is touched now ReturnsLong x h has = cc
    local_whole i j n is touched now ReturnsReference x h has = cc
    local_whole i j n is touched now ReturnsNothing x h has = cc
    local_whole i j n is touched now GetsStatic x h has = cc
    local_whole i j n is touched now PutsStatic x h has = cc
    local_whole i j n is touched now GetsField x h has = cc
    local_whole i j n is touched now PutsField x h has = cc
    local_whole i j n is touched now CallsVirtual x h has = cc
    local_whole i j n is touched now CallsSpecial x h has = cc
    local_whole i j n is touched now CallsStatic x h has = cc
    local_whole i j n is touched now CallsInterface x h has = cc
    local_whole i j n is touched now MakesObject x h has = cc
    local_whole i j n is touched now MakesNumbers x h has = cc
    local_whole i j n is touched now MakesArray x h has = cc
    local_whole i j n is touched now MakesArrays x h has = cc
    local_whole i j n is touched now Casts x h has = cc
    local_whole i j n is touched now Tests x h has = cc
    local_whole i j n is touched now NoGroup x h has = cc

    pub shape-whole : (i j : Instr) (x : Shape) → IsRenamed marks i j → HasShape (with_code s code) j (group_of j.op) x → IsShapeOf i x
    shape-whole i j x (inl (other, same)) has =
        let here : HasShape s i (group_of i.op) x = has_without i (group_of i.op) x
        (subst (λ (k : Instr). HasShape (with_code s code) k (group_of k.op) x) same has) in
        let none = shape-names_none s i (group_of i.op) x (told-among groups i.op groups-told other) here in
        let (is, touches) = same-shape marks x none in
        (x, sym is, here, touches)
    shape-whole i j x (inr (names, (n, is, touched, same))) has =
        local_whole i (record i { a = pos (rank marks n) }) n is touched refl (group_of i.op) x (by_opcode i.op names)
        (subst (λ (k : Instr). HasShape (with_code s code) k (group_of k.op) x) same has)
