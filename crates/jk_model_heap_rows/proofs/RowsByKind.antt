-- Two rows of one instruction are of one kind, which its opcode tells. So what is done next is determined; and a row that raises leaves all as
-- it was.
use Rattle.std.proofs.Common.{◌≡◌, ℕ, ◌+◌, ◌==◌, ◌||◌, Bool, true, false, eqb-true, inl, inr, List, [], ◌∷◌, if◌then◌else◌, refl, sym, ap, subst, ◌∙◌, arith}
use Rattle.std.proofs.lemmas.Bool.{or_cases}
use Rattle.jk_model.specs.declared.instructions.Instr.{Instr}
use Rattle.jk_model.specs.declared.opcodes.TheConstants.{AASTORE, ANEWARRAY, ARRAYLENGTH, BASTORE, CASTORE, CHECKCAST, GETFIELD, GETSTATIC, IASTORE, INSTANCEOF, LASTORE, LDC_W, MULTIANEWARRAY, NEW, NEWARRAY, PUTFIELD, PUTSTATIC, SASTORE}
use Rattle.jk_model.specs.declared.steps.Raise.{Raise}
use Rattle.jk_model.specs.declared.values.Value.{Value}
use Rattle.jk_model.specs.declared.values.Value.TheVariants as Held
use Rattle.jk_model_typing.specs.Scopes.{CodeScope}
use Rattle.jk_model_heaps.specs.declared.shapes.Shape.{Shape}
use Rattle.jk_model_heaps.specs.declared.shapes.Shape.TheVariants as Of
use Rattle.jk_model_heaps.specs.Workings.{GoesOn, GoesOnWith, Inside, Outcome, Raises, Setting, Working}
use Rattle.jk_model_heap_rows.specs.ElementRows.{is_element_load, is_element_store}
use Rattle.jk_model_heap_rows.specs.HeapRows.{HeapRow, loads_text, gets_static, puts_static, gets_field, puts_field, loads_element, stores_element, array_length, makes_object, makes_array, makes_arrays, casts, tests, raises_object}
use Rattle.jk_model_heap_rows.specs.NewObjectRows.{PushesNew}
use Rattle.jk_model_heap_rows.proofs.OneOutcome.{array_lengths, arrays, both_go, casts_agree, fields, loads, objects, puts, raises_agree, stores, texts, trees}

-- ---- Kinds by opcode.

one_of_six : (n a b c d e f : ℕ) (P : ℕ → Type 0) → (n == a || n == b || n == c || n == d || n == e || n == f) ≡ true
    → P a → P b → P c → P d → P e → P f → P n
one_of_six n a b c d e f P some pa pb pc pd pe pf = elim (or_cases (n == a || n == b || n == c || n == d || n == e) (n == f) some) [
  | inr is ↦ subst P (sym (eqb-true n f is)) pf
  | inl before ↦ elim (or_cases (n == a || n == b || n == c || n == d) (n == e) before) [
    | inr is ↦ subst P (sym (eqb-true n e is)) pe
    | inl before ↦ elim (or_cases (n == a || n == b || n == c) (n == d) before) [
      | inr is ↦ subst P (sym (eqb-true n d is)) pd
      | inl before ↦ elim (or_cases (n == a || n == b) (n == c) before) [
        | inr is ↦ subst P (sym (eqb-true n c is)) pc
        | inl before ↦ elim (or_cases (n == a) (n == b) before) [
          | inr is ↦ subst P (sym (eqb-true n b is)) pb
          | inl is ↦ subst P (sym (eqb-true n a is)) pa
        ]
      ]
    ]
  ]
]

store_is_no_load : (op : ℕ) → is_element_store op ≡ true → is_element_load op ≡ false
store_is_no_load op store =
    one_of_six op IASTORE LASTORE AASTORE BASTORE CASTORE SASTORE (λ (n : ℕ). is_element_load n ≡ false) store refl refl refl refl refl refl

abbrev other_kind : ℕ → ℕ
other_kind op =
    if op == LDC_W then 2 else (if op == GETSTATIC then 3 else (if op == PUTSTATIC then 4 else (if op == GETFIELD then 5
    else (if op == PUTFIELD then 6 else (if op == ARRAYLENGTH then 7 else (if op == NEW then 8 else (if op == NEWARRAY then 9
    else (if op == ANEWARRAY then 9 else (if op == MULTIANEWARRAY then 10 else (if op == CHECKCAST then 11 else (if op == INSTANCEOF then 12
    else 13)))))))))))

abbrev op_kind : ℕ → ℕ
op_kind op = if is_element_load op then 0 else (if is_element_store op then 1 else other_kind op)

module _ (x : Setting) (s : CodeScope) (i : Instr) (w new : Working) (o : Outcome) where
  abbrev row_kind : HeapRow x s i w new o → ℕ
  row_kind (loads_text row) = 2
  row_kind (gets_static row) = 3
  row_kind (puts_static row) = 4
  row_kind (gets_field row) = 5
  row_kind (puts_field row) = 6
  row_kind (loads_element row) = 0
  row_kind (stores_element row) = 1
  row_kind (array_length row) = 7
  row_kind (makes_object row) = 8
  row_kind (makes_array row) = 9
  row_kind (makes_arrays row) = 10
  row_kind (casts row) = 11
  row_kind (tests row) = 12
  row_kind (raises_object row) = 13

  kind_is : (h : HeapRow x s i w new o) → op_kind i.op ≡ row_kind h
  kind_is (loads_text row) = ap op_kind row.op
  kind_is (gets_static row) = ap op_kind row.op
  kind_is (puts_static row) = ap op_kind row.op
  kind_is (gets_field row) = ap op_kind row.op
  kind_is (puts_field row) = ap op_kind row.op
  kind_is (loads_element row) = ap (λ (t : Bool). if t then 0 else (if is_element_store i.op then 1 else other_kind i.op)) row.op
  kind_is (stores_element row) =
      ap (λ (t : Bool). if t then 0 else (if is_element_store i.op then 1 else other_kind i.op)) (store_is_no_load i.op row.op)
      ∙ ap (λ (t : Bool). if t then 1 else other_kind i.op) row.op
  kind_is (array_length row) = ap op_kind row.op
  kind_is (makes_object row) = ap op_kind row.op
  kind_is (makes_array row) = elim row.of_elements [ inl kind ↦ ap op_kind kind.0 | inr class ↦ ap op_kind class.0 ]
  kind_is (makes_arrays row) = ap op_kind row.op
  kind_is (casts row) = ap op_kind row.op
  kind_is (tests row) = ap op_kind row.op
  kind_is (raises_object row) = ap op_kind row.op

  -- ---- Rows that raise.

  module _ (k : Raise) (raised : o ≡ Raises k) where
    goes_not : {ts ps : List Value} {inside : Inside} → GoesOnWith w ts ps inside new o → new ≡ w
    goes_not goes = let next : GoesOn (w.frame.head.at + 1) ≡ Raises k = sym goes.goes_on ∙ raised in absurd cc

    makes_not : (ts : List Value) (shape : Shape) → PushesNew x w ts shape new o → new ≡ w
    makes_not ts shape (inl made) = goes_not made.3
    makes_not ts shape (inr fails) = fails.1.0

    stays : HeapRow x s i w new o → new ≡ w
    stays (loads_text row) = elim row.does [
      | inl found ↦ goes_not found.2
      | inr (inl made) ↦ goes_not made.4
      | inr (inr lacks) ↦ lacks.1.1.0
    ]
    stays (gets_static row) = goes_not row.does
    stays (puts_static row) = goes_not row.does
    stays (gets_field row) = elim row.does [ inl null ↦ null.1.0 | inr gets ↦ goes_not gets.1 ]
    stays (puts_field row) = elim row.does [ inl null ↦ null.1.0 | inr sets ↦ goes_not sets.1 ]
    stays (loads_element row) = elim row.does [ inl null ↦ null.1.0 | inr (inl fails) ↦ fails.1.1.0 | inr (inr gets) ↦ goes_not gets.5 ]
    stays (stores_element row) = elim row.does [
      | inl null ↦ null.1.0
      | inr (inl fails) ↦ fails.1.1.0
      | inr (inr (inl bad)) ↦ bad.5.0
      | inr (inr (inr sets)) ↦ goes_not sets.4
    ]
    stays (array_length row) = elim row.does [ inl null ↦ null.1.0 | inr gives ↦ goes_not gives.1 ]
    stays (makes_object row) = makes_not [] (Of.Plain row.class) row.does
    stays (makes_array row) = elim row.does [ inl negative ↦ negative.1.0 | inr made ↦ makes_not (Held.Int row.count ∷ []) (Of.Array row.element made.0) made.2 ]
    stays (makes_arrays row) = elim row.does [
      | inl negative ↦ negative.1.0
      | inr (inl lacks) ↦ lacks.2.1.0
      | inr (inr made) ↦ goes_not made.6
    ]
    stays (casts row) = elim row.does [ inl fits ↦ goes_not fits.1 | inr fails ↦ fails.1.0 ]
    stays (tests row) = elim row.does [ inl is ↦ goes_not is.1 | inr never ↦ goes_not never.1 ]
    stays (raises_object row) = elim row.does [ inl null ↦ null.1.0 | inr thrown ↦ thrown.2.0 ]

pub raising_changes_nothing : (x : Setting) (s : CodeScope) (i : Instr) (w new : Working) (k : Raise) → HeapRow x s i w new (Raises k) → new ≡ w
raising_changes_nothing x s i w new k row = stays x s i w new (Raises k) k refl row

-- ---- Two rows.

module _ (x : Setting) (s : CodeScope) (i : Instr) (w new other : Working) (o r : Outcome) where
  by_kind : (h : HeapRow x s i w new o) (k : HeapRow x s i w other r) → row_kind x s i w new o h ≡ row_kind x s i w other r k → o ≡ r
  by_kind (loads_text p) (loads_text q) e = texts x s i w new other o r p q
  by_kind (gets_static p) (gets_static q) e = both_go x s i w new other o r p.does q.does
  by_kind (puts_static p) (puts_static q) e = both_go x s i w new other o r p.does q.does
  by_kind (gets_field p) (gets_field q) e = fields x s i w new other o r p q
  by_kind (puts_field p) (puts_field q) e = puts x s i w new other o r p q
  by_kind (loads_element p) (loads_element q) e = loads x s i w new other o r p q
  by_kind (stores_element p) (stores_element q) e = stores x s i w new other o r p q
  by_kind (array_length p) (array_length q) e = array_lengths x s i w new other o r p q
  by_kind (makes_object p) (makes_object q) e = objects x s i w new other o r p q
  by_kind (makes_array p) (makes_array q) e = arrays x s i w new other o r p q
  by_kind (makes_arrays p) (makes_arrays q) e = trees x s i w new other o r p q
  by_kind (casts p) (casts q) e = casts_agree x s i w new other o r p q
  by_kind (tests p) (tests q) e = elim p.does [
    | inl is ↦ elim q.does [ inl too ↦ both_go x s i w new other o r is.1 too.1 | inr isnt ↦ both_go x s i w new other o r is.1 isnt.1 ]
    | inr isnt ↦ elim q.does [ inl too ↦ both_go x s i w new other o r isnt.1 too.1 | inr also ↦ both_go x s i w new other o r isnt.1 also.1 ]
  ]
  by_kind (raises_object p) (raises_object q) e = raises_agree x s i w new other o r p q
  by_kind h k e = absurd (omega (arith, e))

  pub one_outcome : HeapRow x s i w new o → HeapRow x s i w other r → o ≡ r
  one_outcome h k = by_kind h k (sym (kind_is x s i w new o h) ∙ kind_is x s i w other r k)
