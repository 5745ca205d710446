-- What an instruction finds, by its opcode.
use Rattle.std.proofs.Common.{◌≡◌, ◌⊎◌, ◌≤◌, ◌==◌, inl, inr, ℕ, ℤ, pos, Bool, true, false, List, [], ◌∷◌, length, map, refl, sym, ap, subst, ◌∙◌, arith}
use Rattle.std.proofs.lemmas.Bool.{eqb-true, or_cases}
use Rattle.jk_model.specs.declared.identifiers.ClassId.{ClassId}
use Rattle.jk_model.specs.declared.identifiers.MemberId.{MemberId}
use Rattle.jk_model.specs.declared.instructions.Instr.{Instr}
use Rattle.jk_model.specs.declared.opcodes.TheConstants.{ANEWARRAY, ARRAYLENGTH, ATHROW, CHECKCAST, GETFIELD, GETSTATIC, INSTANCEOF, LDC_W, MULTIANEWARRAY, NEW, NEWARRAY, PUTFIELD, PUTSTATIC}
use Rattle.jk_model.specs.declared.values.Value.{Value}
use Rattle.jk_model.specs.declared.values.Value.TheVariants as Held
use Rattle.jk_model_classes.specs.declared.records.FieldRecord.{FieldRecord}
use Rattle.jk_model_classes.specs.declared.records.Link.TheVariants as To
use Rattle.jk_model_classes.specs.declared.records.TypeRef.{TypeRef}
use Rattle.jk_model_typing.specs.Scopes.{CodeScope, LeadsToLink, NamesClass}
use Rattle.jk_model_domains.specs.NumberRows.{IsOnTop}
use Rattle.jk_model_domains.specs.OwnStates.{HasStatic}
use Rattle.jk_model_heaps.specs.RunningCode.{NamesField}
use Rattle.jk_model_heaps.specs.Workings.{Setting, Working}
use Rattle.jk_model_heap_rows.specs.ElementRows.{is_element_load, is_element_store}
use Rattle.jk_model_heap_rows.specs.FieldRows.{IsStaticValue}
use Rattle.jk_model_heap_rows.specs.NewObjectRows.{MakesArrayOf}
use Rattle.row_laws.specs.HeapOperands.{HasFieldOrIsNull, HeapOperands, IsArrayOrNull, IsObjectOrNull, IsReferenceOrNull, of_cast, of_get_field, of_get_static, of_length, of_load, of_new, of_new_array, of_new_arrays, of_put_field, of_put_static, of_store, of_test, of_text, of_throw}

abbrev choose : Bool → Type 0 → Type 0 → Type 0
choose true A B = A
choose false A B = B

-- ---- No store is a load.

low : (k m n : ℕ) → k ≤ n → (m == k) ≡ true → m ≤ n
low k m n h e = let same : m ≡ k = eqb-true m k e in omega (arith, same, h)

high : (k m n : ℕ) → n ≤ k → (m == k) ≡ true → n ≤ m
high k m n h e = let same : m ≡ k = eqb-true m k e in omega (arith, same, h)

load_low : (op : ℕ) → is_element_load op ≡ true → op ≤ 0x35
load_low op e = elim (or_cases _ _ e) [
  | inr h ↦ low 0x35 op 0x35 (omega arith) h
  | inl e ↦ elim (or_cases _ _ e) [
    | inr h ↦ low 0x34 op 0x35 (omega arith) h
    | inl e ↦ elim (or_cases _ _ e) [
      | inr h ↦ low 0x33 op 0x35 (omega arith) h
      | inl e ↦ elim (or_cases _ _ e) [
        | inr h ↦ low 0x32 op 0x35 (omega arith) h
        | inl e ↦ elim (or_cases _ _ e) [
          | inr h ↦ low 0x2f op 0x35 (omega arith) h
          | inl h ↦ low 0x2e op 0x35 (omega arith) h
        ]
      ]
    ]
  ]
]

store_high : (op : ℕ) → is_element_store op ≡ true → 0x4f ≤ op
store_high op e = elim (or_cases _ _ e) [
  | inr h ↦ high 0x56 op 0x4f (omega arith) h
  | inl e ↦ elim (or_cases _ _ e) [
    | inr h ↦ high 0x55 op 0x4f (omega arith) h
    | inl e ↦ elim (or_cases _ _ e) [
      | inr h ↦ high 0x54 op 0x4f (omega arith) h
      | inl e ↦ elim (or_cases _ _ e) [
        | inr h ↦ high 0x53 op 0x4f (omega arith) h
        | inl e ↦ elim (or_cases _ _ e) [
          | inr h ↦ high 0x50 op 0x4f (omega arith) h
          | inl h ↦ high 0x4f op 0x4f (omega arith) h
        ]
      ]
    ]
  ]
]

not_both : (op : ℕ) → is_element_load op ≡ true → is_element_store op ≡ true → ⊥
not_both op load store = omega (arith, load_low op load, store_high op store)

-- ---- What is found.

pub record TextFound (s : CodeScope) (i : Instr) : Type 0 where
  pub text : List ℕ
  pub leads : LeadsToLink s i (To.Text text)

pub record GetStaticFound (x : Setting) (s : CodeScope) (i : Instr) (w : Working) : Type 0 where
  pub member : MemberId
  pub field : FieldRecord
  pub value : Value
  pub names : NamesField s i member field
  pub is_value : IsStaticValue x.classes w.inside.own member value

pub record PutStaticFound (s : CodeScope) (i : Instr) (w : Working) : Type 0 where
  pub member : MemberId
  pub field : FieldRecord
  pub value : Value
  pub names : NamesField s i member field
  pub there : HasStatic w.inside.own member
  pub on_top : IsOnTop w.frame (value ∷ [])

pub record GetFieldFound (x : Setting) (s : CodeScope) (i : Instr) (w : Working) : Type 0 where
  pub member : MemberId
  pub field : FieldRecord
  pub receiver : Value
  pub names : NamesField s i member field
  pub on_top : IsOnTop w.frame (receiver ∷ [])
  pub has : HasFieldOrIsNull x w.inside.heap receiver member

pub record PutFieldFound (x : Setting) (s : CodeScope) (i : Instr) (w : Working) : Type 0 where
  pub member : MemberId
  pub field : FieldRecord
  pub receiver : Value
  pub value : Value
  pub names : NamesField s i member field
  pub on_top : IsOnTop w.frame (receiver ∷ value ∷ [])
  pub has : HasFieldOrIsNull x w.inside.heap receiver member

pub record LoadFound (w : Working) : Type 0 where
  pub array : Value
  pub index : ℤ
  pub on_top : IsOnTop w.frame (array ∷ Held.Int index ∷ [])
  pub is_array : IsArrayOrNull w.inside.heap array

pub record StoreFound (w : Working) : Type 0 where
  pub array : Value
  pub index : ℤ
  pub value : Value
  pub on_top : IsOnTop w.frame (array ∷ Held.Int index ∷ value ∷ [])
  pub is_array : IsArrayOrNull w.inside.heap array

pub record LengthFound (w : Working) : Type 0 where
  pub array : Value
  pub on_top : IsOnTop w.frame (array ∷ [])
  pub is_array : IsArrayOrNull w.inside.heap array

pub record NewFound (s : CodeScope) (i : Instr) : Type 0 where
  pub class : ClassId
  pub names : NamesClass s i class

pub record NewArrayFound (s : CodeScope) (i : Instr) (w : Working) : Type 0 where
  pub element : TypeRef
  pub count : ℤ
  pub of_elements : MakesArrayOf s i element
  pub on_top : IsOnTop w.frame (Held.Int count ∷ [])

pub record NewArraysFound (s : CodeScope) (i : Instr) (w : Working) : Type 0 where
  pub kind : TypeRef
  pub counts : List ℤ
  pub leads : LeadsToLink s i (To.Class kind)
  pub as_many : i.b ≡ pos (length counts)
  pub some : 1 ≤ length counts
  pub on_top : IsOnTop w.frame (map Held.Int counts)

pub record ReferenceFound (x : Setting) (s : CodeScope) (i : Instr) (w : Working) : Type 0 where
  pub kind : TypeRef
  pub value : Value
  pub leads : LeadsToLink s i (To.Class kind)
  pub on_top : IsOnTop w.frame (value ∷ [])
  pub reference : IsReferenceOrNull x w.inside.heap value

pub record ThrowFound (w : Working) : Type 0 where
  pub value : Value
  pub on_top : IsOnTop w.frame (value ∷ [])
  pub is_object : IsObjectOrNull w.inside.heap value

module _ (x : Setting) (s : CodeScope) (i : Instr) (w : Working) where
  -- what an instruction that neither loads an element nor stores one finds
  abbrev pub FoundAt : ℕ → Type 0
  FoundAt op =
      choose (op == LDC_W) (TextFound s i) (choose (op == GETSTATIC) (GetStaticFound x s i w) (choose (op == PUTSTATIC) (PutStaticFound s i w)
      (choose (op == GETFIELD) (GetFieldFound x s i w) (choose (op == PUTFIELD) (PutFieldFound x s i w) (choose (op == ARRAYLENGTH) (LengthFound w)
      (choose (op == NEW) (NewFound s i) (choose (op == NEWARRAY) (NewArrayFound s i w) (choose (op == ANEWARRAY) (NewArrayFound s i w)
      (choose (op == MULTIANEWARRAY) (NewArraysFound s i w) (choose (op == CHECKCAST) (ReferenceFound x s i w)
      (choose (op == INSTANCEOF) (ReferenceFound x s i w) (ThrowFound w))))))))))))

  abbrev Found : Type 0
  Found =
      ((is_element_load i.op ≡ true) × LoadFound w) ⊎ ((is_element_store i.op ≡ true) × StoreFound w)
      ⊎ ((is_element_load i.op ≡ false) × (is_element_store i.op ≡ false) × FoundAt i.op)

  single : (op : ℕ) → i.op ≡ op → is_element_load op ≡ false → is_element_store op ≡ false → FoundAt op → Found
  single op is no_load no_store found =
      inr (inr (ap is_element_load is ∙ no_load, ap is_element_store is ∙ no_store, subst FoundAt (sym is) found))

  sorted : HeapOperands x s i w → Found
  sorted (of_text text op leads) = single LDC_W op refl refl (record { text = text; leads = leads })
  sorted (of_get_static m field v op names is) =
      single GETSTATIC op refl refl (record { member = m; field = field; value = v; names = names; is_value = is })
  sorted (of_put_static m field v op names there top) =
      single PUTSTATIC op refl refl (record { member = m; field = field; value = v; names = names; there = there; on_top = top })
  sorted (of_get_field m field receiver op names top has) =
      single GETFIELD op refl refl (record { member = m; field = field; receiver = receiver; names = names; on_top = top; has = has })
  sorted (of_put_field m field receiver v op names top has) =
      single PUTFIELD op refl refl (record { member = m; field = field; receiver = receiver; value = v; names = names; on_top = top; has = has })
  sorted (of_load array index op top is) = inl (op, record { array = array; index = index; on_top = top; is_array = is })
  sorted (of_store array v index op top is) = inr (inl (op, record { array = array; index = index; value = v; on_top = top; is_array = is }))
  sorted (of_length array op top is) = single ARRAYLENGTH op refl refl (record { array = array; on_top = top; is_array = is })
  sorted (of_new c op names) = single NEW op refl refl (record { class = c; names = names })
  sorted (of_new_array element count of top) =
      let found : NewArrayFound s i w = record { element = element; count = count; of_elements = of; on_top = top } in
      elim of [ inl numbers ↦ single NEWARRAY numbers.0 refl refl found | inr named ↦ single ANEWARRAY named.0 refl refl found ]
  sorted (of_new_arrays kind counts op leads many some top) =
      single MULTIANEWARRAY op refl refl
      (record { kind = kind; counts = counts; leads = leads; as_many = many; some = some; on_top = top })
  sorted (of_cast kind v op leads top is) =
      single CHECKCAST op refl refl (record { kind = kind; value = v; leads = leads; on_top = top; reference = is })
  sorted (of_test kind v op leads top is) =
      single INSTANCEOF op refl refl (record { kind = kind; value = v; leads = leads; on_top = top; reference = is })
  sorted (of_throw v op top is) = single ATHROW op refl refl (record { value = v; on_top = top; is_object = is })

  pub found_at : (op : ℕ) → i.op ≡ op → is_element_load op ≡ false → is_element_store op ≡ false → HeapOperands x s i w → FoundAt op
  found_at op is no_load no_store operands = elim (sorted operands) [
    | inl h ↦ (let e : true ≡ false = sym h.0 ∙ ap is_element_load is ∙ no_load in absurd cc)
    | inr (inl h) ↦ (let e : true ≡ false = sym h.0 ∙ ap is_element_store is ∙ no_store in absurd cc)
    | inr (inr h) ↦ subst FoundAt is h.2
  ]

  pub load_found : is_element_load i.op ≡ true → HeapOperands x s i w → LoadFound w
  load_found op operands = elim (sorted operands) [
    | inl h ↦ h.1
    | inr (inl h) ↦ absurd (not_both i.op op h.0)
    | inr (inr h) ↦ (let e : true ≡ false = sym op ∙ h.0 in absurd cc)
  ]

  pub store_found : is_element_store i.op ≡ true → HeapOperands x s i w → StoreFound w
  store_found op operands = elim (sorted operands) [
    | inl h ↦ absurd (not_both i.op h.0 op)
    | inr (inl h) ↦ h.1
    | inr (inr h) ↦ (let e : true ≡ false = sym op ∙ h.1 in absurd cc)
  ]
