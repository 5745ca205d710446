-- Each row of instructions on objects is one of an instruction of these.
use Rattle.std.proofs.Common.{inl, inr, ◌≡◌, ℕ, ◌==◌, ◌≤◌, ◌||◌, Bool, IsTrue, Some, slice_get, refl, sym, subst, arith}
use Rattle.std.proofs.lemmas.Bool.{eqb-true, or_cases}
use Rattle.jk_model.specs.declared.instructions.Instr.{Instr}
use Rattle.jk_model_classes.specs.declared.records.TypeRef.{TypeRef}
use Rattle.jk_model_classes.specs.Items.{HasItem}
use Rattle.jk_model_typing.specs.Scopes.{CodeScope}
use Rattle.jk_model_heaps.specs.Workings.{Outcome, Setting, Working}
use Rattle.jk_model_heap_rows.specs.ElementRows.{is_element_load, is_element_store}
use Rattle.jk_model_heap_rows.specs.HeapRows.{HeapRow, IsOfHeaps, array_length, casts, gets_field, gets_static, heap_opcodes, loads_element, loads_text, makes_array, makes_arrays, makes_object, puts_field, puts_static, raises_object, stores_element, tests}
use Rattle.jk_model_heap_rows.specs.NewObjectRows.{MakesArrayOf}

abbrev IsListed : ℕ → Type 0
IsListed op = HasItem (λ (r : ℕ × ℕ). (r.0 ≤ op) × (op ≤ r.1)) heap_opcodes

-- the opcode in the row of this place
listed : (place low high op k : ℕ) → op ≡ k → slice_get heap_opcodes place ≡ Some (low, high) → low ≤ k → k ≤ high
    → IsListed op
listed place low high op k is at least most = subst IsListed (sym is) (place, (low, high), at, (least, most))

-- one of some opcodes, or the one after them
either : (op k : ℕ) (rest : Bool) → IsTrue (rest || op == k) → (op ≡ k → IsListed op) → (IsTrue rest → IsListed op) → IsListed op
either op k rest h here before = elim (or_cases rest (op == k) h) [ inl others ↦ before others | inr last ↦ here (eqb-true op k last) ]

load_listed : (op : ℕ) → IsTrue (is_element_load op) → IsListed op
load_listed op h =
    either op 0x35 _ h (λ e. listed 1 0x32 0x35 op 0x35 e refl (omega arith) (omega arith)) (λ h1.
    either op 0x34 _ h1 (λ e. listed 1 0x32 0x35 op 0x34 e refl (omega arith) (omega arith)) (λ h2.
    either op 0x33 _ h2 (λ e. listed 1 0x32 0x35 op 0x33 e refl (omega arith) (omega arith)) (λ h3.
    either op 0x32 _ h3 (λ e. listed 1 0x32 0x35 op 0x32 e refl (omega arith) (omega arith)) (λ h4.
    either op 0x2f _ h4 (λ e. listed 0 0x2e 0x2f op 0x2f e refl (omega arith) (omega arith)) (λ h5.
    listed 0 0x2e 0x2f op 0x2e (eqb-true op 0x2e h5) refl (omega arith) (omega arith))))))

store_listed : (op : ℕ) → IsTrue (is_element_store op) → IsListed op
store_listed op h =
    either op 0x56 _ h (λ e. listed 3 0x53 0x56 op 0x56 e refl (omega arith) (omega arith)) (λ h1.
    either op 0x55 _ h1 (λ e. listed 3 0x53 0x56 op 0x55 e refl (omega arith) (omega arith)) (λ h2.
    either op 0x54 _ h2 (λ e. listed 3 0x53 0x56 op 0x54 e refl (omega arith) (omega arith)) (λ h3.
    either op 0x53 _ h3 (λ e. listed 3 0x53 0x56 op 0x53 e refl (omega arith) (omega arith)) (λ h4.
    either op 0x50 _ h4 (λ e. listed 2 0x4f 0x50 op 0x50 e refl (omega arith) (omega arith)) (λ h5.
    listed 2 0x4f 0x50 op 0x4f (eqb-true op 0x4f h5) refl (omega arith) (omega arith))))))

array_listed : (s : CodeScope) (i : Instr) (element : TypeRef) → MakesArrayOf s i element → IsListed i.op
array_listed s i element (inl (op, rest)) = listed 5 0xbb 0xc1 i.op 0xbc op refl (omega arith) (omega arith)
array_listed s i element (inr (op, leads)) = listed 5 0xbb 0xc1 i.op 0xbd op refl (omega arith) (omega arith)

pub row_listed : (x : Setting) (s : CodeScope) (i : Instr) (w new : Working) (outcome : Outcome) → HeapRow x s i w new outcome → IsOfHeaps s i
row_listed x s i w new outcome (loads_text h) = inr (h.op, (h.text, h.names))
row_listed x s i w new outcome (gets_static h) = inl (listed 4 0xb2 0xb5 i.op 0xb2 h.op refl (omega arith) (omega arith))
row_listed x s i w new outcome (puts_static h) = inl (listed 4 0xb2 0xb5 i.op 0xb3 h.op refl (omega arith) (omega arith))
row_listed x s i w new outcome (gets_field h) = inl (listed 4 0xb2 0xb5 i.op 0xb4 h.op refl (omega arith) (omega arith))
row_listed x s i w new outcome (puts_field h) = inl (listed 4 0xb2 0xb5 i.op 0xb5 h.op refl (omega arith) (omega arith))
row_listed x s i w new outcome (loads_element h) = inl (load_listed i.op h.op)
row_listed x s i w new outcome (stores_element h) = inl (store_listed i.op h.op)
row_listed x s i w new outcome (array_length h) = inl (listed 5 0xbb 0xc1 i.op 0xbe h.op refl (omega arith) (omega arith))
row_listed x s i w new outcome (makes_object h) = inl (listed 5 0xbb 0xc1 i.op 0xbb h.op refl (omega arith) (omega arith))
row_listed x s i w new outcome (makes_array h) = inl (array_listed s i h.element h.of_elements)
row_listed x s i w new outcome (makes_arrays h) = inl (listed 6 0xc5 0xc5 i.op 0xc5 h.op refl (omega arith) (omega arith))
row_listed x s i w new outcome (casts h) = inl (listed 5 0xbb 0xc1 i.op 0xc0 h.op refl (omega arith) (omega arith))
row_listed x s i w new outcome (tests h) = inl (listed 5 0xbb 0xc1 i.op 0xc1 h.op refl (omega arith) (omega arith))
row_listed x s i w new outcome (raises_object h) = inl (listed 5 0xbb 0xc1 i.op 0xbf h.op refl (omega arith) (omega arith))
