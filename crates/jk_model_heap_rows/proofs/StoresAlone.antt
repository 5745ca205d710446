-- An aastore is a store of an element and nothing else, at the array, the index and the value that stand on top of the stack.
use Rattle.std.proofs.Common.{◌≡◌, ℕ, ◌==◌, true, not, IsTrue, ℤ, inl, inr, [], ◌∷◌, refl, sym, subst, ◌∙◌, arith}
use Rattle.std.proofs.lemmas.Bool.{false≢true}
use Rattle.std.proofs.lemmas.Bool.Decides.{nat_tests}
use Rattle.list_lemmas.proofs.EndsOfLists.{one_split}
use Rattle.jk_model.specs.declared.instructions.Instr.{Instr}
use Rattle.jk_model.specs.declared.opcodes.TheConstants.{AASTORE, ANEWARRAY, ARRAYLENGTH, ATHROW, CHECKCAST, GETFIELD, GETSTATIC, INSTANCEOF, LDC_W, MULTIANEWARRAY, NEW, NEWARRAY, PUTFIELD, PUTSTATIC}
use Rattle.jk_model.specs.declared.values.Value.{Value}
use Rattle.jk_model.specs.declared.values.Value.TheVariants as Held
use Rattle.jk_model_typing.specs.Scopes.{CodeScope}
use Rattle.jk_model_frames.specs.Frames.{FrameState}
use Rattle.jk_model_domains.specs.NumberRows.{IsOnTop}
use Rattle.jk_model_heaps.specs.Workings.{Outcome, Setting, Working}
use Rattle.jk_model_heap_rows.specs.ElementRows.{StoresElement, is_element_load}
use Rattle.jk_model_heap_rows.specs.HeapRows.{HeapRow, loads_text, gets_static, puts_static, gets_field, puts_field, loads_element, stores_element, array_length, makes_object, makes_array, makes_arrays, casts, tests, raises_object}

other_op : (n a b : ℕ) → IsTrue (not (a == b)) → n ≡ a → n ≡ b → ⊥
other_op n a b test e f = let same : a ≡ b = sym e ∙ f in grind (arith, nat_tests)

module _ (x : Setting) (s : CodeScope) (i : Instr) (w new : Working) (outcome : Outcome) (op : i.op ≡ AASTORE) where
  pub only_a_store : HeapRow x s i w new outcome → StoresElement x i w new outcome
  only_a_store (loads_text row) = absurd (other_op i.op AASTORE LDC_W refl op row.op)
  only_a_store (gets_static row) = absurd (other_op i.op AASTORE GETSTATIC refl op row.op)
  only_a_store (puts_static row) = absurd (other_op i.op AASTORE PUTSTATIC refl op row.op)
  only_a_store (gets_field row) = absurd (other_op i.op AASTORE GETFIELD refl op row.op)
  only_a_store (puts_field row) = absurd (other_op i.op AASTORE PUTFIELD refl op row.op)
  only_a_store (loads_element row) = absurd (false≢true (subst (λ (n : ℕ). is_element_load n ≡ true) op row.op))
  only_a_store (stores_element row) = row
  only_a_store (array_length row) = absurd (other_op i.op AASTORE ARRAYLENGTH refl op row.op)
  only_a_store (makes_object row) = absurd (other_op i.op AASTORE NEW refl op row.op)
  only_a_store (makes_array row) = elim row.of_elements [
    | inl kind ↦ absurd (other_op i.op AASTORE NEWARRAY refl op kind.0)
    | inr class ↦ absurd (other_op i.op AASTORE ANEWARRAY refl op class.0)
  ]
  only_a_store (makes_arrays row) = absurd (other_op i.op AASTORE MULTIANEWARRAY refl op row.op)
  only_a_store (casts row) = absurd (other_op i.op AASTORE CHECKCAST refl op row.op)
  only_a_store (tests row) = absurd (other_op i.op AASTORE INSTANCEOF refl op row.op)
  only_a_store (raises_object row) = absurd (other_op i.op AASTORE ATHROW refl op row.op)

-- ---- What stands on top of the stack.

pub record AreThree (a : Value) (m : ℤ) (v b : Value) (n : ℤ) (u : Value) : Type 0 where
  pub array : a ≡ b
  pub index : m ≡ n
  pub value : v ≡ u

pub three_on_top : (f : FrameState) (a : Value) (m : ℤ) (v b : Value) (n : ℤ) (u : Value) → IsOnTop f (a ∷ Held.Int m ∷ v ∷ [])
    → IsOnTop f (b ∷ Held.Int n ∷ u ∷ []) → AreThree a m v b n u
three_on_top f a m v b n u h k =
    let same : a ∷ Held.Int m ∷ v ∷ [] ≡ b ∷ Held.Int n ∷ u ∷ [] =
    (one_split h.0 k.0 (a ∷ Held.Int m ∷ v ∷ []) (b ∷ Held.Int n ∷ u ∷ []) (sym h.1 ∙ k.1) refl).1 in
    record { array = cc; index = cc; value = cc }
