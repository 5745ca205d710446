-- Which instructions are those on numbers, by tests of the opcode and of what its operand leads to.
use Rattle.std.proofs.Common.{◌≡◌, ℕ, suc, ◌≤◌, ℤ, pos, Bool, true, false, ◌&&◌, ◌||◌, IsTrue, List, [], ◌∷◌, Some, slice_get, nat_le, inl, inr, refl, sym, subst, arith}
use Rattle.std.proofs.lemmas.Grind.{common_steps}
use Rattle.jk_model.specs.declared.instructions.Instr.{Instr}
use Rattle.jk_model_classes.specs.declared.records.Link.{Link}
use Rattle.jk_model_classes.specs.declared.records.Link.TheVariants as To
use Rattle.jk_model_classes.specs.Items.{HasItem}
use Rattle.jk_model_typing.specs.Scopes.{CodeScope}
use Rattle.jk_model_domains.specs.NumberRows.{IsOfNumbers, number_opcodes}
use Rattle.number_ops.specs.Parts.{is_in}

abbrev IsInRow : ℕ → ℕ × ℕ → Type 0
IsInRow op r = (r.0 ≤ op) × (op ≤ r.1)

row_of : (rows : List (ℕ × ℕ)) (op : ℕ) → IsTrue (is_in rows op) → HasItem (IsInRow op) rows
row_of [] op h = absurd cc
row_of (r ∷ rows) op h = by (nat_le r.0 op && nat_le op r.1) refl h (row_of rows op)
  where
    by : (b : Bool) → (nat_le r.0 op && nat_le op r.1) ≡ b → IsTrue (b || is_in rows op) → (IsTrue (is_in rows op) → HasItem (IsInRow op) rows)
        → HasItem (IsInRow op) (r ∷ rows)
    by true e h later = (0, r, refl, (grind (arith, common_steps), grind (arith, common_steps)))
    by false e h later = let row = later h in (suc row.0, row.1, row.2, row.3)

pub of_numbers : (s : CodeScope) (i : Instr) → IsTrue (is_in number_opcodes i.op) → IsOfNumbers s i
of_numbers s i h = inl (row_of number_opcodes i.op h)

pub of_int : (s : CodeScope) (i : Instr) (links : List Link) → s.links ≡ links → i.op ≡ 0x13
    → (n : ℤ) × (place : ℕ) × (i.a ≡ pos place) × (slice_get links place ≡ Some (To.Int n)) → IsOfNumbers s i
of_int s i links same op (n, place, a, at) =
    inr (op, (n, (place, a, subst (λ (l : List Link). slice_get l place ≡ Some (To.Int n)) (sym same) at)))
