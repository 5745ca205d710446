-- What the tests on opcodes of accesses and calls say, opcode by opcode.
use Rattle.std.proofs.Common.{ℕ, inl, inr, IsTrue, sym, subst, eqb-true}
use Rattle.std.proofs.lemmas.Bool.{or_cases}
use Rattle.std.specs.Prelude.{◌==◌, ◌||◌}
use Rattle.jk_model.specs.declared.opcodes.TheConstants.{GETFIELD, GETSTATIC, PUTFIELD, PUTSTATIC, INVOKEINTERFACE, INVOKESPECIAL, INVOKESTATIC, INVOKEVIRTUAL}
use Rattle.heap_laws.specs.NamedWell.{uses_static_field, uses_object_field, puts_field, calls_object, calls_method}

module _ (P : ℕ → Type 0) (op : ℕ) where
  either : (a b : ℕ) → P a → P b → IsTrue (op == a || op == b) → P op
  either a b on_a on_b test = elim (or_cases (op == a) (op == b) test) [
    | inl e ↦ subst P (sym (eqb-true op a e)) on_a
    | inr e ↦ subst P (sym (eqb-true op b e)) on_b
  ]

  pub static_field_by : P GETSTATIC → P PUTSTATIC → IsTrue (uses_static_field op) → P op
  static_field_by a b test = either GETSTATIC PUTSTATIC a b test

  pub object_field_by : P GETFIELD → P PUTFIELD → IsTrue (uses_object_field op) → P op
  object_field_by a b test = either GETFIELD PUTFIELD a b test

  pub put_by : P PUTSTATIC → P PUTFIELD → IsTrue (puts_field op) → P op
  put_by a b test = either PUTSTATIC PUTFIELD a b test

  pub object_call_by : P INVOKEVIRTUAL → P INVOKESPECIAL → P INVOKEINTERFACE → IsTrue (calls_object op) → P op
  object_call_by a b c test = elim (or_cases (op == INVOKEVIRTUAL || op == INVOKESPECIAL) (op == INVOKEINTERFACE) test) [
    | inl two ↦ either INVOKEVIRTUAL INVOKESPECIAL a b two
    | inr e ↦ subst P (sym (eqb-true op INVOKEINTERFACE e)) c
  ]

  pub call_by : P INVOKESTATIC → P INVOKEVIRTUAL → P INVOKESPECIAL → P INVOKEINTERFACE → IsTrue (calls_method op) → P op
  call_by s a b c test = elim (or_cases (op == INVOKESTATIC) (calls_object op) test) [
    | inl e ↦ subst P (sym (eqb-true op INVOKESTATIC e)) s
    | inr object ↦ object_call_by a b c object
  ]
